-- A sink that is given a text in pieces. To be trusted: contracts cite it. (Own.)
use Rattle.std.specs.Prelude.{◌≡◌, ◌≤◌, ℕ, List, [], ◌∷◌, ◌++◌, Option, Some, None, Result, OnOk, OnErr, decimal}
use Rattle.shelf_traits.specs.declared.fault.WriteFault.{WriteFault}
use Rattle.shelf_traits.specs.Files.{SinkState, Told, Rose}
use Rattle.shelf_traits.specs.Written.{Says}
use Rattle.job_words.specs.Keys.{number_text}
use Rattle.synth_report.specs.declared.piece.Piece.{Piece}
use Rattle.synth_report.specs.declared.piece.Piece.TheVariants.{Text, Number, Short, Maybe}

abbrev pub piece_text : Piece → List ℕ
piece_text (Text text) = text.now
piece_text (Number n) = decimal n
piece_text (Short n) = decimal n
piece_text (Maybe n) = number_text n

-- the texts of some items, one after another
abbrev pub joined_texts : {A : Type 0} → (A → List ℕ) → List A → List ℕ
joined_texts text [] = []
joined_texts text (item ∷ items) = text item ++ joined_texts text items

abbrev pub WriteResult : Type 0
WriteResult = Result (Unit {0}) WriteFault

-- a call that tells a sink a text: all of it with Ok; where the sink fails, a prefix
pub record TellsText (text : List ℕ) (was now : SinkState) (result : WriteResult) : Type 0 where
  pub told : OnOk result (Told was.bytes now.bytes (λ before after. after ≡ before ++ text))
  pub says : Says was now text
  pub failed : OnErr result (Rose was.faults now.faults)
  pub counted : was.faults ≤ now.faults
