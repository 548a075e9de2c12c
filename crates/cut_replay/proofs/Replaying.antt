-- Records over one another, as the code judges them.
use Rattle.std.proofs.Common.{◌≡◌, ℕ, ◌+◌, ◌<◌, List, [], ◌∷◌, ◌++◌, length, get_or, take, ap, sym, ◌∙◌, subst}
use Rattle.std.proofs.lemmas.List.{take_more}
use Rattle.std.specs.Prelude.{OnErr, OnOk, Result, Ok, Err}
use Rattle.cells.specs.Cells.{Cells, IsVolume}
use Rattle.map_canvas.specs.Choices.{map_after}
use Rattle.map_canvas.specs.Maps.{IsMap, SourceMap}
use Rattle.cut_check.specs.declared.record.CutRecord.{CutRecord}
use Rattle.cut_check.specs.Records.{CutStands, setting}
use Rattle.cut_replay.specs.declared.records.Broken.{Broken}
use Rattle.cut_replay.specs.Replay.{EachLeast, EachOver, EachStands, KeepsFixed, Replays, left_by}
use Rattle.cut_replay.proofs.RunLaws.{each_more, left_more}
use Rattle.cut_replay.proofs.Standing.{each_keeps, each_least, stands_not}

module _ (sample : Cells) (m : SourceMap) (cuts : List CutRecord) (n : ℕ) (cut : CutRecord) (lt : n < length cuts) (at : cut ≡ get_or cuts n cut) where
  one_longer : take (n + 1) cuts ≡ take n cuts ++ cut ∷ []
  one_longer = take_more cuts n cut lt ∙ ap (λ x. take n cuts ++ x ∷ []) (sym at)

  module _ (was : SourceMap) (left : was ≡ left_by m (take n cuts)) where
    pub stands_longer : EachStands sample m (take n cuts) → CutStands (setting was sample []) cut → EachStands sample m (take (n + 1) cuts)
    stands_longer each stands = subst (EachStands sample m) (sym one_longer)
        (each_more (λ m cut. CutStands (setting m sample []) cut) m (take n cuts) cut each (subst (λ m. CutStands (setting m sample []) cut) left stands))

    pub left_longer : (now : SourceMap) → now ≡ map_after was cut.placement cut.choice → now ≡ left_by m (take (n + 1) cuts)
    left_longer now after = after ∙ ap (λ m. map_after m cut.placement cut.choice) left ∙ sym (left_more m (take n cuts) cut) ∙ ap (left_by m) (sym one_longer)

module _ (sample : Cells) (m : SourceMap) (cuts : List CutRecord) (left : SourceMap) where
  pub answer_broken : (result : Result (Unit {0}) Broken) → Replays sample m cuts left result → OnErr result (EachStands sample m cuts → ⊥)
  answer_broken (Ok _) is = tt
  answer_broken (Err broken) is = stands_not sample m cuts broken is.0

  pub answer_least : (result : Result (Unit {0}) Broken) → Replays sample m cuts left result → OnOk result (EachLeast sample m cuts)
  answer_least (Ok _) is = each_least sample m cuts is.0
  answer_least (Err broken) is = tt

  pub answer_keeps : IsVolume sample → IsMap m → (result : Result (Unit {0}) Broken) → Replays sample m cuts left result → OnOk result (EachOver KeepsFixed m cuts)
  answer_keeps volume map (Ok _) is = each_keeps sample m cuts volume map is.0
  answer_keeps volume map (Err broken) is = tt
