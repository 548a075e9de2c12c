-- A reader has to trust this file. The calls that a record keeps. (Own.)
use Rattle.std.specs.Prelude.{◌≡◌, ℕ, Bool, true, false, not, List, nat_eq, filter, Option, Some, None}
use Rattle.std.specs.Cmp.Lexicographic.{pointwise}
use Rattle.system_calls.specs.declared.call.Opening.{Opening}
use Rattle.system_calls.specs.declared.call.Call.{Call}
use Rattle.system_calls.specs.declared.call.Call.TheVariants as call

-- a call with its answer
pub data Noted : Type 0 where
  Opened : (opening : Opening) (name : List ℕ) (answered : Bool) → Noted
  Held : (answered : Bool) → Noted
  Read : (name : List ℕ) (place asked : ℕ) (came : Option (List ℕ)) → Noted
  Begun : (name : List ℕ) (done : Bool) → Noted
  Added : (name piece : List ℕ) (done : Bool) → Noted
  Said : (piece : List ℕ) (done : Bool) → Noted

-- what is noted of a call
abbrev pub noted : Call → Noted
noted (call.Open opening name answered) = Opened opening name.now answered
noted (call.Hold answered) = Held answered
noted (call.Read name place asked bytes true) = Read name.now place asked (Some bytes.now)
noted (call.Read name place asked bytes false) = Read name.now place asked None
noted (call.Begin name done) = Begun name.now done
noted (call.Add name piece done) = Added name.now piece.now done
noted (call.Say piece done) = Said piece.now done

-- a file of this name was opened, or couldn't be
abbrev pub is_open_of : List ℕ → Noted → Bool
is_open_of name (Opened opening its answered) = pointwise nat_eq its name
is_open_of name other = false

-- the calls but the opens of this name
unfoldable pub opens_beside : List ℕ → List Noted → List Noted
opens_beside name calls = filter (λ c. not (is_open_of name c)) calls

-- files of this name alone were opened, if any
abbrev pub OpensOnly : List ℕ → List Noted → List Noted → Type 0
OpensOnly name was now = opens_beside name now ≡ opens_beside name was
