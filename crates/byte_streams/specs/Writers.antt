-- A reader has to trust this file. What is known of a file that is written. (Own.)
use Rattle.std.specs.Prelude.{◌≡◌, ℕ, Bool, true, List, [], Option, Some, None, IfSome}

-- no byte is in the file, where its bytes are known
abbrev pub IsEmpty : Option (List ℕ) → Type 0
IsEmpty bytes = IfSome bytes (λ xs. xs ≡ [])

-- an open file: its bytes, and those that the system has answered to be on the disk, where they are
-- known; and whether it is a regular one
pub record OpenOutput : Type 0 where
  pub contents : Option (List ℕ)
  pub stored : Option (List ℕ)
  pub regular : Bool

-- the bytes of the file that is open, where they are known
abbrev pub open_contents : Option OpenOutput → Option (List ℕ)
open_contents None = None
open_contents (Some file) = file.contents

-- whether the file that is open is a regular one, if one is open
abbrev pub kind_of : Option OpenOutput → Option Bool
kind_of None = None
kind_of (Some file) = Some file.regular

-- the file that is open is on the disk whole, if it is a regular one
abbrev pub IsStored : Option OpenOutput → Type 0
IsStored None = Unit {0}
IsStored (Some file) = file.regular ≡ true → file.stored ≡ file.contents
