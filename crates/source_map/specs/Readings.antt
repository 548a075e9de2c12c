-- What a reader has to trust: how a list of bytes is read, field by field from a place on. The answer
-- is a value and the place after it, or the first refusal. A number in a field that has no valid
-- value is refused at the field's first byte; a file that ends within a field at the file's length.
-- (Own.)
use Rattle.std.specs.Prelude.{◌≡◌, ◌<◌, ◌+◌, ◌++◌, ℕ, zero, suc, All, nat_le, if◌then◌else◌, List, [], ◌∷◌, length, take, drop, Result, Ok, Err}
use Rattle.std.specs.Int.{Width, byte_len, from_be_bytes}
use Rattle.shelf_traits.specs.Files.{ShelfState, ReadsRose}
use Rattle.shelf_traits.specs.declared.fault.FormFault.TheVariants.{Form}
use Rattle.shelf_traits.specs.declared.fault.ReadError.{ReadError}
use Rattle.shelf_traits.specs.declared.fault.ReadError.TheVariants.{ReadFault, Bad, NoMemory}
use Rattle.file_bytes.specs.Reading.{Reading, OfFile, Follows}

-- one reading after another: the first refusal is the refusal of both
infixl 10 ◌>>=◌
abbrev pub ◌>>=◌ : {A B : Type 0} → Result A ReadError → (A → Result B ReadError)
    → Result B ReadError
(Ok x) >>= next = next x
(Err refusal) >>= next = Err refusal

-- so many bytes from a place on, and the place after them
unfoldable pub piece_read : ℕ → ℕ → List ℕ → Result (List ℕ × ℕ) ReadError
piece_read n at bytes =
    if nat_le (at + n) (length bytes) then Ok (take n (drop at bytes), at + n)
    else Err (Bad (Form (length bytes)))

-- what a rule makes of the bytes of a field, which is given its place
abbrev pub field_read : {A : Type 0} → ℕ → (ℕ → List ℕ → Result A ReadError) → ℕ → List ℕ
    → Result (A × ℕ) ReadError
field_read n rule at bytes =
    piece_read n at bytes >>= λ piece. rule at piece.0 >>= λ x. Ok (x, piece.1)

-- a rule for a field that is a number
abbrev pub number_rule : {A : Type 0} → Width → (ℕ → ℕ → Result A ReadError)
    → ℕ → List ℕ → Result A ReadError
number_rule w rule at piece = rule at (from_be_bytes w piece)

abbrev pub number_read : {A : Type 0} → Width → (ℕ → ℕ → Result A ReadError) → ℕ → List ℕ
    → Result (A × ℕ) ReadError
number_read w rule = field_read (byte_len w) (number_rule w rule)

-- so many values, one after another
abbrev pub list_read : {A : Type 0} → (ℕ → List ℕ → Result (A × ℕ) ReadError) → ℕ → ℕ → List ℕ
    → Result (List A × ℕ) ReadError
list_read read zero at bytes = Ok ([], at)
list_read read (suc n) at bytes =
    list_read read n at bytes >>= λ front. read front.1 bytes >>= λ last.
    Ok (front.0 ++ last.0 ∷ [], last.1)

-- a list of bytes
abbrev pub AreBytes : List ℕ → Type 0
AreBytes bytes = All (λ b. b < 256) bytes

-- a refusal of the bytes
abbrev pub IsRefusal : ReadError → Type 0
IsRefusal ReadFault = ⊥
IsRefusal NoMemory = ⊥
IsRefusal refusal = Unit {0}

-- a value was read, and the reader's place is after it
pub record Found {A : Type 0} (name : List ℕ) (place : ℕ) (now : ShelfState) (r : Reading)
    (read : ℕ → List ℕ → Result (A × ℕ) ReadError) (x : A) : Type 0 where
  pub follows : Follows name now r
  pub is : OfFile name now.files (λ bytes. read place bytes ≡ Ok (x, r.at))

-- what a reader of the named file leaves and answers that began at a place: what its bytes are read
-- as from there on. A read fault has its cause; `memory` is that for out of memory
abbrev pub ReadsFrom : {A : Type 0} → Type 0 → List ℕ → ℕ → ShelfState → ShelfState → Reading
    → (ℕ → List ℕ → Result (A × ℕ) ReadError) → Result A ReadError → Type 0
ReadsFrom memory name place was now r read (Ok x) = Found name place now r read x
ReadsFrom memory name place was now r read (Err ReadFault) = ReadsRose name was now
ReadsFrom memory name place was now r read (Err NoMemory) = memory
ReadsFrom memory name place was now r read (Err refusal) =
    OfFile name now.files (λ bytes. read place bytes ≡ Err refusal)
