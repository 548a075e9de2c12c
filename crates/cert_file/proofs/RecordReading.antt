-- A whole file is read part by part, to its end.
use Rattle.std.proofs.Common.{◌≡◌, ◌<◌, ◌∙◌, ℕ, List, true, false, refl, length, ap, sym, arith}
use Rattle.std.proofs.lemmas.Bool.{le-leb, lt-leb}
use Rattle.std.specs.Prelude.{nat_le, Result, Ok, Err}
use Rattle.shelf_traits.specs.Files.{OnlyReads, ShelfState}
use Rattle.shelf_traits.specs.declared.fault.FormFault.TheVariants.{Form, Depth, Space, Cell, NoFrames, Sample, Trailing}
use Rattle.shelf_traits.specs.declared.fault.ReadError.{ReadError}
use Rattle.shelf_traits.specs.declared.fault.ReadError.TheVariants.{ReadFault, Bad, Limit, NoMemory}
use Rattle.shelf_traits.proofs.FileLaws.{rose_later}
use Rattle.file_bytes.specs.Reading.{Reading, OfFile, Stops}
use Rattle.file_bytes.proofs.ReadingLaws.{still, both}
use Rattle.source_map.specs.Heads.{head_read}
use Rattle.source_map.specs.Readings.{◌>>=◌, Found, ReadsFrom}
use Rattle.source_map.proofs.FieldLaws.{weaker}
use Rattle.cert_file.specs.declared.file.RecordFile.{RecordFile}
use Rattle.cert_file.specs.RecordFiles.{ReadsRecordFile, ReadsToEnd, kinds, record_magic, records_read, versions}
use Rattle.cert_file.specs.Rules.{end_rule}

-- one reading, and then another to the end of the file
abbrev pub chain_to_end : {A B : Type 0} → (ℕ → List ℕ → Result (A × ℕ) ReadError) → (A → ℕ → List ℕ → Result B ReadError) → ℕ → List ℕ → Result B ReadError
chain_to_end first second at bytes = first at bytes >>= λ x. second x.0 x.1 bytes

pub to_end_stops : {A B : Type 0} (memory : Type 0) (name : List ℕ) (place : ℕ) (first : ℕ → List ℕ → Result (A × ℕ) ReadError) (second : A → ℕ → List ℕ → Result B ReadError)
    (was now : ShelfState) (r : Reading) (error : ReadError) → ReadsFrom memory name place was now r first (Err error) → ReadsToEnd memory name place was now (chain_to_end first second) (Err error)
to_end_stops memory name place first second was now r ReadFault stops = stops
to_end_stops memory name place first second was now r NoMemory stops = stops
to_end_stops memory name place first second was now r (Bad fault) stops =
    weaker name (λ bytes. first place bytes ≡ Err (Bad fault)) (λ bytes. chain_to_end first second place bytes ≡ Err (Bad fault)) now.files
    (λ bytes is. ap (λ p. p >>= λ x. second x.0 x.1 bytes) is) stops
to_end_stops memory name place first second was now r (Limit what number bound) stops =
    weaker name (λ bytes. first place bytes ≡ Err (Limit what number bound)) (λ bytes. chain_to_end first second place bytes ≡ Err (Limit what number bound)) now.files
    (λ bytes is. ap (λ p. p >>= λ x. second x.0 x.1 bytes) is) stops

pub then_to_end : {names : List (List ℕ)} {A B : Type 0} (memory : Type 0) (name : List ℕ) (place : ℕ) (first : ℕ → List ℕ → Result (A × ℕ) ReadError) (second : A → ℕ → List ℕ → Result B ReadError)
    (a b c : ShelfState) (r : Reading) (x : A) (result : Result B ReadError) → OnlyReads names a b → OnlyReads names b c
    → Found name place b r first x → ReadsToEnd memory name r.at b c (second x) result
    → ReadsToEnd memory name place a c (chain_to_end first second) result
then_to_end {A = A} {B = B} memory name place first second a b c r x result before after found rest = by result rest
  where
    first_is : OfFile name c.files (λ bytes. first place bytes ≡ Ok (x, r.at))
    first_is = still name (λ bytes. first place bytes ≡ Ok (x, r.at)) b.files c.files after.files found.is

    joined : (end : Result B ReadError) → OfFile name c.files (λ bytes. second x r.at bytes ≡ end) → OfFile name c.files (λ bytes. chain_to_end first second place bytes ≡ end)
    joined end second_is = both name (λ bytes. first place bytes ≡ Ok (x, r.at)) (λ bytes. second x r.at bytes ≡ end) (λ bytes. chain_to_end first second place bytes ≡ end) c.files
        (λ bytes one two. ap (λ p. p >>= λ y. second y.0 y.1 bytes) one ∙ two) first_is second_is

    by : (result : Result B ReadError) → ReadsToEnd memory name r.at b c (second x) result → ReadsToEnd memory name place a c (chain_to_end first second) result
    by (Ok y) rest = joined (Ok y) rest
    by (Err ReadFault) rest = rose_later (a.reads name) (b.reads name) (c.reads name) (before.reads name) rest
    by (Err NoMemory) rest = rest
    by (Err (Bad fault)) rest = joined (Err (Bad fault)) rest
    by (Err (Limit what number bound)) rest = joined (Err (Limit what number bound)) rest

-- a value, where the file ends
abbrev pub value_at_end : {A : Type 0} → A → ℕ → List ℕ → Result A ReadError
value_at_end x at bytes = end_rule at bytes >>= λ end. Ok x

pub ends : {A : Type 0} (memory : Type 0) (name : List ℕ) (at : ℕ) (was now : ShelfState) (x : A) → Stops name at was now (Ok tt) → ReadsToEnd memory name at was now (value_at_end x) (Ok x)
ends {A = A} memory name at was now x stops =
    weaker name (λ bytes. length bytes ≡ at) (λ bytes. value_at_end x at bytes ≡ Ok x) now.files
    (λ bytes is. let here : nat_le (length bytes) at ≡ true = le-leb (length bytes) at (omega arith) in rw here refl) stops

pub ends_not : {A : Type 0} (memory : Type 0) (name : List ℕ) (at : ℕ) (was now : ShelfState) (x : A) (error : ReadError) → Stops name at was now (Err error) → ReadsToEnd memory name at was now (value_at_end x) (Err error)
ends_not memory name at was now x ReadFault stops = stops
ends_not memory name at was now x (Bad (Form place)) stops =
    weaker name (λ bytes. at < length bytes) (λ bytes. value_at_end x at bytes ≡ Err (Bad (Form place))) now.files
    (λ bytes lt. let past : nat_le (length bytes) at ≡ false = lt-leb (length bytes) at lt in rw past (ap (λ k. Err (Bad (Form k))) (sym stops.0))) stops.1
ends_not memory name at was now x (Bad Depth) stops = absurd stops
ends_not memory name at was now x (Bad Space) stops = absurd stops
ends_not memory name at was now x (Bad Cell) stops = absurd stops
ends_not memory name at was now x (Bad NoFrames) stops = absurd stops
ends_not memory name at was now x (Bad (Sample place)) stops = absurd stops
ends_not memory name at was now x (Bad (Trailing place)) stops = absurd stops
ends_not memory name at was now x (Limit what number bound) stops = absurd stops
ends_not memory name at was now x NoMemory stops = absurd stops

-- the whole file
pub whole_file : (name : List ℕ) (was now : ShelfState) (result : Result RecordFile ReadError)
    → ReadsToEnd (Unit {0}) name 0 was now (chain_to_end (head_read record_magic versions kinds) (λ head. records_read head.1 head.0)) result → ReadsRecordFile name was now result
whole_file name was now (Ok file) answer = answer
whole_file name was now (Err ReadFault) answer = answer
whole_file name was now (Err NoMemory) answer = tt
whole_file name was now (Err (Bad fault)) answer = answer
whole_file name was now (Err (Limit what number bound)) answer = answer
