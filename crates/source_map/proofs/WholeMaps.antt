-- A value is read whole, to the end of its file.
use Rattle.std.proofs.Common.{◌≡◌, ◌<◌, true, false, ℕ, List, length, refl, ap, sym, ◌∙◌, subst, arith}
use Rattle.std.proofs.lemmas.Bool.{eq-eqb, ne_eqb}
use Rattle.std.specs.Prelude.{Option, Some, None, Result, Ok, Err, nat_eq}
use Rattle.shelf_traits.specs.Files.{Files, ShelfState, InFile, OnlyReads, ReadsRose, Told, content_of}
use Rattle.shelf_traits.specs.declared.fault.FormFault.TheVariants.{Depth, Space, Cell, NoFrames, Sample, Form, Trailing}
use Rattle.shelf_traits.specs.declared.fault.ReadError.{ReadError}
use Rattle.shelf_traits.specs.declared.fault.ReadError.TheVariants.{ReadFault, Bad, Limit, NoMemory}
use Rattle.shelf_traits.proofs.FileLaws.{only_reads_then, rose_later}
use Rattle.file_bytes.specs.Reading.{OfFile, Reading, Stops}
use Rattle.file_bytes.proofs.ReadingLaws.{still, both}
use Rattle.source_map.specs.declared.map_file.MapFile.{MapFile}
use Rattle.source_map.specs.MapFiles.{MapReadsBy, end_read}
use Rattle.source_map.specs.Readings.{◌>>=◌, Found}

-- a value after which the bytes end
ends : {A : Type 0} (read : ℕ → List ℕ → Result (A × ℕ) ReadError) (value : A) (at : ℕ) (bytes : List ℕ) → read 0 bytes ≡ Ok (value, at) → length bytes ≡ at
    → (read 0 bytes >>= λ v. end_read v.1 bytes >>= λ end. Ok v.0) ≡ Ok value
ends read value at bytes is whole =
    let end : nat_eq (length bytes) at ≡ true = eq-eqb (length bytes) at whole in
    ap (λ r. r >>= λ v. end_read v.1 bytes >>= λ end. Ok v.0) is ∙ rw end refl

-- what the bytes at the exit say, those at the entry say
of_entry : (name : List ℕ) (P : List ℕ → Type 0) (a b : Option Files) → Told a b (λ before after. after ≡ before) → OfFile name b P
    → Told a b (λ before after. P (content_of before name))
of_entry name P a None same is = tt
of_entry name P None (Some files) same is = same
of_entry name P (Some before) (Some files) same is = subst (λ f. P (content_of f name)) same is

pub read_whole : {names : List (List ℕ)} {A : Type 0} (name : List ℕ) (read : ℕ → List ℕ → Result (A × ℕ) ReadError) (a b c : ShelfState) (r : Reading) (value : A)
    → OnlyReads names a b → OnlyReads names b c → Found name 0 b r read value → OfFile name c.files (λ bytes. length bytes ≡ r.at)
    → InFile name a c (λ bytes. (read 0 bytes >>= λ v. end_read v.1 bytes >>= λ end. Ok v.0) ≡ Ok value)
read_whole name read a b c r value first second found end =
    of_entry name (λ bytes. (read 0 bytes >>= λ v. end_read v.1 bytes >>= λ end. Ok v.0) ≡ Ok value) a.files c.files (only_reads_then a b c first second).files
    (both name (λ bytes. read 0 bytes ≡ Ok (value, r.at)) (λ bytes. length bytes ≡ r.at)
    (λ bytes. (read 0 bytes >>= λ v. end_read v.1 bytes >>= λ end. Ok v.0) ≡ Ok value) c.files
    (λ bytes is whole. ends read value r.at bytes is whole)
    (still name (λ bytes. read 0 bytes ≡ Ok (value, r.at)) b.files c.files second.files found.is) end)

-- a value after which the bytes go on
goes_on : {A : Type 0} (read : ℕ → List ℕ → Result (A × ℕ) ReadError) (value : A) (at place : ℕ) (bytes : List ℕ) → read 0 bytes ≡ Ok (value, at) → place ≡ at → at < length bytes
    → (read 0 bytes >>= λ v. end_read v.1 bytes >>= λ end. Ok v.0) ≡ Err (Bad (Form place))
goes_on read value at place bytes is here more =
    let past : nat_eq (length bytes) at ≡ false = ne_eqb (length bytes) at (λ whole. omega arith) in
    ap (λ r. r >>= λ v. end_read v.1 bytes >>= λ end. Ok v.0) is ∙ rw past (ap (λ k. Err (Bad (Form k))) (sym here))

-- what a refusal of a whole file says
abbrev pub RefusedAs : {A : Type 0} → (List ℕ → Result A ReadError) → List ℕ → ShelfState → ShelfState → ReadError → Type 0
RefusedAs read name was now ReadFault = ReadsRose name was now
RefusedAs read name was now NoMemory = Unit {0}
RefusedAs read name was now (Bad fault) = InFile name was now (λ bytes. read bytes ≡ Err (Bad fault))
RefusedAs read name was now (Limit what number bound) = InFile name was now (λ bytes. read bytes ≡ Err (Limit what number bound))

pub refused_on : {names : List (List ℕ)} {A : Type 0} (name : List ℕ) (read : ℕ → List ℕ → Result (A × ℕ) ReadError) (a b c : ShelfState) (r : Reading) (value : A) (error : ReadError)
    → OnlyReads names a b → OnlyReads names b c → Found name 0 b r read value → Stops name r.at b c (Err error)
    → RefusedAs (λ bytes. read 0 bytes >>= λ v. end_read v.1 bytes >>= λ end. Ok v.0) name a c error
refused_on name read a b c r value ReadFault first second found stops = rose_later (a.reads name) (b.reads name) (c.reads name) (first.reads name) stops
refused_on name read a b c r value (Bad (Form place)) first second found stops =
    of_entry name (λ bytes. (read 0 bytes >>= λ v. end_read v.1 bytes >>= λ end. Ok v.0) ≡ Err (Bad (Form place))) a.files c.files (only_reads_then a b c first second).files
    (both name (λ bytes. read 0 bytes ≡ Ok (value, r.at)) (λ bytes. r.at < length bytes)
    (λ bytes. (read 0 bytes >>= λ v. end_read v.1 bytes >>= λ end. Ok v.0) ≡ Err (Bad (Form place))) c.files
    (λ bytes is more. goes_on read value r.at place bytes is stops.0 more)
    (still name (λ bytes. read 0 bytes ≡ Ok (value, r.at)) b.files c.files second.files found.is) stops.1)
refused_on name read a b c r value (Bad Depth) first second found stops = absurd stops
refused_on name read a b c r value (Bad Space) first second found stops = absurd stops
refused_on name read a b c r value (Bad Cell) first second found stops = absurd stops
refused_on name read a b c r value (Bad NoFrames) first second found stops = absurd stops
refused_on name read a b c r value (Bad (Sample place)) first second found stops = absurd stops
refused_on name read a b c r value (Bad (Trailing place)) first second found stops = absurd stops
refused_on name read a b c r value (Limit what number bound) first second found stops = absurd stops
refused_on name read a b c r value NoMemory first second found stops = absurd stops

refuses_map : (read : List ℕ → Result MapFile ReadError) (name : List ℕ) (was now : ShelfState) (error : ReadError) → RefusedAs read name was now error → MapReadsBy read name was now (Err error)
refuses_map read name was now ReadFault so = so
refuses_map read name was now NoMemory so = so
refuses_map read name was now (Bad fault) so = so
refuses_map read name was now (Limit what number bound) so = so

pub read_on : {names : List (List ℕ)} (name : List ℕ) (read : ℕ → List ℕ → Result (MapFile × ℕ) ReadError) (a b c : ShelfState) (r : Reading) (value : MapFile) (error : ReadError)
    → OnlyReads names a b → OnlyReads names b c → Found name 0 b r read value → Stops name r.at b c (Err error)
    → MapReadsBy (λ bytes. read 0 bytes >>= λ v. end_read v.1 bytes >>= λ end. Ok v.0) name a c (Err error)
read_on name read a b c r value error first second found stops =
    refuses_map (λ bytes. read 0 bytes >>= λ v. end_read v.1 bytes >>= λ end. Ok v.0) name a c error (refused_on name read a b c r value error first second found stops)
