-- A map of version 1 and kind 0 is read by both readers.
use Rattle.std.proofs.Common.{◌≡◌, ℕ, List, ap, refl, ◌∙◌, subst, arith}
use Rattle.std.specs.Prelude.{Result, Ok, Err, nat_eq, if◌then◌else◌}
use Rattle.shelf_traits.specs.Files.{ShelfState}
use Rattle.shelf_traits.specs.declared.fault.ReadError.{ReadError}
use Rattle.source_map.specs.declared.head.Version.TheVariants.{One}
use Rattle.source_map.specs.declared.head_reading.Start.{Start}
use Rattle.source_map.specs.declared.map_file.MapFile.{MapFile}
use Rattle.source_map.specs.Heads.{start_read}
use Rattle.source_map.specs.MapFiles.{MapReadsBy, body_read, cells_read, end_read, frames_read, map_magic, map_read, value_read, version_one_map_read, version_one_value_read}
use Rattle.source_map.specs.Readings.{◌>>=◌}
use Rattle.source_map.specs.Whole.{whole_read}
use Rattle.source_map.proofs.Fewer.{both_more, start_more, start_version, start_zero}

body_is : (s : Start) (at : ℕ) (bytes : List ℕ) → s.version ≡ One → s.kind ≡ 0 → body_read s at bytes ≡ cells_read One s.output at bytes
body_is s at bytes version kind =
    ap (λ k. if nat_eq k 1 then frames_read s.output at bytes else cells_read s.version s.output at bytes) kind
    ∙ ap (λ v. cells_read v s.output at bytes) version

-- a reader of one version and kind reads as that of version 1 does
value_same : (bytes : List ℕ) (s : Result (Start × ℕ) ReadError) → start_read map_magic 1 1 0 bytes ≡ s
    → (s >>= λ start. body_read start.0 start.1 bytes) ≡ (s >>= λ start. cells_read One start.0.output start.1 bytes)
value_same bytes (Err e) is = refl
value_same bytes (Ok s) is = body_is s.0 s.1 bytes (start_version map_magic 1 0 bytes s.0 s.1 is) (start_zero map_magic 1 0 bytes s.0 s.1 is)

pub whole_one : (name : List ℕ) (was now : ShelfState) (result : Result MapFile ReadError)
    → MapReadsBy (whole_read 1) name was now result
    → MapReadsBy version_one_map_read name was now result
whole_one name was now result answer =
    subst (λ read. MapReadsBy read name was now result)
    (λ i bytes. value_same bytes (start_read map_magic 1 1 0 bytes) refl i >>= λ value. end_read value.1 bytes >>= λ end. Ok value.0) answer

value_more : (bytes : List ℕ) (x : MapFile × ℕ) → version_one_value_read 0 bytes ≡ Ok x → value_read 0 bytes ≡ Ok x
value_more bytes x is =
    both_more {A = Start × ℕ} {B = MapFile × ℕ} (start_read map_magic 1 1 0 bytes) (start_read map_magic 2 2 0 bytes)
    (λ s. cells_read One s.0.output s.1 bytes) (λ s. body_read s.0 s.1 bytes)
    (λ s. start_more map_magic 1 2 1 2 (omega arith) (omega arith) 0 bytes s)
    (λ s y first so. body_is s.0 s.1 bytes (start_version map_magic 1 0 bytes s.0 s.1 first) (start_zero map_magic 1 0 bytes s.0 s.1 first) ∙ so)
    x is

pub version_one_is_read : (bytes : List ℕ) (value : MapFile) → version_one_map_read bytes ≡ Ok value → map_read bytes ≡ Ok value
version_one_is_read bytes value is =
    both_more {A = MapFile × ℕ} {B = MapFile} (version_one_value_read 0 bytes) (value_read 0 bytes)
    (λ v. end_read v.1 bytes >>= λ end. Ok v.0) (λ v. end_read v.1 bytes >>= λ end. Ok v.0)
    (value_more bytes) (λ v y first so. so) value is
