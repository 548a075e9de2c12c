-- A map over turned samples that was read is spelled by the bytes.
use Rattle.std.proofs.Common.{◌≡◌, ℕ, ◌≤◌, ◌<◌, List, [], ◌∷◌, ◌++◌, length, sym, ap, ◌∙◌, subst, arith}
use Rattle.std.proofs.lemmas.Bool.{eqb-true, ltb-true}
use Rattle.std.proofs.lemmas.List.{take_all}
use Rattle.std.proofs.lemmas.Nat.{be_bytes_2}
use Rattle.std.specs.Bool.{nat_eq}
use Rattle.std.specs.Cmp.Lexicographic.{pointwise}
use Rattle.std.specs.Int.{from_be_bytes, w16, w8}
use Rattle.std.specs.List.{flat_map}
use Rattle.std.specs.Prelude.{Option, Some, Result, Ok, nat_lt}
use lib.Pointwise.{bytes_decides}
use Rattle.shelf_traits.specs.declared.fault.FormFault.TheVariants.{Form}
use Rattle.shelf_traits.specs.declared.fault.ReadError.{ReadError}
use Rattle.shelf_traits.specs.declared.fault.ReadError.TheVariants.{Bad}
use Rattle.cells.specs.declared.place.At.{At}
use Rattle.cells.specs.declared.place.Size.{Size}
use Rattle.cells.specs.Places.{cell_count}
use Rattle.file_bytes.specs.Fields.{field_16}
use Rattle.map_canvas.specs.Maps.{SourceMap}
use Rattle.source_map.specs.declared.head.Version.TheVariants.{Two}
use Rattle.source_map.specs.Heads.{magic_rule, size_field, size_read, sizes_field, start_form}
use Rattle.source_map.specs.MapFiles.{below_rule, cells_rule, end_read, map_magic, part_rule, place_field, place_read, same_rule}
use Rattle.source_map.specs.Readings.{◌>>=◌, AreBytes, field_read, list_read, number_read}
use Rattle.source_map.proofs.HeadsSpelled.{size_stood}
use Rattle.source_map.proofs.MapsSpelled.{part_code, place_stood}
use Rattle.source_map.proofs.Spelled.{Spelled, Stood, both_stood, ended, field_stood, list_count, list_stood, number_8_stood, passed, peel, same_value}
use Rattle.turned.specs.declared.places.Turned.{Turned}
use Rattle.turned.specs.TurnedPlaces.{IsTurned, sample_size, turned_place}
use Rattle.turned.proofs.TurnedLists.{sample_there}
use Rattle.turned_map.specs.declared.turned_file.TurnedFile.{TurnedFile}
use Rattle.turned_map.specs.TurnedFiles.{turned_body_read, turned_field, turned_map_form, turned_map_read, turned_samples_read, turned_sizes_read, turned_source, turned_source_read, turned_sources_read, turned_start_read, turned_value_read}
use Rattle.turned_map.proofs.Entries.{entry_of_place}

-- what comes before the samples
mark_code : (at n x : ℕ) → same_rule 2 at n ≡ Ok x → n ≡ 2
mark_code at n x is = eqb-true n 2 (passed (nat_eq n 2) n x (Bad (Form at)) is).0

mark_stood : Spelled (number_read w8 (same_rule 2)) (λ x. 2 ∷ [])
mark_stood = number_8_stood (same_rule 2) (λ x. 2) mark_code

start_stood : Spelled turned_start_read (λ output. start_form map_magic 2 Two output)
start_stood at bytes output end small le is =
    let mark : ℕ → List ℕ → Result (ℕ × ℕ) ReadError = number_read w8 (same_rule 2) in
    let a = peel {A = Unit {0} × ℕ} {C = Size × ℕ} (field_read 8 (magic_rule map_magic) at bytes) (λ m. mark m.1 bytes >>= λ v. mark v.1 bytes >>= λ k. size_read k.1 bytes) (output, end) is in
    let b = peel {A = ℕ × ℕ} {C = Size × ℕ} (mark a.x.1 bytes) (λ v. mark v.1 bytes >>= λ k. size_read k.1 bytes) (output, end) a.two in
    let c = peel {A = ℕ × ℕ} {C = Size × ℕ} (mark b.x.1 bytes) (λ k. size_read k.1 bytes) (output, end) b.two in
    let m = field_stood 8 (magic_rule map_magic) at bytes a.x.0 a.x.1 small a.one in
    let same : m.piece ≡ map_magic = (bytes_decides m.piece map_magic).0 (passed (pointwise nat_eq m.piece map_magic) tt a.x.0 (Bad (Form at)) m.ruled).0 in
    let first = subst (λ p. Stood at a.x.1 p bytes) same m.stood in
    let version = mark_stood a.x.1 bytes b.x.0 b.x.1 small first.within b.one in
    let kind = mark_stood b.x.1 bytes c.x.0 c.x.1 small version.within c.one in
    let size = size_stood c.x.1 bytes output end small kind.within c.two in
    both_stood at c.x.1 end (map_magic ++ (2 ∷ [] ++ 2 ∷ [])) (size_field output) bytes
    (both_stood at a.x.1 c.x.1 map_magic (2 ∷ [] ++ 2 ∷ []) bytes first (both_stood a.x.1 b.x.1 c.x.1 (2 ∷ []) (2 ∷ []) bytes version kind)) size

-- the samples
record NumberStood (count at end : ℕ) (bytes : List ℕ) (n : ℕ) : Type 0 where
  from : 1 ≤ n
  to : n ≤ count
  stood : Stood at end (field_16 n) bytes

number_stood : (count at : ℕ) (bytes : List ℕ) (n end : ℕ) → AreBytes bytes → number_read w16 (part_rule count) at bytes ≡ Ok (n, end) → NumberStood count at end bytes n
number_stood count at bytes n end small is =
    let f = field_stood 2 (λ at piece. part_rule count at (from_be_bytes w16 piece)) at bytes n end small is in
    let code = part_code count at (from_be_bytes w16 f.piece) n f.ruled in
    record {
      from = code.from;
      to = code.to;
      stood = subst (λ p. Stood at end p bytes) (sym (be_bytes_2 f.piece n f.long f.small (sym code.same))) f.stood;
    }

sizes_stood : Spelled turned_sizes_read (sizes_field Two)
sizes_stood at bytes sizes end small le is =
    let count : ℕ → List ℕ → Result (ℕ × ℕ) ReadError = number_read w16 (part_rule 2) in
    let a = peel {A = ℕ × ℕ} {C = List Size × ℕ} (count at bytes) (λ n. list_read size_read n.0 n.1 bytes) (sizes, end) is in
    let n = number_stood 2 at bytes a.x.0 a.x.1 small a.one in
    let all = list_stood size_read size_field size_stood a.x.0 a.x.1 bytes sizes end small n.stood.within a.two in
    subst (λ k. Stood at end (field_16 k ++ flat_map size_field sizes) bytes) (sym (list_count size_read a.x.0 a.x.1 bytes sizes end a.two))
    (both_stood at a.x.1 end (field_16 a.x.0) (flat_map size_field sizes) bytes n.stood all)

samples_stood : (output : Size) → Spelled (turned_samples_read output) (sizes_field Two)
samples_stood output at bytes sizes end small le is =
    let a = peel {A = List Size × ℕ} {C = List Size × ℕ} (turned_sizes_read at bytes) (λ samples. cells_rule output >>= λ few. Ok samples) (sizes, end) is in
    let b = peel {A = Unit {0}} {C = List Size × ℕ} (cells_rule output) (λ few. Ok a.x) (sizes, end) a.two in
    ended (sizes_field Two) a.x.0 sizes at a.x.1 end bytes b.two (sizes_stood at bytes a.x.0 a.x.1 small le a.one)

-- a source
record TurnStood (at end : ℕ) (bytes : List ℕ) (t : ℕ) : Type 0 where
  below : t < 8
  stood : Stood at end (field_16 t) bytes

turn_stood : (at : ℕ) (bytes : List ℕ) (t end : ℕ) → AreBytes bytes → number_read w16 (below_rule 8) at bytes ≡ Ok (t, end) → TurnStood at end bytes t
turn_stood at bytes t end small is =
    let f = field_stood 2 (λ at piece. below_rule 8 at (from_be_bytes w16 piece)) at bytes t end small is in
    let m = from_be_bytes w16 f.piece in
    let test = passed (nat_lt m 8) m t (Bad (Form at)) f.ruled in
    record {
      below = subst (λ k. k < 8) test.1 (ltb-true m 8 test.0);
      stood = subst (λ p. Stood at end p bytes) (sym (be_bytes_2 f.piece t f.long f.small (sym test.1))) f.stood;
    }

source_stood : (samples : List Size) → Spelled (turned_source_read samples) (turned_source samples)
source_stood samples at bytes source end small le is =
    let numbers : ℕ → List ℕ → Result (ℕ × ℕ) ReadError = number_read w16 (part_rule (length samples)) in
    let turns : ℕ → List ℕ → Result (ℕ × ℕ) ReadError = number_read w16 (below_rule 8) in
    let value = λ (s t : ℕ) (p : At). let v : Option At = Some (turned_place samples (record { sample = s; turn = t; at = p })) in v in
    let a = peel {A = ℕ × ℕ} {C = Option At × ℕ} (numbers at bytes) (λ s. turns s.1 bytes >>= λ t. place_read (sample_size samples s.0) t.1 bytes >>= λ p. Ok (value s.0 t.0 p.0, p.1)) (source, end) is in
    let b = peel {A = ℕ × ℕ} {C = Option At × ℕ} (turns a.x.1 bytes) (λ t. place_read (sample_size samples a.x.0) t.1 bytes >>= λ p. Ok (value a.x.0 t.0 p.0, p.1)) (source, end) a.two in
    let c = peel {A = At × ℕ} {C = Option At × ℕ} (place_read (sample_size samples a.x.0) b.x.1 bytes) (λ p. Ok (value a.x.0 b.x.0 p.0, p.1)) (source, end) b.two in
    let s = number_stood (length samples) at bytes a.x.0 a.x.1 small a.one in
    let t = turn_stood a.x.1 bytes b.x.0 b.x.1 small b.one in
    let p = place_stood (sample_size samples a.x.0) b.x.1 bytes c.x.0 c.x.1 small c.one in
    let there : Turned = record { sample = a.x.0; turn = b.x.0; at = c.x.0 } in
    let lawful : IsTurned samples there = record { sample = sample_there samples a.x.0 s.from s.to; turn = t.below; inside = p.inside } in
    let spelled : turned_field there ≡ turned_source samples (Some (turned_place samples there)) = ap turned_field (entry_of_place samples there lawful) in
    ended (turned_source samples) (Some (turned_place samples there)) source at c.x.1 end bytes c.two
    (subst (λ q. Stood at c.x.1 q bytes) spelled
    (both_stood at b.x.1 c.x.1 (field_16 a.x.0 ++ field_16 b.x.0) (place_field c.x.0) bytes (both_stood at a.x.1 b.x.1 (field_16 a.x.0) (field_16 b.x.0) bytes s.stood t.stood) p.stood))

-- the whole file
body_stood : (output : Size) (from at : ℕ) (bytes : List ℕ) (value : TurnedFile) (end : ℕ) → AreBytes bytes
    → Stood from at (start_form map_magic 2 Two output) bytes → turned_body_read output at bytes ≡ Ok (value, end) → Stood from end (turned_map_form value.map value.samples) bytes
body_stood output from at bytes value end small start is =
    let a = peel {A = List Size × ℕ} {C = TurnedFile × ℕ} (turned_samples_read output at bytes)
    (λ s. turned_sources_read s.0 output s.1 bytes >>= λ m. Ok (record { map = m.0; samples = s.0 }, m.1)) (value, end) is in
    let b = peel {A = SourceMap × ℕ} {C = TurnedFile × ℕ} (turned_sources_read a.x.0 output a.x.1 bytes) (λ m. Ok (record { map = m.0; samples = a.x.0 }, m.1)) (value, end) a.two in
    let c = peel {A = List (Option At) × ℕ} {C = SourceMap × ℕ} (list_read (turned_source_read a.x.0) (cell_count output) a.x.1 bytes)
    (λ s. Ok (record { size = output; sources = s.0 }, s.1)) b.x b.one in
    let m : SourceMap = record { size = output; sources = c.x.0 } in
    let samples = samples_stood output at bytes a.x.0 a.x.1 small start.within a.one in
    let sources = list_stood (turned_source_read a.x.0) (turned_source a.x.0) (source_stood a.x.0) (cell_count output) a.x.1 bytes c.x.0 c.x.1 small samples.within c.one in
    let all = both_stood from a.x.1 c.x.1 (start_form map_magic 2 Two output ++ sizes_field Two a.x.0) (flat_map (turned_source a.x.0) c.x.0) bytes
    (both_stood from at a.x.1 (start_form map_magic 2 Two output) (sizes_field Two a.x.0) bytes start samples) sources in
    ended (λ (v : TurnedFile). turned_map_form v.map v.samples) (record { map = b.x.0; samples = a.x.0 }) value from b.x.1 end bytes b.two
    (ended (λ m. turned_map_form m a.x.0) m b.x.0 from c.x.1 b.x.1 bytes c.two all)

pub turned_spelled : (bytes : List ℕ) (value : TurnedFile) → AreBytes bytes → turned_map_read bytes ≡ Ok value → bytes ≡ turned_map_form value.map value.samples
turned_spelled bytes value small is =
    let a = peel {A = TurnedFile × ℕ} {C = TurnedFile} (turned_value_read 0 bytes) (λ v. end_read v.1 bytes >>= λ end. Ok v.0) value is in
    let b = peel {A = Unit {0} × ℕ} {C = TurnedFile} (end_read a.x.1 bytes) (λ end. Ok a.x.0) value a.two in
    let test = passed {A = Unit {0} × ℕ} (nat_eq (length bytes) a.x.1) (tt, a.x.1) b.x (Bad (Form a.x.1)) b.one in
    let ends : length bytes ≡ a.x.1 = eqb-true (length bytes) a.x.1 test.0 in
    let s = peel {A = Size × ℕ} {C = TurnedFile × ℕ} (turned_start_read 0 bytes) (λ s. turned_body_read s.0 s.1 bytes) a.x a.one in
    let from : 0 ≤ length bytes = omega arith in
    let start = start_stood 0 bytes s.x.0 s.x.1 small from s.one in
    let all = body_stood s.x.0 0 s.x.1 bytes a.x.0 a.x.1 small start s.two in
    sym (all.is ∙ take_all (length (turned_map_form a.x.0.map a.x.0.samples)) bytes (omega (arith, ends, all.end_is)))
    ∙ ap (λ (v : TurnedFile). turned_map_form v.map v.samples) (same_value a.x.0 value b.two)
