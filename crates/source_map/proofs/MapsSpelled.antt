-- A map that was read is spelled by the bytes.
use Rattle.std.proofs.Common.{◌≡◌, true, false, Bool, ℕ, zero, suc, ◌+◌, ◌≤◌, ◌<◌, List, [], ◌∷◌, ◌++◌, length, refl, sym, ap, ◌∙◌, subst, arith}
use Rattle.std.proofs.lemmas.Bool.{eqb-false, eqb-true, ltb-false, ltb-true}
use Rattle.std.proofs.lemmas.Int.{ints}
use Rattle.std.proofs.lemmas.List.{take_all}
use Rattle.std.proofs.lemmas.Nat.{be_bytes_2}
use Rattle.std.specs.Bool.{nat_eq}
use Rattle.std.specs.Int.{from_be_bytes, w16, w32}
use Rattle.std.specs.List.{flat_map}
use Rattle.std.specs.Prelude.{pos, ◌+ℤ◌, ◌||◌, Option, Some, Result, Ok, nat_lt, if◌then◌else◌}
use Rattle.shelf_traits.specs.declared.fault.FormFault.TheVariants.{Form}
use Rattle.shelf_traits.specs.declared.fault.ReadError.{ReadError}
use Rattle.shelf_traits.specs.declared.fault.ReadError.TheVariants.{Bad}
use Rattle.cells.specs.declared.place.At.{At}
use Rattle.cells.specs.declared.place.Size.{Size}
use Rattle.cells.specs.declared.sizes.PartPlace.{PartPlace}
use Rattle.cells.specs.Places.{IsInside, cell_count, spot}
use Rattle.cells.specs.SizeLists.{IsPartPlace, frames_on, frames_to_part, size_of_part, stock_place}
use Rattle.file_bytes.specs.Fields.{field_16, field_32, fields_16}
use Rattle.map_canvas.specs.Maps.{SourceMap}
use Rattle.source_map.specs.declared.head.Version.{Version}
use Rattle.source_map.specs.declared.head.Version.TheVariants.{One, Two}
use Rattle.source_map.specs.declared.head_reading.Start.{Start}
use Rattle.source_map.specs.declared.map_file.MapFile.{MapFile}
use Rattle.source_map.specs.declared.map_file.MapFile.TheVariants.{Cells, Frames}
use Rattle.source_map.specs.Heads.{IsKind, axis_rule, size_field, sizes_field, sizes_read, start_form, start_read}
use Rattle.source_map.specs.MapFiles.{below_rule, body_read, cells_read, cells_rule, end_read, frames_read, map_form, map_magic, map_read, numbered_field, numbered_size, part_rule, place_field, place_read, same_rule, sample_read, samples_read, source_field, source_read, sources_read, value_read}
use Rattle.source_map.specs.Readings.{◌>>=◌, AreBytes, list_read, number_read}
use Rattle.source_map.proofs.HeadsSpelled.{axis_stood, sizes_stood, start_kind, start_stood}
use Rattle.source_map.proofs.PartLaws.{part_is}
use Rattle.source_map.proofs.Sources.{spot_inside}
use Rattle.source_map.proofs.Spelled.{Spelled, Stood, both_stood, ended, field_stood, list_stood, number_16_stood, number_32_stood, otherwise, passed, peel, same_first, same_value}

-- a place inside a size
record Coordinate (axis at end : ℕ) (bytes : List ℕ) (n : ℕ) : Type 0 where
  below : n < axis
  stood : Stood at end (field_16 n) bytes

coordinate_stood : (axis at : ℕ) (bytes : List ℕ) (n : ℕ) (end : ℕ) → AreBytes bytes → number_read w16 (below_rule axis) at bytes ≡ Ok (n, end) → Coordinate axis at end bytes n
coordinate_stood axis at bytes n end small is =
    let f = field_stood 2 (λ at piece. below_rule axis at (from_be_bytes w16 piece)) at bytes n end small is in
    let m = from_be_bytes w16 f.piece in
    let test = passed (nat_lt m axis) m n (Bad (Form at)) f.ruled in
    record {
      below = subst (λ k. k < axis) test.1 (ltb-true m axis test.0);
      stood = subst (λ p. Stood at end p bytes) (sym (be_bytes_2 f.piece n f.long f.small (sym test.1))) f.stood;
    }

pub record PlaceStood (size : Size) (at end : ℕ) (bytes : List ℕ) (p : At) : Type 0 where
  pub inside : IsInside size p
  pub stood : Stood at end (place_field p) bytes

pub place_stood : (size : Size) (at : ℕ) (bytes : List ℕ) (p : At) (end : ℕ) → AreBytes bytes → place_read size at bytes ≡ Ok (p, end) → PlaceStood size at end bytes p
place_stood size at bytes p end small is =
    let read : ℕ → ℕ → List ℕ → Result (ℕ × ℕ) ReadError = λ n. number_read w16 (below_rule n) in
    let a = peel {A = ℕ × ℕ} {C = At × ℕ} (read size.w at bytes) (λ x. read size.h x.1 bytes >>= λ y. read size.f y.1 bytes >>= λ f. Ok (spot x.0 y.0 f.0, f.1)) (p, end) is in
    let b = peel {A = ℕ × ℕ} {C = At × ℕ} (read size.h a.x.1 bytes) (λ y. read size.f y.1 bytes >>= λ f. Ok (spot a.x.0 y.0 f.0, f.1)) (p, end) a.two in
    let c = peel {A = ℕ × ℕ} {C = At × ℕ} (read size.f b.x.1 bytes) (λ f. Ok (spot a.x.0 b.x.0 f.0, f.1)) (p, end) b.two in
    let x = coordinate_stood size.w at bytes a.x.0 a.x.1 small a.one in
    let y = coordinate_stood size.h a.x.1 bytes b.x.0 b.x.1 small b.one in
    let f = coordinate_stood size.f b.x.1 bytes c.x.0 c.x.1 small c.one in
    let place = spot a.x.0 b.x.0 c.x.0 in
    record {
      inside = subst (IsInside size) (same_first place p c.x.1 end c.two) (spot_inside size a.x.0 b.x.0 c.x.0 x.below y.below f.below);
      stood = ended place_field place p at c.x.1 end bytes c.two
          (both_stood at b.x.1 c.x.1 (field_16 a.x.0 ++ field_16 b.x.0) (field_16 c.x.0) bytes (both_stood at a.x.1 b.x.1 (field_16 a.x.0) (field_16 b.x.0) bytes x.stood y.stood) f.stood);
    }

-- a source
pub stock_one : (samples : List Size) (p : At) → stock_place samples 1 p ≡ p
stock_one samples p =
    let f : p.f +ℤ pos 0 ≡ p.f = omega (arith, ints) in
    ap (λ n. frames_on n p) (no_frames samples) ∙ (λ i. record { x = p.x; y = p.y; f = f i })
  where
    no_frames : (sizes : List Size) → frames_to_part sizes 0 ≡ 0
    no_frames [] = refl
    no_frames (s ∷ sizes) = refl

pub numbered_there : (samples : List Size) (part : ℕ) → 1 ≤ part → part ≤ length samples → Some (numbered_size samples part) ≡ size_of_part samples part
numbered_there samples zero lo hi = absurd (omega arith)
numbered_there [] (suc n) lo hi = absurd (omega arith)
numbered_there (s ∷ samples) (suc zero) lo hi = refl
numbered_there (s ∷ samples) (suc (suc n)) lo hi = numbered_there samples (suc n) (omega arith) (omega arith)

pub there_is : (samples : List Size) (part : ℕ) (size : Size) (p : At) → 1 ≤ part → Some size ≡ size_of_part samples part → IsInside size p
    → IsPartPlace samples (stock_place samples part p) (record { part = part; at = p })
there_is samples zero size p lo is inside = absurd (omega arith)
there_is samples (suc n) size p lo is inside = record { before = n; part = (let e : suc n ≡ 1 + n = omega arith in e); size = size; is = sym is; inside = inside; stock = refl }

or_false : (a b : Bool) → (a || b) ≡ false → (a ≡ false) × (b ≡ false)
or_false true b is = absurd (cc)
or_false false b is = (refl, is)

pub record PartCode (count n x : ℕ) : Type 0 where
  pub same : n ≡ x
  pub from : 1 ≤ x
  pub to : x ≤ count

pub part_code : (count at n x : ℕ) → part_rule count at n ≡ Ok x → PartCode count n x
part_code count at n x is =
    let test = otherwise (nat_eq n 0 || nat_lt count n) (Ok n) x (Bad (Form at)) is in
    let same = same_value n x test.1 in
    let both = or_false (nat_eq n 0) (nat_lt count n) test.0 in
    record { same = same; from = some n x (eqb-false n 0 both.0) same; to = omega (arith, same, ltb-false count n both.1) }
  where
    some : (n x : ℕ) → (n ≡ 0 → ⊥) → n ≡ x → 1 ≤ x
    some n x not same = omega arith

source_stood : (version : Version) (samples : List Size) → Spelled (source_read version samples) (source_field version samples)
source_stood One samples at bytes source end small le is =
    let a = peel {A = At × ℕ} {C = Option At × ℕ} (place_read (numbered_size samples 1) at bytes) (λ p. Ok (Some p.0, p.1)) (source, end) is in
    let p = place_stood (numbered_size samples 1) at bytes a.x.0 a.x.1 small a.one in
    ended (source_field One samples) (Some a.x.0) source at a.x.1 end bytes a.two p.stood
source_stood Two samples at bytes source end small le is =
    let read : ℕ → List ℕ → Result (ℕ × ℕ) ReadError = number_read w16 (part_rule (length samples)) in
    let a = peel {A = ℕ × ℕ} {C = Option At × ℕ} (read at bytes) (λ part. place_read (numbered_size samples part.0) part.1 bytes >>= λ p. Ok (Some (stock_place samples part.0 p.0), p.1)) (source, end) is in
    let b = peel {A = At × ℕ} {C = Option At × ℕ} (place_read (numbered_size samples a.x.0) a.x.1 bytes) (λ p. Ok (Some (stock_place samples a.x.0 p.0), p.1)) (source, end) a.two in
    let f = field_stood 2 (λ at piece. part_rule (length samples) at (from_be_bytes w16 piece)) at bytes a.x.0 a.x.1 small a.one in
    let code = part_code (length samples) at (from_be_bytes w16 f.piece) a.x.0 f.ruled in
    let number : Stood at a.x.1 (field_16 a.x.0) bytes = subst (λ p. Stood at a.x.1 p bytes) (sym (be_bytes_2 f.piece a.x.0 f.long f.small (sym code.same))) f.stood in
    let p = place_stood (numbered_size samples a.x.0) a.x.1 bytes b.x.0 b.x.1 small b.one in
    let there : PartPlace = record { part = a.x.0; at = b.x.0 } in
    let from = stock_place samples a.x.0 b.x.0 in
    let found = there_is samples a.x.0 (numbered_size samples a.x.0) b.x.0 code.from (numbered_there samples a.x.0 code.from code.to) p.inside in
    let spelled : numbered_field there ≡ source_field Two samples (Some from) = ap numbered_field (sym (part_is samples from there found)) in
    ended (source_field Two samples) (Some from) source at b.x.1 end bytes b.two
    (subst (λ q. Stood at b.x.1 q bytes) spelled (both_stood at a.x.1 b.x.1 (field_16 a.x.0) (place_field b.x.0) bytes number p.stood))

-- a map of cells, after the output's size
samples_stood : (version : Version) (output : Size) → Spelled (samples_read version output) (sizes_field version)
samples_stood version output at bytes sizes end small le is =
    let a = peel {A = List Size × ℕ} {C = List Size × ℕ} (sizes_read version at bytes) (λ samples. cells_rule output >>= λ few. Ok samples) (sizes, end) is in
    let b = peel {A = Unit {0}} {C = List Size × ℕ} (cells_rule output) (λ few. Ok a.x) (sizes, end) a.two in
    ended (sizes_field version) a.x.0 sizes at a.x.1 end bytes b.two (sizes_stood version at bytes a.x.0 a.x.1 small le a.one)

cells_stood : (version : Version) (output : Size) (kind : ℕ) (from at : ℕ) (bytes : List ℕ) (value : MapFile) (end : ℕ) → AreBytes bytes → kind ≡ 0
    → Stood from at (start_form map_magic kind version output) bytes → cells_read version output at bytes ≡ Ok (value, end) → Stood from end (map_form value) bytes
cells_stood version output kind from at bytes value end small zero_is start is =
    let a = peel {A = List Size × ℕ} {C = MapFile × ℕ} (samples_read version output at bytes)
    (λ s. sources_read version s.0 output s.1 bytes >>= λ m. Ok (Cells m.0 s.0 version, m.1)) (value, end) is in
    let b = peel {A = SourceMap × ℕ} {C = MapFile × ℕ} (sources_read version a.x.0 output a.x.1 bytes) (λ m. Ok (Cells m.0 a.x.0 version, m.1)) (value, end) a.two in
    let c = peel {A = List (Option At) × ℕ} {C = SourceMap × ℕ} (list_read (source_read version a.x.0) (cell_count output) a.x.1 bytes)
    (λ s. Ok (record { size = output; sources = s.0 }, s.1)) b.x b.one in
    let m : SourceMap = record { size = output; sources = c.x.0 } in
    let samples = samples_stood version output at bytes a.x.0 a.x.1 small start.within a.one in
    let sources = list_stood (source_read version a.x.0) (source_field version a.x.0) (source_stood version a.x.0) (cell_count output) a.x.1 bytes c.x.0 c.x.1 small samples.within c.one in
    let start' = subst (λ k. Stood from at (start_form map_magic k version output) bytes) zero_is start in
    let all = both_stood from a.x.1 c.x.1 (start_form map_magic 0 version output ++ sizes_field version a.x.0) (flat_map (source_field version a.x.0) c.x.0) bytes
    (both_stood from at a.x.1 (start_form map_magic 0 version output) (sizes_field version a.x.0) bytes start' samples) sources in
    ended map_form (Cells b.x.0 a.x.0 version) value from b.x.1 end bytes b.two
    (ended (λ m. map_form (Cells m a.x.0 version)) m b.x.0 from c.x.1 b.x.1 bytes c.two all)

-- a frame map, after the output's size
same_code : (n at m x : ℕ) → same_rule n at m ≡ Ok x → m ≡ x
same_code n at m x is = (passed (nat_eq m n) m x (Bad (Form at)) is).1

sample_stood : (output : Size) → Spelled (sample_read output) size_field
sample_stood output at bytes size end small le is =
    let ra : ℕ → List ℕ → Result (ℕ × ℕ) ReadError = number_read w32 (same_rule output.w) in
    let rb : ℕ → List ℕ → Result (ℕ × ℕ) ReadError = number_read w32 (same_rule output.h) in
    let rc : ℕ → List ℕ → Result (ℕ × ℕ) ReadError = number_read w32 axis_rule in
    let a = peel {A = ℕ × ℕ} {C = Size × ℕ} (ra at bytes) (λ w. rb w.1 bytes >>= λ h. rc h.1 bytes >>= λ f. Ok (record { w = w.0; h = h.0; f = f.0 }, f.1)) (size, end) is in
    let b = peel {A = ℕ × ℕ} {C = Size × ℕ} (rb a.x.1 bytes) (λ h. rc h.1 bytes >>= λ f. Ok (record { w = a.x.0; h = h.0; f = f.0 }, f.1)) (size, end) a.two in
    let c = peel {A = ℕ × ℕ} {C = Size × ℕ} (rc b.x.1 bytes) (λ f. Ok (record { w = a.x.0; h = b.x.0; f = f.0 }, f.1)) (size, end) b.two in
    let w = number_32_stood (same_rule output.w) (λ n. n) (same_code output.w) at bytes a.x.0 a.x.1 small le a.one in
    let h = number_32_stood (same_rule output.h) (λ n. n) (same_code output.h) a.x.1 bytes b.x.0 b.x.1 small w.within b.one in
    let f = axis_stood b.x.1 bytes c.x.0 c.x.1 small h.within c.one in
    ended size_field (record { w = a.x.0; h = b.x.0; f = c.x.0 }) size at c.x.1 end bytes c.two
    (both_stood at b.x.1 c.x.1 (field_32 a.x.0 ++ field_32 b.x.0) (field_32 c.x.0) bytes (both_stood at a.x.1 b.x.1 (field_32 a.x.0) (field_32 b.x.0) bytes w h) f)

below_code : (n at m x : ℕ) → below_rule n at m ≡ Ok x → m ≡ x
below_code n at m x is = (passed (nat_lt m n) m x (Bad (Form at)) is).1

frames_stood : (version : Version) (output : Size) (kind : ℕ) (from at : ℕ) (bytes : List ℕ) (value : MapFile) (end : ℕ) → AreBytes bytes → kind ≡ 1 → version ≡ One
    → Stood from at (start_form map_magic kind version output) bytes → frames_read output at bytes ≡ Ok (value, end) → Stood from end (map_form value) bytes
frames_stood version output kind from at bytes value end small kind_is version_is start is =
    let read = λ (s : Size). list_read (number_read w16 (below_rule s.f)) output.f in
    let a = peel {A = Size × ℕ} {C = MapFile × ℕ} (sample_read output at bytes) (λ s. read s.0 s.1 bytes >>= λ f. Ok (Frames output s.0 f.0, f.1)) (value, end) is in
    let b = peel {A = List ℕ × ℕ} {C = MapFile × ℕ} (read a.x.0 a.x.1 bytes) (λ f. Ok (Frames output a.x.0 f.0, f.1)) (value, end) a.two in
    let sample = sample_stood output at bytes a.x.0 a.x.1 small start.within a.one in
    let frames = list_stood (number_read w16 (below_rule a.x.0.f)) field_16 (number_16_stood (below_rule a.x.0.f) (λ n. n) (below_code a.x.0.f)) output.f a.x.1 bytes b.x.0 b.x.1 small sample.within b.one in
    let start' = subst (λ v. Stood from at (start_form map_magic 1 v output) bytes) version_is (subst (λ k. Stood from at (start_form map_magic k version output) bytes) kind_is start) in
    ended map_form (Frames output a.x.0 b.x.0) value from b.x.1 end bytes b.two
    (both_stood from a.x.1 b.x.1 (start_form map_magic 1 One output ++ size_field a.x.0) (fields_16 b.x.0) bytes
    (both_stood from at a.x.1 (start_form map_magic 1 One output) (size_field a.x.0) bytes start' sample) frames)

-- the whole file
zero_kind : (version : Version) (kind : ℕ) → IsKind 2 version kind → nat_eq kind 1 ≡ false → kind ≡ 0
zero_kind One kind is not = by kind (ltb-true kind 2 is) (eqb-false kind 1 not)
  where
    by : (kind : ℕ) → kind < 2 → (kind ≡ 1 → ⊥) → kind ≡ 0
    by kind lt other = omega arith
zero_kind Two kind is not = eqb-true kind 0 is

one_version : (version : Version) (kind : ℕ) → IsKind 2 version kind → kind ≡ 1 → version ≡ One
one_version One kind is one = refl
one_version Two kind is one = let zero_is = eqb-true kind 0 is in absurd (omega (arith, zero_is, one))

pub map_spelled : (bytes : List ℕ) (value : MapFile) → AreBytes bytes → map_read bytes ≡ Ok value → bytes ≡ map_form value
map_spelled bytes value small is =
    let a = peel {A = MapFile × ℕ} {C = MapFile} (value_read 0 bytes) (λ v. end_read v.1 bytes >>= λ end. Ok v.0) value is in
    let b = peel {A = Unit {0} × ℕ} {C = MapFile} (end_read a.x.1 bytes) (λ end. Ok a.x.0) value a.two in
    let test = passed {A = Unit {0} × ℕ} (nat_eq (length bytes) a.x.1) (tt, a.x.1) b.x (Bad (Form a.x.1)) b.one in
    let ends : length bytes ≡ a.x.1 = eqb-true (length bytes) a.x.1 test.0 in
    let s = peel {A = Start × ℕ} {C = MapFile × ℕ} (start_read map_magic 2 2 0 bytes) (λ s. body_read s.0 s.1 bytes) a.x a.one in
    let from : 0 ≤ length bytes = omega arith in
    let start = start_stood map_magic 2 2 0 bytes s.x.0 s.x.1 small from s.one in
    let kind = start_kind map_magic 2 2 0 bytes s.x.0 s.x.1 s.one in
    let all = by s.x.0 s.x.1 a.x.0 a.x.1 kind start (nat_eq s.x.0.kind 1) refl s.two in
    sym (all.is ∙ take_all (length (map_form a.x.0)) bytes (omega (arith, ends, all.end_is))) ∙ ap map_form (same_value a.x.0 value b.two)
  where
    by : (s : Start) (at : ℕ) (v : MapFile) (end : ℕ) → IsKind 2 s.version s.kind → Stood 0 at (start_form map_magic s.kind s.version s.output) bytes → (t : Bool) → nat_eq s.kind 1 ≡ t
        → (if t then frames_read s.output at bytes else cells_read s.version s.output at bytes) ≡ Ok (v, end) → Stood 0 end (map_form v) bytes
    by s at v end kind start true e so = let one = eqb-true s.kind 1 e in frames_stood s.version s.output s.kind 0 at bytes v end small one (one_version s.version s.kind kind one) start so
    by s at v end kind start false e so = cells_stood s.version s.output s.kind 0 at bytes v end small (zero_kind s.version s.kind kind e) start so
