-- Sources that are read from bytes which wait in the reader.
use Rattle.std.proofs.Common.{◌≡◌, ℕ, ◌++◌, suc, ◌-◌, ◌+◌, ◌*◌, ◌<◌, ◌≤◌, ◌^◌, List, [], ◌∷◌, length, take, drop, refl, sym, ap, ◌∙◌, subst, arith}
use Rattle.std.proofs.lemmas.Bool.{lt-ltb}
use Rattle.std.proofs.lemmas.List.{drop-take, drop-drop, length-append, length-drop, length-take-le, take-take}
use Rattle.std.proofs.lemmas.Nat.{from_be_bytes-to_be_bytes_2}
use Rattle.std.specs.Int.{w16}
use Rattle.std.specs.Prelude.{Option, Some, Result, Ok, Err, if◌then◌else◌, unwrap_or}
use Rattle.shelf_traits.specs.Files.{ShelfState}
use Rattle.shelf_traits.specs.declared.fault.FormFault.TheVariants.{Form}
use Rattle.shelf_traits.specs.declared.fault.ReadError.{ReadError}
use Rattle.shelf_traits.specs.declared.fault.ReadError.TheVariants.{Bad}
use Rattle.cells.specs.declared.place.At.{At}
use Rattle.cells.specs.declared.place.Size.{Size}
use Rattle.cells.specs.Places.{spot}
use Rattle.cells.specs.SizeLists.{size_of_part}
use Rattle.file_bytes.specs.Fields.{field_16}
use Rattle.file_bytes.specs.Reading.{Follows, IsAhead, Reading, StandsAt, after_serving}
use Rattle.file_bytes.proofs.ReadingLaws.{ahead_still, both}
use Rattle.source_map.specs.declared.head.Version.TheVariants.{One}
use Rattle.source_map.specs.MapFiles.{below_rule, no_size, place_read, source_read}
use Rattle.source_map.specs.Readings.{◌>>=◌, list_read, number_read, number_rule}
use Rattle.source_map.specs.Waiting.{Extends, ExtendsIn, PlaceWaits}
use Rattle.source_map.proofs.FieldLaws.{field_whole, weaker}

-- a part of a piece that is in the bytes
stands_part : (at i n place : ℕ) (waiting bytes : List ℕ) → place ≡ at + i → i + n ≤ length waiting → StandsAt at waiting bytes → StandsAt place (take n (drop i waiting)) bytes
stands_part at i n place waiting bytes here le stands =
    let m = length waiting - i in
    let whole : length waiting ≡ i + m = omega arith in
    let fits : n ≤ m = omega arith in
    let count : length (take n (drop i waiting)) ≡ n = length-take-le n (drop i waiting) (omega (arith, length-drop i waiting)) in
    let rest : drop i waiting ≡ take m (drop (at + i) bytes) =
    ap (drop i) (stands.is ∙ ap (λ k. take k (drop at bytes)) whole) ∙ drop-take i m (drop at bytes) ∙ ap (take m) (drop-drop i at bytes) in
    record {
      is = ap (take n) rest ∙ take-take n m (drop (at + i) bytes) fits ∙ (λ k. take (sym count k) (drop (sym here k) bytes));
      within = omega (arith, stands.within);
    }

-- a number whose field waits, and which its rule takes
number_waits : (at i place n bound : ℕ) (waiting bytes : List ℕ) → place ≡ at + i → i + 2 ≤ length waiting → n < 2 ^ 16 → n < bound → field_16 n ≡ take 2 (drop i waiting) → StandsAt at waiting bytes
    → number_read w16 (below_rule bound) place bytes ≡ Ok (n, place + 2)
number_waits at i place n bound waiting bytes here le small below is stands =
    let taken : Ok n ≡ below_rule bound place n = sym (ap (λ b. if b then Ok n else Err (Bad (Form place))) (lt-ltb n bound below)) in
    field_whole 2 place (number_rule w16 (below_rule bound)) (field_16 n) bytes (Ok n) refl
    (subst (λ piece. StandsAt place piece bytes) (sym is) (stands_part at i 2 place waiting bytes here le stands))
    (taken ∙ ap (below_rule bound place) (sym (from_be_bytes-to_be_bytes_2 n small)))

pub place_waits : (size : Size) (waiting : List ℕ) (i x y f : ℕ) → i + 6 ≤ length waiting → x < 2 ^ 16 → y < 2 ^ 16 → f < 2 ^ 16 → x < size.w → y < size.h → f < size.f
    → field_16 x ≡ take 2 (drop i waiting) → field_16 y ≡ take 2 (drop (i + 2) waiting) → field_16 f ≡ take 2 (drop (i + 4) waiting) → PlaceWaits size waiting i (spot x y f)
place_waits size waiting i x y f le x_small y_small f_small x_below y_below f_below x_is y_is f_is at bytes stands =
    let there = at + i in
    let one = number_waits at i there x size.w waiting bytes refl (omega arith) x_small x_below x_is stands in
    let two = number_waits at (i + 2) (there + 2) y size.h waiting bytes (omega arith) (omega arith) y_small y_below y_is stands in
    let three = number_waits at (i + 4) (there + 2 + 2) f size.f waiting bytes (omega arith) (omega arith) f_small f_below f_is stands in
    let end : there + 2 + 2 + 2 ≡ there + 6 = omega arith in
    ap (λ (r : Result (ℕ × ℕ) ReadError). r >>= λ a. number_read w16 (below_rule size.h) a.1 bytes >>= λ b. number_read w16 (below_rule size.f) b.1 bytes >>= λ c. Ok (spot a.0 b.0 c.0, c.1)) one
    ∙ ap (λ (r : Result (ℕ × ℕ) ReadError). r >>= λ b. number_read w16 (below_rule size.f) b.1 bytes >>= λ c. Ok (spot x b.0 c.0, c.1)) two
    ∙ ap (λ (r : Result (ℕ × ℕ) ReadError). r >>= λ c. Ok (spot x y c.0, c.1)) three
    ∙ ap (λ (k : ℕ). Ok (spot x y f, k)) end

-- no value more
pub grows_none : {A : Type 0} (read : ℕ → List ℕ → Result (A × ℕ) ReadError) (waiting : List ℕ) (front : List A) → ExtendsIn read waiting (6 * 0) front front
grows_none read waiting front start at bytes stands is =
    let same : at ≡ at + 6 * 0 = omega arith in
    is ∙ ap (λ (k : ℕ). Ok (front, k)) same

-- one source more
pub grows_more : (samples : List Size) (size : Size) (waiting : List ℕ) (n : ℕ) (front longer : List (Option At)) (p : At) → Some size ≡ size_of_part samples 1
    → ExtendsIn (source_read One samples) waiting (6 * n) front longer → PlaceWaits size waiting (6 * n) p → ExtendsIn (source_read One samples) waiting (6 * (n + 1)) front (longer ++ Some p ∷ [])
grows_more samples size waiting n front longer p sized grows waits start at bytes stands is =
    let read = source_read One samples in
    let place = at + 6 * n in
    let before = grows start at bytes stands is in
    let source : read place bytes ≡ Ok (Some p, place + 6) =
    ap (λ (o : Option Size). place_read (unwrap_or o no_size) place bytes >>= λ from. Ok (Some from.0, from.1)) (sym sized)
    ∙ ap (λ (r : Result (At × ℕ) ReadError). r >>= λ from. Ok (Some from.0, from.1)) (waits at bytes stands) in
    let end : place + 6 ≡ at + 6 * (n + 1) = omega arith in
    let count : suc (length longer) ≡ length (longer ++ Some p ∷ []) = omega (arith, length-append longer (Some p ∷ [])) in
    subst (λ k. list_read read k start bytes ≡ Ok (longer ++ Some p ∷ [], at + 6 * (n + 1))) count
    (ap (λ (r : Result (List (Option At) × ℕ) ReadError). r >>= λ front. read front.1 bytes >>= λ last. Ok (front.0 ++ last.0 ∷ [], last.1)) before
    ∙ ap (λ (r : Result (Option At × ℕ) ReadError). r >>= λ last. Ok (longer ++ last.0 ∷ [], last.1)) source
    ∙ ap (λ (k : ℕ). Ok (longer ++ Some p ∷ [], k)) end)

-- the reader is ahead of its place after bytes that waited
pub follows_after : (name : List ℕ) (now : ShelfState) (r : Reading) (n : ℕ) → n ≤ length r.waiting → Follows name now r → Follows name now (after_serving r n)
follows_after name now r n le follows = weaker name (IsAhead r) (IsAhead (after_serving r n)) now.files (λ bytes ahead. ahead_still r n bytes le ahead) follows

-- what was read of the bytes that wait was read of the file
pub grows_found : {A : Type 0} (read : ℕ → List ℕ → Result (A × ℕ) ReadError) (r : Reading) (n : ℕ) (front longer : List A) → n ≤ length r.waiting → ExtendsIn read r.waiting n front longer
    → (name : List ℕ) (now : ShelfState) → Extends read name now r front now (after_serving r n) longer
grows_found read r n front longer le grows name now start found = record {
  follows = follows_after name now r n le found.follows;
  is = both name (IsAhead r) (λ bytes. list_read read (length front) start bytes ≡ Ok (front, r.at)) (λ bytes. list_read read (length longer) start bytes ≡ Ok (longer, r.at + n)) now.files
      (λ bytes ahead is. grows start r.at bytes (record { is = ahead.waiting; within = ahead.within }) is) found.follows found.is;
}
