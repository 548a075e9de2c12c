-- Lists over the parts of a sample, one after another.
use Rattle.std.proofs.Common.{◌≡◌, ℕ, zero, suc, ◌+◌, ◌-◌, ◌*◌, ◌<◌, ◌≤◌, List, [], ◌∷◌, ◌++◌, length, map, take, drop, inl, inr, refl, ap, sym, subst, ◌∙◌, arith}
use Rattle.std.proofs.Math.Seq.{drop-cons, drop-length, take-length}
use Rattle.std.proofs.lemmas.List.{length-append, length-map, length-take-le, append_assoc, append-nil, take_more}
use Rattle.std.proofs.lemmas.List.Elements.{All-append, All-nil, Contains-append_left, Contains-append_right}
use Rattle.std.proofs.lemmas.Option.{get_or_from_slice_get, none-some, same_Some, slice_get-map, slice_get_within}
use Rattle.std.specs.Prelude.{◌⊎◌, All, Contains, Some, option_map, slice_get}
use Rattle.std.specs.List.{AllByRecursion}
use Rattle.cells.specs.declared.place.At.{At}
use Rattle.cells.specs.declared.place.Box3.{Box3}
use Rattle.cells.specs.declared.place.Size.{Size}
use Rattle.cells.specs.Cells.{Cells, sizes_of}
use Rattle.cells.specs.Places.{HasAxes, cell_count, place_of}
use Rattle.map_canvas.specs.declared.canvas.Placement.{Placement}
use Rattle.patch_picks.specs.declared.candidates.Candidates.{Candidates}
use Rattle.patch_picks.specs.declared.candidates.Candidates.TheVariants.{One, Laid, Fits}
use Rattle.patch_picks.specs.Counts.{AreVolumeParts, IsOverParts, all_entries, entries_after, entries_before, entries_in, made_from, part_cells, steps_in}
use Rattle.patch_picks.specs.Lists.{from_part, listed, lists_from}
use Rattle.patch_picks.proofs.Counting.{first_at, slice_get-Contains}
use Rattle.cells.proofs.PlaceLists.{count_over, entry_over}
use Rattle.patch_picks.proofs.Rooms.{steps_few}

-- an entry of two lists, one after the other
pub slice_get_left : {X : Type 0} (xs ys : List X) (i : ℕ) → i < length xs → slice_get (xs ++ ys) i ≡ slice_get xs i
slice_get_left [] ys i lt = absurd (omega (arith, lt))
slice_get_left (x ∷ xs) ys zero lt = refl
slice_get_left (x ∷ xs) ys (suc i) lt = slice_get_left xs ys i (omega (arith, lt))

pub slice_get_right : {X : Type 0} (xs ys : List X) (i : ℕ) → length xs ≤ i → slice_get (xs ++ ys) i ≡ slice_get ys (i - length xs)
slice_get_right [] ys i le = ap (slice_get ys) (let e : i ≡ i - 0 = omega arith in e)
slice_get_right (x ∷ xs) ys zero le = absurd (omega (arith, le))
slice_get_right (x ∷ xs) ys (suc i) le = slice_get_right xs ys i (omega (arith, le)) ∙ ap (slice_get ys) (let e : i - length xs ≡ suc i - suc (length xs) = omega arith in e)

-- the parts from one on
pub drop_part : (sizes : List Size) (n : ℕ) (part : Size) → slice_get sizes n ≡ Some part → drop n sizes ≡ part ∷ drop (n + 1) sizes
drop_part sizes n part at =
    drop-cons sizes n part (slice_get_within sizes n part at)
    ∙ ap (λ p. p ∷ drop (suc n) sizes) (get_or_from_slice_get sizes n part part at)
    ∙ ap (λ m. part ∷ drop m sizes) (let e : suc n ≡ n + 1 = omega arith in e)

pub after_step : (list : Size → List Placement) (sizes : List Size) (n : ℕ) (part : Size) → slice_get sizes n ≡ Some part → entries_after list sizes n ≡ map (from_part sizes (n + 1)) (list part) ++ entries_after list sizes (n + 1)
after_step list sizes n part at = ap (lists_from list sizes (n + 1)) (drop_part sizes n part at)

pub none_after : (list : Size → List Placement) (sizes : List Size) (n : ℕ) → n ≡ length sizes → entries_after list sizes n ≡ []
none_after list sizes n e = ap (λ m. lists_from list sizes (n + 1) (drop m sizes)) e ∙ ap (lists_from list sizes (n + 1)) (drop-length sizes)

-- one more part
lists_push : (list : Size → List Placement) (sizes parts : List Size) (number : ℕ) (part : Size) → lists_from list sizes number (parts ++ part ∷ []) ≡ lists_from list sizes number parts ++ map (from_part sizes (number + length parts)) (list part)
lists_push list sizes [] number part = append-nil _ ∙ ap (λ n. map (from_part sizes n) (list part)) (let e : number ≡ number + 0 = omega arith in e)
lists_push list sizes (first ∷ parts) number part =
    ap (λ rest. map (from_part sizes number) (list first) ++ rest) (lists_push list sizes parts (number + 1) part)
    ∙ sym (append_assoc (map (from_part sizes number) (list first)) (lists_from list sizes (number + 1) parts) (map (from_part sizes (number + 1 + length parts)) (list part)))
    ∙ ap (λ n. (map (from_part sizes number) (list first) ++ lists_from list sizes (number + 1) parts) ++ map (from_part sizes n) (list part)) (let e : number + 1 + length parts ≡ number + suc (length parts) = omega arith in e)

pub before_step : (list : Size → List Placement) (sizes : List Size) (n : ℕ) (part : Size) → slice_get sizes n ≡ Some part → entries_before list sizes (n + 1) ≡ entries_before list sizes n ++ map (from_part sizes (n + 1)) (list part)
before_step list sizes n part at =
    let lt = slice_get_within sizes n part at in
    let count : 1 + length (take n sizes) ≡ n + 1 = omega (arith, length-take-le n sizes (omega (arith, lt))) in
    ap (lists_from list sizes 1) (take_more sizes n part lt ∙ ap (λ p. take n sizes ++ p ∷ []) (get_or_from_slice_get sizes n part part at))
    ∙ lists_push list sizes (take n sizes) 1 part
    ∙ ap (λ m. lists_from list sizes 1 (take n sizes) ++ map (from_part sizes m) (list part)) count

pub before_all : (list : Size → List Placement) (sizes : List Size) (n : ℕ) → n ≡ length sizes → entries_before list sizes n ≡ lists_from list sizes 1 sizes
before_all list sizes n e = ap (λ m. lists_from list sizes 1 (take m sizes)) e ∙ ap (lists_from list sizes 1) (take-length sizes)

-- how many entries there are
pub part_count : (list : Candidates) (output part : Size) (sizes : List Size) (number : ℕ) → length (map (from_part sizes number) (entries_in list output part)) ≡ cell_count (steps_in list part)
part_count list output part sizes number = length-map (entries_in list output part) (from_part sizes number) ∙ count_over (made_from list output part) (steps_in list part)

parts_few : (list : Candidates) (output : Size) (sizes parts : List Size) (number : ℕ) → AllByRecursion HasAxes parts → length (lists_from (entries_in list output) sizes number parts) ≤ 8 * part_cells parts
parts_few list output sizes [] number axes = omega arith
parts_few list output sizes (part ∷ parts) number axes =
    omega (
      arith,
      length-append (map (from_part sizes number) (entries_in list output part)) (lists_from (entries_in list output) sizes (number + 1) parts),
      part_count list output part sizes number,
      steps_few list part axes.0,
      parts_few list output sizes parts (number + 1) axes.1,
    )

-- one part's worth of a count
pub count_step : (list : Candidates) (output : Size) (sizes : List Size) (n count : ℕ) (part steps : Size) → slice_get sizes n ≡ Some part → steps ≡ steps_in list part → count + length (entries_after (entries_in list output) sizes n) ≡ length (all_entries list output sizes)
    → count + cell_count steps + length (entries_after (entries_in list output) sizes (n + 1)) ≡ length (all_entries list output sizes)
count_step list output sizes n count part steps at e is =
    let made = map (from_part sizes (n + 1)) (entries_in list output part) in
    omega (
      arith,
      is,
      ap length (after_step (entries_in list output) sizes n part at),
      length-append made (entries_after (entries_in list output) sizes (n + 1)),
      part_count list output part sizes (n + 1),
      ap cell_count e,
    )

pub entries_few : (list : Candidates) (output : Size) (sizes : List Size) → AreVolumeParts sizes → length (all_entries list output sizes) ≤ 268435456
entries_few list output sizes are = omega (arith, parts_few list output sizes sizes 1 are.axes, are.cells)

-- what holds of the entries of each part holds of all
pub all_of_parts : (P : Placement → Type 0) (list : Size → List Placement) (sizes parts : List Size) (number : ℕ) → ((n : ℕ) (part : Size) → slice_get parts n ≡ Some part → All P (map (from_part sizes (number + n)) (list part))) → All P (lists_from list sizes number parts)
all_of_parts P list sizes [] number each = All-nil P
all_of_parts P list sizes (part ∷ parts) number each =
    All-append P (map (from_part sizes number) (list part)) (lists_from list sizes (number + 1) parts)
    (subst (λ n. All P (map (from_part sizes n) (list part))) (let e : number + 0 ≡ number = omega arith in e) (each 0 part refl))
    (all_of_parts P list sizes parts (number + 1)
    (λ n other at. subst (λ m. All P (map (from_part sizes m) (list other))) (let e : number + suc n ≡ number + 1 + n = omega arith in e) (each (suc n) other at)))

-- an entry of a part is an entry of all
pub entry_of_parts : (list : Size → List Placement) (sizes parts : List Size) (number n : ℕ) (part : Size) (entry : Placement) → slice_get parts n ≡ Some part → Contains (map (from_part sizes (number + n)) (list part)) entry → Contains (lists_from list sizes number parts) entry
entry_of_parts list sizes [] number n part entry at has = absurd (none-some part at)
entry_of_parts list sizes (first ∷ parts) number zero part entry at has =
    Contains-append_left (map (from_part sizes number) (list first)) (lists_from list sizes (number + 1) parts) entry
    (subst (λ p. Contains (map (from_part sizes number) (list p)) entry) (sym (same_Some first part at))
    (subst (λ m. Contains (map (from_part sizes m) (list part)) entry) (let e : number + 0 ≡ number = omega arith in e) has))
entry_of_parts list sizes (first ∷ parts) number (suc n) part entry at has =
    Contains-append_right (map (from_part sizes number) (list first)) (lists_from list sizes (number + 1) parts) entry
    (entry_of_parts list sizes parts (number + 1) n part entry at (subst (λ m. Contains (map (from_part sizes m) (list part)) entry) (let e : number + suc n ≡ number + 1 + n = omega arith in e) has))

-- and at the head of the parts from number 1
pub entry_of_all : (list : Size → List Placement) (sizes : List Size) (n : ℕ) (part : Size) (entry : Placement) → slice_get sizes n ≡ Some part → Contains (map (from_part sizes (n + 1)) (list part)) entry → Contains (lists_from list sizes 1 sizes) entry
entry_of_all list sizes n part entry at has =
    entry_of_parts list sizes sizes 1 n part entry at (subst (λ m. Contains (map (from_part sizes m) (list part)) entry) (let e : n + 1 ≡ 1 + n = omega arith in e) has)

-- some part that has an entry
pub some_of_part : (list : Size → List Placement) (sizes : List Size) (n : ℕ) (part : Size) → slice_get sizes n ≡ Some part → 0 < length (list part) → 0 < length (lists_from list sizes 1 sizes)
some_of_part list sizes n part at some =
    let made = map (from_part sizes (n + 1)) (list part) in
    let many : 0 < length made = subst (λ k. 0 < k) (sym (length-map (list part) (from_part sizes (n + 1)))) some in
    let first = first_at made many in
    let has = entry_of_all list sizes n part first.0 at (slice_get-Contains made first.0 0 first.1) in
    omega (arith, has.1)

-- candidates over parts list the entries of each
pub listed_over : (list : Candidates) (output : Size) (sample : Cells) → IsOverParts list → listed list output sample ≡ all_entries list output (sizes_of sample)
listed_over (One placement) output sample over = absurd over
listed_over (Laid q) output sample over = refl
listed_over (Fits rect) output sample over = refl

-- the entry of a part at an index
pub entry_at : (list : Candidates) (output part steps : Size) (i : ℕ) (c : At) → steps ≡ steps_in list part → i < length (entries_in list output part) → c ≡ place_of steps i → slice_get (entries_in list output part) i ≡ Some (made_from list output part c)
entry_at list output part steps i c e lt at =
    entry_over (made_from list output part) (steps_in list part) i (subst (λ n. i < n) (count_over (made_from list output part) (steps_in list part)) lt)
    ∙ ap (λ p. Some (made_from list output part p)) (sym (at ∙ ap (λ s. place_of s i) e))

pub over_parts : (list : Candidates) → ((q : At) × (list ≡ Laid q)) ⊎ ((rect : Box3) × (list ≡ Fits rect)) → IsOverParts list
over_parts list is =
    elim is [
      | inl laid ↦ subst IsOverParts (sym laid.1) tt
      | inr fits ↦ subst IsOverParts (sym fits.1) tt
    ]

-- the entry of all parts at an index, where it is one of the part after the first n
pub entry_here : (list : Candidates) (output part : Size) (sizes : List Size) (n i : ℕ) (entry made : Placement) → slice_get sizes n ≡ Some part → slice_get (entries_in list output part) i ≡ Some entry → made ≡ from_part sizes (n + 1) entry → slice_get (entries_after (entries_in list output) sizes n) i ≡ Some made
entry_here list output part sizes n i entry made at is e =
    let here = map (from_part sizes (n + 1)) (entries_in list output part) in
    let mapped : slice_get here i ≡ Some made = slice_get-map (from_part sizes (n + 1)) (entries_in list output part) i ∙ ap (option_map (from_part sizes (n + 1))) is ∙ ap Some (sym e) in
    ap (λ xs. slice_get xs i) (after_step (entries_in list output) sizes n part at)
    ∙ slice_get_left here (entries_after (entries_in list output) sizes (n + 1)) i (slice_get_within here i made mapped)
    ∙ mapped

-- and where it is not
pub entry_there : (list : Candidates) (output part steps : Size) (sizes : List Size) (n i : ℕ) → slice_get sizes n ≡ Some part → steps ≡ steps_in list part → cell_count steps ≤ i → slice_get (entries_after (entries_in list output) sizes n) i ≡ slice_get (entries_after (entries_in list output) sizes (n + 1)) (i - cell_count steps)
entry_there list output part steps sizes n i at e le =
    let here = map (from_part sizes (n + 1)) (entries_in list output part) in
    let many : length here ≡ cell_count steps = part_count list output part sizes (n + 1) ∙ ap cell_count (sym e) in
    ap (λ xs. slice_get xs i) (after_step (entries_in list output) sizes n part at)
    ∙ slice_get_right here (entries_after (entries_in list output) sizes (n + 1)) i (omega (arith, many, le))
    ∙ ap (λ k. slice_get (entries_after (entries_in list output) sizes (n + 1)) (i - k)) many

pub below_there : (list : Candidates) (output part steps : Size) (sizes : List Size) (n i : ℕ) → slice_get sizes n ≡ Some part → steps ≡ steps_in list part → cell_count steps ≤ i → i < length (entries_after (entries_in list output) sizes n) → i - cell_count steps < length (entries_after (entries_in list output) sizes (n + 1))
below_there list output part steps sizes n i at e le lt =
    let here = map (from_part sizes (n + 1)) (entries_in list output part) in
    omega (
      arith,
      le,
      lt,
      ap length (after_step (entries_in list output) sizes n part at),
      length-append here (entries_after (entries_in list output) sizes (n + 1)),
      part_count list output part sizes (n + 1),
      ap cell_count e,
    )

-- a list that isn't of one candidate has its entries in all parts
pub listed_in_parts : (list : Candidates) (output : Size) (sample : Cells) → (((q : At) × (list ≡ Laid q)) ⊎ ((rect : Box3) × (list ≡ Fits rect))) → listed list output sample ≡ all_entries list output (sizes_of sample)
listed_in_parts list output sample (inl is) = subst (λ l. listed l output sample ≡ all_entries l output (sizes_of sample)) (sym is.1) refl
listed_in_parts list output sample (inr is) = subst (λ l. listed l output sample ≡ all_entries l output (sizes_of sample)) (sym is.1) refl
