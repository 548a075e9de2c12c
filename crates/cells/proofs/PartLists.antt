-- The parts of a volume by themselves, and the places that they have in it.
use Rattle.std.proofs.Common.{◌≡◌, ℕ, zero, suc, ◌+◌, ◌<◌, ◌≤◌, List, [], ◌∷◌, ◌++◌, length, take, drop, inl, inr, refl, ap, sym, ◌∙◌, subst, arith}
use Rattle.std.proofs.lemmas.Int.{ints}
use Rattle.std.proofs.lemmas.List.{length-drop, take-append-le, drop-append-le, length-take-le, take_at, drop_at}
use Rattle.std.proofs.lemmas.List.Elements.{All-drop, All-take}
use Rattle.limits.specs.declared.bounds.TheConstants.{MOST_CHANNELS}
use Rattle.std.specs.Prelude.{ℤ, pos, ◌+ℤ◌, ◌-ℤ◌, ◌≤ℤ◌, Option, Some, None, IsSome, All, option_and_then, slice_get}
use mathlib.Core.Bool.{false≢true}
use Rattle.cells.specs.declared.place.At.{At}
use Rattle.cells.specs.declared.place.Size.{Size}
use Rattle.cells.specs.declared.sizes.PartPlace.{PartPlace}
use Rattle.cells.specs.Places.{IsInside, IsSmall, cell_count, index_in}
use Rattle.cells.specs.Parts.{AreParts, count_from, index_from, or_later, past}
use Rattle.cells.specs.Cells.{Cells, IsCell, IsOnePart, IsVolume, cell_at, sizes_of, with_part}
use Rattle.cells.specs.SizeLists.{IsPartAlong, IsPartPlace, frames_to_part, stock_place}
use Rattle.cells.specs.PartLists.{HasOnePart, IsPartOf, StandsIn, one_part_of, part_numbered, parts_from, parts_of}
use Rattle.cells.proofs.Raster.{has_index, index_below}
use Rattle.cells.proofs.BoxTests.{of_inside, on_axis_bounds}
use Rattle.cells.proofs.PartLaws.{index_back, index_front, one_part, parts_behind, small_of}
use Rattle.cells.proofs.PartBoxes.{found}
use Rattle.cells.proofs.PartPlaces.{behind_of, in_front, none_behind, of_behind}

-- reads of a piece of a list
get_drop : {X : Type 0} (xs : List X) (n j : ℕ) → slice_get xs (n + j) ≡ slice_get (drop n xs) j
get_drop xs zero j = ap (slice_get xs) (let e : 0 + j ≡ j = omega arith in e)
get_drop [] (suc n) j = refl
get_drop (x ∷ xs) (suc n) j = ap (slice_get (x ∷ xs)) (let e : suc n + j ≡ suc (n + j) = omega arith in e) ∙ get_drop xs n j

get_take : {X : Type 0} (xs : List X) (n j : ℕ) → j < n → slice_get (take n xs) j ≡ slice_get xs j
get_take xs zero j lt = absurd (omega (arith, lt))
get_take [] (suc n) j lt = refl
get_take (x ∷ xs) (suc n) zero lt = refl
get_take (x ∷ xs) (suc n) (suc j) lt = get_take xs n j (omega (arith, lt))

-- a place of part n of those from a first one on, as the first counts it
abbrev pub along : List Size → ℕ → At → At
along sizes n p = record { x = p.x; y = p.y; f = p.f +ℤ pos (frames_to_part sizes n) }

along_first : (size : Size) (more : List Size) (p : At) → along (size ∷ more) 0 p ≡ p
along_first size more p = λ k. record { x = p.x; y = p.y; f = same p.f k }
  where
    same : (z : ℤ) → z +ℤ pos 0 ≡ z
    same z = omega (arith, ints)

past_along : (size : Size) (more : List Size) (n : ℕ) (p : At) → past size (along (size ∷ more) (suc n) p) ≡ along more n p
past_along size more n p = λ k. record { x = p.x; y = p.y; f = same p.f (frames_to_part more n) k }
  where
    same : (z : ℤ) (m : ℕ) → (z +ℤ pos (size.f + 1 + m)) -ℤ pos (size.f + 1) ≡ z +ℤ pos m
    same z m = omega (arith, ints)

outside_of : (size : Size) (p : At) → pos size.f ≤ℤ p.f → index_in size p ≡ None
outside_of size p behind = by (index_in size p) refl
  where
    by : (o : Option ℕ) → index_in size p ≡ o → o ≡ None
    by None e = refl
    by (Some i) e = absurd (omega (arith, ints, behind, (on_axis_bounds size.f p.f (of_inside size p (subst IsSome (sym e) refl)).f).1))

no_part : {X : Type 0} (xs : List X) (n : ℕ) (x : X) (P : Type 0) → xs ≡ [] → slice_get xs n ≡ Some x → P
no_part xs n x P none e = let empty : slice_get [] n ≡ Some x = subst (λ ys. slice_get ys n ≡ Some x) none e in cc

some_same : {A : Type 0} (x y : A) → Some x ≡ Some y → x ≡ y
some_same x y e = cc

read_behind : (cells : List (List ℕ)) (n : ℕ) (o : Option ℕ) → option_and_then (slice_get cells) (or_later None n o) ≡ option_and_then (slice_get (drop n cells)) o
read_behind cells n None = refl
read_behind cells n (Some j) = get_drop cells n j

read_front : (cells : List (List ℕ)) (n : ℕ) (o : Option ℕ) → ((i : ℕ) → o ≡ Some i → i < n) → option_and_then (slice_get cells) o ≡ option_and_then (slice_get (take n cells)) o
read_front cells n None below = refl
read_front cells n (Some i) below = sym (get_take cells n i (below i refl))

-- each part has its cells in the volume
pub stands_from : (k : ℕ) (size : Size) (more : List Size) (cells : List (List ℕ)) (n : ℕ) (part : Cells) (p : At) → slice_get (parts_from k size more cells) n ≡ Some part → IsInside part.size p
    → option_and_then (slice_get cells) (index_from size more (along (size ∷ more) n p)) ≡ cell_at part p
stands_from k size [] cells zero part p is inside =
    ap (λ q. option_and_then (slice_get cells) (index_in size q)) (along_first size [] p) ∙ ap (λ (v : Cells). cell_at v p) (some_same _ _ is)
stands_from k size [] cells (suc n) part p is inside = cc
stands_from k size (next ∷ more) cells zero part p is inside =
    let same : one_part_of size k (take (cell_count size) cells) ≡ part = some_same _ _ is in
    let here : IsInside size p = subst (λ (v : Cells). IsInside v.size p) (sym same) inside in
    ap (λ q. option_and_then (slice_get cells) (index_from size (next ∷ more) q)) (along_first size (next ∷ more) p)
    ∙ ap (option_and_then (slice_get cells)) (index_front size (next ∷ more) p _ (has_index (index_in size p) 0 here) ∙ sym (has_index (index_in size p) 0 here))
    ∙ read_front cells (cell_count size) (index_in size p) (λ i. index_below size p i) ∙ ap (λ (v : Cells). cell_at v p) same
stands_from k size (next ∷ more) cells (suc n) part p is inside =
    let from : pos 0 ≤ℤ p.f = (on_axis_bounds part.size.f p.f (of_inside part.size p inside).f).0 in
    let q = along (size ∷ next ∷ more) (suc n) p in
    ap (option_and_then (slice_get cells)) (index_back size next more q (outside_of size q (omega (arith, ints, from))))
    ∙ read_behind cells (cell_count size) (index_from next more (past size q))
    ∙ ap (λ r. option_and_then (slice_get (drop (cell_count size) cells)) (index_from next more r)) (past_along size (next ∷ more) n p)
    ∙ stands_from k next more (drop (cell_count size) cells) n part p is inside

pub stands_in : (v : Cells) (number : ℕ) (part : Cells) → part_numbered v number ≡ Some part → StandsIn v number part
stands_in v zero part is p inside = cc
stands_in v (suc n) part is p inside = stands_from v.k v.size v.more v.cells n part p is inside

-- what the buffer of some parts has: as many cells as they need, each of k samples
pub record AreCells (k : ℕ) (size : Size) (more : List Size) (cells : List (List ℕ)) : Type 0 where
  pub parts : AreParts size more
  pub samples : (1 ≤ k) × (k ≤ MOST_CHANNELS)
  pub count : length cells ≡ count_from size more
  pub each : All (IsCell k) cells

one_volume : (k : ℕ) (size : Size) (cells : List (List ℕ)) → IsSmall size → (1 ≤ k) × (k ≤ MOST_CHANNELS) → length cells ≡ cell_count size → All (IsCell k) cells → IsVolume (one_part_of size k cells)
one_volume k size cells small samples count each = record { small = small; parts = one_part size small; samples = samples; count = count; cells = each }

cells_behind : (k : ℕ) (size next : Size) (more : List Size) (cells : List (List ℕ)) → AreCells k size (next ∷ more) cells → AreCells k next more (drop (cell_count size) cells)
cells_behind k size next more cells are = record {
  parts = parts_behind size next more are.parts;
  samples = are.samples;
  count = omega (arith, are.count, length-drop (cell_count size) cells);
  each = All-drop (IsCell k) (cell_count size) cells are.each;
}

-- a part is a volume of one part
pub record IsOne (sizes : List Size) (n : ℕ) (part : Cells) : Type 0 where
  pub volume : IsVolume part
  pub one : IsOnePart part
  pub size : slice_get sizes n ≡ Some part.size

pub is_one : (k : ℕ) (size : Size) (more : List Size) (cells : List (List ℕ)) (n : ℕ) (part : Cells) → AreCells k size more cells → slice_get (parts_from k size more cells) n ≡ Some part → IsOne (size ∷ more) n part
is_one k size [] cells zero part are is =
    subst (IsOne (size ∷ []) 0) (some_same _ _ is)
    (record { volume = one_volume k size cells (small_of size [] are.parts) are.samples are.count are.each; one = refl; size = refl })
is_one k size [] cells (suc n) part are is = cc
is_one k size (next ∷ more) cells zero part are is =
    subst (IsOne (size ∷ next ∷ more) 0) (some_same _ _ is) (record {
      volume = one_volume k size (take (cell_count size) cells) (small_of size (next ∷ more) are.parts) are.samples
          (length-take-le (cell_count size) cells (omega (arith, are.count))) (All-take (IsCell k) (cell_count size) cells are.each);
      one = refl;
      size = refl;
    })
is_one k size (next ∷ more) cells (suc n) part are is =
    let one = is_one k next more (drop (cell_count size) cells) n part (cells_behind k size next more cells are) is in
    record { volume = one.volume; one = one.one; size = one.size }

pub is_part : (v : Cells) (number : ℕ) (part : Cells) → IsVolume v → part_numbered v number ≡ Some part → IsPartOf v number part
is_part v zero part volume is = cc
is_part v (suc n) part volume is =
    let one = is_one v.k v.size v.more v.cells n part (record { parts = volume.parts; samples = volume.samples; count = volume.count; each = volume.cells }) is in
    record { volume = one.volume; one = one.one; size = one.size }

-- one part more
joined_from : (k : ℕ) (size : Size) (more : List Size) (cells : List (List ℕ)) (last : Size) (other : List (List ℕ)) → length cells ≡ count_from size more
    → parts_from k size (more ++ last ∷ []) (cells ++ other) ≡ parts_from k size more cells ++ one_part_of last k other ∷ []
joined_from k size [] cells last other count =
    (λ i. one_part_of size k (take_at cells other (cell_count size) count i) ∷ one_part_of last k (drop_at cells other (cell_count size) count i) ∷ [])
joined_from k size (next ∷ more) cells last other count =
    let first : cell_count size ≤ length cells = omega (arith, count) in
    (λ i. one_part_of size k (take-append-le (cell_count size) cells other first i) ∷ parts_from k next (more ++ last ∷ []) (drop-append-le (cell_count size) cells other first i))
    ∙ ap (λ parts. one_part_of size k (take (cell_count size) cells) ∷ parts) (joined_from k next more (drop (cell_count size) cells) last other (omega (arith, count, length-drop (cell_count size) cells)))

pub joined_parts : (v part : Cells) → length v.cells ≡ count_from v.size v.more → IsOnePart part → part.k ≡ v.k → parts_of (with_part v part) ≡ parts_of v ++ part ∷ []
joined_parts v part count one same =
    joined_from v.k v.size v.more v.cells part.size part.cells count
    ∙ ap (λ (last : Cells). parts_of v ++ last ∷ []) (λ i. record { size = part.size; more = sym one i; k = sym same i; cells = part.cells })

-- a place is inside where a part has it
inside_along : (number : ℕ) (size : Size) (more : List Size) (p : At) → IsSome (index_from size more p) → (there : PartPlace) × IsPartAlong number (size ∷ more) p there
inside_along number size [] p inside = (record { part = number; at = p }, in_front number size [] p inside)
inside_along number size (next ∷ more) p inside =
    elim (found size next more p inside) [
      | inl here ↦ (record { part = number; at = p }, in_front number size (next ∷ more) p here)
      | inr behind ↦
          let rest = inside_along (number + 1) next more (past size p) (subst IsSome (sym behind.index) refl) in
          (rest.0, of_behind number size (next ∷ more) p rest.0 rest.1)
    ]

-- a part that has a place inside the first is the first
first_has : (number : ℕ) (size : Size) (more : List Size) (p : At) (there : PartPlace) → IsInside size p → IsPartAlong number (size ∷ more) p there → there ≡ record { part = number; at = p }
first_has number size more p there inside along' = by along'.before along'.part along'.size along'.inside along'.stock
  where
    by : (before : ℕ) → there.part ≡ number + before → (s : Size) → IsInside s there.at → along (size ∷ more) before there.at ≡ p → there ≡ record { part = number; at = p }
    by zero part s in' stock = λ k. record { part = (let e : there.part ≡ number = omega (arith, part) in e) k; at = (sym (along_first size more there.at) ∙ stock) k }
    by (suc n) part s in' stock =
        let f : there.at.f +ℤ pos (size.f + 1 + frames_to_part more n) ≡ p.f = λ k. (stock k).f in
        let from = (on_axis_bounds s.f there.at.f (of_inside s there.at in').f).0 in
        let below = (on_axis_bounds size.f p.f (of_inside size p inside).f).1 in
        absurd (omega (arith, ints, f, from, below))

outside : (size : Size) (p : At) → index_in size p ≡ None → IsInside size p → ⊥
outside size p e inside = false≢true (subst IsSome e inside)

-- and a place that a part has is inside
by_index : (size : Size) (more : List Size) (p : At) (o : Option ℕ) → index_in size p ≡ o → (index_in size p ≡ None → IsSome (index_from size more p)) → IsSome (index_from size more p)
by_index size more p (Some i) e rest = subst IsSome (sym (index_front size more p i e)) refl
by_index size more p None e rest = rest e

along_inside : (number : ℕ) (size : Size) (more : List Size) (p : At) (there : PartPlace) → IsPartAlong number (size ∷ more) p there → IsSome (index_from size more p)
along_inside number size [] p there has =
    by_index size [] p (index_in size p) refl (λ e. absurd (none_behind (number + 1) (past size p) there (behind_of number size [] p there (outside size p e) has)))
along_inside number size (next ∷ more) p there has =
    by_index size (next ∷ more) p (index_in size p) refl (λ e.
    let rest = along_inside (number + 1) next more (past size p) there (behind_of number size (next ∷ more) p there (outside size p e) has) in
    subst IsSome (sym (index_back size next more p e ∙ ap (or_later None (cell_count size)) (has_index (index_from next more (past size p)) 0 rest))) refl)

-- two parts that have a place are one
one_along : (number : ℕ) (sizes : List Size) (p : At) (there other : PartPlace) → IsPartAlong number sizes p there → IsPartAlong number sizes p other → there ≡ other
one_along number [] p there other has has' = absurd (none_behind number p there has)
one_along number (size ∷ more) p there other has has' = by (index_in size p) refl (λ e.
    one_along (number + 1) more (past size p) there other (behind_of number size more p there (outside size p e) has) (behind_of number size more p other (outside size p e) has'))
  where
    by : (o : Option ℕ) → index_in size p ≡ o → (index_in size p ≡ None → there ≡ other) → there ≡ other
    by (Some i) e rest =
        let inside : IsInside size p = subst IsSome (sym e) refl in
        first_has number size more p there inside has ∙ sym (first_has number size more p other inside has')
    by None e rest = rest e

-- the place of a part leads back
leads_back : (sizes : List Size) (p : At) (there : PartPlace) → IsPartPlace sizes p there → stock_place sizes there.part there.at ≡ p
leads_back sizes p there has = ap (λ n. stock_place sizes n there.at) (let e : there.part ≡ suc has.before = omega (arith, has.part) in e) ∙ has.stock

pub one_part_has : (v : Cells) (p : At) → HasOnePart v p
one_part_has v p = record {
  inside = (inside_along 1 v.size v.more p, λ found. along_inside 1 v.size v.more p found.0 found.1);
  back = leads_back (sizes_of v) p;
  one = one_along 1 (sizes_of v) p;
}
