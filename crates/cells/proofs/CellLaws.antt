-- What each place of a volume has, also after a cell is put in.
use Rattle.std.proofs.Common.{◌≡◌, ◌≢◌, ℕ, zero, suc, ◌<◌, List, [], ◌∷◌, length, refl, ap, sym, ◌∙◌, subst, arith, get_or}
use Rattle.std.specs.Prelude.{Option, Some, None, IsSome, slice_get, slice_set, option_and_then, unwrap_or, All}
use Rattle.std.proofs.lemmas.Option.{slice_get-get_or}
use Rattle.std.proofs.lemmas.List.{length-set}
use Rattle.std.proofs.lemmas.List.Elements.{All-set}
use mathlib.Core.Bool.{false≢true}
use Rattle.cells.specs.declared.place.At.{At}
use Rattle.cells.specs.declared.place.Size.{Size}
use Rattle.cells.specs.Places.{IsInside, index_in}
use Rattle.cells.specs.Parts.{count_from, index_from}
use Rattle.cells.specs.Cells.{Cells, IsCell, IsVolume, HasCell, IsInsideOf, IsOnePart, cell_at, index_of, put_cell, set_nth}
use Rattle.cells.proofs.Raster.{has_index}
use Rattle.cells.proofs.PartLaws.{one_place_from, index_from_below, index_front}

-- reads of a list after a write
pub get-set_same : {X : Type 0} (xs : List X) (i : ℕ) (x : X) → i < length xs → slice_get (slice_set xs i x) i ≡ Some x
get-set_same [] i x lt = absurd (omega arith)
get-set_same (y ∷ xs) zero x lt = refl
get-set_same (y ∷ xs) (suc i) x lt = get-set_same xs i x (omega arith)

pub get-set_other : {X : Type 0} (xs : List X) (i j : ℕ) (x : X) → j ≢ i → slice_get (slice_set xs i x) j ≡ slice_get xs j
get-set_other [] i j x apart = refl
get-set_other (y ∷ xs) zero zero x apart = absurd (apart refl)
get-set_other (y ∷ xs) zero (suc j) x apart = refl
get-set_other (y ∷ xs) (suc i) zero x apart = refl
get-set_other (y ∷ xs) (suc i) (suc j) x apart = get-set_other xs i j x (λ e. apart (ap suc e))

-- what an option holds, if anything, is a cell
abbrev pub IfCell : ℕ → Option (List ℕ) → Type 0
IfCell k None = Unit {0}
IfCell k (Some cell) = IsCell k cell

pub cell_at-index : (v : Cells) (p : At) (i : ℕ) → index_of v p ≡ Some i → cell_at v p ≡ slice_get v.cells i
cell_at-index v p i at = ap (option_and_then (slice_get v.cells)) at

pub cell_at-outside : (v : Cells) (p : At) → index_of v p ≡ None → cell_at v p ≡ None
cell_at-outside v p out = ap (option_and_then (slice_get v.cells)) out

-- each place inside has a cell
pub indexed_has_cell : (v : Cells) → length v.cells ≡ count_from v.size v.more → (p : At) → IsInsideOf v p → HasCell v p
indexed_has_cell v whole p inside =
    let i = unwrap_or (index_of v p) 0 in
    let at : index_of v p ≡ Some i = has_index (index_of v p) 0 inside in
    subst IsSome (sym (cell_at-index v p i at ∙ slice_get-get_or v.cells i [] (subst (λ n. i < n) (sym whole) (index_from_below v.size v.more p i at)))) refl

pub cell_by_index : (v : Cells) → IsVolume v → (p : At) (i : ℕ) → index_of v p ≡ Some i → cell_at v p ≡ Some (get_or v.cells i [])
cell_by_index v is p i at = cell_at-index v p i at ∙ slice_get-get_or v.cells i [] (subst (λ n. i < n) (sym is.count) (index_from_below v.size v.more p i at))

-- so has each place inside the first part, as its index there says
pub cell_is : (v : Cells) → IsVolume v → (p : At) (i : ℕ) → index_in v.size p ≡ Some i → cell_at v p ≡ Some (get_or v.cells i [])
cell_is v is p i at = cell_by_index v is p i (index_front v.size v.more p i at)

pub inside_part : (v : Cells) (p : At) → IsInside v.size p → IsInsideOf v p
inside_part v p inside = subst IsSome (sym (index_front v.size v.more p _ (has_index (index_in v.size p) 0 inside))) refl

pub inside_has_cell : (v : Cells) → IsVolume v → (p : At) → IsInside v.size p → HasCell v p
inside_has_cell v is p inside = indexed_has_cell v is.count p (inside_part v p inside)

pub cell_has_index : (v : Cells) (p : At) → HasCell v p → IsInsideOf v p
cell_has_index v p has = by (index_of v p) has
  where
    by : (o : Option ℕ) → IsSome (option_and_then (slice_get v.cells) o) → IsSome o
    by None some = absurd (false≢true some)
    by (Some i) some = refl

-- and where there is one part alone, each place with a cell is inside it
pub cell_is_inside : (v : Cells) → IsOnePart v → (p : At) → HasCell v p → IsInside v.size p
cell_is_inside v one p has = subst (λ (more : List Size). IsSome (index_from v.size more p)) one (cell_has_index v p has)

pub cell_is_cell : (v : Cells) → IsVolume v → (p : At) → IfCell v.k (cell_at v p)
cell_is_cell v is p = by (index_of v p) refl
  where
    by : (o : Option ℕ) → index_of v p ≡ o → IfCell v.k (cell_at v p)
    by None out = subst (IfCell v.k) (sym (cell_at-outside v p out)) tt
    by (Some i) at = subst (IfCell v.k) (sym (cell_by_index v is p i at)) (is.cells i [] (subst (λ n. i < n) (sym is.count) (index_from_below v.size v.more p i at)))

-- the law of a write, place by place
pub cell_at-put_same : (v : Cells) → IsVolume v → (p : At) (cell : List ℕ) → IsInside v.size p → cell_at (put_cell v p cell) p ≡ Some cell
cell_at-put_same v is p cell inside =
    let i = unwrap_or (index_of v p) 0 in
    let at : index_of v p ≡ Some i = has_index (index_of v p) 0 (inside_part v p inside) in
    cell_at-index (put_cell v p cell) p i at ∙ ap (λ o. slice_get (set_nth v.cells o cell) i) at
    ∙ get-set_same v.cells i cell (subst (λ n. i < n) (sym is.count) (index_from_below v.size v.more p i at))

pub cell_at-put_other : (v : Cells) (p q : At) (cell : List ℕ) → p ≢ q → cell_at (put_cell v p cell) q ≡ cell_at v q
cell_at-put_other v p q cell apart = by (index_of v p) (index_of v q) refl refl
  where
    by : (i j : Option ℕ) → index_of v p ≡ i → index_of v q ≡ j → option_and_then (slice_get (set_nth v.cells i cell)) j ≡ option_and_then (slice_get v.cells) j
    by None j ei ej = refl
    by (Some i) None ei ej = refl
    by (Some i) (Some j) ei ej = get-set_other v.cells i j cell (λ e. apart (one_place_from v.size v.more p q i ei (subst (λ k. index_of v q ≡ Some k) e ej)))

pub length-set_nth : {X : Type 0} (xs : List X) (i : Option ℕ) (x : X) → length (set_nth xs i x) ≡ length xs
length-set_nth xs None x = refl
length-set_nth xs (Some i) x = length-set xs i x

pub All-set_nth : {X : Type 0} (P : X → Type 0) (xs : List X) (i : Option ℕ) (x : X) → P x → All P xs → All P (set_nth xs i x)
All-set_nth P xs None x here all = all
All-set_nth P xs (Some i) x here all = All-set P xs i x here all

pub put_is_volume : (v : Cells) → IsVolume v → (p : At) (cell : List ℕ) → IsCell v.k cell → IsVolume (put_cell v p cell)
put_is_volume v is p cell here = record {
  small = is.small;
  parts = is.parts;
  samples = is.samples;
  count = length-set_nth v.cells (index_of v p) cell ∙ is.count;
  cells = All-set_nth (IsCell v.k) v.cells (index_of v p) cell here is.cells;
}
