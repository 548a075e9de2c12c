-- Runs of cells with the same bytes, the sources of a row in a frame map, and the rows of a picture.
use Rattle.std.proofs.Common.{◌≡◌, ℕ, ◌+◌, ◌-◌, ◌*◌, ◌%◌, ◌<◌, ◌≤◌, List, [], length, get_or, take, drop, refl, ap, sym, ◌∙◌, subst, arith, get_or-take, get_or-drop, ⊎_elim}
use Rattle.std.specs.Prelude.{ℤ, pos, negsuc, ◌+ℤ◌, ◌≤ℤ◌, Option, Some, None, All, IsSome, option_map, unwrap_or}
use Rattle.std.specs.List.{concat}
use Rattle.std.proofs.lemmas.Bool.{cases_lt}
use Rattle.std.proofs.lemmas.Int.{ints}
use Rattle.std.proofs.Math.Nat.{mul-le-mul_left, mul-mod_right}
use Rattle.std.proofs.lemmas.List.{length-drop, length-take-le}
use Rattle.std.proofs.lemmas.List.Elements.{All-take, All-drop}
use Rattle.limits.specs.declared.bounds.TheConstants.{GREATEST_AXIS}
use Rattle.cells.specs.declared.place.At.{At}
use Rattle.cells.specs.declared.place.Size.{Size}
use Rattle.cells.specs.Cells.{Cells, HasRun, Holds, IsCell, IsInsideOf, IsVolume, cell_at, cells_of, index_of, row_at, run_from}
use Rattle.cells.specs.Places.{cell_count, place_of, plus, spot}
use Rattle.cells.proofs.CellLaws.{cell_by_index}
use Rattle.cells.proofs.PartBoxes.{held_run, run_cells, run_of_volume}
use Rattle.cells.proofs.Raster.{has_index}
use Rattle.cells.proofs.Rows.{cells_of-concat}
use Rattle.cells.proofs.Steps.{place_along}
use Rattle.source_map.specs.MapFiles.{frame_entry, frame_source}
use Rattle.standing_files.specs.Standing.{IsCopied}
use Rattle.standing_files.specs.Steps.{IsRunCopied, IsRunSame}

module _ (v : Cells) (is : IsVolume v) (p : At) (w : ℕ) (run : HasRun v p w) where
  abbrev pub first : ℕ
  first = unwrap_or (index_of v p) 0

  at : index_of v p ≡ Some first
  at = has_index (index_of v p) 0 run.first

  abbrev pub cells_along : List (List ℕ)
  cells_along = take w (drop first v.cells)

  fits : first + w ≤ length v.cells
  fits = omega (arith, run_of_volume v p first w at run, is.count)

  whole : length cells_along ≡ w
  whole = length-take-le w (drop first v.cells) (omega (arith, fits, length-drop first v.cells))

  -- the cells of a run are those of its bytes
  pub run_is : cells_of v.k w (row_at v p w) ≡ cells_along
  run_is =
      ap (λ o. cells_of v.k w (run_from v.cells w o)) at ∙ ap (λ n. cells_of v.k n (concat cells_along)) (sym whole)
      ∙ cells_of-concat v.k cells_along (All-take (IsCell v.k) w (drop first v.cells) (All-drop (IsCell v.k) first v.cells is.cells))

  pub run_at : (j : ℕ) → j < w → cell_at v (plus p (spot j 0 0)) ≡ Some (get_or (cells_of v.k w (row_at v p w)) j [])
  run_at j lt =
      cell_by_index v is (plus p (spot j 0 0)) (first + j) (run_cells v p first w at run j lt)
      ∙ ap Some (sym (ap (λ cells. get_or cells j []) run_is ∙ get_or-take w (drop first v.cells) j [] lt ∙ get_or-drop first v.cells j []))

pub runs_same : (samples picture : Cells) → IsVolume samples → IsVolume picture → samples.k ≡ picture.k → (from p : At) (w : ℕ) → HasRun samples from w → HasRun picture p w
    → row_at picture p w ≡ row_at samples from w → IsRunSame samples picture from p w
runs_same samples picture is_s is_p ks from p w run_s run_p same j lt =
    run_at picture is_p p w run_p j lt ∙ (λ i. Some (get_or (cells_of (sym ks i) w (same i)) j [])) ∙ sym (run_at samples is_s from w run_s j lt)

-- a row that a volume holds
pub row_of : (v : Cells) (p : At) (w : ℕ) → 1 ≤ w → Holds v p (record { w = w; h = 1; f = 1 }) → HasRun v p w
row_of v p w some holds =
    let stays : plus p (spot 0 0 0) ≡ p = λ k. record { x = same p.x k; y = same p.y k; f = same p.f k } in
    subst (λ q. HasRun v q w) stays (held_run v p (record { w = w; h = 1; f = 1 }) 0 0 holds some (omega arith) (omega arith))
  where
    same : (z : ℤ) → z +ℤ pos 0 ≡ z
    same z = omega (arith, ints)

-- the source of a cell some columns on
pub source_along : (frames : List ℕ) (p from : At) (j : ℕ) → frame_source frames p ≡ Some from → frame_source frames (plus p (spot j 0 0)) ≡ Some (plus from (spot j 0 0))
source_along frames p from j is = by (frame_entry frames p.f) refl is
  where
    stays : (z : ℤ) → z ≡ z +ℤ pos 0
    stays z = omega (arith, ints)

    by : (entry : Option ℕ) → frame_entry frames p.f ≡ entry → option_map (λ e. record { x = p.x; y = p.y; f = pos e }) entry ≡ Some from
        → frame_source frames (plus p (spot j 0 0)) ≡ Some (plus from (spot j 0 0))
    by None at none = absurd cc
    by (Some e) at some =
        let here : record { x = p.x; y = p.y; f = pos e } ≡ from = cc in
        ap (option_map (λ n. record { x = p.x +ℤ pos j; y = p.y +ℤ pos 0; f = pos n })) (ap (frame_entry frames) (sym (stays p.f)) ∙ at)
        ∙ (λ i. Some (record { x = p.x +ℤ pos j; y = p.y +ℤ pos 0; f = stays (pos e) i })) ∙ ap (λ (q : At). Some (plus q (spot j 0 0))) here

-- the cells of one row more
pub row_more : (size : Size) (row : ℕ) (Holds : At → Type 0) → ((k : ℕ) → k < size.w * row → Holds (place_of size k)) → ((j : ℕ) → j < size.w → Holds (plus (place_of size (size.w * row)) (spot j 0 0)))
    → (k : ℕ) → k < size.w * (row + 1) → Holds (place_of size k)
row_more size row Holds before here k lt =
    let more : size.w * (row + 1) ≡ size.w * row + size.w = grind arith in
    ⊎_elim (before k)
    (λ from.
    let j = k - size.w * row in
    let less : j < size.w = omega (arith, more) in
    let begins : size.w * row % size.w ≡ 0 = mul-mod_right size.w row in
    let at : size.w * row + j ≡ k = omega arith in
    subst (λ i. Holds (place_of size i)) at (subst Holds (sym (place_along size (size.w * row) j (omega (arith, begins)))) (here j less)))
    (cases_lt k (size.w * row))

-- a row ends within the cells
pub row_ends : (size : Size) (row : ℕ) → row < size.h * size.f → size.w * row + size.w ≤ cell_count size
row_ends size row lt =
    let more : size.w * (row + 1) ≡ size.w * row + size.w = grind arith in
    omega (arith, more, mul-le-mul_left size.w (let le : row + 1 ≤ size.h * size.f = omega (arith, lt) in le))

-- the column of a place in a volume
pub near_place : (p : At) (size : Size) (i : ℕ) → p ≡ place_of size i → (1 ≤ size.w) × (size.w ≤ GREATEST_AXIS) → p.x ≤ℤ pos GREATEST_AXIS
near_place p size i same w =
    let x : p.x ≡ pos (i % size.w) = λ k. (same k).x in
    let below : i % size.w < size.w = omega (arith, w.0) in
    omega (arith, ints, x, below, w.1)

-- one run after another
pub run_more : (samples picture : Cells) (source : At → Option At) (p : At) (done n : ℕ) → IsRunCopied samples picture source p done → IsRunCopied samples picture source (plus p (spot done 0 0)) n
    → IsRunCopied samples picture source p (done + n)
run_more samples picture source p done n before here k lt =
    ⊎_elim (before k)
    (λ from.
    let j = k - done in
    let less : j < n = omega arith in
    subst (λ (q : At). IsCopied samples picture (source q) q) (steps_along p j k (omega arith)) (here j less))
    (cases_lt k done)
  where
    steps_along : (p : At) (j k : ℕ) → done + j ≡ k → plus (plus p (spot done 0 0)) (spot j 0 0) ≡ plus p (spot k 0 0)
    steps_along p j k at = λ i. record { x = further p.x at i; y = still p.y i; f = still p.f i }
      where
        further : (z : ℤ) → done + j ≡ k → (z +ℤ pos done) +ℤ pos j ≡ z +ℤ pos k
        further z at = omega (arith, ints, at)

        still : (z : ℤ) → (z +ℤ pos 0) +ℤ pos 0 ≡ z +ℤ pos 0
        still z = omega (arith, ints)
