-- The sums of all products at an offset add up to the overlap error of the placement there.
use Rattle.std.proofs.Common.{◌≡◌, ℕ, suc, ◌+◌, ◌*◌, ◌%◌, ◌<◌, ◌≤◌, refl, sym, ap, ◌∙◌, subst, arith}
use Rattle.std.specs.Prelude.{Option, Some, None, IfSome, IsSome, pos, ◌+ℤ◌}
use Rattle.std.proofs.lemmas.Int.{ints}
use Rattle.cells.specs.declared.place.At.{At}
use Rattle.cells.specs.declared.place.Box3.{Box3}
use Rattle.cells.specs.declared.place.Size.{Size}
use Rattle.cells.specs.Boxes.{cell_in}
use Rattle.cells.specs.Cells.{Cells, IsVolume, HasCell}
use Rattle.cells.specs.Places.{IsSmall, cell_count, plus, raster_index, spot}
use Rattle.cells.proofs.BoxLaws.{plus_minus}
use Rattle.cells.proofs.Raster.{index_of_spot}
use Rattle.cells.proofs.Steps.{plus_assoc}
use Rattle.boxes.specs.Pairs.{AreCounts}
use Rattle.boxes.specs.Sums.{sum_box, sum_to}
use Rattle.boxes.proofs.Additions.{counts}
use Rattle.boxes.proofs.Axes.{sum_equal, sum_exchange}
use Rattle.boxes.proofs.Boxes.{box_equal, box_related}
use Rattle.cyclic_products.specs.declared.residues.TheConstants.{LAST, PRIME}
use Rattle.cyclic_products.specs.Products.{offset_at}
use Rattle.cyclic_products.specs.Residues.{IsCongruent}
use Rattle.cyclic_products.proofs.SameNumbers.{same_equal, same_plus, same_refl, same_trans}
use Rattle.map_canvas.specs.declared.canvas.Placement.{Placement}
use Rattle.map_canvas.specs.CellErrors.{cell_error, spot_error}
use Rattle.map_canvas.specs.Choices.{Fits, new_source}
use Rattle.map_canvas.specs.Maps.{SourceMap, IsOver, map_at, sample_cell}
use Rattle.map_canvas.proofs.Filling.{new_sources}
use Rattle.match_error.specs.Errors.{error_sum}
use Rattle.match_error.proofs.Bounds.{error_small}
use Rattle.offset_errors.specs.Numbers.{box_number, new_number, part_number, source_number}
use Rattle.offset_errors.specs.Offsets.{IsAtOffset, box_list, part_list}
use Rattle.offset_errors.specs.Padded.{HoldsBoth}
use Rattle.offset_errors.proofs.CellSums.{cell_sum}
use Rattle.offset_errors.proofs.PlacedSums.{sum_at_offset}

-- sums over a box, and the sum of them
sums_exchange : (n : ℕ) (size : Size) (g : ℕ → ℕ → ℕ → ℕ → ℕ) → sum_to n (λ j. sum_box size (g j)) ≡ sum_box size (λ x y f. sum_to n (λ j. g j x y f))
sums_exchange n size g =
    sum_exchange counts n size.f (λ j f. sum_to size.h (λ y. sum_to size.w (λ x. g j x y f)))
    ∙ sum_equal counts size.f (λ f. sum_to n (λ j. sum_to size.h (λ y. sum_to size.w (λ x. g j x y f)))) (λ f. sum_to size.h (λ y. sum_to size.w (λ x. sum_to n (λ j. g j x y f))))
    (λ f lf. sum_exchange counts n size.h (λ j y. sum_to size.w (λ x. g j x y f))
    ∙ sum_equal counts size.h (λ y. sum_to n (λ j. sum_to size.w (λ x. g j x y f))) (λ y. sum_to size.w (λ x. sum_to n (λ j. g j x y f)))
    (λ y ly. sum_exchange counts n size.w (λ j x. g j x y f)))

-- a cell that is further on from a place that is further on
pub further : (p : At) (a b c x y f : ℕ) → plus p (spot (a + x) (b + y) (c + f)) ≡ plus (plus p (spot a b c)) (spot x y f)
further p a b c x y f =
    let on_x : pos (a + x) ≡ pos a +ℤ pos x = omega (arith, ints) in
    let on_y : pos (b + y) ≡ pos b +ℤ pos y = omega (arith, ints) in
    let on_f : pos (c + f) ≡ pos c +ℤ pos f = omega (arith, ints) in
    (λ k. plus p (record { x = on_x k; y = on_y k; f = on_f k })) ∙ plus_assoc p (spot a b c) (spot x y f)

-- what a source names has a cell
named : (m : SourceMap) (v : Cells) → IsOver m v → (p : At) → IfSome (map_at m p) (HasCell v)
named m v over p = by (map_at m p) refl
  where
    by : (o : Option At) → map_at m p ≡ o → IfSome o (HasCell v)
    by None e = tt
    by (Some from) e = over p from e

module _ (m : SourceMap) (sample : Cells) (placement : Placement) (small : IsSmall m.size) (is : IsVolume sample) (over : IsOver m sample) (fits : Fits m.size sample placement) where
  -- the products of number j at a cell of the placement
  abbrev product_at : ℕ → ℕ → ℕ → ℕ → ℕ
  product_at j x y f =
      source_number sample j (map_at m (cell_in placement.rect x y f)) * new_number (sample_cell sample (Some (plus placement.from (spot x y f)))) j

  spot_same : (x y f : ℕ) → AreCounts placement.rect.size x y f → IsCongruent LAST (sum_to (suc (suc sample.k)) (λ j. product_at j x y f)) (spot_error m sample placement x y f)
  spot_same x y f are =
      let source = map_at m (cell_in placement.rect x y f) in
      let has = ((new_sources m.size sample placement fits is).steps (spot x y f) (subst IsSome (sym (index_of_spot placement.rect.size x y f are.column are.row are.frame)) refl)).cell in
      let back : plus placement.from (spot x y f) ≡ new_source placement (cell_in placement.rect x y f) = ap (plus placement.from) (sym (plus_minus placement.rect.corner (spot x y f))) in
      same_trans LAST _ (cell_error sample source (plus placement.from (spot x y f))) _
      (cell_sum sample is source (plus placement.from (spot x y f)) (named m sample over (cell_in placement.rect x y f)) has)
      (same_equal LAST _ _ (ap (cell_error sample source) back))

  products_same : IsCongruent LAST (sum_to (suc (suc sample.k)) (λ j. sum_box placement.rect.size (product_at j))) (error_sum m sample placement)
  products_same =
      same_trans LAST _ (sum_box placement.rect.size (λ x y f. sum_to (suc (suc sample.k)) (λ j. product_at j x y f))) _
      (same_equal LAST _ _ (sums_exchange (suc (suc sample.k)) placement.rect.size product_at))
      (box_related counts counts (IsCongruent LAST) (same_refl LAST 0) (λ a c b d p q. same_plus LAST a b c d p q) placement.rect.size
      (λ x y f. sum_to (suc (suc sample.k)) (λ j. product_at j x y f)) (spot_error m sample placement)
      (λ x y f lx ly lf. spot_same x y f (record { column = lx; row = ly; frame = lf })))

  -- the sums of all products at an offset add up to the overlap error there, modulo the prime
  pub error_at_offset : (n : ℕ) (pad lead : Size) (rect part : Box3) (dx dy df : ℕ) → HoldsBoth pad rect.size lead part.size → cell_count pad ≤ n
      → IsAtOffset pad lead rect part dx dy df placement
      → sum_to (suc (suc sample.k)) (λ j. offset_at (box_list n pad m sample rect j) (part_list n pad lead sample part j) (raster_index pad dx dy df)) % PRIME
      ≡ error_sum m sample placement
  error_at_offset n pad lead rect part dx dy df both enough at =
      let each : (j : ℕ) → j < suc (suc sample.k)
      → offset_at (box_list n pad m sample rect j) (part_list n pad lead sample part j) (raster_index pad dx dy df) ≡ sum_box placement.rect.size (product_at j) =
      λ j less.
      sum_at_offset n pad rect.size lead part.size (box_number m sample rect j) (part_number sample part.corner j) both enough
      dx dy df at.a at.b at.c at.t at.u at.v placement.rect.size at.below at.apart at.on_x at.on_y at.on_f
      ∙ box_equal counts placement.rect.size
      (λ x y f. box_number m sample rect j (at.a + x) (at.b + y) (at.c + f) * part_number sample part.corner j (at.t + x) (at.u + y) (at.v + f))
      (product_at j) (λ x y f lx ly lf. λ k.
      source_number sample j (map_at m ((further rect.corner at.a at.b at.c x y f ∙ ap (λ p. plus p (spot x y f)) (sym at.corner)) k))
      * new_number (sample_cell sample (Some ((further part.corner at.t at.u at.v x y f ∙ ap (λ p. plus p (spot x y f)) (sym at.from)) k))) j)
      in
      let all = sum_equal counts (suc (suc sample.k)) (λ j. offset_at (box_list n pad m sample rect j) (part_list n pad lead sample part j) (raster_index pad dx dy df))
      (λ j. sum_box placement.rect.size (product_at j)) each
      in
      let little = error_small m sample placement small is fits in
      let exact : error_sum m sample placement % PRIME ≡ error_sum m sample placement = omega (arith, little) in
      ap (λ s. s % PRIME) all ∙ products_same.same ∙ exact
