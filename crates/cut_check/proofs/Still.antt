-- A cell whose pairs have no flow has them within their bounds.
use Rattle.std.proofs.Common.{◌≡◌, ℕ, zero, suc, ◌+◌, ◌≤◌, ap, sym, ◌∙◌, subst, arith, Bool, true, false, List}
use Rattle.std.specs.Prelude.{if◌then◌else◌, slice_index_or}
use Rattle.cells.specs.declared.place.At.{At}
use Rattle.cells.specs.declared.place.Axis.{Axis}
use Rattle.cells.specs.declared.place.Axis.TheVariants.{X, Y, F}
use Rattle.cells.specs.Neighbours.{unit_step}
use Rattle.cells.specs.Places.{plus, raster_index}
use Rattle.cells.specs.Boxes.{cell_in}
use Rattle.map_canvas.specs.Choices.{new_source}
use Rattle.map_canvas.specs.Maps.{SourceMap, map_at}
use Rattle.boxes.specs.Pairs.{has_next, one_if, pair_number, pairs_before}
use Rattle.cut_check.specs.declared.record.CutRecord.{CutRecord}
use Rattle.cut_check.specs.declared.record.Flow.{Flow}
use Rattle.cut_check.specs.Flows.{LeavesNone, no_flow, pair_flow}
use Rattle.cut_check.specs.Steps.{EachAxis, HoldsAlong, IsStill}
use Rattle.cut_check.proofs.PairBounds.{none_bounded}

one_most : (b : Bool) → one_if b ≤ 1
one_most true = omega arith
one_most false = omega arith

each_none : (flows : List Flow) (number k : ℕ) → k ≤ 2 → IsStill flows number → LeavesNone (slice_index_or flows (number + k) no_flow)
each_none flows number zero le still = let e : number ≡ number + 0 = omega arith in subst (λ n. LeavesNone (slice_index_or flows n no_flow)) e still.first
each_none flows number (suc zero) le still = let e : number + 1 ≡ number + suc zero = omega arith in subst (λ n. LeavesNone (slice_index_or flows n no_flow)) e still.second
each_none flows number (suc (suc zero)) le still = let e : number + 2 ≡ number + suc (suc zero) = omega arith in subst (λ n. LeavesNone (slice_index_or flows n no_flow)) e still.third
each_none flows number (suc (suc (suc k))) le still = absurd (omega arith)

module _ (d : At → At → ℕ) (m : SourceMap) (cut : CutRecord) (x y f number : ℕ) (is : number ≡ pairs_before cut.placement.rect.size (raster_index cut.placement.rect.size x y f)) (still : IsStill cut.flows number) where
  one : (axis : Axis) (k : ℕ) → k ≤ 2 → number + k ≡ pair_number cut.placement.rect.size axis x y f → HoldsAlong d m cut x y f axis
  one axis k le e next =
      let size = cut.placement.rect.size in
      let p = cell_in cut.placement.rect x y f in
      let q = plus p (unit_step axis) in
      let flow : slice_index_or cut.flows (number + k) no_flow ≡ pair_flow size cut.flows axis x y f =
      ap (λ n. slice_index_or cut.flows n no_flow) e ∙ sym (ap (λ b. if b then slice_index_or cut.flows (pair_number size axis x y f) no_flow else no_flow) next) in
      none_bounded d axis (map_at m p) (map_at m q) (new_source cut.placement p) (new_source cut.placement q) _ (subst LeavesNone flow (each_none cut.flows number k le still))

  pub still_holds : EachAxis (HoldsAlong d m cut x y f)
  still_holds X = one X 0 (omega arith) (omega (arith, is))
  still_holds Y = one Y (one_if (has_next cut.placement.rect.size X x y f)) (omega (arith, one_most (has_next cut.placement.rect.size X x y f))) (omega (arith, is))
  still_holds F =
      one F (one_if (has_next cut.placement.rect.size X x y f) + one_if (has_next cut.placement.rect.size Y x y f))
      (omega (arith, one_most (has_next cut.placement.rect.size X x y f), one_most (has_next cut.placement.rect.size Y x y f))) (omega (arith, is))
