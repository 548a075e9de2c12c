-- The errors of a box and of the target's box beside it are those of the rating by a target.
use Rattle.std.proofs.Common.{◌≡◌, ◌+◌, ◌-◌, ◌*◌, ◌≤◌, ap, sym, ◌∙◌, subst, subst₂}
use Rattle.limits.specs.declared.bounds.TheConstants.{GREATEST_ALPHA}
use Rattle.cells.specs.declared.place.Box3.{Box3}
use Rattle.cells.specs.declared.place.Size.{Size}
use Rattle.cells.specs.Boxes.{HoldsBox}
use Rattle.cells.specs.Cells.{Cells, Holds, IsVolume, with_part}
use Rattle.cells.specs.Places.{cell_count}
use Rattle.cells.proofs.PartBoxes.{held_small}
use Rattle.map_canvas.specs.declared.canvas.Placement.{Placement}
use Rattle.map_canvas.specs.Choices.{Fits, laid_from}
use Rattle.match_error.specs.Errors.{error_sum}
use Rattle.patch_place.specs.BoxErrors.{IsLow}
use Rattle.patch_place.specs.Overlaps.{AreOverlaps, IsOverlap}
use Rattle.search_squares.specs.Eliminations.{AreSampleSums}
use Rattle.transfer.specs.declared.weighing.Weighing.{Weighing}
use Rattle.targets.specs.Joined.{CanBeJoined, IsTargetBox, at_first}
use Rattle.targets.specs.Targets.{by_target, target_sum}
use Rattle.transfer.specs.Weighing.{IsWeighing, aimed, sum_over, weighed_error}
use Rattle.targets.proofs.Aims.{aim_sum, first_holds}
use Rattle.targets.proofs.Bounds.{overlap_small, weighed_small}
use Rattle.targets.proofs.Joining.{stays_held}

module _ (e : Weighing) (target : Cells) (here : AreOverlaps e.here) (there : AreOverlaps e.there) (volume : IsVolume e.here.sample.now) (other : IsVolume e.there.sample.now)
    (can : CanBeJoined e.here.sample.now target) (box : IsTargetBox e.here.sample.now target e.there.sample.now e.here.rect e.there.canvas.now)
    (joined : e.there.sample.now ≡ with_part e.here.sample.now target) (size : target.size ≡ e.here.canvas.now.map.size) (first : e.first ≡ at_first e.here.rect) (same : e.there.rect ≡ e.first)
    (alpha : e.alpha ≤ GREATEST_ALPHA) (sums : AreSampleSums e.here.sample.now e.there.sums.now) where
  sources : (p : Placement) → IsOverlap e.here p → Holds e.here.sample.now p.from e.here.rect.size
  sources p asked = subst (λ (r : Box3). Holds e.here.sample.now p.from r.size) asked.box asked.fits.sources

  aims : (p : Placement) → IsOverlap e.here p → IsOverlap e.there (aimed e p)
  aims p asked =
      let held : Holds e.there.sample.now p.from e.here.rect.size =
      subst (λ (v : Cells). Holds v p.from e.here.rect.size) (sym joined) (stays_held e.here.sample.now target volume can p.from e.here.rect.size (sources p asked)) in
      let base : Fits e.here.rect.size e.there.sample.now (laid_from (at_first e.here.rect) p.from) = record { some = here.cells; inside = first_holds e.here.rect.size; sources = held } in
      record {
        box = sym same;
        fits = subst₂ (λ (s : Size) (r : Box3). Fits s e.there.sample.now (laid_from r p.from)) (sym box.size) (sym first) base;
      }

  low : (p : Placement) → IsOverlap e.here p → IsLow (weighed_error e p)
  low p asked =
      let n = cell_count e.here.rect.size in
      let over : sum_over e.here p ≤ n * 390150 = subst (λ (r : Box3). sum_over e.here p ≤ cell_count r.size * 390150) asked.box (overlap_small e.here.canvas.now.map e.here.sample.now p volume) in
      let away : sum_over e.there (aimed e p) ≤ n * 390150 =
      subst (λ (r : Box3). sum_over e.there (aimed e p) ≤ cell_count r.size * 390150) first (overlap_small e.there.canvas.now.map e.there.sample.now (aimed e p) other) in
      weighed_small e.alpha (sum_over e.here p) (sum_over e.there (aimed e p)) n alpha over away (held_small e.here.sample.now p.from e.here.rect.size volume here.cells (sources p asked)).cells

  pub weighing_ready : IsWeighing e
  weighing_ready = record { alpha = alpha; here = here; there = there; sums = sums; aims = aims; low = low }

  pub weighing_errors : (p : Placement) → p.rect ≡ e.here.rect → Fits e.here.canvas.now.map.size e.here.sample.now p → weighed_error e p ≡ by_target e.alpha target e.here.sample.now e.here.canvas.now.map p
  weighing_errors p rect fits =
      let held : Holds e.here.sample.now p.from e.here.rect.size = subst (λ (r : Box3). Holds e.here.sample.now p.from r.size) rect fits.sources in
      let inside : HoldsBox target.size e.here.rect.corner e.here.rect.size = subst (λ (s : Size). HoldsBox s e.here.rect.corner e.here.rect.size) (sym size) here.inside in
      let both : IsTargetBox e.here.sample.now target (with_part e.here.sample.now target) e.here.rect e.there.canvas.now =
      subst (λ (v : Cells). IsTargetBox e.here.sample.now target v e.here.rect e.there.canvas.now) joined box in
      let away : sum_over e.there (aimed e p) ≡ target_sum target e.here.sample.now p =
      ap (λ (r : Box3). error_sum e.there.canvas.now.map e.there.sample.now (laid_from r p.from)) first
      ∙ ap (λ (v : Cells). error_sum e.there.canvas.now.map v (laid_from (at_first e.here.rect) p.from)) joined
      ∙ aim_sum e.here.sample.now target volume can e.here.rect e.there.canvas.now both p.from inside held
      ∙ ap (λ (r : Box3). target_sum target e.here.sample.now (laid_from r p.from)) (sym rect) in
      λ i. record { sum = e.alpha * sum_over e.here p + (100 - e.alpha) * away i; count = 1 }
