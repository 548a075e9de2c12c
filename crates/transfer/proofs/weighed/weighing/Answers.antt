use Rattle.std.proofs.Common.{◌≡◌, ap, sym, ◌∙◌, subst, subst₂}
use Rattle.cells.specs.declared.place.Box3.{Box3}
use Rattle.cells.specs.Cells.{Cells, IsVolume, with_part}
use Rattle.map_canvas.specs.Canvases.{CanvasState}
use Rattle.map_canvas.specs.Choices.{Fits}
use Rattle.search_squares.specs.Eliminations.{AreSampleSums}
use Rattle.transfer.specs.declared.weighing.Weighing.{Weighing}
use Rattle.targets.specs.Joined.{CanBeJoined, IsTargetBox, at_first}
use Rattle.targets.specs.Targets.{by_target}
use Rattle.transfer.proofs.Serving.{sums_serve}
use Rattle.transfer.proofs.Weighings.{weighing_errors, weighing_ready}
use Rattle.transfer.proofs.weighed.weighing.Goals as goal

pub gather-requires-2-clause-sums : goal.gather-requires-2-clause-sums
gather-requires-2-clause-sums c =
    let can : CanBeJoined c.args.sample.now c.args.target.now = record { sample_part = c.requires.part; target_part = c.requires.target.part; samples = c.requires.target.samples } in
    subst (λ (v : Cells). AreSampleSums v c.args.search.now.sums) (sym c.requires.search.joined)
    (sums_serve c.args.sample.now c.args.target.now c.samples-sample.ensures.volume can c.args.search.now.sums c.requires.search.sums)

pub returns : goal.returns
returns c =
    let sample = c.args.sample.now in
    let target = c.args.target.now in
    let rect = c.args.rect.now in
    let here = c.in_ok-here.ensures in
    let there = c.in_ok-there.ensures in
    let e : Weighing = record { alpha = c.args.alpha; first = c.at_first-first.result; here = c.in_ok-here.here; there = c.in_ok-there.there } in
    let volume : IsVolume e.here.sample.now = subst IsVolume (sym here.sample) c.samples-sample.ensures.volume in
    let other : IsVolume e.there.sample.now = subst IsVolume (sym there.sample) c.samples-joined.ensures.volume in
    let can : CanBeJoined e.here.sample.now target = subst (λ (v : Cells). CanBeJoined v target) (sym here.sample) (record { sample_part = c.requires.part; target_part = c.requires.target.part; samples = c.requires.target.samples }) in
    let box : IsTargetBox e.here.sample.now target e.there.sample.now e.here.rect e.there.canvas.now =
    subst₂ (λ (v w : Cells). IsTargetBox v target w e.here.rect e.there.canvas.now) (sym here.sample) (sym there.sample)
    (subst₂ (λ (r : Box3) (a : CanvasState). IsTargetBox sample target c.args.search.now.joined r a) (sym here.rect) (sym there.canvas) c.requires.aim) in
    let joined : e.there.sample.now ≡ with_part e.here.sample.now target = there.sample ∙ c.requires.search.joined ∙ ap (λ (v : Cells). with_part v target) (sym here.sample) in
    let size = c.requires.target.size ∙ ap (λ (a : CanvasState). a.map.size) (sym here.canvas) in
    let first : e.first ≡ at_first e.here.rect = c.at_first-first.ensures ∙ ap at_first (sym here.rect) in
    let sums : AreSampleSums e.here.sample.now e.there.sums.now = subst₂ AreSampleSums (sym here.sample) (sym there.sums) c.requires.search.sums in
    record {
      ready = weighing_ready e target here.ready there.ready volume other can box joined size first there.rect c.requires.alpha sums;
      canvas_is = here.canvas;
      sample_is = here.sample;
      rect_is = here.rect;
      errors = λ p same fits.
          weighing_errors e target here.ready there.ready volume other can box joined size first there.rect c.requires.alpha sums p (same ∙ sym here.rect)
          (subst₂ (λ (a : CanvasState) (v : Cells). Fits a.map.size v p) (sym here.canvas) (sym here.sample) fits)
          ∙ (λ i. by_target c.args.alpha target (here.sample i) (here.canvas i).map p);
    }
