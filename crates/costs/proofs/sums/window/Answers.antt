use Rattle.std.proofs.Common.{◌∙◌, sym, ap, subst}
use mathlib.Core.Bool.{false≢true}
use Rattle.cells.specs.declared.place.Size.{Size}
use Rattle.cells.specs.Distances.{distance}
use Rattle.map_canvas.specs.Maps.{SourceMap, map_at}
use Rattle.costs.specs.Costs.{window_of}
use Rattle.costs.specs.Intersections.{IsIntersection}
use Rattle.costs.proofs.Inside.{inner_holds, window_nothing, window_same}
use Rattle.costs.proofs.Near.{in_largest}
use Rattle.costs.proofs.sums.window.Goals as goal

pub returns-then-not-has_cells : goal.returns-then-not-has_cells
returns-then-not-has_cells c =
    let rect = c.args.rect.now in
    let size = c.size.ensures.size ∙ ap (λ (m : SourceMap). m.size) c.map-map.ensures.map in
    let is = subst (λ (size : Size). IsIntersection size rect c.intersection-inner.result) size c.intersection-inner.ensures in
    sym (window_nothing (distance c.args.sample.now) c.args.canvas.now.map rect c.intersection-inner.result is
    (λ some. false≢true (sym c.if-not-has_cells.true ∙ c.has_cells.ensures.1 some)))

pub pairs_of_box-requires : goal.pairs_of_box-requires
pairs_of_box-requires c =
    let inner = c.intersection-inner.result in
    let map = c.map-map.result.now in
    let is = subst (λ (size : Size). IsIntersection size c.args.rect.now inner) c.size.ensures.size c.intersection-inner.ensures in
    in_largest map.size inner.corner inner.size c.size.ensures.map.small (inner_holds (distance c.args.sample.now) map c.args.rect.now inner is (c.has_cells.ensures.0 c.if-not-has_cells.false))

pub returns : goal.returns
returns c =
    let rect = c.args.rect.now in
    let d = distance c.args.sample.now in
    let inner = c.intersection-inner.result in
    let size = c.size.ensures.size ∙ ap (λ (m : SourceMap). m.size) c.map-map.ensures.map in
    let is = subst (λ (size : Size). IsIntersection size rect inner) size c.intersection-inner.ensures in
    c.pairs_of_box.ensures ∙ ap (λ (m : SourceMap). window_of d inner (map_at m)) c.map-map.ensures.map
    ∙ window_same d c.args.canvas.now.map rect inner is
