use Rattle.std.proofs.Common.{◌≡◌, ◌+◌, sym, ap, ◌∙◌, subst, arith}
use Rattle.std.specs.Prelude.{Some, IsSome}
use Rattle.cells.specs.Boxes.{IsInBox, cell_in}
use Rattle.cells.specs.Neighbours.{unit_step}
use Rattle.cells.specs.declared.place.At.{At}
use Rattle.cells.specs.declared.place.Size.{Size}
use Rattle.cells.specs.Places.{IsSmall, SumFits, index_in, plus}
use Rattle.cells.proofs.Raster.{index_below}
use Rattle.boxes.proofs.Cells.{cell_inside, next_inside}
use Rattle.boxes.proofs.Indices.{stride_below}
use Rattle.boxes.specs.Raster.{stride}
use Rattle.costs.proofs.Near.{asked_step, cell_asked}
use Rattle.cut_graph.specs.Plans.{IsCellAt}
use Rattle.cut_graph.proofs.Laying.{plan_inside}
use Rattle.cut_graph.proofs.MapIndices.{cell_in_map, second_index}
use Rattle.cut_graph.proofs.plan.Plan.pair.Goals as goal
use Rattle.cut_graph.proofs.plan.Plan.pair.Goals.{After-unwrap-k}

pub cell-place-requires-clause-inside : goal.cell-place-requires-clause-inside
cell-place-requires-clause-inside c = plan_inside c.args.self.now c.requires.plan

pub index_of-requires : goal.index_of-requires
index_of-requires c = subst IsSmall (sym c.size-size.ensures.size) c.requires.plan.over.small

pub unwrap-k-requires : goal.unwrap-k-requires
unwrap-k-requires c =
    let plan = c.args.self.now in
    let at = c.args.at in
    let inside = cell_in_map plan.map.now.size plan.placement.rect at.x at.y at.f c.requires.plan.fits.inside c.requires.pair.counts in
    subst IsSome (sym (c.index_of.ensures.index ∙ (λ k. index_in (c.size-size.ensures.size k) (c.cell-place.ensures k)))) inside

-- the index of the first cell in the map
named : (c : After-unwrap-k) → index_in c.args.self.now.map.now.size c.cell-place.result ≡ Some c.unwrap-k.result
named c = ap (λ (s : Size). index_in s c.cell-place.result) (sym c.size-size.ensures.size) ∙ sym c.index_of.ensures.index ∙ c.unwrap-k.ensures

pub cell-first-requires-clause-named : goal.cell-first-requires-clause-named
cell-first-requires-clause-named c = named c

pub cell-first-requires-clause-inside : goal.cell-first-requires-clause-inside
cell-first-requires-clause-inside c =
    let rect = c.args.self.now.placement.rect in
    let at = c.args.at in
    subst (IsInBox rect) (sym c.cell-place.ensures) (cell_inside rect at.x at.y at.f c.requires.pair.counts)

pub cell-first-requires-clause-below : goal.cell-first-requires-clause-below
cell-first-requires-clause-below c =
    let at = c.args.at in
    omega (arith, stride_below c.args.self.now.placement.rect.size c.args.axis at.x at.y at.f c.requires.pair, c.requires.index, c.requires.plan.cells_count)

pub plus-next-requires : goal.plus-next-requires
plus-next-requires c =
    let rect = c.args.self.now.placement.rect in
    let at = c.args.at in
    let step = asked_step (cell_in rect at.x at.y at.f) c.args.axis (cell_asked rect at.x at.y at.f (plan_inside c.args.self.now c.requires.plan) c.requires.pair.counts) in
    subst (SumFits c.cell-place.result) (sym c.unit.ensures) (subst (λ (p : At). SumFits p (unit_step c.args.axis)) (sym c.cell-place.ensures) step)

pub stride-requires : goal.stride-requires
stride-requires c = subst IsSmall (sym c.size-size.ensures.size) c.requires.plan.over.small

pub cell-second-requires-clause-named : goal.cell-second-requires-clause-named
cell-second-requires-clause-named c =
    let plan = c.args.self.now in
    let rect = plan.placement.rect in
    let at = c.args.at in
    let k = c.unwrap-k.result in
    let first : index_in plan.map.now.size (cell_in rect at.x at.y at.f) ≡ Some k = ap (index_in plan.map.now.size) (sym c.cell-place.ensures) ∙ named (goal.at.cell-second-requires-clause-named c).After-unwrap-k in
    let place : c.plus-next.result ≡ plus (cell_in rect at.x at.y at.f) (unit_step c.args.axis) = c.plus-next.ensures ∙ (λ j. plus (c.cell-place.ensures j) (c.unit.ensures j)) in
    let step : stride plan.map.now.size c.args.axis ≡ c.stride.result = ap (λ (s : Size). stride s c.args.axis) (sym c.size-size.ensures.size) ∙ sym c.stride.ensures in
    ap (index_in plan.map.now.size) place ∙ second_index plan.map.now.size rect c.args.axis at.x at.y at.f k c.requires.plan.fits.inside c.requires.pair first ∙ ap (λ n. Some (k + n)) step

pub cell-second-requires-clause-inside : goal.cell-second-requires-clause-inside
cell-second-requires-clause-inside c =
    let rect = c.args.self.now.placement.rect in
    let at = c.args.at in
    let place : c.plus-next.result ≡ plus (cell_in rect at.x at.y at.f) (unit_step c.args.axis) = c.plus-next.ensures ∙ (λ k. plus (c.cell-place.ensures k) (c.unit.ensures k)) in
    subst (IsInBox rect) (sym place) (next_inside rect c.args.axis at.x at.y at.f c.requires.pair)

pub cell-second-requires-clause-below : goal.cell-second-requires-clause-below
cell-second-requires-clause-below c =
    let at = c.args.at in
    omega (arith, stride_below c.args.self.now.placement.rect.size c.args.axis at.x at.y at.f c.requires.pair, c.requires.index, c.requires.next, c.requires.plan.cells_count)

pub overflow_add-k : goal.overflow_add-k
overflow_add-k c =
    let plan = c.args.self.now in
    omega (arith, index_below plan.map.now.size c.plus-next.result (c.unwrap-k.result + c.stride.result) (cell-second-requires-clause-named c), c.requires.plan.over.small.cells)

pub returns-clause-first : goal.returns-clause-first
returns-clause-first c = subst (λ (p : At). IsCellAt c.args.self.now p c.args.i c.cell-first.result) c.cell-place.ensures c.cell-first.ensures.cell

pub returns-clause-second : goal.returns-clause-second
returns-clause-second c =
    let rect = c.args.self.now.placement.rect in
    let at = c.args.at in
    let place : c.plus-next.result ≡ plus (cell_in rect at.x at.y at.f) (unit_step c.args.axis) = c.plus-next.ensures ∙ (λ k. plus (c.cell-place.ensures k) (c.unit.ensures k)) in
    subst (λ (p : At). IsCellAt c.args.self.now p c.args.j c.cell-second.result) place c.cell-second.ensures.cell

pub cell-second-requires-clause-plan : goal.cell-second-requires-clause-plan
cell-second-requires-clause-plan c = c.requires.plan
