use Rattle.std.proofs.Common.{arith}
use Rattle.std.proofs.lemmas.Grind.{common_steps}
use Rattle.std.proofs.Common.{◌∙◌, refl, subst, ap, List}
use Rattle.cells.specs.Distances.{distance}
use Rattle.cells.specs.Neighbours.{unit_step}
use Rattle.cells.specs.Places.{plus}
use Rattle.cells.specs.Boxes.{cell_in}
use Rattle.map_canvas.specs.Choices.{new_source}
use Rattle.map_canvas.specs.Maps.{map_at}
use Rattle.cut_check.specs.declared.record.Flow.{Flow}
use Rattle.cut_check.specs.Flows.{LeavesNone, pair_flow}
use Rattle.cut_check.proofs.PairBounds.{none_bounded}
use Rattle.cut_check.proofs.bounds.holds_along.Goals as goal

pub returns-then-leaves_none : goal.returns-then-leaves_none
returns-then-leaves_none c =
    let m = c.args.map.now in
    let placement = c.args.cut.now.placement in
    let at = c.args.at in
    let s = cell_in placement.rect at.x at.y at.f in
    let t = plus s (unit_step c.args.axis) in
    let is = c.flow_at-flow.ensures ∙ ap (λ (flows : List Flow). pair_flow placement.rect.size flows c.args.axis at.x at.y at.f) c.as_slice.ensures in (
      λ _. λ next. none_bounded (distance c.args.sample.now) c.args.axis (map_at m s) (map_at m t) (new_source placement s) (new_source placement t) _
          (subst LeavesNone is (c.leaves_none.ensures.0 c.if-leaves_none.true)),
      λ _. refl,
    )

pub returns : goal.returns
returns c = grind (arith, common_steps)

pub returns-then-not-has_next : goal.returns-then-not-has_next
returns-then-not-has_next c = grind (arith, common_steps)
