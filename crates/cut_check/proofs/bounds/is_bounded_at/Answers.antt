use Rattle.std.proofs.Common.{ap, sym, ◌∙◌}
use Rattle.std.specs.Prelude.{None, Some}
use Rattle.cells.specs.Boxes.{cell_in}
use Rattle.cells.specs.Distances.{distance}
use Rattle.cells.specs.Neighbours.{unit_step}
use Rattle.cells.specs.Places.{plus}
use Rattle.map_canvas.specs.Choices.{new_source}
use Rattle.map_canvas.specs.Maps.{map_at}
use Rattle.cut_check.proofs.PairBounds.{bounded_on, new_next}
use Rattle.cut_check.proofs.bounds.is_bounded_at.Goals as goal

pub is_between_old-requires-clause-next : goal.is_between_old-requires-clause-next
is_between_old-requires-clause-next c =
    let placement = c.args.placement.now in
    let at = c.args.at in
    let step = unit_step c.args.axis in
    c.lay-next.ensures.new ∙ ap (new_source placement) (sym (c.next_along.ensures.next placement.rect))
    ∙ new_next placement (cell_in placement.rect at.x at.y at.f) step ∙ ap (λ p. plus p step) (sym c.lay-first.ensures.new)

pub returns-in-Some-Some : goal.returns-in-Some-Some
returns-in-Some-Some c =
    let placement = c.args.placement.now in
    let at = c.args.at in
    let m = c.args.map.now in
    let s = cell_in placement.rect at.x at.y at.f in
    let there = sym (c.next_along.ensures.next placement.rect) in
    bounded_on (distance c.args.sample.now) m placement c.args.axis s (plus s (unit_step c.args.axis)) c.args.flow (Some c.in-Some-Some.a) (Some c.in-Some-Some.b) c.lay-first.result.new c.lay-next.result.new _
    (sym c.in-Some-Some.is-0 ∙ c.lay-first.ensures.old) (sym c.in-Some-Some.is-1 ∙ c.lay-next.ensures.old ∙ ap (map_at m) there) c.lay-first.ensures.new (c.lay-next.ensures.new ∙ ap (new_source placement) there)
    (c.is_between_old.ensures)

pub returns-in-Some-None : goal.returns-in-Some-None
returns-in-Some-None c =
    let placement = c.args.placement.now in
    let at = c.args.at in
    let m = c.args.map.now in
    let s = cell_in placement.rect at.x at.y at.f in
    let there = sym (c.next_along.ensures.next placement.rect) in
    bounded_on (distance c.args.sample.now) m placement c.args.axis s (plus s (unit_step c.args.axis)) c.args.flow (Some c.in-Some-None.a) None c.lay-first.result.new c.lay-next.result.new _
    (sym c.in-Some-None.is-0 ∙ c.lay-first.ensures.old) (sym c.in-Some-None.is-1 ∙ c.lay-next.ensures.old ∙ ap (map_at m) there) c.lay-first.ensures.new (c.lay-next.ensures.new ∙ ap (new_source placement) there)
    (rw (← c.seam_of.ensures.cost) c.leaves_first.ensures)

pub returns-in-None-Some : goal.returns-in-None-Some
returns-in-None-Some c =
    let placement = c.args.placement.now in
    let at = c.args.at in
    let m = c.args.map.now in
    let s = cell_in placement.rect at.x at.y at.f in
    let there = sym (c.next_along.ensures.next placement.rect) in
    bounded_on (distance c.args.sample.now) m placement c.args.axis s (plus s (unit_step c.args.axis)) c.args.flow None (Some c.in-None-Some.b) c.lay-first.result.new c.lay-next.result.new _
    (sym c.in-None-Some.is-0 ∙ c.lay-first.ensures.old) (sym c.in-None-Some.is-1 ∙ c.lay-next.ensures.old ∙ ap (map_at m) there) c.lay-first.ensures.new (c.lay-next.ensures.new ∙ ap (new_source placement) there)
    (rw (← c.seam_of-in-None-Some.ensures.cost) c.leaves_second.ensures)

pub returns-in-None-None : goal.returns-in-None-None
returns-in-None-None c =
    let placement = c.args.placement.now in
    let at = c.args.at in
    let m = c.args.map.now in
    let s = cell_in placement.rect at.x at.y at.f in
    let there = sym (c.next_along.ensures.next placement.rect) in
    bounded_on (distance c.args.sample.now) m placement c.args.axis s (plus s (unit_step c.args.axis)) c.args.flow None None c.lay-first.result.new c.lay-next.result.new _
    (sym c.in-None-None.is-0 ∙ c.lay-first.ensures.old) (sym c.in-None-None.is-1 ∙ c.lay-next.ensures.old ∙ ap (map_at m) there) c.lay-first.ensures.new (c.lay-next.ensures.new ∙ ap (new_source placement) there)
    (c.leaves_none.ensures)

pub is_between_old-requires-clause-a : goal.is_between_old-requires-clause-a
is_between_old-requires-clause-a c = rw c.in-Some-Some.is-0 at c.lay-first.ensures.near_old

pub is_between_old-requires-clause-b : goal.is_between_old-requires-clause-b
is_between_old-requires-clause-b c = rw c.in-Some-Some.is-1 at c.lay-next.ensures.near_old

pub seam_of-requires-clause-a : goal.seam_of-requires-clause-a
seam_of-requires-clause-a c = rw c.in-Some-None.is-0 at c.lay-first.ensures.near_old

pub seam_of-requires-in-None-Some-clause-b : goal.seam_of-requires-in-None-Some-clause-b
seam_of-requires-in-None-Some-clause-b c = rw c.in-None-Some.is-1 at c.lay-next.ensures.near_old
