use Rattle.std.proofs.Common.{◌≡◌, ◌+◌, ◌-◌, [], sym, ap, ◌∙◌, arith}
use Rattle.std.proofs.lemmas.Grind.{common_steps}
use Rattle.std.proofs.lemmas.List.{append-nil}
use Rattle.boxes.proofs.Indices.{index_below, stride_below}
use Rattle.boxes.proofs.PairNumbers.{number_below}
use Rattle.boxes.specs.Pairs.{IsPair}
use Rattle.cut_graph.specs.declared.piping.Piping.{Piping}
use Rattle.cut_graph.proofs.Laying.{Grows, grown, none_along, plan_small}
use Rattle.cut_graph.proofs.piping.Piping.add_along.Goals as goal

pub stride-requires : goal.stride-requires
stride-requires c = plan_small c.args.plan.now c.requires.plan

pub overflow_add-j : goal.overflow_add-j
overflow_add-j c =
    let plan = c.args.plan.now in
    let size = plan.placement.rect.size in
    let at = c.args.at in
    let is : IsPair size c.args.axis at.x at.y at.f = record { counts = c.requires.counts; next = sym c.has_next.ensures ∙ c.if-has_next.true } in
    omega (arith, stride_below size c.args.axis at.x at.y at.f is, c.requires.index, c.stride.ensures, (plan_small plan c.requires.plan).cells)

pub are_unfilled-requires-clause-first : goal.are_unfilled-requires-clause-first
are_unfilled-requires-clause-first c =
    let at = c.args.at in
    omega (arith, index_below c.args.plan.now.placement.rect.size at.x at.y at.f c.requires.counts, c.requires.index, c.requires.plan.cells_count)

pub are_unfilled-requires-clause-second : goal.are_unfilled-requires-clause-second
are_unfilled-requires-clause-second c =
    let size = c.args.plan.now.placement.rect.size in
    let at = c.args.at in
    let is : IsPair size c.args.axis at.x at.y at.f = record { counts = c.requires.counts; next = sym c.has_next.ensures ∙ c.if-has_next.true } in
    omega (arith, stride_below size c.args.axis at.x at.y at.f is, c.requires.index, c.stride.ensures, c.requires.plan.cells_count)

pub push_reserved-requires : goal.push_reserved-requires
push_reserved-requires c =
    let size = c.args.plan.now.placement.rect.size in
    let at = c.args.at in
    let first = c.args.self.now.first in
    let is : IsPair size c.args.axis at.x at.y at.f = record { counts = c.requires.counts; next = sym c.has_next.ensures ∙ c.if-has_next.true } in
    omega (arith, number_below size c.args.axis at.x at.y at.f is, c.requires.so_far.number, c.requires.so_far.space, first.ok)

pub returns-then-are_unfilled : goal.returns-then-are_unfilled
returns-then-are_unfilled c =
    let plan = c.args.plan.now in
    let size = plan.placement.rect.size in
    let at = c.args.at in
    let axis = c.args.axis in
    let was = c.args.self.now in
    let now : Piping = record { network = was.network; count = was.count; first = c.push_reserved.new.self } in
    let is : IsPair size axis at.x at.y at.f = record { counts = c.requires.counts; next = sym c.has_next.ensures ∙ c.if-has_next.true } in
    let both = c.are_unfilled.ensures c.if-are_unfilled.true in
    let same = none_along plan axis at.x at.y at.f c.args.i (c.args.i + c.stride.result) c.requires.plan is c.requires.index (ap (λ n. c.args.i + n) (sym c.stride.ensures)) both.0 both.1 in
    let spare : was.network.spare ≡ was.network.spare - 0 = omega arith in
    let grows : Grows plan [] was now = record {
      network = λ k. record was.network { spare = spare k; pipes = sym (append-nil was.network.pipes) k };
      total = omega arith;
      firsts = c.push_reserved.ensures.items;
      space = c.push_reserved.ensures.capacity;
      few = omega arith;
    } in
    grown plan was.network.nodes axis at.x at.y at.f [] was now is same grows c.requires.so_far

pub add_pair-requires-clause-nodes : goal.add_pair-requires-clause-nodes
add_pair-requires-clause-nodes c = grind (arith, common_steps)

pub add_pair-requires-clause-plan : goal.add_pair-requires-clause-plan
add_pair-requires-clause-plan c = c.requires.plan
