use Rattle.std.proofs.Common.{◌≡◌, ℕ, ◌+◌, ◌<◌, [], ◌∷◌, ◌++◌, refl, sym, ap, ◌∙◌, subst, arith, rules, Fits, w32}
use Rattle.std.specs.Prelude.{slice_index}
use Rattle.cells.specs.Boxes.{cell_in}
use Rattle.cells.specs.Neighbours.{unit_step}
use Rattle.cells.specs.Places.{cell_count, plus}
use Rattle.boxes.proofs.PairNumbers.{number_below, pairs_few}
use Rattle.boxes.specs.Pairs.{pair_number}
use Rattle.costs.proofs.Copies.{new_next}
use Rattle.cut_graph.specs.declared.piping.Piping.{Piping}
use Rattle.cut_graph.specs.Plans.{IsCellAt, pipes_of_pair}
use Rattle.cut_graph.proofs.Laying.{Grows, grown, has_room, pair_is, pipes_most, plan_small}
use Rattle.cut_graph.proofs.piping.Piping.add_pair.Goals as goal

pub bounds-plan-len : goal.bounds-plan-len
bounds-plan-len c =
    let at = c.args.at in
    let first = c.args.self.now.first in
    omega (arith, number_below c.args.plan.now.placement.rect.size c.args.axis at.x at.y at.f c.requires.pair, c.requires.so_far.number, c.requires.plan.seams_count, c.len.ensures, first.ok)

pub offset_bounds-plan-len : goal.offset_bounds-plan-len
offset_bounds-plan-len c = let lt = bounds-plan-len c in search rules

pub join-added-requires-clause-next : goal.join-added-requires-clause-next
join-added-requires-clause-next c =
    let placement = c.args.plan.now.placement in
    let at = c.args.at in
    let step = unit_step c.args.axis in
    c.pair.ensures.second.new ∙ new_next placement (cell_in placement.rect at.x at.y at.f) step ∙ ap (λ p. plus p step) (sym c.pair.ensures.first.new)

pub join-added-requires-clause-room : goal.join-added-requires-clause-room
join-added-requires-clause-room c =
    let at = c.args.at in
    has_room c.args.plan.now c.args.self.now.network.nodes c.args.axis at.x at.y at.f c.args.self.now c.requires.pair c.requires.so_far

pub join-added-requires-clause-first_in : goal.join-added-requires-clause-first_in
join-added-requires-clause-first_in c = omega (arith, c.pair.ensures.first.own, c.requires.nodes.cells_in c.args.i)

pub join-added-requires-clause-second_in : goal.join-added-requires-clause-second_in
join-added-requires-clause-second_in c = omega (arith, c.pair.ensures.second.own, c.requires.nodes.cells_in c.args.j)

pub join-added-requires-clause-seam_in : goal.join-added-requires-clause-seam_in
join-added-requires-clause-seam_in c = c.requires.nodes.seams_in c.len.result

pub push_reserved-requires : goal.push_reserved-requires
push_reserved-requires c =
    let at = c.args.at in
    let first = c.args.self.now.first in
    omega (arith, number_below c.args.plan.now.placement.rect.size c.args.axis at.x at.y at.f c.requires.pair, c.requires.so_far.number, c.requires.so_far.space, first.ok)

small_fits : (n : ℕ) → n < 400000000 → Fits w32 n
small_fits n lt = search rules

pub overflow_add-self : goal.overflow_add-self
overflow_add-self c =
    let plan = c.args.plan.now in
    let size = plan.placement.rect.size in
    let at = c.args.at in
    let so_far = c.requires.so_far in
    let most = pipes_most plan c.args.axis c.pair.result.0 c.pair.result.1 (slice_index plan.seams.now c.len.result) in
    let few : c.args.self.now.count + c.join-added.result < 400000000 =
    omega (arith, so_far.total, so_far.few, number_below size c.args.axis at.x at.y at.f c.requires.pair, pairs_few size (cell_count size), (plan_small plan c.requires.plan).cells, c.join-added.ensures.count, most) in
    small_fits (c.args.self.now.count + c.join-added.result) few

pub returns : goal.returns
returns c =
    let plan = c.args.plan.now in
    let size = plan.placement.rect.size in
    let rect = plan.placement.rect in
    let at = c.args.at in
    let axis = c.args.axis in
    let first = c.pair.result.0 in
    let second = c.pair.result.1 in
    let was = c.args.self.now in
    let now : Piping = record { network = c.join-added.new.network; count = was.count + c.join-added.result; first = c.push_reserved.new.self } in
    let seam = slice_index plan.seams.now c.len.result in
    let made = pipes_of_pair plan axis first second seam in
    let number : c.len.result ≡ pair_number size axis at.x at.y at.f = omega (arith, c.len.ensures, was.first.ok, c.requires.so_far.number) in
    let place = plus (cell_in rect at.x at.y at.f) (unit_step axis) in
    let is_second = subst (λ n. IsCellAt plan place n second) (sym c.requires.next) c.pair.ensures.second in
    let same = pair_is plan axis at.x at.y at.f c.args.i place first second seam c.requires.index refl c.requires.pair.next c.pair.ensures.first is_second (ap (slice_index plan.seams.now) number) in
    let grows : Grows plan made was now = record {
      network = c.join-added.ensures.network;
      total = ap (λ n. was.count + n) c.join-added.ensures.count;
      firsts = c.push_reserved.ensures.items ∙ ap (λ v. was.first.items ++ v ∷ []) (c.first_of.ensures made c.join-added.ensures.count);
      space = c.push_reserved.ensures.capacity;
      few = pipes_most plan axis first second seam;
    } in
    grown plan was.network.nodes axis at.x at.y at.f made was now c.requires.pair same grows c.requires.so_far

pub join-added-requires-clause-ends : goal.join-added-requires-clause-ends
join-added-requires-clause-ends c = c.requires.nodes.ends
