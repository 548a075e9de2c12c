use Rattle.std.proofs.Common.{◌≡◌, ◌+◌, true, false, refl, sym, ap, ◌∙◌, subst, arith}
use Rattle.boxes.proofs.Indices.{index_below, stride_below}
use Rattle.boxes.proofs.PairNumbers.{number_below}
use Rattle.boxes.specs.Pairs.{has_next, one_if, pair_number, IsPair}
use Rattle.cut_graph.specs.Building.{AreSeamNodes, Gives, IsSeamNode, are_filled, both_filled}
use Rattle.cut_graph.proofs.AtPairs.{more_seams}
use Rattle.cut_graph.proofs.Numbered.{gives_end, gives_own}
use Rattle.cut_graph.proofs.seam_nodes.give_along.Goals as goal

pub overflow_add-i : goal.overflow_add-i
overflow_add-i c =
    let at = c.args.at in
    let is : IsPair c.args.size c.args.axis at.x at.y at.f = record { counts = c.requires.counts; next = sym c.has_next.ensures ∙ c.if-has_next.true } in
    omega (arith, stride_below c.args.size c.args.axis at.x at.y at.f is, c.requires.index, c.stride.ensures, c.requires.small.cells)

pub are_filled-requires-clause-first : goal.are_filled-requires-clause-first
are_filled-requires-clause-first c =
    let at = c.args.at in
    omega (arith, index_below c.args.size at.x at.y at.f c.requires.counts, c.requires.index, c.requires.cells)

pub are_filled-requires-clause-second : goal.are_filled-requires-clause-second
are_filled-requires-clause-second c =
    let at = c.args.at in
    let is : IsPair c.args.size c.args.axis at.x at.y at.f = record { counts = c.requires.counts; next = sym c.has_next.ensures ∙ c.if-has_next.true } in
    omega (arith, stride_below c.args.size c.args.axis at.x at.y at.f is, c.requires.index, c.stride.ensures, c.requires.cells)

pub returns-then-are_filled-clause-seams : goal.returns-then-are_filled-clause-seams
returns-then-are_filled-clause-seams c first some was =
    let at = c.args.at in
    let size = c.args.size in
    let axis = c.args.axis in
    let cells = c.args.cells.now in
    let seams = c.give_own.new.self in
    let next : has_next size axis at.x at.y at.f ≡ true = sym c.has_next.ensures ∙ c.if-has_next.true in
    let is : IsPair size axis at.x at.y at.f = record { counts = c.requires.counts; next = next } in
    let filled : c.are_filled.result ≡ are_filled cells size axis at.x at.y at.f =
    c.are_filled.ensures ∙ (λ k. both_filled cells (sym c.requires.index k) (sym c.requires.index k + c.stride.ensures k)) in
    let gives = subst (λ b. Gives (IsSeamNode first b) first c.args.seams.now seams) (sym c.if-are_filled.true ∙ filled) (gives_own (IsSeamNode first true) first c.args.seams.now seams was.numbering some was.numbering.order c.give_own.ensures) in
    let more = more_seams cells size first axis at.x at.y at.f c.args.seams.now seams is was gives in
    subst (λ n. AreSeamNodes cells size first (pair_number size axis at.x at.y at.f + n) seams) (sym (ap one_if next)) more

pub returns-else-are_filled-clause-seams : goal.returns-else-are_filled-clause-seams
returns-else-are_filled-clause-seams c first some was =
    let at = c.args.at in
    let size = c.args.size in
    let axis = c.args.axis in
    let cells = c.args.cells.now in
    let seams = c.give.new.self in
    let next : has_next size axis at.x at.y at.f ≡ true = sym c.has_next.ensures ∙ c.if-has_next.true in
    let is : IsPair size axis at.x at.y at.f = record { counts = c.requires.counts; next = next } in
    let filled : c.are_filled.result ≡ are_filled cells size axis at.x at.y at.f =
    c.are_filled.ensures ∙ (λ k. both_filled cells (sym c.requires.index k) (sym c.requires.index k + c.stride.ensures k)) in
    let gives = subst (λ b. Gives (IsSeamNode first b) first c.args.seams.now seams) (sym c.if-are_filled.false ∙ filled) (gives_end (IsSeamNode first false) first 0 c.args.seams.now seams was.numbering some refl c.give.ensures) in
    let more = more_seams cells size first axis at.x at.y at.f c.args.seams.now seams is was gives in
    subst (λ n. AreSeamNodes cells size first (pair_number size axis at.x at.y at.f + n) seams) (sym (ap one_if next)) more

pub give_own-requires-clause-room : goal.give_own-requires-clause-room
give_own-requires-clause-room c =
    let at = c.args.at in
    let is : IsPair c.args.size c.args.axis at.x at.y at.f = record { counts = c.requires.counts; next = sym c.has_next.ensures ∙ c.if-has_next.true } in
    omega (arith, number_below c.args.size c.args.axis at.x at.y at.f is, c.requires.number, c.requires.room)

pub give-requires : goal.give-requires
give-requires c =
    let at = c.args.at in
    let is : IsPair c.args.size c.args.axis at.x at.y at.f = record { counts = c.requires.counts; next = sym c.has_next.ensures ∙ c.if-has_next.true } in
    record { room = omega (arith, number_below c.args.size c.args.axis at.x at.y at.f is, c.requires.number, c.requires.room) }

pub returns-then-are_filled-clause-number : goal.returns-then-are_filled-clause-number
returns-then-are_filled-clause-number c =
    let at = c.args.at in
    let more : one_if (has_next c.args.size c.args.axis at.x at.y at.f) ≡ 1 = ap one_if (sym c.has_next.ensures ∙ c.if-has_next.true) in
    omega (arith, c.give_own.ensures.len, c.requires.number, more)

pub returns-else-are_filled-clause-number : goal.returns-else-are_filled-clause-number
returns-else-are_filled-clause-number c =
    let at = c.args.at in
    let more : one_if (has_next c.args.size c.args.axis at.x at.y at.f) ≡ 1 = ap one_if (sym c.has_next.ensures ∙ c.if-has_next.true) in
    omega (arith, c.give.ensures.len, c.requires.number, more)

pub returns-then-are_filled-clause-room : goal.returns-then-are_filled-clause-room
returns-then-are_filled-clause-room c = c.give_own.ensures.room ∙ c.requires.room

pub returns-else-are_filled-clause-room : goal.returns-else-are_filled-clause-room
returns-else-are_filled-clause-room c = c.give.ensures.room ∙ c.requires.room

pub returns-else-has_next-clause-number : goal.returns-else-has_next-clause-number
returns-else-has_next-clause-number c =
    let at = c.args.at in
    let none : one_if (has_next c.args.size c.args.axis at.x at.y at.f) ≡ 0 = ap one_if (sym c.has_next.ensures ∙ c.if-has_next.false) in
    omega (arith, c.requires.number, none)

pub returns-else-has_next-clause-seams : goal.returns-else-has_next-clause-seams
returns-else-has_next-clause-seams c first some was =
    let at = c.args.at in
    let size = c.args.size in
    let axis = c.args.axis in
    let none : has_next size axis at.x at.y at.f ≡ false = sym c.has_next.ensures ∙ c.if-has_next.false in
    let number : pair_number size axis at.x at.y at.f ≡ pair_number size axis at.x at.y at.f + one_if (has_next size axis at.x at.y at.f) = omega (arith, ap one_if none) in
    subst (λ n. AreSeamNodes c.args.cells.now size first n c.args.seams.now) number was
