use Rattle.std.proofs.Common.{◌≤◌, ap, subst, sym, ◌∙◌, w32, arith, rules}
use Rattle.std.proofs.lemmas.Int.{ints, to_z-of_z}
use Rattle.cells.specs.Places.{IsNearAxis}
use Rattle.boxes.specs.Spans.{at_least_0, laid_on}
use Rattle.map_canvas.specs.declared.canvas.Placement.{Placement}
use Rattle.patch_picks.specs.Lists.{placed}
use Rattle.patch_picks.proofs.candidates.laid.Goals as goal

pub returns-clause-near : goal.returns-clause-near
returns-clause-near c =
    let from : c.laid_on-f.result.from ≤ 4096 = omega (arith, c.laid_on-f.ensures.from, (c.count_of-6.ensures ∙ ap at_least_0 (to_z-of_z w32 c.args.c.f (search rules))), c.requires.c.f, c.requires.part.axes.f.1) in
    subst (λ (placement : Placement). IsNearAxis placement.from.f) (sym c.placed.ensures) (omega (arith, ints), omega (arith, ints, from))

pub placed-requires-clause-x : goal.placed-requires-clause-x
placed-requires-clause-x c = (omega (arith, c.laid_on-x.ensures.corner, (c.count_of.ensures ∙ ap at_least_0 (to_z-of_z w32 c.args.q.x (search rules))), c.requires.q.x, c.requires.output.axes.w.1), omega (arith, c.laid_on-x.ensures.from, (c.count_of-2.ensures ∙ ap at_least_0 (to_z-of_z w32 c.args.c.x (search rules))), c.requires.c.x, c.requires.part.axes.w.1))

pub placed-requires-clause-y : goal.placed-requires-clause-y
placed-requires-clause-y c = (omega (arith, c.laid_on-y.ensures.corner, (c.count_of-3.ensures ∙ ap at_least_0 (to_z-of_z w32 c.args.q.y (search rules))), c.requires.q.y, c.requires.output.axes.h.1), omega (arith, c.laid_on-y.ensures.from, (c.count_of-4.ensures ∙ ap at_least_0 (to_z-of_z w32 c.args.c.y (search rules))), c.requires.c.y, c.requires.part.axes.h.1))

pub placed-requires-clause-f : goal.placed-requires-clause-f
placed-requires-clause-f c = (omega (arith, c.laid_on-f.ensures.corner, (c.count_of-5.ensures ∙ ap at_least_0 (to_z-of_z w32 c.args.q.f (search rules))), c.requires.q.f, c.requires.output.axes.f.1), omega (arith, c.laid_on-f.ensures.from, (c.count_of-6.ensures ∙ ap at_least_0 (to_z-of_z w32 c.args.c.f (search rules))), c.requires.c.f, c.requires.part.axes.f.1))

pub laid_on-f-requires-clause-q : goal.laid_on-f-requires-clause-q
laid_on-f-requires-clause-q c = omega (arith, (c.count_of-5.ensures ∙ ap at_least_0 (to_z-of_z w32 c.args.q.f (search rules))), c.requires.q.f)

pub laid_on-f-requires-clause-c : goal.laid_on-f-requires-clause-c
laid_on-f-requires-clause-c c = omega (arith, (c.count_of-6.ensures ∙ ap at_least_0 (to_z-of_z w32 c.args.c.f (search rules))), c.requires.c.f)

pub laid_on-x-requires-clause-q : goal.laid_on-x-requires-clause-q
laid_on-x-requires-clause-q c = omega (arith, (c.count_of.ensures ∙ ap at_least_0 (to_z-of_z w32 c.args.q.x (search rules))), c.requires.q.x)

pub laid_on-x-requires-clause-c : goal.laid_on-x-requires-clause-c
laid_on-x-requires-clause-c c = omega (arith, (c.count_of-2.ensures ∙ ap at_least_0 (to_z-of_z w32 c.args.c.x (search rules))), c.requires.c.x)

pub laid_on-y-requires-clause-q : goal.laid_on-y-requires-clause-q
laid_on-y-requires-clause-q c = omega (arith, (c.count_of-3.ensures ∙ ap at_least_0 (to_z-of_z w32 c.args.q.y (search rules))), c.requires.q.y)

pub laid_on-y-requires-clause-c : goal.laid_on-y-requires-clause-c
laid_on-y-requires-clause-c c = omega (arith, (c.count_of-4.ensures ∙ ap at_least_0 (to_z-of_z w32 c.args.c.y (search rules))), c.requires.c.y)

pub returns-clause-laid : goal.returns-clause-laid
returns-clause-laid c =
    let x = c.laid_on-x.ensures.span ∙ (λ t. laid_on c.args.output.w c.args.part.w ((c.count_of.ensures ∙ ap at_least_0 (to_z-of_z w32 c.args.q.x (search rules))) t) ((c.count_of-2.ensures ∙ ap at_least_0 (to_z-of_z w32 c.args.c.x (search rules))) t)) in
    let y = c.laid_on-y.ensures.span ∙ (λ t. laid_on c.args.output.h c.args.part.h ((c.count_of-3.ensures ∙ ap at_least_0 (to_z-of_z w32 c.args.q.y (search rules))) t) ((c.count_of-4.ensures ∙ ap at_least_0 (to_z-of_z w32 c.args.c.y (search rules))) t)) in
    let f = c.laid_on-f.ensures.span ∙ (λ t. laid_on c.args.output.f c.args.part.f ((c.count_of-5.ensures ∙ ap at_least_0 (to_z-of_z w32 c.args.q.f (search rules))) t) ((c.count_of-6.ensures ∙ ap at_least_0 (to_z-of_z w32 c.args.c.f (search rules))) t)) in
    c.placed.ensures ∙ (λ t. placed (x t) (y t) (f t))
