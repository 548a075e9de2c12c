use Rattle.std.proofs.Common.{ap, ◌∙◌, w32, arith, rules}
use Rattle.std.proofs.lemmas.Int.{to_z-of_z}
use Rattle.boxes.specs.Spans.{at_least_0, grid_on}
use Rattle.patch_picks.specs.Lists.{placed}
use Rattle.patch_picks.proofs.mode.grid_placement.Goals as goal

pub returns : goal.returns
returns c =
    let x = c.grid_on-x.ensures.span ∙ ap (grid_on c.args.output.w c.args.part.w c.args.overlap) (c.count_of.ensures ∙ ap at_least_0 (to_z-of_z w32 c.args.q.x (search rules))) in
    let y = c.grid_on-y.ensures.span ∙ ap (grid_on c.args.output.h c.args.part.h c.args.overlap) (c.count_of-2.ensures ∙ ap at_least_0 (to_z-of_z w32 c.args.q.y (search rules))) in
    let f = c.grid_on-f.ensures.span ∙ ap (grid_on c.args.output.f c.args.part.f c.args.overlap) (c.count_of-3.ensures ∙ ap at_least_0 (to_z-of_z w32 c.args.q.f (search rules))) in
    c.placed.ensures ∙ (λ t. placed (x t) (y t) (f t))

pub grid_on-f-requires-clause-q : goal.grid_on-f-requires-clause-q
grid_on-f-requires-clause-q c = omega (arith, (c.count_of-3.ensures ∙ ap at_least_0 (to_z-of_z w32 c.args.q.f (search rules))), c.requires.q.f)

pub grid_on-x-requires-clause-q : goal.grid_on-x-requires-clause-q
grid_on-x-requires-clause-q c = omega (arith, (c.count_of.ensures ∙ ap at_least_0 (to_z-of_z w32 c.args.q.x (search rules))), c.requires.q.x)

pub grid_on-y-requires-clause-q : goal.grid_on-y-requires-clause-q
grid_on-y-requires-clause-q c = omega (arith, (c.count_of-2.ensures ∙ ap at_least_0 (to_z-of_z w32 c.args.q.y (search rules))), c.requires.q.y)
