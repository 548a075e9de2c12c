use Rattle.std.proofs.Common.{◌≤◌, refl, subst, sym, arith}
use Rattle.std.proofs.lemmas.Grind.{common_steps}
use Rattle.cells.specs.Places.{cell_count}
use Rattle.job_words.specs.TileWords.{IsWide}
use Rattle.tile_run.proofs.Stepping.{few_laid, one_laid}
use Rattle.tile_run.proofs.tiling.step.Goals as goal

pub next_tile_with-requires-clause-wide : goal.next_tile_with-requires-clause-wide
next_tile_with-requires-clause-wide c = subst (IsWide c.args.plan.now.tile.wrap) (sym c.requires.work.size_is) c.requires.plan.wide

pub next_tile_with-requires-clause-cells : goal.next_tile_with-requires-clause-cells
next_tile_with-requires-clause-cells c = subst (λ s. cell_count s ≤ 1048576) (sym c.requires.work.size_is) c.requires.plan.cells

pub returns : goal.returns
returns c =
    let tiles = rw c.in-Some.is at c.in_ok-next_tile_with.ensures.tiles in
    one_laid c.args.plan.now c.args.sample.now c.args.work.now _ (record { placement = c.in-Some.field-0; choice = tiles.0 }) c.requires.work tiles.1 c.in_ok-next_tile_with.ensures.canvas c.in_ok-next_tile_with.ensures.stands refl

pub overflow_add-work : goal.overflow_add-work
overflow_add-work c = omega (arith, few_laid c.args.plan.now c.args.sample.now c.args.work.now c.requires.plan c.requires.work)

pub returns-in_default : goal.returns-in_default
returns-in_default c = grind (arith, common_steps)
