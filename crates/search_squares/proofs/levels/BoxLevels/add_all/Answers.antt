use Rattle.std.proofs.Common.{◌<◌, ◌*◌, ◌^◌, ap, subst, ◌∙◌, arith}
use Rattle.std.proofs.lemmas.Grind.{common_steps}
use Rattle.cells.specs.Cells.{Cells}
use Rattle.search_squares.specs.Blocks.{block_bytes}
use Rattle.search_squares.proofs.levels.BoxLevels.add_all.Goals as goal

pub add_level-requires-4-clause-few : goal.add_level-requires-4-clause-few
add_level-requires-4-clause-few c = grind (arith, common_steps)

pub add_level-requires-3-clause-few : goal.add_level-requires-3-clause-few
add_level-requires-3-clause-few c = grind (arith, common_steps)

pub add_level-requires-4-clause-long : goal.add_level-requires-4-clause-long
add_level-requires-4-clause-long c = c.requires.long

pub add_level-requires-4-clause-filled : goal.add_level-requires-4-clause-filled
add_level-requires-4-clause-filled c = c.requires.filled

pub add_level-requires-3-clause-long : goal.add_level-requires-3-clause-long
add_level-requires-3-clause-long c = c.requires.long

pub add_level-requires-3-clause-filled : goal.add_level-requires-3-clause-filled
add_level-requires-3-clause-filled c = c.requires.filled

pub add_level-requires-4-clause-inside : goal.add_level-requires-4-clause-inside
add_level-requires-4-clause-inside c = c.requires.inside

pub add_level-requires-2-clause-long : goal.add_level-requires-2-clause-long
add_level-requires-2-clause-long c = c.requires.long

pub add_level-requires-3-clause-inside : goal.add_level-requires-3-clause-inside
add_level-requires-3-clause-inside c = c.requires.inside

pub add_level-requires-clause-few : goal.add_level-requires-clause-few
add_level-requires-clause-few c =
    subst (λ k. 255 * block_bytes c.coarse_side-side.result k < 2 ^ 16) (c.samples.ensures.samples ∙ ap (λ (v : Cells). v.k) c.picture.ensures.picture) c.coarse_side-side.ensures.few

pub add_level-requires-2-clause-filled : goal.add_level-requires-2-clause-filled
add_level-requires-2-clause-filled c = c.requires.filled

pub add_level-requires-2-clause-inside : goal.add_level-requires-2-clause-inside
add_level-requires-2-clause-inside c = c.requires.inside

pub returns : goal.returns
returns c = grind (arith, common_steps)
