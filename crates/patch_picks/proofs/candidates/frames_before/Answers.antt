use Rattle.std.proofs.lemmas.Grind.{common_steps}
use Rattle.std.proofs.Common.{◌≤◌, arith, rules}
use Rattle.cells.specs.SizeLists.{frames_to_part}
use Rattle.patch_picks.proofs.Parts.{frames_few, stock_frames}
use Rattle.patch_picks.proofs.candidates.frames_before.Goals as goal

pub returns-clause-few : goal.returns-clause-few
returns-clause-few c =
    let few : frames_to_part c.args.sizes.now c.args.n ≤ 65552 = omega (arith, frames_few c.args.sizes.now c.args.n c.requires.parts.axes, c.requires.parts.few) in
    let e = stock_frames c.args.sizes.now c.args.n c.stock.result c.stock.ensures in
    rw e (search rules)

pub overflow_cast-result : goal.overflow_cast-result
overflow_cast-result c = grind (arith, common_steps)
