use Rattle.std.proofs.Common.{arith}
use Rattle.std.proofs.lemmas.Grind.{common_steps}
use Rattle.std.proofs.Common.{subst, sym}
use Rattle.cells.specs.Places.{SumFits}
use Rattle.map_canvas.proofs.Keeping.{neighbours_fit}
use Rattle.map_canvas.proofs.kept.meets_along.Goals as goal

pub plus-requires : goal.plus-requires
plus-requires c = subst (SumFits c.args.p) (sym c.unit-step.ensures) (neighbours_fit c.args.map.now c.requires.map c.args.p c.requires.filled c.args.axis).0

pub returns-else-is_filled_outside : goal.returns-else-is_filled_outside
returns-else-is_filled_outside c = grind (arith, common_steps)

pub returns-then-is_filled_outside : goal.returns-then-is_filled_outside
returns-then-is_filled_outside c = grind (arith, common_steps)
