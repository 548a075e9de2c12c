use Rattle.std.proofs.Common.{arith}
use Rattle.std.proofs.lemmas.Grind.{common_steps}
use Rattle.std.proofs.Common.{sym, subst}
use Rattle.search_squares.specs.Eliminations.{AreBoxLevels}
use Rattle.patch_place.proofs.overlaps.OverlapsBoxErrors.eliminate.Goals as goal

pub eliminate-requires-clause-levels : goal.eliminate-requires-clause-levels
eliminate-requires-clause-levels c = subst (λ r. AreBoxLevels c.args.self.now.canvas.now r c.args.self.now.levels) (sym c.requires.asked.box) c.requires.ready.levels

pub returns : goal.returns
returns c = grind (arith, common_steps)
