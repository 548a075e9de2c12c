use Rattle.std.proofs.Common.{arith}
use Rattle.std.proofs.lemmas.Grind.{common_steps}
use Rattle.search_squares.specs.Eliminations.{error_from}
use Rattle.search_squares.proofs.levels.BoxLevels.eliminate.Goals as goal

pub returns-in_default : goal.returns-in_default
returns-in_default c = c.none.ensures (error_from c.args.canvas.now c.args.sample.now c.args.rect.now)

pub returns-then-n-eq0 : goal.returns-then-n-eq0
returns-then-n-eq0 c = c.none-then-n-eq0.ensures (error_from c.args.canvas.now c.args.sample.now c.args.rect.now)

pub returns : goal.returns
returns c = grind (arith, common_steps)

pub marks-above-requires-clause-inside : goal.marks-above-requires-clause-inside
marks-above-requires-clause-inside c = c.requires.inside

pub marks-above-requires-clause-over : goal.marks-above-requires-clause-over
marks-above-requires-clause-over c = c.requires.over

pub marks-above-requires-clause-sums : goal.marks-above-requires-clause-sums
marks-above-requires-clause-sums c = c.requires.sums

pub marks-above-requires-clause-levels : goal.marks-above-requires-clause-levels
marks-above-requires-clause-levels c = c.requires.levels
