use Rattle.std.proofs.lemmas.Grind.{common_steps}
use Rattle.std.proofs.Common.{arith, sym, ◌∙◌}
use Rattle.search_squares.proofs.RunEntries.{same_size}
use Rattle.search_squares.proofs.blocks.BoxBlocks.totals.Goals as goal

pub totals_by-requires-clause-own : goal.totals_by-requires-clause-own
totals_by-requires-clause-own c = λ _. same_size c.args.self.now.size c.args.sums.now.rect.size (sym c.eq.ensures ∙ c.if-eq.true)

pub returns-then-eq : goal.returns-then-eq
returns-then-eq c = c.totals_by.ensures

pub returns : goal.returns
returns c = c.totals_by-2.ensures

pub totals_by-requires-clause-blocks : goal.totals_by-requires-clause-blocks
totals_by-requires-clause-blocks c = c.requires.blocks

pub totals_by-requires-clause-some : goal.totals_by-requires-clause-some
totals_by-requires-clause-some c = c.requires.some

pub totals_by-requires-2-clause-some : goal.totals_by-requires-2-clause-some
totals_by-requires-2-clause-some c = omega arith

pub totals_by-requires-2-clause-blocks : goal.totals_by-requires-2-clause-blocks
totals_by-requires-2-clause-blocks c = c.requires.blocks

pub totals_by-requires-clause-few : goal.totals_by-requires-clause-few
totals_by-requires-clause-few c = grind (arith, common_steps)

pub totals_by-requires-2-clause-few : goal.totals_by-requires-2-clause-few
totals_by-requires-2-clause-few c = grind (arith, common_steps)
