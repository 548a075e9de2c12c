use Rattle.search_squares.proofs.blocks.Block.entry_in.Goals as goal

pub returns-then-own : goal.returns-then-own
returns-then-own c = c.requires.own c.if-own.true
