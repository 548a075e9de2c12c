use Rattle.block_strips.proofs.Laying.{next_fits, shares_strips, stays_laid}
use Rattle.block_strips.proofs.laws.next_block_shares_strips.Goals as goal

pub returns-clause-fits : goal.returns-clause-fits
returns-clause-fits c = next_fits c.args.plan.now c.args.canvas.now.map c.args.sample.now c.args.rect.now c.map-map.ensures.canvas.map c.size-size.ensures.volume.small.axes c.requires.block c.requires.frame c.requires.next

pub returns-clause-strips : goal.returns-clause-strips
returns-clause-strips c = shares_strips c.args.plan.now c.args.canvas.now.map c.args.sample.now c.args.rect.now c.map-map.ensures.canvas.map c.size-size.ensures.volume.small.axes c.requires.block c.requires.frame c.requires.next c.requires.laid

pub returns-clause-more : goal.returns-clause-more
returns-clause-more c = stays_laid c.args.plan.now c.args.canvas.now.map c.args.sample.now c.args.rect.now c.map-map.ensures.canvas.map c.size-size.ensures.volume.small.axes c.requires.block c.requires.frame c.requires.next c.requires.laid
