use Rattle.std.proofs.Common.{◌+◌, ap, arith, refl}
use Rattle.block_check.specs.Records.{BlockStands}
use Rattle.quilted.specs.Runs.{QuiltsBy, quilting}
use Rattle.quilted.proofs.Spots.{some_cells}
use Rattle.quilt.proofs.Stepping.{block_formed, more_cells, one_more}
use Rattle.quilt.proofs.work.step.Goals as goal

pub block_cost-requires : goal.block_cost-requires
block_cost-requires g c =
    let rating = g.P.BlockPicks.rating c.args.picks.now c.args.sample.now in
    let is : QuiltsBy rating c.args.asked.now.plan c.args.sample.now (quilting c.args.work.now.canvas.map c.args.work.now.draws) c.in-Some.block (quilting c.next_block_by.new.canvas.map c.next_block_by.new.draws) = rw c.in-Some.is at c.in_ok-next.ensures.next in
    block_formed rating c.args.asked.now c.args.sample.now c.samples-samples.ensures.volume c.requires.can c.args.work.now c.requires.work c.in-Some.block _ is

pub overflow_add-work : goal.overflow_add-work
overflow_add-work g c = omega (arith, c.requires.work.few, c.requires.work.within, c.block_boundaries.ensures.small)

pub overflow_add-work-2 : goal.overflow_add-work-2
overflow_add-work-2 g c = omega (arith, c.requires.work.cheap, c.requires.work.within, c.block_cost.ensures.small)

pub returns : goal.returns
returns g c =
    let rating = g.P.BlockPicks.rating c.args.picks.now c.args.sample.now in
    let is : QuiltsBy rating c.args.asked.now.plan c.args.sample.now (quilting c.args.work.now.canvas.map c.args.work.now.draws) c.in-Some.block (quilting c.next_block_by.new.canvas.map c.next_block_by.new.draws) = rw c.in-Some.is at c.in_ok-next.ensures.next in
    let stands : BlockStands c.args.work.now.canvas.map c.args.sample.now c.in-Some.block = rw c.in-Some.is at c.in_ok-next.ensures.stands in
    let some = some_cells c.in-Some.block.placement.rect.size is.fits.some in (
      one_more rating c.args.asked.now c.args.sample.now c.samples-samples.ensures.volume c.requires.can c.args.work.now c.requires.work c.in-Some.block _ is _ c.block_cost.result refl stands
          c.next_block_by.ensures.pictures c.next_block_by.ensures.laid c.map-map.ensures.canvas c.block_fits.ensures (omega (arith, some)) c.in-Ok.ensures.items c.requires.within
          (ap (λ n. c.args.work.now.boundaries + n) c.block_boundaries.ensures.count) (omega (arith, c.block_boundaries.ensures.small, c.block_boundaries.ensures.count)) refl c.block_cost.ensures.cost c.block_cost.ensures.small,
      omega (arith, some, more_cells rating c.args.asked.now c.args.sample.now c.samples-samples.ensures.volume c.requires.can c.args.work.now c.requires.work c.in-Some.block _ is _ c.in-Ok.ensures.items),
    )
