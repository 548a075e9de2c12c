use Rattle.std.proofs.lemmas.Grind.{common_steps}
use Rattle.std.proofs.Common.{◌≡◌, ◌<◌, ◌*◌, ◌/◌, ◌%◌, ◌^◌, ap, sym, subst, ◌∙◌, arith}
use Rattle.cells.specs.Cells.{Cells, HasRun}
use Rattle.cells.specs.Places.{SumFits, place_of, plus, spot}
use Rattle.cells.proofs.BoxLaws.{box_small, box_sum_fits, step_of}
use Rattle.search_squares.specs.Blocks.{HasSumOf, block_bytes, block_sum}
use Rattle.search_squares.specs.declared.blocks.Block.{Block}
use Rattle.search_squares.proofs.BlockPlaces.{block_rows, picture_row}
use Rattle.search_squares.proofs.Gatherings.{more_gathered}
use Rattle.search_squares.proofs.blocks.BoxBlocks.add_from.Goals as goal

pub is_block_free-requires : goal.is_block_free-requires
is_block_free-requires c = λ j lj.
    omega (
      arith,
      block_rows c.args.rect.now.size c.args.i c.args.self.now.side j c.requires.some c.requires.below (c.has_room.ensures c.if-not-has_room.false) lj,
      c.requires.gathered.long,
    )

pub place_at-step-requires-clause-small : goal.place_at-step-requires-clause-small
place_at-step-requires-clause-small c = box_small c.args.canvas.now.map.size c.args.rect.now.corner c.args.rect.now.size c.picture-picture.ensures.canvas.map.small c.requires.some c.requires.inside

pub plus-requires : goal.plus-requires
plus-requires c =
    let rect = c.args.rect.now in
    subst (SumFits rect.corner) (sym c.place_at-step.ensures)
    (box_sum_fits c.args.canvas.now.map.size rect.corner rect.size c.args.i c.picture-picture.ensures.canvas.map.small.axes c.requires.inside c.requires.some c.requires.below)

pub block_sum-sum-requires-clause-small : goal.block_sum-sum-requires-clause-small
block_sum-sum-requires-clause-small c =
    let small = box_small c.args.canvas.now.map.size c.args.rect.now.corner c.args.rect.now.size c.picture-picture.ensures.canvas.map.small c.requires.some c.requires.inside in
    omega (arith, (c.has_room.ensures c.if-not-has_room.false).columns, small.axes.w)

pub block_sum-sum-requires-clause-rows : goal.block_sum-sum-requires-clause-rows
block_sum-sum-requires-clause-rows c = λ j lj.
    let canvas = c.args.canvas.now in
    let rect = c.args.rect.now in
    let side = c.args.self.now.side in
    let at : c.plus.result ≡ plus rect.corner (place_of rect.size c.args.i) = c.plus.ensures ∙ ap (plus rect.corner) c.place_at-step.ensures in
    subst (λ (v : Cells). HasRun v (plus c.plus.result (spot 0 j 0)) side) (sym c.picture-picture.ensures.picture)
    (subst (λ p. HasRun canvas.picture (plus p (spot 0 j 0)) side) (sym at)
    (picture_row canvas rect c.args.i side j c.picture-picture.ensures.canvas c.requires.inside c.requires.some c.requires.below (c.has_room.ensures c.if-not-has_room.false) lj))

pub block_sum-sum-requires-clause-few : goal.block_sum-sum-requires-clause-few
block_sum-sum-requires-clause-few c = subst (λ (v : Cells). 255 * block_bytes c.args.self.now.side v.k < 2 ^ 16) (sym c.picture-picture.ensures.picture) c.requires.few

pub entries_before-entry-requires-clause-step : goal.entries_before-entry-requires-clause-step
entries_before-entry-requires-clause-step c =
    let size = c.args.rect.now.size in
    let step = step_of size c.args.i c.requires.some c.requires.below in
    let small = box_small c.args.canvas.now.map.size c.args.rect.now.corner size c.picture-picture.ensures.canvas.map.small c.requires.some c.requires.inside in
    record {
      x = c.args.i % size.w;
      y = c.args.i / size.w % size.h;
      f = c.args.i / size.w / size.h;
      is = c.place_at-step.ensures;
      short = (omega (arith, step.x, small.axes.w), omega (arith, step.y, small.axes.h), omega (arith, step.f, small.axes.f));
    }

pub take_block-requires-clause-across : goal.take_block-requires-clause-across
take_block-requires-clause-across c = omega (arith, (c.has_room.ensures c.if-not-has_room.false).columns)

pub take_block-requires-clause-rows : goal.take_block-requires-clause-rows
take_block-requires-clause-rows c = λ j lj.
    omega (arith, block_rows c.args.rect.now.size c.args.i c.args.self.now.side j c.requires.some c.requires.below (c.has_room.ensures c.if-not-has_room.false) lj, c.requires.gathered.long)

pub returns-clause-gathered : goal.returns-clause-gathered
returns-clause-gathered c =
    let canvas = c.args.canvas.now in
    let rect = c.args.rect.now in
    let side = c.args.self.now.side in
    let at : c.plus.result ≡ plus rect.corner c.place_at-step.result = c.plus.ensures in
    let block : Block = record { entry = c.entries_before-entry.result; step = c.place_at-step.result; sum = c.block_sum-sum.result } in
    let has_sum : HasSumOf canvas rect side block = c.block_sum-sum.ensures ∙ (λ k. block_sum (c.picture-picture.ensures.picture k) side (at k)) in
    more_gathered canvas rect side c.args.self.now.size c.args.i _ c.args.self.now.blocks.items _ block c.args.free.now c.take_block.new.free
    c.requires.some c.requires.below (c.has_room.ensures c.if-not-has_room.false) (c.is_block_free.ensures c.if-not-is_block_free.false) c.place_at-step.ensures c.entries_before-entry.ensures has_sum c.in_ok-push.ensures.items c.take_block.ensures c.requires.gathered

pub place_at-step-requires-clause-below : goal.place_at-step-requires-clause-below
place_at-step-requires-clause-below c = grind (arith, common_steps)

pub returns-clause-size : goal.returns-clause-size
returns-clause-size c = grind (arith, common_steps)

pub returns-clause-side : goal.returns-clause-side
returns-clause-side c = grind (arith, common_steps)

pub returns-then-not-is_block_free-clause-gathered : goal.returns-then-not-is_block_free-clause-gathered
returns-then-not-is_block_free-clause-gathered c = grind (arith, common_steps)
