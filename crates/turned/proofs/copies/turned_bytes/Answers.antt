use Rattle.std.proofs.Common.{arith, ◌≡◌, ◌*◌, ◌/◌, ◌%◌, ◌++◌, ◌∙◌, ap, sym}
use Rattle.std.proofs.lemmas.Grind.{common_steps}
use Rattle.std.specs.List.{concat, range_with_len}
use Rattle.std.specs.Prelude.{map}
use Rattle.cells.proofs.Raster.{below_of_div}
use Rattle.turned.specs.Copies.{numbered_part, turned_row}
use Rattle.turned.specs.TurnedParts.{turned_cell}
use Rattle.turned.proofs.Copying.{rows_more}
use Rattle.cells.specs.Places.{place_of}
use Rattle.turned.proofs.copies.turned_bytes.Goals as goal

pub push_row-requires-clause-frame : goal.push_row-requires-clause-frame
push_row-requires-clause-frame c = below_of_div c.args.it.size.h c.args.it.size.f c.loop-row.row c.requires.small.axes.h.0 c.loop-row-test.true

pub loop-row-preserved : goal.loop-row-preserved
loop-row-preserved c =
    let part = numbered_part c.args.samples.now c.args.it.number in
    let turn = c.args.it.turn in
    let size = c.args.it.size in
    let row = c.loop-row.row in
    c.in_ok-push_row.ensures {u = tt}
    ∙ ap (λ xs. xs ++ concat (turned_row turn part (row % size.h) (row / size.h) size.w)) c.loop-row.invariant
    ∙ sym (rows_more (turned_cell turn part) size row c.requires.small.axes.h.0 c.loop-row-test.true)

pub returns : goal.returns
returns c =
    let size = c.args.it.size in
    let cell = turned_cell c.args.it.turn (numbered_part c.args.samples.now c.args.it.number) in
    let all : c.loop-row.row ≡ size.h * size.f = omega (arith, c.loop-row-test.false, c.loop-row.auto.row-end) in
    c.loop-row.invariant ∙ ap (λ rows. concat (map cell (map (place_of size) (range_with_len 0 (size.w * rows))))) all

pub overflow_mul-row-end : goal.overflow_mul-row-end
overflow_mul-row-end c = grind (arith, common_steps)
