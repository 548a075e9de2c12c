use Rattle.std.proofs.lemmas.Grind.{common_steps}
use Rattle.std.proofs.Common.{◌≡◌, ◌∙◌, arith, sym, subst}
use Rattle.cells.proofs.PartBoxes.{held_small}
use Rattle.std.proofs.lemmas.List.{take_at, with_items_is}
use Rattle.search_squares.specs.Sums.{AreAdded, AreCellSums, AreBlockEntries}
use Rattle.search_squares.proofs.BlockRows.{column_sums_fit, entries_of_cells, row_sums_fit}
use Rattle.search_squares.proofs.RowBytes.{rows_near}
use Rattle.search_squares.proofs.sums.BlockSums.make.Goals as goal

pub add_up-requires-clause-fits : goal.add_up-requires-clause-fits
add_up-requires-clause-fits c =
    let sample = c.args.sample.now in
    let rect = c.args.rect.now in
    row_sums_fit sample rect c.args.side c.requires.some c.requires.few c.deref_mut.result.now (subst (AreCellSums sample rect) (sym (c.deref_mut.ensures.value ∙ c.in_ok-sums.ensures.items)) (c.requires.cells (c.has_cells.ensures.0 c.if-not-has_cells.false)))

pub add_up-requires-2-clause-reach : goal.add_up-requires-2-clause-reach
add_up-requires-2-clause-reach c = rows_near c.args.side c.args.sample.now.k c.args.rect.now.size.w c.requires.few c.requires.some c.samples-sample.ensures.volume.samples.0 (held_small c.args.sample.now c.args.rect.now.corner c.args.rect.now.size c.samples-sample.ensures.volume (c.has_cells.ensures.0 c.if-not-has_cells.false) c.requires.inside).axes.w.1

pub add_up-requires-2-clause-fits : goal.add_up-requires-2-clause-fits
add_up-requires-2-clause-fits c =
    let sample = c.args.sample.now in
    let rect = c.args.rect.now in
    let mid_is : c.deref_mut-2.result.now ≡ c.add_up.new.entries = c.deref_mut-2.ensures.value ∙ with_items_is c.in_ok-sums.sums c.add_up.new.entries (omega (arith, c.add_up.ensures.long, c.deref_mut.ensures.len)) in
    column_sums_fit sample rect c.args.side c.requires.some c.requires.few c.deref_mut.result.now (subst (AreCellSums sample rect) (sym (c.deref_mut.ensures.value ∙ c.in_ok-sums.ensures.items)) (c.requires.cells (c.has_cells.ensures.0 c.if-not-has_cells.false))) c.deref_mut-2.result.now rect.size.w
    (subst (AreAdded 1 c.args.side c.deref_mut.result.now) (sym mid_is) c.add_up.ensures)

pub returns : goal.returns
returns c =
    let sample = c.args.sample.now in
    let rect = c.args.rect.now in
    let mid_is : c.deref_mut-2.result.now ≡ c.add_up.new.entries = c.deref_mut-2.ensures.value ∙ with_items_is c.in_ok-sums.sums c.add_up.new.entries (omega (arith, c.add_up.ensures.long, c.deref_mut.ensures.len)) in
    let entries : AreBlockEntries sample rect c.args.side _ =
    subst (AreBlockEntries sample rect c.args.side) (sym (take_at c.add_up-2.new.entries _ c.in_ok-sums.sums.len (omega (arith, c.add_up-2.ensures.long, c.deref_mut-2.ensures.len))))
    (entries_of_cells sample c.samples-sample.ensures.volume rect c.requires.inside c.args.side c.requires.some c.deref_mut.result.now c.deref_mut-2.result.now c.add_up-2.new.entries
    (subst (AreCellSums sample rect) (sym (c.deref_mut.ensures.value ∙ c.in_ok-sums.ensures.items)) (c.requires.cells (c.has_cells.ensures.0 c.if-not-has_cells.false))) (subst (AreAdded 1 c.args.side c.deref_mut.result.now) (sym mid_is) c.add_up.ensures) c.add_up-2.ensures) in
    record { some = c.requires.some; few = c.requires.few; inside = c.requires.inside; long = entries.long; entries = entries.each }

pub add_up-requires-2-clause-some : goal.add_up-requires-2-clause-some
add_up-requires-2-clause-some c = c.requires.some

pub returns-then-not-has_cells : goal.returns-then-not-has_cells
returns-then-not-has_cells c = grind (arith, common_steps)

pub add_up-requires-clause-reach : goal.add_up-requires-clause-reach
add_up-requires-clause-reach c = grind (arith, common_steps)

pub add_up-requires-clause-some : goal.add_up-requires-clause-some
add_up-requires-clause-some c = grind (arith, common_steps)
