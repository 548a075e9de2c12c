use Rattle.std.proofs.Common.{◌≡◌, ◌∙◌, ap, rules, subst, sym}
use Rattle.std.specs.List.{concat}
use Rattle.cells.specs.declared.place.At.{At}
use Rattle.cells.specs.Cells.{HasRun, row_at}
use Rattle.cells.specs.Places.{IsInside, spot}
use Rattle.cells.specs.SizeLists.{stock_place}
use Rattle.turned.specs.Copies.{numbered_part, turned_row}
use Rattle.turned.specs.Turns.{turn_from, turn_size}
use Rattle.turned.specs.TurnedPlaces.{sample_size}
use Rattle.turned.proofs.Copying.{row_it, run_it, source_inside, spot_within}
use Rattle.turned.proofs.copies.push_row.Goals as goal

pub source_of-at-requires-clause-inside : goal.source_of-at-requires-clause-inside
source_of-at-requires-clause-inside c =
    subst (λ (p : At). IsInside (turn_size c.args.it.turn (sample_size c.args.sizes.now c.args.it.number)) p) (sym c.spot_of.ensures)
    (source_inside c.args.samples.now c.args.sizes.now c.args.it c.requires.part c.samples-k.ensures.volume (spot 0 c.args.y c.args.f)
    (spot_within c.args.it.size 0 c.args.y c.args.f c.requires.part.small.axes.w.0 c.requires.row c.requires.frame))

pub row-requires : goal.row-requires
row-requires c =
    subst (λ (p : At). HasRun c.args.samples.now p c.args.it.size.w)
    (sym (c.source_of-at.ensures ∙ ap (λ (p : At). stock_place c.args.sizes.now c.args.it.number (turn_from c.args.it.turn (sample_size c.args.sizes.now c.args.it.number) p)) c.spot_of.ensures))
    (run_it c.args.samples.now c.args.sizes.now c.args.it c.requires.part c.samples-k.ensures.volume (c.keeps_rows.ensures.0 c.if-keeps_rows.true) c.args.y c.args.f c.requires.row c.requires.frame)

pub returns-then-keeps_rows : goal.returns-then-keeps_rows
returns-then-keeps_rows c =
    let row : c.row.result.now ≡ concat (turned_row c.args.it.turn (numbered_part c.args.samples.now c.args.it.number) c.args.y c.args.f c.args.it.size.w) =
    c.row.ensures.bytes
    ∙ ap (λ (p : At). row_at c.args.samples.now p c.args.it.size.w)
    (c.source_of-at.ensures ∙ ap (λ (p : At). stock_place c.args.sizes.now c.args.it.number (turn_from c.args.it.turn (sample_size c.args.sizes.now c.args.it.number) p)) c.spot_of.ensures)
    ∙ row_it c.args.samples.now c.args.sizes.now c.args.it c.requires.part c.samples-k.ensures.volume (c.keeps_rows.ensures.0 c.if-keeps_rows.true) c.args.y c.args.f c.requires.row c.requires.frame in
    search rules
