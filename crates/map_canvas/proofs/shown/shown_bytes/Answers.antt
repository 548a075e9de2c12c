use Rattle.std.proofs.lemmas.Grind.{common_steps}
use Rattle.std.proofs.Common.{◌∙◌, ◌++◌, ◌<◌, ap, arith, length, subst, sym}
use Rattle.std.specs.Prelude.{IfSome, None}
use Rattle.std.proofs.lemmas.List.{get_or_default}
use Rattle.cells.specs.Cells.{HasCell}
use Rattle.map_canvas.specs.Shown.{shown_cell}
use Rattle.map_canvas.proofs.FromMaps.{bytes_more}
use Rattle.map_canvas.proofs.shown.shown_bytes.Goals as goal

pub loop-source-preserved : goal.loop-source-preserved
loop-source-preserved c =
    bytes_more (shown_cell c.args.sample.now) c.args.sources.now c.loop-source.source-index _ c.loop-source.bytes.items c.add_cell.new.bytes.items
    (omega (arith, c.loop-source-test.true, c.loop-source.auto.source-index-end)) c.loop-source.invariant (c.in_ok-add_cell.ensures {u = tt} ∙ ap (λ source. c.loop-source.bytes.items ++ shown_cell c.args.sample.now source) (c.source.ensures ∙ c.source-item.is))

pub returns : goal.returns
returns c = grind (arith, common_steps)

pub add_cell-requires : goal.add_cell-requires
add_cell-requires c =
    let i = c.loop-source.source-index in
    let lt : i < length c.args.sources.now = omega (arith, c.loop-source-test.true, c.loop-source.auto.source-index-end) in
    subst (λ source. IfSome source (HasCell c.args.sample.now)) (get_or_default c.args.sources.now i None c.source-item.result lt ∙ sym (c.source.ensures ∙ c.source-item.is)) (c.requires i lt)
