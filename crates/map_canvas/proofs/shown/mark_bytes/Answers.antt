use Rattle.std.proofs.lemmas.Grind.{common_steps}
use Rattle.std.proofs.Common.{◌∙◌, ◌++◌, ap, arith, replicate}
use mir.Val.{bool_byte}
use Rattle.map_canvas.specs.Canvases.{mark_of}
use Rattle.map_canvas.proofs.FromMaps.{bytes_more, mark_is}
use Rattle.map_canvas.proofs.shown.mark_bytes.Goals as goal

pub loop-source-preserved : goal.loop-source-preserved
loop-source-preserved c =
    bytes_more (mark_of c.args.k) c.args.sources.now c.loop-source.source-index _ c.loop-source.bytes.items c.add_times.new.bytes.items
    (omega (arith, c.loop-source-test.true, c.loop-source.auto.source-index-end)) c.loop-source.invariant
    (c.in_ok-add_times.ensures {u = tt} ∙ ap (λ mark. c.loop-source.bytes.items ++ replicate c.args.k mark) (c.from-mark.ensures ∙ ap bool_byte c.is_some.ensures) ∙ ap (λ marks. c.loop-source.bytes.items ++ marks) (mark_is c.args.k c.source.result)
    ∙ ap (λ source. c.loop-source.bytes.items ++ mark_of c.args.k source) (c.source.ensures ∙ c.source-item.is))

pub returns : goal.returns
returns c = grind (arith, common_steps)
