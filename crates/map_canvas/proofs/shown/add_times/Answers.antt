use Rattle.std.proofs.Common.{◌++◌, ◌∷◌, [], ap, ◌∙◌, append_assoc, replicate}
use Rattle.std.proofs.lemmas.List.{replicate-append-replicate}
use Rattle.map_canvas.proofs.shown.add_times.Goals as goal

pub loop-preserved : goal.loop-preserved
loop-preserved c =
    let before = c.args.bytes.now.items in
    let byte = c.args.byte in
    c.in_ok-push.ensures.items
    ∙ ap (λ items. items ++ byte ∷ []) c.loop.invariant
    ∙ append_assoc before (replicate c.loop.counter byte) (byte ∷ [])
    ∙ ap (λ more. before ++ more) (replicate-append-replicate c.loop.counter 1 byte)
