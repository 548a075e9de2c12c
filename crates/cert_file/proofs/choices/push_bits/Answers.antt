use Rattle.std.proofs.Common.{◌++◌, ◌∷◌, [], ◌∙◌, get_or, ap, sym, append_assoc, take}
use Rattle.std.specs.Prelude.{false}
use Rattle.std.proofs.lemmas.List.{take_more}
use Rattle.cert_file.specs.CutReading.{byte_bits}
use Rattle.cert_file.proofs.choices.push_bits.Goals as goal

pub loop-bit-preserved : goal.loop-bit-preserved
loop-bit-preserved c =
    let old = c.args.bits.now.items in
    let all = byte_bits c.args.byte in
    let i = c.loop-bit.bit-index in
    (c.in_ok-push.ensures {u = tt}).items ∙ ap (λ items. items ++ get_or all i false ∷ []) (c.make_room.ensures.items ∙ c.loop-bit.invariant)
    ∙ append_assoc old (take i all) (get_or all i false ∷ []) ∙ ap (λ bits. old ++ bits) (sym (take_more all i false c.loop-bit-test.true))
