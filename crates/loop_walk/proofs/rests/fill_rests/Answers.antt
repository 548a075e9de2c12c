use Rattle.std.proofs.Common.{arith, ◌≡◌, ◌<◌, ◌-◌, ◌∙◌, ap, length, get_or}
use Rattle.std.specs.Prelude.{min}
use Rattle.loop_walk.specs.Rests.{rest_of}
use Rattle.loop_walk.proofs.ProductLaws.{set_more}
use Rattle.loop_walk.proofs.rests.fill_rests.Goals as goal

pub loop-k-preserved : goal.loop-k-preserved
loop-k-preserved c =
    let rests = c.loop-k.rests in
    let k = c.loop-k.k in
    let inside : k < length rests = omega (arith, c.loop-k.auto.rests, c.requires.rests, c.loop-k-test.true) in
    set_more (λ u rest. rest ≡ rest_of c.args.base (get_or c.args.numbers.now u 0)) rests k _ inside c.loop-k.invariant
    (c.min.ensures ∙ ap (λ n. min (get_or c.args.numbers.now k 0 - c.args.base) n) c.from.ensures)
