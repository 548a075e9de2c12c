use Rattle.std.proofs.Common.{refl, arith}
use Rattle.standing_files.proofs.Sizes.{same_sizes}
use Rattle.standing_files.proofs.together.are_same.Goals as goal

pub returns : goal.returns
returns c =
    (λ done. same_sizes c.args.a.now c.args.b.now (omega (arith, c.len.ensures.len, c.len-2.ensures.len, c.if-len.false)) (λ k lt. c.loop-part.invariant k (omega (arith, c.len-part-end.ensures.len, c.loop-part-test.false))), λ same. refl)
