use Rattle.std.proofs.Common.{◌≡◌, ap, arith}
use Rattle.boxes.specs.Sums.{sum_to}
use Rattle.targets.specs.Targets.{target_frame}
use Rattle.targets.proofs.Bounds.{target_small}
use Rattle.targets.proofs.target.target_error.Goals as goal

pub returns-clause-small : goal.returns-clause-small
returns-clause-small c =
    let target = c.args.target.now in
    let sample = c.args.sample.now in
    let placement = c.args.placement.now in
    let whole : c.loop-f.f ≡ placement.rect.size.f = omega (arith, c.loop-f-test.false, c.loop-f.auto.f-end) in
    let sum = ap (λ n. sum_to n (target_frame target sample placement)) whole in
    omega (arith, c.loop-f.invariant.sum, sum, target_small target sample placement c.samples-target.ensures.volume c.samples-sample.ensures.volume)
