use Rattle.std.proofs.Common.{ℕ, ◌<◌, ◌^◌, take, get_or, subst, sym, arith}
use Rattle.std.proofs.lemmas.List.{take_all, take_more}
use Rattle.std.proofs.lemmas.List.Elements.{All-push}
use Rattle.std.specs.Prelude.{All}
use Rattle.quilted.proofs.totals.sums_fit.Goals as goal

pub loop-sum-init : goal.loop-sum-init
loop-sum-init c = λ i d lt. absurd (omega arith)

pub loop-sum-preserved : goal.loop-sum-preserved
loop-sum-preserved c =
    let items = c.args.sums.now in
    let i = c.loop-sum.sum-index in
    subst (All (λ (n : ℕ). n < 2 ^ 32)) (sym (take_more items i 0 c.loop-sum-test.true)) (All-push (λ (n : ℕ). n < 2 ^ 32) (take i items) (get_or items i 0) c.loop-sum.invariant c.sum_fits.ensures)

pub returns : goal.returns
returns c = subst (All (λ (n : ℕ). n < 2 ^ 32)) (take_all c.loop-sum.sum-index c.args.sums.now c.loop-sum-test.false) c.loop-sum.invariant
