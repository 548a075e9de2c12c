use Rattle.std.proofs.Common.{ℕ, ◌<◌, ◌^◌, take, get_or, subst, sym, arith}
use Rattle.std.proofs.lemmas.List.{take_all, take_more}
use Rattle.std.proofs.lemmas.List.Elements.{All-push}
use Rattle.std.specs.Prelude.{All}
use Rattle.quilted.proofs.totals.columns_fit.Goals as goal

pub loop-column-init : goal.loop-column-init
loop-column-init c = λ i d lt. absurd (omega arith)

pub loop-column-preserved : goal.loop-column-preserved
loop-column-preserved c =
    let items = c.args.columns.now in
    let i = c.loop-column.column-index in
    subst (All (λ (n : ℕ). n < 2 ^ 16)) (sym (take_more items i 0 c.loop-column-test.true)) (All-push (λ (n : ℕ). n < 2 ^ 16) (take i items) (get_or items i 0) c.loop-column.invariant c.column_fits.ensures)

pub returns : goal.returns
returns c = subst (All (λ (n : ℕ). n < 2 ^ 16)) (take_all c.loop-column.column-index c.args.columns.now c.loop-column-test.false) c.loop-column.invariant
