use Rattle.std.proofs.Common.{◌≡◌, get_or, rules, sym, ◌∙◌}
use Rattle.std.specs.Prelude.{max}
use Rattle.cost_windows.proofs.RowTops.{max_more}
use Rattle.cost_windows.proofs.tops.top_of.Goals as goal

pub loop-k-preserved : goal.loop-k-preserved
loop-k-preserved c =
    let row = c.args.row.now in
    let greater : c.max-top.result ≡ max c.loop-k.top (get_or row c.loop-k.k 0) = search rules in
    greater ∙ (λ i. max (c.loop-k.invariant i) (get_or row c.loop-k.k 0)) ∙ sym (max_more c.loop-k.k (λ i. get_or row i 0))
