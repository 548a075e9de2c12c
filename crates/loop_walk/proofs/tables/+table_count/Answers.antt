use Rattle.std.proofs.Common.{◌+◌, ap, sym, ◌∙◌, arith}
use Rattle.loop_walk.specs.Tables.{table_count}
use Rattle.loop_walk.proofs.Lengths.{table_count-more}
use Rattle.loop_walk.proofs.tables.+table_count.Goals as goal

pub returns-else-length-le1-clause-count : goal.returns-else-length-le1-clause-count
returns-else-length-le1-clause-count t c =
    ap (λ n. n + 1) (c.table_count.ensures.count ∙ ap table_count c.length_before.ensures)
    ∙ sym (table_count-more c.args.length (omega arith))
