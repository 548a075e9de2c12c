use Rattle.std.proofs.lemmas.Grind.{common_steps}
use Rattle.std.proofs.Common.{◌*◌, ◌∙◌, ap, arith, List, [], ℕ}
use Rattle.std.specs.Prelude.{replicate}
use Rattle.cells.specs.declared.place.Size.{Size}
use Rattle.cells.specs.Places.{cell_count}
use Rattle.cells.specs.Cells.{Cells, cells_of, volume_over}
use Rattle.cells.proofs.Rows.{cells_of-same}
use Rattle.cells.proofs.volume.Volume.make.Goals as goal

pub returns : goal.returns
returns c =
    let volume : List (List ℕ) → Cells = λ cells. record { size = c.args.size; more = []; k = c.args.k; cells = cells } in
    let count = cell_count c.args.size in
    ap (λ (more : List Size). volume_over c.args.size more c.args.k c.in_ok-bytes.bytes.items) c.none-more.ensures
    ∙ ap (λ bytes. volume (cells_of c.args.k count bytes)) ((c.in_ok-bytes.ensures {u = tt}).items_if_clones_equal (λ y same. same) ∙ ap (λ n. replicate {A = ℕ} (c.args.k * n) 0) c.cells.ensures)
    ∙ ap volume (cells_of-same c.args.k count (c.args.k * count) 0 (omega arith))

pub invariant_of-result : goal.invariant_of-result
invariant_of-result c = grind (arith, common_steps)

pub overflow_mul-k : goal.overflow_mul-k
overflow_mul-k c = grind (arith, common_steps)
