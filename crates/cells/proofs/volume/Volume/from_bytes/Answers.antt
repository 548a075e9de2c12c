use Rattle.std.proofs.Common.{arith}
use Rattle.std.proofs.lemmas.Grind.{common_steps}
use Rattle.std.proofs.Common.{ap, ◌∙◌}
use Rattle.std.specs.Prelude.{List}
use Rattle.cells.specs.declared.place.Size.{Size}
use Rattle.cells.specs.Places.{cell_count}
use Rattle.cells.specs.Cells.{bytes_of, volume_over}
use Rattle.cells.proofs.Chunks.{concat-cells_of_all}
use Rattle.cells.proofs.volume.Volume.from_bytes.Goals as goal

pub returns-clause-volume : goal.returns-clause-volume
returns-clause-volume c = ap (λ (more : List Size). volume_over c.args.size more c.args.k c.args.bytes.items) c.none-more.ensures

pub returns-clause-bytes : goal.returns-clause-bytes
returns-clause-bytes c =
    ap (λ (more : List Size). bytes_of (volume_over c.args.size more c.args.k c.args.bytes.items)) c.none-more.ensures
    ∙ concat-cells_of_all c.args.k (cell_count c.args.size) c.args.bytes.items c.requires.whole

pub invariant_of-result : goal.invariant_of-result
invariant_of-result c = grind (arith, common_steps)
