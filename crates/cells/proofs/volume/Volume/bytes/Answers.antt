use Rattle.std.proofs.Common.{ap, sym, ◌∙◌}
use Rattle.cells.specs.Parts.{count_from}
use Rattle.cells.specs.Cells.{bytes_of}
use Rattle.cells.proofs.Chunks.{concat-cells_of_all}
use Rattle.cells.proofs.volume.Volume.bytes.Goals as goal

pub returns : goal.returns
returns c =
    c.as_slice.ensures.value ∙ sym (concat-cells_of_all c.self.inside.k (count_from c.self.inside.size c.self.inside.more) c.self.inside.bytes.items c.self.invariant.whole)
    ∙ ap bytes_of c.self.view_is
