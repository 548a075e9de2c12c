use Rattle.std.proofs.Common.{take}
use Rattle.std.specs.List.{flat_map}
use Rattle.file_bytes.specs.Writing.{Puts}
use Rattle.file_bytes.proofs.writer.FileWriter.put_all.Given as goal

abbrev pub invariant-loop-number : goal.invariant-loop-number
invariant-loop-number g l =
    let state = g.S.Shelf.state in
    Puts l.name (flat_map g.T.Field.field (take l.number-index l.numbers)) (state l.fn.shelf) (state l.shelf) l.fn.self l.self
