use Rattle.std.proofs.Common.{◌++◌, length, take}
use Rattle.std.specs.List.{flat_map}
use Rattle.file_bytes.specs.Writing.{Puts}
use Rattle.source_map.specs.Heads.{count_field, size_field}
use Rattle.source_map.proofs.head.put_samples.Given as goal

abbrev pub invariant-loop-part : goal.invariant-loop-part
invariant-loop-part g l =
    let state = g.S.Shelf.state in
    Puts l.name (count_field l.fn.version (length l.samples) ++ flat_map size_field (take l.part l.samples)) (state l.fn.shelf) (state l.shelf) l.fn.file l.file
