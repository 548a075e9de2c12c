use Rattle.std.proofs.Common.{◌++◌, take}
use Rattle.std.specs.List.{flat_map}
use Rattle.file_bytes.specs.Writing.{HasPut}
use Rattle.source_map.specs.Heads.{sizes_field, start_form}
use Rattle.source_map.specs.MapFiles.{map_magic, source_field}
use Rattle.source_map.proofs.map_file.write_cell_map.Given as goal

abbrev pub invariant-loop-source : goal.invariant-loop-source
invariant-loop-source g l =
    let state = g.S.Shelf.state in
    HasPut l.name (start_form map_magic 0 l.version l.map.size ++ sizes_field l.version l.samples ++ flat_map (source_field l.version l.samples) (take l.source-index l.map.sources))
    (state l.fn.shelf) (state l.shelf) l.file
