use Rattle.std.proofs.Common.{◌++◌, take}
use Rattle.std.specs.List.{flat_map}
use Rattle.file_bytes.specs.Writing.{HasPut}
use Rattle.source_map.specs.Heads.{head_form}
use Rattle.source_map.specs.MapFiles.{map_magic}
use Rattle.turned_map.specs.declared.turned_file.TheConstants.{TURNED_KIND}
use Rattle.turned_map.specs.TurnedFiles.{turned_head, turned_source}
use Rattle.turned_map.proofs.turned_file.write_turned_map.Given as goal

abbrev pub invariant-loop-source : goal.invariant-loop-source
invariant-loop-source g l =
    let state = g.S.Shelf.state in
    HasPut l.name (head_form map_magic TURNED_KIND (turned_head l.map l.samples) ++ flat_map (turned_source l.samples) (take l.source-index l.map.sources)) (state l.fn.shelf) (state l.shelf) l.file
