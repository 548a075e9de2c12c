use Rattle.std.proofs.Common.{◌++◌, length, take}
use Rattle.std.specs.List.{flat_map}
use Rattle.std.specs.Prelude.{All}
use Rattle.source_map.specs.Heads.{head_form}
use Rattle.file_bytes.specs.Fields.{field_32}
use Rattle.file_bytes.specs.Writing.{HasPut}
use Rattle.cert_file.specs.BlockForms.{IsWideBlock, block_form}
use Rattle.cert_file.specs.RecordFiles.{blocks_kind, record_magic}
use Rattle.cert_file.proofs.blocks.write_blocks.Given as goal

abbrev pub invariant-loop-block : goal.invariant-loop-block
invariant-loop-block g l =
    let state = g.S.Shelf.state in
    record {
      put : HasPut l.name (head_form record_magic blocks_kind l.head ++ field_32 (length l.blocks) ++ flat_map block_form (take l.block-index l.blocks)) (state l.fn.shelf) (state l.shelf) l.file;
      wide : All IsWideBlock (take l.block-index l.blocks);
    }
