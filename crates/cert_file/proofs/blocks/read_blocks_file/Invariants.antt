use Rattle.std.proofs.Common.{◌≡◌, ◌≤◌, ◌+◌, ◌*◌}
use Rattle.std.specs.Prelude.{All, vec_len}
use Rattle.limits.specs.declared.bounds.TheConstants.{MOST_BOX_CELLS}
use Rattle.shelf_traits.specs.Files.{OnlyReadsFile}
use Rattle.source_map.specs.Readings.{Found}
use Rattle.cert_file.specs.BlockForms.{IsBlockInForm}
use Rattle.cert_file.specs.BlockReading.{blocks_read}
use Rattle.block_check.specs.Blocks.{block_cells}
use Rattle.cert_file.proofs.blocks.read_blocks_file.Given as goal

abbrev pub invariant-loop-i : goal.invariant-loop-i
invariant-loop-i g l = record {
  count : vec_len l.blocks ≡ l.i;
  at : l.file.at ≤ l.initial.file.at + 29 * l.before;
  few : l.before ≤ MOST_BOX_CELLS;
  before : l.before ≡ block_cells l.blocks.items;
  each : All IsBlockInForm l.blocks.items;
  found : Found l.name l.initial.file.at (g.S.Shelf.state l.shelf) l.file (blocks_read l.i) l.blocks.items;
  reads : OnlyReadsFile l.name (g.S.Shelf.state l.initial.shelf) (g.S.Shelf.state l.shelf);
}
