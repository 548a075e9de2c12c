use Rattle.std.proofs.Common.{◌≤◌, ◌+◌, ◌-◌, ◌*◌, length}
use Rattle.std.specs.Prelude.{vec_len}
use Rattle.shelf_traits.specs.Files.{OnlyReadsFile}
use Rattle.source_map.specs.MapFiles.{source_read}
use Rattle.source_map.specs.Readings.{Found, list_read}
use Rattle.source_map.specs.Waiting.{AreSourcesIn}
use Rattle.source_map.proofs.source_reading.read_sources.Given as goal

abbrev pub invariant-reading : goal.invariant-reading
invariant-reading g l = record {
  found : Found l.name l.fn.file.at (g.S.Shelf.state l.shelf) l.file (list_read (source_read l.version l.samples) (length l.sources.items)) l.sources.items;
  few : vec_len l.sources ≤ l.count;
  at : l.file.at ≤ l.fn.file.at + 8 * vec_len l.sources;
  sources : AreSourcesIn l.samples l.sources.items;
  reads : OnlyReadsFile l.name (g.S.Shelf.state l.fn.shelf) (g.S.Shelf.state l.shelf);
}

abbrev pub decreases-reading : goal.decreases-reading
decreases-reading g l = l.count - vec_len l.sources
