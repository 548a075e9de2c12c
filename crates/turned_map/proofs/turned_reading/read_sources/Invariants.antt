use Rattle.std.proofs.Common.{◌≡◌, ◌+◌, ◌*◌}
use Rattle.std.specs.Prelude.{vec_len, All, IfSome, IsSomeAnd}
use Rattle.shelf_traits.specs.Files.{OnlyReadsFile}
use Rattle.map_canvas.specs.Maps.{IsSource}
use Rattle.source_map.specs.Readings.{Found, list_read}
use Rattle.turned.specs.TurnedPlaces.{IsInTurned}
use Rattle.turned_map.specs.TurnedFiles.{turned_source_read}
use Rattle.turned_map.proofs.turned_reading.read_sources.Given as goal

abbrev pub invariant-loop-i : goal.invariant-loop-i
invariant-loop-i g l = record {
  found : Found l.name l.fn.file.at (g.S.Shelf.state l.shelf) l.file (list_read (turned_source_read l.samples) l.i) l.sources.items;
  count : vec_len l.sources ≡ l.i;
  at : l.file.at ≡ l.fn.file.at + 10 * l.i;
  sources : All (λ source. IfSome source IsSource) l.sources.items;
  inside : All (λ source. IsSomeAnd source (IsInTurned l.samples)) l.sources.items;
  reads : OnlyReadsFile l.name (g.S.Shelf.state l.fn.shelf) (g.S.Shelf.state l.shelf);
}
