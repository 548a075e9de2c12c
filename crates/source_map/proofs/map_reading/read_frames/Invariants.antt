use Rattle.std.proofs.Common.{◌≡◌, ◌≤◌, ◌<◌, ◌+◌, ◌*◌}
use Rattle.std.specs.Int.{w16}
use Rattle.std.specs.Prelude.{vec_len, All, Ok}
use Rattle.shelf_traits.specs.Files.{OnlyReadsFile}
use Rattle.file_bytes.specs.Reading.{OfFile}
use Rattle.source_map.specs.MapFiles.{below_rule, sample_read}
use Rattle.source_map.specs.Readings.{Found, list_read, number_read}
use Rattle.source_map.proofs.map_reading.read_frames.Given as goal

abbrev pub invariant-loop-i : goal.invariant-loop-i
invariant-loop-i g l = record {
  sample : OfFile l.name (g.S.Shelf.state l.shelf).files (λ bytes. sample_read l.size l.fn.file.at bytes ≡ Ok (l.sample, l.fn.file.at + 12));
  found : Found l.name (l.fn.file.at + 12) (g.S.Shelf.state l.shelf) l.file (list_read (number_read w16 (below_rule l.sample.f)) l.i) l.frames.items;
  count : vec_len l.frames ≡ l.i;
  below : All (λ e. e < l.sample.f) l.frames.items;
  at : l.file.at ≤ l.fn.file.at + 12 + 2 * l.i;
  reads : OnlyReadsFile l.name (g.S.Shelf.state l.fn.shelf) (g.S.Shelf.state l.shelf);
}
