use Rattle.std.proofs.Common.{◌≡◌, ◌+◌, ◌*◌}
use Rattle.std.specs.Prelude.{vec_len}
use Rattle.shelf_traits.specs.Files.{OnlyReadsFile}
use Rattle.source_map.specs.Readings.{Found, list_read}
use Rattle.cert_file.specs.CutReading.{flow_read}
use Rattle.cert_file.proofs.cut_reading.read_flows.Given as goal

abbrev pub invariant-loop-i : goal.invariant-loop-i
invariant-loop-i g l = record {
  count : vec_len l.flows ≡ l.i;
  at : l.file.at ≡ l.fn.file.at + 4 * l.i;
  found : Found l.name l.fn.file.at (g.S.Shelf.state l.shelf) l.file (list_read flow_read l.i) l.flows.items;
  reads : OnlyReadsFile l.name (g.S.Shelf.state l.fn.shelf) (g.S.Shelf.state l.shelf);
}
