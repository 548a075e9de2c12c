use Rattle.std.proofs.Common.{◌≡◌, ◌≤◌, ◌+◌, ◌*◌}
use Rattle.std.specs.Prelude.{All, vec_len}
use Rattle.limits.specs.declared.bounds.TheConstants.{MOST_BOX_CELLS}
use Rattle.cut_check.specs.Records.{box_cells}
use Rattle.shelf_traits.specs.Files.{OnlyReadsFile}
use Rattle.source_map.specs.Readings.{Found}
use Rattle.cert_file.specs.CutForms.{IsCutInForm}
use Rattle.cert_file.specs.CutReading.{cuts_read}
use Rattle.cert_file.proofs.cut_reading.read_cuts_file.Given as goal

abbrev pub invariant-loop-i : goal.invariant-loop-i
invariant-loop-i g l = record {
  count : vec_len l.cuts ≡ l.i;
  at : l.file.at ≤ l.initial.file.at + 34 * l.before;
  few : l.before ≤ MOST_BOX_CELLS;
  before : l.before ≡ box_cells l.cuts.items;
  each : All (IsCutInForm l.head.samples) l.cuts.items;
  found : Found l.name l.initial.file.at (g.S.Shelf.state l.shelf) l.file (cuts_read l.head.version l.head.samples l.i) l.cuts.items;
  reads : OnlyReadsFile l.name (g.S.Shelf.state l.initial.shelf) (g.S.Shelf.state l.shelf);
}
