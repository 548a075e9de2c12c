use Rattle.std.proofs.Common.{◌≡◌, ◌<◌, IfSome, None, length, map, take}
use Rattle.match_error.specs.Errors.{error_of}
use Rattle.cells.specs.Cells.{sizes_of}
use Rattle.offset_errors.specs.Errors.{AreErrors}
use Rattle.patch_picks.specs.Picks.{listed_on}
use Rattle.patch_place.specs.Tables.{IsShortlist, IsSoundShortlist}
use Rattle.patch_place.proofs.errors.placed_shortlist.Given as goal

abbrev pub invariant-entries : goal.invariant-entries
invariant-entries l = record {
  short : IsShortlist l.short (map (error_of l.canvas.map l.sample) (take l.i (listed_on l.canvas l.sample l.list)));
  sound : IsSoundShortlist l.short;
  seen : l.short.seen ≡ l.i;
  tol : l.short.tol ≡ l.fn.tol;
  known : l.short.known ≡ None;
  errors : IfSome l.errors.errors (AreErrors l.canvas.map l.sample);
  part : l.errors.part < length (sizes_of l.sample);
}
