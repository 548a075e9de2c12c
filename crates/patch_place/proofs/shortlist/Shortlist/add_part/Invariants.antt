use Rattle.std.proofs.Common.{◌≡◌, ◌+◌, ◌-◌, ◌≤◌, ◌++◌, map, take}
use Rattle.search_squares.specs.Eliminations.{AreEliminatedBy}
use Rattle.cells.specs.Places.{cell_count}
use Rattle.cells.specs.SizeLists.{frames_to_part}
use Rattle.patch_place.specs.BoxErrors.{sum_from}
use Rattle.patch_picks.specs.Counts.{entries_before}
use Rattle.patch_place.specs.Spots.{IsSpotAt, room_entries}
use Rattle.patch_picks.specs.Lists.{fit_list}
use Rattle.patch_place.specs.Tables.{IsLimitOf, IsShortlist, IsSoundShortlist}
use Rattle.patch_place.proofs.shortlist.Shortlist.add_part.Given as goal

abbrev pub invariant-entries : goal.invariant-entries
invariant-entries g l = record {
  short :
      IsShortlist l.self
      (map (g.E.BoxErrors.error l.errors) (entries_before (fit_list l.rect) l.sizes l.n) ++ map (g.E.BoxErrors.error l.errors) (take l.done (room_entries l.rect l.sizes l.n l.free)));
  sound : IsSoundShortlist l.self;
  limited : IsLimitOf l.self l.count l.limit;
  seen : l.self.seen ≡ l.fn.self.seen + l.done;
  within : l.done ≤ cell_count l.free;
  tol : l.self.tol ≡ l.fn.self.tol;
  known : l.self.known ≡ l.fn.self.known;
  run : AreEliminatedBy (sum_from (g.E.BoxErrors.error l.errors) l.rect) l.skips.run;
  spot : IsSpotAt l.free (frames_to_part l.sizes l.n) l.done l.spot;
}

abbrev pub decreases-entries : goal.decreases-entries
decreases-entries g l = l.all - l.done
