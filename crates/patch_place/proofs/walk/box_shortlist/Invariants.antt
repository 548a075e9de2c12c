use Rattle.std.proofs.Common.{◌≡◌, map}
use Rattle.std.specs.Prelude.{Contains, IfSome}
use Rattle.patch_place.specs.BoxErrors.{box_list}
use Rattle.patch_place.specs.Tables.{IsBoxDone, IsSeenTo, IsSoundShortlist}
use Rattle.patch_place.proofs.walk.box_shortlist.Given as goal

abbrev pub invariant-parts : goal.invariant-parts
invariant-parts g l = record {
  done : IsBoxDone (g.E.BoxErrors.error l.errors) l.rect l.sizes l.n l.short;
  seen : IsSeenTo l.rect l.sizes l.n l.short.seen;
  sound : IsSoundShortlist l.short;
  tol : l.short.tol ≡ l.fn.tol;
  known : IfSome l.short.known (Contains (map (g.E.BoxErrors.error l.errors) (box_list l.rect l.sample)));
}
