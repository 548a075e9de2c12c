use Rattle.std.proofs.Common.{map}
use Rattle.std.specs.Prelude.{Contains, IfSome}
use Rattle.patch_place.specs.BoxErrors.{box_list}
use Rattle.patch_place.specs.Tables.{IsFilledLow}
use Rattle.patch_place.proofs.hints.least_hint.Given as goal

abbrev pub invariant-hints : goal.invariant-hints
invariant-hints g l = record {
  listed : IfSome l.known (Contains (map (g.E.BoxErrors.error l.errors) (box_list l.rect l.sample)));
  low : IfSome l.known IsFilledLow;
}
