use Rattle.std.proofs.Common.{◌≡◌, ◌≤◌, take}
use Rattle.std.specs.List.{count_by}
use Rattle.patch_place.specs.Tables.{is_near}
use Rattle.patch_place.proofs.eligible.nth_near.Given as goal

abbrev pub invariant-entries : goal.invariant-entries
invariant-entries l = record { counted : l.before ≡ count_by (is_near l.tol l.best) (take l.entry-index l.entries); most : l.before ≤ l.nth }
