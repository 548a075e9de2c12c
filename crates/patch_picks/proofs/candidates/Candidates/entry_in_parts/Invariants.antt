use Rattle.std.proofs.Common.{◌≡◌, ◌<◌, length}
use Rattle.std.specs.Prelude.{slice_get}
use Rattle.patch_picks.specs.Counts.{all_entries, entries_after, entries_in}
use Rattle.patch_picks.proofs.candidates.Candidates.entry_in_parts.Given as goal

abbrev pub invariant-parts : goal.invariant-parts
invariant-parts l = record {
  at : slice_get (all_entries l.self l.fn.output l.sizes) l.i ≡ slice_get (entries_after (entries_in l.self l.fn.output) l.sizes l.n) l.after;
  below : l.after < length (entries_after (entries_in l.self l.fn.output) l.sizes l.n);
}
