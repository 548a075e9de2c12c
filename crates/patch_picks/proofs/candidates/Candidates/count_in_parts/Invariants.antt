use Rattle.std.proofs.Common.{◌≡◌, ◌+◌, length}
use Rattle.patch_picks.specs.Counts.{all_entries, entries_after, entries_in}
use Rattle.patch_picks.proofs.candidates.Candidates.count_in_parts.Given as goal

abbrev pub invariant-parts : goal.invariant-parts
invariant-parts l = l.count + length (entries_after (entries_in l.self l.fn.output) l.sizes l.n) ≡ length (all_entries l.self l.fn.output l.sizes)
