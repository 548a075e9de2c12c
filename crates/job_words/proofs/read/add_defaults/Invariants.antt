use Rattle.std.proofs.Common.{◌≡◌, ◌++◌, take}
use Rattle.std.specs.Prelude.{filter_map}
use Rattle.job_words.specs.Words.{default_of}
use Rattle.job_words.proofs.read.add_defaults.Given as goal

abbrev pub invariant-loop-row : goal.invariant-loop-row
invariant-loop-row l = l.settings.items ≡ l.fn.settings.items ++ filter_map default_of (take l.row-index l.rows)
