use Rattle.std.proofs.Common.{◌≡◌, take}
use Rattle.std.specs.Prelude.{filter_map}
use Rattle.job_words.specs.Names.{name_if_set}
use Rattle.job_words.proofs.fields.more_at.Given as goal

-- the names of the keys so far
abbrev pub invariant-loop-key : goal.invariant-loop-key
invariant-loop-key l = l.names.items ≡ filter_map (name_if_set l.settings) (take l.key-index l.keys)
