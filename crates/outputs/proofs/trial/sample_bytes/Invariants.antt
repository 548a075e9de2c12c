use Rattle.std.proofs.Common.{◌≡◌}
use Rattle.outputs.specs.TrialSamples.{trial_bytes}
use Rattle.outputs.proofs.trial.sample_bytes.Given as goal

-- the bytes so far, and the draw that comes next
abbrev pub invariant-loop-j : goal.invariant-loop-j
invariant-loop-j l = (l.bytes.items ≡ trial_bytes l.n l.j) × (l.draws.place ≡ l.j) × (l.draws.seed ≡ l.n)
