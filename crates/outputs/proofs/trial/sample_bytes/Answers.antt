use Rattle.std.proofs.Common.{ap, sym, ◌∙◌, length, arith, ◌≡◌, ◌++◌, ◌∷◌, [], ℕ}
use Rattle.outputs.specs.TrialSamples.{trial_byte, trial_bytes}
use Rattle.outputs.proofs.TrialBytes.{length-bytes, no_byte, one_more}
use Rattle.outputs.proofs.trial.sample_bytes.Goals as goal

pub loop-j-init : goal.loop-j-init
loop-j-init c = (c.new-bytes.ensures.items ∙ sym (no_byte c.args.n), ap (λ d. d.place) c.from_seed-draws.ensures, ap (λ d. d.seed) c.from_seed-draws.ensures ∙ c.from.ensures)

pub loop-j-preserved : goal.loop-j-preserved
loop-j-preserved c =
    let added = (c.in_ok-add_byte.ensures {u = tt}).byte in
    let seed = c.loop-j.invariant.2 in
    (added ∙ (λ i. c.loop-j.invariant.0 i ++ trial_byte (seed i) c.loop-j.j ∷ []) ∙ sym (one_more c.args.n c.loop-j.j), c.add_byte.ensures.next, c.add_byte.ensures.seed ∙ seed)

pub returns-clause-bytes : goal.returns-clause-bytes
returns-clause-bytes c = let end : c.loop-j.j ≡ 12288 = omega (arith, c.loop-j-test.false, c.loop-j.auto.j-end) in c.loop-j.invariant.0 ∙ ap (trial_bytes c.args.n) end

pub returns-clause-whole : goal.returns-clause-whole
returns-clause-whole c =
    let end : c.loop-j.j ≡ 12288 = omega (arith, c.loop-j-test.false, c.loop-j.auto.j-end) in
    ap length c.loop-j.invariant.0 ∙ length-bytes c.args.n c.loop-j.j ∙ end
