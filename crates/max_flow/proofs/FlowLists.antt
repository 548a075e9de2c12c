-- The lists of flows, pipe by pipe.
use Rattle.std.proofs.Common.{◌≡◌, ◌<◌, ◌≤◌, ◌+◌, ◌==◌, ℕ, zero, suc, List, [], ◌∷◌, length, slice_index, map, refl, ap, arith, Bool, true, false, pos, ◌-ℤ◌}
use Rattle.std.proofs.lemmas.Int.{ints}
use Rattle.max_flow.specs.declared.network.Pipe.{Pipe}
use Rattle.max_flow.specs.Networks.{pipe_at}
use Rattle.max_flow.specs.Flows.{part_if, net_leaving, pipe_flow}
use Rattle.max_flow.specs.Residual.{flows_of, excess, Carries}

pub length-flows_of : (pipes : List Pipe) (backward : List ℕ) → length backward ≡ length pipes → length (flows_of pipes backward) ≡ length pipes
unfolding flows_of
length-flows_of [] backward e = refl
length-flows_of (p ∷ ps) [] e = absurd (omega arith)
length-flows_of (p ∷ ps) (r ∷ rs) e = ap suc (length-flows_of ps rs (omega arith))

pub flow_at-flows_of : (pipes : List Pipe) (backward : List ℕ) (j : ℕ) → length backward ≡ length pipes → j < length pipes → pipe_flow (flows_of pipes backward) j ≡ pos (slice_index backward j) -ℤ pos (pipe_at pipes j).back
unfolding flows_of
flow_at-flows_of [] backward j e lt = absurd (omega arith)
flow_at-flows_of (p ∷ ps) [] j e lt = absurd (omega arith)
flow_at-flows_of (p ∷ ps) (r ∷ rs) zero e lt = refl
flow_at-flows_of (p ∷ ps) (r ∷ rs) (suc j) e lt = flow_at-flows_of ps rs j (omega arith) (omega arith)

-- where each arc against its pipe can carry what the pipe can carry back, nothing flows
abbrev pub at_rest : List Pipe → List ℕ
at_rest pipes = map (λ (p : Pipe). p.back) pipes

part_none : (b : Bool) (n : ℕ) → part_if b (pos n -ℤ pos n) ≡ pos 0
part_none true n = omega (arith, ints)
part_none false n = refl

net_leaving-at_rest : (side : ℕ → Bool) (pipes : List Pipe) → net_leaving side pipes (flows_of pipes (at_rest pipes)) ≡ pos 0
unfolding flows_of
net_leaving-at_rest side [] = refl
net_leaving-at_rest side (p ∷ ps) = omega (arith, ints, net_leaving-at_rest side ps, part_none (side p.from) p.back, part_none (side p.to) p.back)

length-at_rest : (pipes : List Pipe) → length (at_rest pipes) ≡ length pipes
length-at_rest [] = refl
length-at_rest (p ∷ ps) = ap suc (length-at_rest ps)

within-at_rest : (pipes : List Pipe) (j : ℕ) → j < length pipes → slice_index (at_rest pipes) j ≤ (pipe_at pipes j).ahead + (pipe_at pipes j).back
within-at_rest [] j lt = absurd (omega arith)
within-at_rest (p ∷ ps) zero lt = omega arith
within-at_rest (p ∷ ps) (suc j) lt = within-at_rest ps j (omega arith)

pub Carries-at_rest : (pipes : List Pipe) (source sink : ℕ) → Carries pipes source sink (at_rest pipes) 0
unfolding excess
Carries-at_rest pipes source sink = record {
  residuals = record { sized = length-at_rest pipes; within = within-at_rest pipes };
  leaves = net_leaving-at_rest (λ k. k == source) pipes;
  balance = λ n _ _. net_leaving-at_rest (λ k. k == n) pipes;
}
