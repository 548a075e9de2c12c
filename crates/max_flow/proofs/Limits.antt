-- How much a flow can carry at most.
use Rattle.std.proofs.Common.{◌≡◌, ◌≢◌, ◌≤◌, ◌+◌, ◌*◌, ◌==◌, ℕ, suc, List, [], ◌∷◌, length, All, refl, ap, sym, subst, arith, Bool, true, false, pos, ◌-ℤ◌, ◌≤ℤ◌}
use Rattle.std.proofs.lemmas.Bool.{eq-eqb, ne_eqb}
use Rattle.std.proofs.lemmas.Int.{ints}
use Rattle.std.proofs.lemmas.List.Elements.{All-head, All-tail}
use Rattle.max_flow.specs.declared.network.Pipe.{Pipe}
use Rattle.max_flow.specs.Networks.{IsPipeOf}
use Rattle.max_flow.specs.Flows.{part_if, net_leaving}
use Rattle.max_flow.specs.Residual.{AreResiduals, flows_of, excess, Moves, Carries, total_capacity}

pub AreResiduals_tail : (p : Pipe) (ps : List Pipe) (r : ℕ) (rs : List ℕ) → AreResiduals (p ∷ ps) (r ∷ rs) → AreResiduals ps rs
AreResiduals_tail p ps r rs h = record { sized = omega (arith, h.sized); within = λ j lt. h.within (suc j) (omega arith) }

pipe_limit : (a b : Bool) (ahead back r : ℕ) → r ≤ ahead + back → (part_if a (pos r -ℤ pos back) -ℤ part_if b (pos r -ℤ pos back)) ≤ℤ pos (ahead + back)
pipe_limit true true ahead back r h = omega (arith, ints)
pipe_limit true false ahead back r h = omega (arith, ints)
pipe_limit false true ahead back r h = omega (arith, ints)
pipe_limit false false ahead back r h = omega (arith, ints)

leaving_limit : (side : ℕ → Bool) (pipes : List Pipe) (backward : List ℕ) → AreResiduals pipes backward → net_leaving side pipes (flows_of pipes backward) ≤ℤ pos (total_capacity pipes)
unfolding flows_of total_capacity
leaving_limit side [] backward h = omega (arith, ints)
leaving_limit side (p ∷ ps) [] h = absurd (omega (arith, h.sized))
leaving_limit side (p ∷ ps) (r ∷ rs) h =
    omega (arith, ints, pipe_limit (side p.from) (side p.to) p.ahead p.back r (h.within 0 (omega arith)), leaving_limit side ps rs (AreResiduals_tail p ps r rs h))

-- no flow carries more than all pipes together
pub value_limit : (pipes : List Pipe) (source sink : ℕ) (backward : List ℕ) (value : ℕ) → Carries pipes source sink backward value → value ≤ total_capacity pipes
unfolding excess
value_limit pipes source sink backward value h = omega (arith, ints, leaving_limit (λ k. k == source) pipes backward h.residuals, h.leaves)

pub total_limit : (n : ℕ) (pipes : List Pipe) → All (IsPipeOf n) pipes → total_capacity pipes ≤ 131072 * length pipes
unfolding total_capacity
total_limit n [] all = omega arith
total_limit n (p ∷ ps) all = let h = All-head (IsPipeOf n) p ps all in omega (arith, h.ahead_limit, h.back_limit, total_limit n ps (All-tail (IsPipeOf n) p ps all))

-- a flow carries more once more goes from the source to the sink
pub Carries_more : (pipes : List Pipe) (source sink : ℕ) (before after : List ℕ) (value amount : ℕ) → source ≢ sink → Carries pipes source sink before value → AreResiduals pipes after → Moves pipes source sink amount before after
    → Carries pipes source sink after (value + amount)
Carries_more pipes source sink before after value amount differ h are moves = record {
  residuals = are;
  leaves = omega (arith, ints, moves source, h.leaves, ap (λ b. part_if b (pos amount)) (eq-eqb source source refl), ap (λ b. part_if b (pos amount)) (ne_eqb sink source (λ e. differ (sym e))));
  balance = λ n other off. omega (arith, ints, moves n, h.balance n other off, ap (λ b. part_if b (pos amount)) (ne_eqb source n (λ e. other (sym e))), ap (λ b. part_if b (pos amount)) (ne_eqb sink n (λ e. off (sym e))));
}

-- the same flow, by other names
pub Carries_same : (pipes pipes' : List Pipe) (source source' sink sink' : ℕ) (backward backward' : List ℕ) (value : ℕ) → pipes' ≡ pipes → source' ≡ source → sink' ≡ sink → backward' ≡ backward → Carries pipes source sink backward value
    → Carries pipes' source' sink' backward' value
Carries_same pipes pipes' source source' sink sink' backward backward' value p s t b h =
    subst (λ (x : List Pipe). Carries x source' sink' backward' value) (sym p)
    (subst (λ x. Carries pipes x sink' backward' value) (sym s) (subst (λ x. Carries pipes source x backward' value) (sym t) (subst (λ (x : List ℕ). Carries pipes source sink x value) (sym b) h)))
