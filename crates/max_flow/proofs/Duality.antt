-- A flow and a cut of equal size are a greatest flow and a least cut, after Ford and Fulkerson.
use Rattle.std.proofs.Common.{◌≡◌, ◌<◌, ◌≤◌, ◌==◌, ℕ, zero, suc, List, [], ◌∷◌, length, All, refl, ap, sym, ◌∙◌, arith, ⊎_elim, Bool, true, false, ℤ, pos, ◌+ℤ◌, ◌-ℤ◌, ◌≤ℤ◌, nat_lt, cond}
use Rattle.std.proofs.lemmas.Bool.{eq-eqb, ne_eqb, cases_eq, cases_lt, lt-ltb, le-ltb, cases_Bool, false≢true}
use Rattle.std.proofs.lemmas.Int.{ints}
use Rattle.std.proofs.lemmas.List.Elements.{All-head, All-tail}
use Rattle.max_flow.specs.declared.network.Pipe.{Pipe}
use Rattle.max_flow.specs.Networks.{FlowNetwork, IsPipeOf, pipe_at}
use Rattle.max_flow.specs.Flows.{part_if, pipe_flow, net_leaving, FitsPipe, IsFlow, flow_value, crossing, capacity_out}

-- two sets that agree at the ends of all pipes
net_same : (n : ℕ) (side other : ℕ → Bool) (pipes : List Pipe) (flows : List ℤ) → All (IsPipeOf n) pipes → ((k : ℕ) → k < n → side k ≡ other k) → net_leaving side pipes flows ≡ net_leaving other pipes flows
net_same n side other [] flows all same = refl
net_same n side other (p ∷ ps) [] all same = refl
net_same n side other (p ∷ ps) (f ∷ fs) all same =
    let h = All-head (IsPipeOf n) p ps all in
    omega (arith, ints, ap (λ b. part_if b f) (same p.from h.from_in), ap (λ b. part_if b f) (same p.to h.to_in), net_same n side other ps fs (All-tail (IsPipeOf n) p ps all) same)

-- what leaves two sets without a common node leaves the one or the other
net_both : (side one two : ℕ → Bool) (pipes : List Pipe) (flows : List ℤ) → ((k : ℕ) (z : ℤ) → part_if (side k) z ≡ part_if (one k) z +ℤ part_if (two k) z)
    → net_leaving side pipes flows ≡ net_leaving one pipes flows +ℤ net_leaving two pipes flows
net_both side one two [] flows parts = refl
net_both side one two (p ∷ ps) [] parts = refl
net_both side one two (p ∷ ps) (f ∷ fs) parts = omega (arith, ints, parts p.from f, parts p.to f, net_both side one two ps fs parts)

net_none : (side : ℕ → Bool) (pipes : List Pipe) (flows : List ℤ) → ((k : ℕ) → side k ≡ false) → net_leaving side pipes flows ≡ pos 0
net_none side [] flows none = refl
net_none side (p ∷ ps) [] none = refl
net_none side (p ∷ ps) (f ∷ fs) none = omega (arith, ints, ap (λ b. part_if b f) (none p.from), ap (λ b. part_if b f) (none p.to), net_none side ps fs none)

-- the nodes of a set below a number
abbrev below : (ℕ → Bool) → ℕ → ℕ → Bool
below side n k = cond (nat_lt k n) (side k) false

below_in : (side : ℕ → Bool) (n k : ℕ) → k < n → below side n k ≡ side k
below_in side n k lt = ap (λ b. cond b (side k) false) (lt-ltb k n lt)

below_out : (side : ℕ → Bool) (n k : ℕ) → n ≤ k → below side n k ≡ false
below_out side n k le = ap (λ b. cond b (side k) false) (le-ltb k n le)

-- a number that counts once, either way
once_in : (b : Bool) (z : ℤ) → part_if b z ≡ part_if b z +ℤ part_if false z
once_in true z = omega (arith, ints)
once_in false z = refl

once_out : (z : ℤ) → part_if true z ≡ part_if false z +ℤ part_if true z
once_out z = omega (arith, ints)

module _ (side : ℕ → Bool) (n : ℕ) where
  -- one node more, which is in the set
  more_in : side n ≡ true → (k : ℕ) (z : ℤ) → part_if (below side (suc n) k) z ≡ part_if (below side n k) z +ℤ part_if (k == n) z
  more_in held k z = ⊎_elim
      (λ same. ap (λ b. part_if b z) (below_in side (suc n) k (omega arith) ∙ ap side same ∙ held) ∙ once_out z
      ∙ ap (λ b. part_if b z +ℤ part_if true z) (sym (below_out side n k (omega arith))) ∙ ap (λ b. part_if (below side n k) z +ℤ part_if b z) (sym (eq-eqb k n same)))
      (λ other. ap (λ b. part_if b z) (kept other) ∙ once_in (below side n k) z ∙ ap (λ b. part_if (below side n k) z +ℤ part_if b z) (sym (ne_eqb k n other)))
      (cases_eq k n)
    where
      kept : (k ≡ n → ⊥) → below side (suc n) k ≡ below side n k
      kept other = ⊎_elim (λ lt. below_in side (suc n) k (omega arith) ∙ sym (below_in side n k lt)) (λ le. below_out side (suc n) k (omega arith) ∙ sym (below_out side n k le)) (cases_lt k n)

  -- one node more, which isn't
  more_out : side n ≡ false → (k : ℕ) (z : ℤ) → part_if (below side (suc n) k) z ≡ part_if (below side n k) z +ℤ part_if false z
  more_out free k z = ap (λ b. part_if b z) kept ∙ once_in (below side n k) z
    where
      kept : below side (suc n) k ≡ below side n k
      kept = ⊎_elim
          (λ lt. below_in side (suc n) k (omega arith) ∙ sym (below_in side n k lt))
          (λ le. ⊎_elim (λ same. below_in side (suc n) k (omega arith) ∙ ap side same ∙ free ∙ sym (below_out side n k le)) (λ other. below_out side (suc n) k (omega arith) ∙ sym (below_out side n k le)) (cases_eq k n))
          (cases_lt k n)

module _ (network : FlowNetwork) (flows : List ℤ) (flow : IsFlow network flows) (side : ℕ → Bool) (source : side network.source ≡ true) (sink : side network.sink ≡ false) where
  abbrev gone : (ℕ → Bool) → ℤ
  gone s = net_leaving s network.pipes flows

  -- what leaves the nodes of the set below a number: the value, once the source is among them
  net_below : (n : ℕ) → gone (below side n) ≡ part_if (nat_lt network.source n) (flow_value network flows)
  net_below zero = net_none (below side 0) network.pipes flows (λ k. below_out side 0 k (omega arith)) ∙ ap (λ b. part_if b (flow_value network flows)) (sym (le-ltb network.source 0 (omega arith)))
  net_below (suc n) = let before = net_below n in ⊎_elim (held before) (free before) (cases_Bool (side n))
    where
      same_part : (network.source ≡ n → ⊥) → nat_lt network.source n ≡ nat_lt network.source (suc n)
      same_part other = ⊎_elim (λ lt. lt-ltb _ _ lt ∙ sym (lt-ltb network.source (suc n) (omega arith))) (λ le. le-ltb _ _ le ∙ sym (le-ltb network.source (suc n) (omega arith))) (cases_lt network.source n)

      held : gone (below side n) ≡ part_if (nat_lt network.source n) (flow_value network flows) → side n ≡ true → gone (below side (suc n)) ≡ part_if (nat_lt network.source (suc n)) (flow_value network flows)
      held ih in_set =
          let split = net_both (below side (suc n)) (below side n) (λ k. k == n) network.pipes flows (more_in side n in_set) in
          ⊎_elim
          (λ same.
          let before = ap (λ b. part_if b (flow_value network flows)) (le-ltb network.source n (omega (arith, same))) in
          let after = ap (λ b. part_if b (flow_value network flows)) (lt-ltb network.source (suc n) (omega (arith, same))) in
          omega (arith, ints, split, ih, before, after, ap (λ m. gone (λ k. k == m)) same))
          (λ other.
          let at = flow.balance n (λ e. other (sym e)) (λ e. false≢true (sym sink ∙ ap side (sym e) ∙ in_set)) in
          omega (arith, ints, split, ih, at, ap (λ b. part_if b (flow_value network flows)) (same_part other)))
          (cases_eq network.source n)

      free : gone (below side n) ≡ part_if (nat_lt network.source n) (flow_value network flows) → side n ≡ false → gone (below side (suc n)) ≡ part_if (nat_lt network.source (suc n)) (flow_value network flows)
      free ih out =
          let split = net_both (below side (suc n)) (below side n) (λ _. false) network.pipes flows (more_out side n out) in
          let none = net_none (λ _. false) network.pipes flows (λ k. refl) in
          let other : network.source ≡ n → ⊥ = λ e. false≢true (sym out ∙ ap side (sym e) ∙ source) in
          omega (arith, ints, split, none, ih, ap (λ b. part_if b (flow_value network flows)) (same_part other))

  -- what leaves a set with the source and without the sink is the value
  pub value_leaves : All (IsPipeOf network.nodes) network.pipes → network.source < network.nodes → net_leaving side network.pipes flows ≡ flow_value network flows
  value_leaves all source_in =
      net_same network.nodes side (below side network.nodes) network.pipes flows all (λ k lt. sym (below_in side network.nodes k lt))
      ∙ net_below network.nodes ∙ ap (λ b. part_if b (flow_value network flows)) (lt-ltb network.source network.nodes source_in)

-- the flow of each pipe fits it
abbrev pub AllFit : List Pipe → List ℤ → Type 0
AllFit pipes flows = (j : ℕ) → j < length pipes → FitsPipe (pipe_at pipes j) (pipe_flow flows j)

pipe_crosses : (a b : Bool) (p : Pipe) (f : ℤ) → FitsPipe p f → (part_if a f -ℤ part_if b f) ≤ℤ pos (crossing a b p)
pipe_crosses true true p f h = omega (arith, ints)
pipe_crosses true false p f h = omega (arith, ints, h.ahead)
pipe_crosses false true p f h = omega (arith, ints, h.back)
pipe_crosses false false p f h = omega (arith, ints)

-- no more leaves a set than the pipes can carry out of it
pub leaves_le : (side : ℕ → Bool) (pipes : List Pipe) (flows : List ℤ) → length flows ≡ length pipes → AllFit pipes flows → net_leaving side pipes flows ≤ℤ pos (capacity_out side pipes)
leaves_le side [] flows sized fits = omega (arith, ints)
leaves_le side (p ∷ ps) [] sized fits = absurd (omega arith)
leaves_le side (p ∷ ps) (f ∷ fs) sized fits =
    omega (arith, ints, pipe_crosses (side p.from) (side p.to) p f (fits 0 (omega arith)), leaves_le side ps fs (omega arith) (λ j lt. fits (suc j) (omega arith)))

-- a pipe that carries all that it can out of a set, where its ends are on these sides
abbrev pub IsFull : Bool → Bool → Pipe → ℤ → Type 0
IsFull a b p f = (part_if a f -ℤ part_if b f) ≡ pos (crossing a b p)

abbrev pub AllFull : (ℕ → Bool) → List Pipe → List ℤ → Type 0
AllFull side pipes flows = (j : ℕ) → j < length pipes → IsFull (side (pipe_at pipes j).from) (side (pipe_at pipes j).to) (pipe_at pipes j) (pipe_flow flows j)

pub full_leaves : (side : ℕ → Bool) (pipes : List Pipe) (flows : List ℤ) → length flows ≡ length pipes → AllFull side pipes flows → net_leaving side pipes flows ≡ pos (capacity_out side pipes)
full_leaves side [] flows sized full = refl
full_leaves side (p ∷ ps) [] sized full = absurd (omega arith)
full_leaves side (p ∷ ps) (f ∷ fs) sized full =
    omega (arith, ints, full 0 (omega arith), full_leaves side ps fs (omega arith) (λ j lt. full (suc j) (omega arith)))

-- where as much leaves as can, each pipe carries all that it can
pub leaves_full : (side : ℕ → Bool) (pipes : List Pipe) (flows : List ℤ) → length flows ≡ length pipes → AllFit pipes flows → net_leaving side pipes flows ≡ pos (capacity_out side pipes) → AllFull side pipes flows
leaves_full side [] flows sized fits same j lt = absurd (omega arith)
leaves_full side (p ∷ ps) [] sized fits same j lt = absurd (omega arith)
leaves_full side (p ∷ ps) (f ∷ fs) sized fits same zero lt =
    omega (arith, ints, same, pipe_crosses (side p.from) (side p.to) p f (fits 0 (omega arith)), leaves_le side ps fs (omega arith) (λ j lt. fits (suc j) (omega arith)))
leaves_full side (p ∷ ps) (f ∷ fs) sized fits same (suc j) lt =
    leaves_full side ps fs (omega arith) (λ i low. fits (suc i) (omega arith))
    (omega (arith, ints, same, pipe_crosses (side p.from) (side p.to) p f (fits 0 (omega arith)), leaves_le side ps fs (omega arith) (λ i low. fits (suc i) (omega arith)))) j (omega arith)
