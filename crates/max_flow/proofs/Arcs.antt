-- Laws of arcs, and of what they can carry.
use Rattle.std.proofs.Common.{◌≡◌, ◌≢◌, ◌<◌, ◌+◌, ◌-◌, ◌*◌, ◌/◌, ◌%◌, ℕ, List, [], length, All, slice_index, set, cond, eqb, refl, ap, sym, ◌∙◌, arith, ⊎_elim}
use Rattle.std.proofs.lemmas.Bool.{eq-eqb, ne_eqb, cases_eq, cond_both}
use Rattle.std.proofs.lemmas.List.{get_or-set_other}
use Rattle.max_flow.specs.declared.network.Pipe.{Pipe}
use Rattle.max_flow.specs.Networks.{IsPipeOf, pipe_at, no_pipe}
use Rattle.max_flow.specs.Residual.{arc_count, tail, head, residual}

pub half_below : (arc m : ℕ) → arc < 2 * m → arc / 2 < m
half_below arc m h = omega arith

pub pipe_of : (n : ℕ) (pipes : List Pipe) (arc : ℕ) → All (IsPipeOf n) pipes → arc < arc_count pipes → IsPipeOf n (pipe_at pipes (arc / 2))
pipe_of n pipes arc all h = all (arc / 2) no_pipe (half_below arc (length pipes) h)

-- the ends of an arc are nodes
pub tail_below : (n : ℕ) (pipes : List Pipe) (arc : ℕ) → All (IsPipeOf n) pipes → arc < arc_count pipes → tail pipes arc < n
unfolding tail
tail_below n pipes arc all h = cond_both (eqb (arc % 2) 0) _ _ (λ x. x < n) (λ _. (pipe_of n pipes arc all h).from_in) (λ _. (pipe_of n pipes arc all h).to_in)

pub head_below : (n : ℕ) (pipes : List Pipe) (arc : ℕ) → All (IsPipeOf n) pipes → arc < arc_count pipes → head pipes arc < n
unfolding head
head_below n pipes arc all h = cond_both (eqb (arc % 2) 0) _ _ (λ x. x < n) (λ _. (pipe_of n pipes arc all h).to_in) (λ _. (pipe_of n pipes arc all h).from_in)

-- an arc whose pipe isn't written keeps what it can carry
pub residual-set_other : (pipes : List Pipe) (backward : List ℕ) (j v arc : ℕ) → arc / 2 ≢ j → residual pipes (set backward j v) arc ≡ residual pipes backward arc
unfolding residual
residual-set_other pipes backward j v arc other = rw get_or-set_other refl

module _ (pipes : List Pipe) (backward : List ℕ) (arc : ℕ) where
  pub residual_even : arc % 2 ≡ 0 → residual pipes backward arc ≡ ((pipe_at pipes (arc / 2)).ahead + (pipe_at pipes (arc / 2)).back) - slice_index backward (arc / 2)
  unfolding residual
  residual_even e = ap (λ b. cond b (((pipe_at pipes (arc / 2)).ahead + (pipe_at pipes (arc / 2)).back) - slice_index backward (arc / 2)) (slice_index backward (arc / 2))) (eq-eqb (arc % 2) 0 e)

  pub residual_odd : (arc % 2 ≡ 0 → ⊥) → residual pipes backward arc ≡ slice_index backward (arc / 2)
  unfolding residual
  residual_odd e = ap (λ b. cond b (((pipe_at pipes (arc / 2)).ahead + (pipe_at pipes (arc / 2)).back) - slice_index backward (arc / 2)) (slice_index backward (arc / 2))) (ne_eqb (arc % 2) 0 e)

  pub tail_even : arc % 2 ≡ 0 → tail pipes arc ≡ (pipe_at pipes (arc / 2)).from
  unfolding tail
  tail_even e = ap (λ b. cond b (pipe_at pipes (arc / 2)).from (pipe_at pipes (arc / 2)).to) (eq-eqb (arc % 2) 0 e)

  pub tail_odd : (arc % 2 ≡ 0 → ⊥) → tail pipes arc ≡ (pipe_at pipes (arc / 2)).to
  unfolding tail
  tail_odd e = ap (λ b. cond b (pipe_at pipes (arc / 2)).from (pipe_at pipes (arc / 2)).to) (ne_eqb (arc % 2) 0 e)

  pub head_even : arc % 2 ≡ 0 → head pipes arc ≡ (pipe_at pipes (arc / 2)).to
  unfolding head
  head_even e = ap (λ b. cond b (pipe_at pipes (arc / 2)).to (pipe_at pipes (arc / 2)).from) (eq-eqb (arc % 2) 0 e)

  pub head_odd : (arc % 2 ≡ 0 → ⊥) → head pipes arc ≡ (pipe_at pipes (arc / 2)).from
  unfolding head
  head_odd e = ap (λ b. cond b (pipe_at pipes (arc / 2)).to (pipe_at pipes (arc / 2)).from) (ne_eqb (arc % 2) 0 e)

-- two different arcs of a pipe join the same nodes both ways
pub twin_tail : (pipes : List Pipe) (arc other : ℕ) → other / 2 ≡ arc / 2 → other ≢ arc → tail pipes other ≡ head pipes arc
twin_tail pipes arc other same differ = ⊎_elim
    (λ even. let odd : other % 2 ≡ 0 → ⊥ = λ e. differ (omega arith) in tail_odd pipes [] other odd ∙ ap (λ j. (pipe_at pipes j).to) same ∙ sym (head_even pipes [] arc even))
    (λ odd. let even : other % 2 ≡ 0 = omega arith in tail_even pipes [] other even ∙ ap (λ j. (pipe_at pipes j).from) same ∙ sym (head_odd pipes [] arc odd))
    (cases_eq (arc % 2) 0)

pub twin_head : (pipes : List Pipe) (arc other : ℕ) → other / 2 ≡ arc / 2 → other ≢ arc → head pipes other ≡ tail pipes arc
twin_head pipes arc other same differ = ⊎_elim
    (λ even. let odd : other % 2 ≡ 0 → ⊥ = λ e. differ (omega arith) in head_odd pipes [] other odd ∙ ap (λ j. (pipe_at pipes j).from) same ∙ sym (tail_even pipes [] arc even))
    (λ odd. let even : other % 2 ≡ 0 = omega arith in head_even pipes [] other even ∙ ap (λ j. (pipe_at pipes j).to) same ∙ sym (tail_odd pipes [] arc odd))
    (cases_eq (arc % 2) 0)
