-- Flow that is sent over arcs, and over a path of them.
use Rattle.std.proofs.Common.{◌≡◌, ◌≢◌, ◌<◌, ◌≤◌, ◌+◌, ◌-◌, ◌/◌, ◌%◌, ◌==◌, ℕ, zero, suc, List, [], ◌∷◌, length, slice_index, set, refl, ap, ◌∙◌, arith, ⊎_elim, Bool, true, false, ℤ, pos, ◌+ℤ◌, ◌-ℤ◌}
use Rattle.std.proofs.lemmas.Bool.{cases_eq}
use Rattle.std.proofs.lemmas.Int.{ints}
use Rattle.std.proofs.lemmas.List.{get_or-set_same, get_or-set_other, length-set}
use Rattle.max_flow.specs.declared.network.Pipe.{Pipe}
use Rattle.max_flow.specs.Networks.{pipe_at}
use Rattle.max_flow.specs.Flows.{part_if, net_leaving}
use Rattle.max_flow.specs.Residual.{arc_count, tail, head, residual, AreResiduals, flows_of, excess, Moves}
use Rattle.max_flow.specs.Levels.{level_of}
use Rattle.max_flow.specs.Paths.{LeadsFrom, IsPath}
use Rattle.max_flow.proofs.Arcs.{half_below, residual_even, residual_odd, tail_even, tail_odd, head_even, head_odd, twin_tail, twin_head}

-- what a pipe takes out of a set of nodes, less what it brings in
abbrev pub pipe_leaving : (ℕ → Bool) → Pipe → ℤ → ℤ
pipe_leaving side pipe z = part_if (side pipe.from) z -ℤ part_if (side pipe.to) z

pub part_less : (b : Bool) (x y : ℤ) → part_if b (x -ℤ y) ≡ part_if b x -ℤ part_if b y
part_less true x y = refl
part_less false x y = refl

pub part_more : (b : Bool) (x y : ℕ) → part_if b (pos (x + y)) ≡ part_if b (pos x) +ℤ part_if b (pos y)
part_more true x y = omega (arith, ints)
part_more false x y = refl

-- one pipe's flow is written
pub net_leaving-set : (side : ℕ → Bool) (pipes : List Pipe) (backward : List ℕ) (j v : ℕ) → j < length pipes → length backward ≡ length pipes
    → net_leaving side pipes (flows_of pipes (set backward j v)) +ℤ pipe_leaving side (pipe_at pipes j) (pos (slice_index backward j))
    ≡ net_leaving side pipes (flows_of pipes backward) +ℤ pipe_leaving side (pipe_at pipes j) (pos v)
unfolding flows_of
net_leaving-set side [] backward j v lt sized = absurd (omega arith)
net_leaving-set side (p ∷ ps) [] j v lt sized = absurd (omega arith)
net_leaving-set side (p ∷ ps) (r ∷ rs) zero v lt sized =
    omega (arith, ints, part_less (side p.from) (pos v) (pos p.back), part_less (side p.to) (pos v) (pos p.back), part_less (side p.from) (pos r) (pos p.back), part_less (side p.to) (pos r) (pos p.back))
net_leaving-set side (p ∷ ps) (r ∷ rs) (suc j) v lt sized = omega (arith, ints, net_leaving-set side ps rs j v (omega arith) (omega arith))

module _ (pipes : List Pipe) (backward : List ℕ) (arc amount : ℕ) (are : AreResiduals pipes backward) (arc_in : arc < arc_count pipes) (fits : amount ≤ residual pipes backward arc) where
  abbrev place : ℕ
  place = arc / 2

  abbrev pipe : Pipe
  pipe = pipe_at pipes place

  within : slice_index backward place ≤ pipe.ahead + pipe.back
  within = are.within place (half_below arc (length pipes) arc_in)

  AreResiduals_set : (v : ℕ) → v ≤ pipe.ahead + pipe.back → AreResiduals pipes (set backward place v)
  AreResiduals_set v low = record {
    sized = length-set backward place v ∙ are.sized;
    within = λ j lt. ⊎_elim
        (λ same. omega (arith, ap (slice_index (set backward place v)) same, get_or-set_same backward place v 0 (omega (arith, are.sized, half_below arc (length pipes) arc_in)), low, ap (λ k. (pipe_at pipes k).ahead) same, ap (λ k. (pipe_at pipes k).back) same))
        (λ other. omega (arith, get_or-set_other backward place j v 0 other, are.within j lt))
        (cases_eq j place);
  }

  net_set : (v n : ℕ) → excess pipes (set backward place v) n +ℤ pipe_leaving (λ k. k == n) pipe (pos (slice_index backward place)) ≡ excess pipes backward n +ℤ pipe_leaving (λ k. k == n) pipe (pos v)
  unfolding excess
  net_set v n = net_leaving-set (λ k. k == n) pipes backward place v (half_below arc (length pipes) arc_in) are.sized

  pub fits_even : arc % 2 ≡ 0 → slice_index backward place + amount ≤ pipe.ahead + pipe.back
  fits_even even = omega (arith, residual_even pipes backward arc even, fits, within)

  pub fits_odd : (arc % 2 ≡ 0 → ⊥) → amount ≤ slice_index backward place
  fits_odd odd = omega (arith, residual_odd pipes backward arc odd, fits)

  pub push_even : arc % 2 ≡ 0 → AreResiduals pipes (set backward place (slice_index backward place + amount))
  push_even even = AreResiduals_set (slice_index backward place + amount) (fits_even even)

  pub push_odd : (arc % 2 ≡ 0 → ⊥) → AreResiduals pipes (set backward place (slice_index backward place - amount))
  push_odd odd = AreResiduals_set (slice_index backward place - amount) (omega (arith, within))

  pub moves_even : arc % 2 ≡ 0 → Moves pipes (tail pipes arc) (head pipes arc) amount backward (set backward place (slice_index backward place + amount))
  moves_even even n =
      let e = net_set (slice_index backward place + amount) n in
      let t = ap (λ m. part_if (m == n) (pos amount)) (tail_even pipes backward arc even) in
      let u = ap (λ m. part_if (m == n) (pos amount)) (head_even pipes backward arc even) in
      omega (arith, ints, e, t, u, part_more (pipe.from == n) (slice_index backward place) amount, part_more (pipe.to == n) (slice_index backward place) amount)

  pub moves_odd : (arc % 2 ≡ 0 → ⊥) → Moves pipes (tail pipes arc) (head pipes arc) amount backward (set backward place (slice_index backward place - amount))
  moves_odd odd n =
      let e = net_set (slice_index backward place - amount) n in
      let t = ap (λ m. part_if (m == n) (pos amount)) (tail_odd pipes backward arc odd) in
      let u = ap (λ m. part_if (m == n) (pos amount)) (head_odd pipes backward arc odd) in
      let whole : slice_index backward place ≡ (slice_index backward place - amount) + amount = omega (arith, fits_odd odd) in
      omega (
        arith,
        ints,
        e,
        t,
        u,
        part_more (pipe.from == n) (slice_index backward place - amount) amount,
        part_more (pipe.to == n) (slice_index backward place - amount) amount,
        ap (λ m. part_if (pipe.from == n) (pos m)) whole,
        ap (λ m. part_if (pipe.to == n) (pos m)) whole,
      )

-- the arcs of a path belong to different pipes
pub apart_on : (pipes : List Pipe) (source : ℕ) (backward levels path : List ℕ) (depth i k : ℕ) → IsPath pipes source backward levels path depth → k < i → i < depth → slice_index path i / 2 ≢ slice_index path k / 2
apart_on pipes source backward levels path depth i k on before in_path same =
    let a = on i in_path in
    let b = on k (omega arith) in
    ⊎_elim
    (λ e. absurd (omega (arith, ap (λ x. level_of levels (tail pipes x)) e, a.low, b.low)))
    (λ differ. absurd (omega (
      arith,
      ap (level_of levels) (twin_tail pipes (slice_index path k) (slice_index path i) same differ),
      ap (level_of levels) (twin_head pipes (slice_index path k) (slice_index path i) same differ),
      a.low,
      a.high,
      b.low,
      b.high,
    )))
    (cases_eq (slice_index path i) (slice_index path k))

-- an amount has gone over the first arcs of a path
pub record IsPushing (pipes : List Pipe) (source : ℕ) (before backward path : List ℕ) (amount k : ℕ) : Type 0 where
  pub residuals : AreResiduals pipes backward
  pub left : (i : ℕ) → k ≤ i → i < length path → amount ≤ residual pipes backward (slice_index path i)
  pub moved : (node : ℕ) → LeadsFrom pipes source path k node → Moves pipes source node amount before backward

pub IsPushing_begins : (pipes : List Pipe) (source : ℕ) (backward path : List ℕ) (amount : ℕ) → AreResiduals pipes backward → ((i : ℕ) → i < length path → amount ≤ residual pipes backward (slice_index path i)) → IsPushing pipes source backward backward path amount 0
IsPushing_begins pipes source backward path amount are fits = record {
  residuals = are;
  left = λ i low lt. fits i lt;
  moved = λ node leads n. omega (arith, ints, ap (λ m. part_if (m == n) (pos amount)) (leads.begins refl));
}

pub IsPushing_more : (pipes : List Pipe) (source : ℕ) (before backward backward' levels path : List ℕ) (amount k : ℕ) → IsPath pipes source before levels path (length path) → IsPushing pipes source before backward path amount k → k < length path
    → AreResiduals pipes backward' → ((other : ℕ) → other / 2 ≢ slice_index path k / 2 → residual pipes backward' other ≡ residual pipes backward other)
    → Moves pipes (tail pipes (slice_index path k)) (head pipes (slice_index path k)) amount backward backward'
    → IsPushing pipes source before backward' path amount (k + 1)
IsPushing_more pipes source before backward backward' levels path amount k on h lt are others moves = record {
  residuals = are;
  left = λ i low in_path. omega (arith, h.left i (omega arith) in_path, others (slice_index path i) (apart_on pipes source before levels path (length path) i k on (omega arith) in_path));
  moved = λ node leads n.
      let enters : head pipes (slice_index path k) ≡ node = ap (λ i. head pipes (slice_index path i)) (omega arith) ∙ leads.enters (omega arith) in
      omega (arith, ints, h.moved (tail pipes (slice_index path k)) (on k lt).joined n, moves n, ap (λ m. part_if (m == n) (pos amount)) enters);
}
