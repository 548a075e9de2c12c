-- What leaves the nodes of a pair along its pipes, and the bounds of its flow in the record.
use Rattle.std.proofs.Common.{◌≡◌, ℕ, ◌+◌, ◌<◌, ◌≤◌, refl, ap, ◌∙◌, arith, Bool, true, false, List, [], ◌∷◌, length, drop, drop-drop}
use Rattle.std.proofs.lemmas.Int.{ints}
use Rattle.std.proofs.lemmas.List.{get_or-drop}
use Rattle.std.specs.Prelude.{ℤ, pos, ◌+ℤ◌, ◌-ℤ◌, Option, Some, None}
use Rattle.cells.specs.declared.place.At.{At}
use Rattle.cells.specs.declared.place.Axis.{Axis}
use Rattle.max_flow.specs.declared.network.Pipe.{Pipe}
use Rattle.max_flow.specs.Networks.{pipe_at}
use Rattle.max_flow.specs.Flows.{FitsPipe, pipe_flow, net_leaving, part_if}
use Rattle.costs.specs.Costs.{seam}
use Rattle.cut_graph.specs.Pipes.{first_or_none, pair_pipes, pipe}
use Rattle.cut_check.specs.Flows.{IsBounded}
use Rattle.graph_place.specs.Records.{flow_of, pipe_count}

pub part_none : (b : Bool) → part_if b (pos 0) ≡ pos 0
part_none true = refl
part_none false = refl

module _ (side : ℕ → Bool) where
  leaving_none : (pipes : List Pipe) → net_leaving side pipes [] ≡ pos 0
  leaving_none [] = refl
  leaving_none (pipe ∷ pipes) = refl

  leaving_first : (pipe : Pipe) (pipes : List Pipe) (flows : List ℤ)
      → net_leaving side (pipe ∷ pipes) flows ≡ (part_if (side pipe.from) (pipe_flow flows 0) -ℤ part_if (side pipe.to) (pipe_flow flows 0)) +ℤ net_leaving side pipes (drop 1 flows)
  leaving_first pipe pipes [] = omega (arith, ints, part_none (side pipe.from), part_none (side pipe.to), leaving_none pipes)
  leaving_first pipe pipes (flow ∷ flows) = refl

  -- the first pipe of a list, whose flow is that of an index
  leaving_at : (pipe : Pipe) (pipes : List Pipe) (flows : List ℤ) (o i : ℕ) → o + 0 ≡ i
      → net_leaving side (pipe ∷ pipes) (drop o flows) ≡ (part_if (side pipe.from) (pipe_flow flows i) -ℤ part_if (side pipe.to) (pipe_flow flows i)) +ℤ net_leaving side pipes (drop (o + 1) flows)
  leaving_at pipe pipes flows o i e =
      leaving_first pipe pipes (drop o flows)
      ∙ (λ k. (part_if (side pipe.from) (here k) -ℤ part_if (side pipe.to) (here k)) +ℤ net_leaving side pipes (drop-drop 1 o flows k))
    where
      here : pipe_flow (drop o flows) 0 ≡ pipe_flow flows i
      here = get_or-drop o flows 0 (pos 0) ∙ ap (pipe_flow flows) e

  one_leaves : (p : Pipe) (flows : List ℤ) (o : ℕ) → net_leaving side (p ∷ []) (drop o flows) ≡ part_if (side p.from) (pipe_flow flows o) -ℤ part_if (side p.to) (pipe_flow flows o)
  one_leaves p flows o = omega (arith, ints, leaving_at p [] flows o o (omega arith))

  three_leave : (p q r : Pipe) (flows : List ℤ) (o : ℕ) → net_leaving side (p ∷ q ∷ r ∷ []) (drop o flows)
      ≡ ((part_if (side p.from) (pipe_flow flows o) -ℤ part_if (side p.to) (pipe_flow flows o)) +ℤ (part_if (side q.from) (pipe_flow flows (o + 1)) -ℤ part_if (side q.to) (pipe_flow flows (o + 1))))
      +ℤ (part_if (side r.from) (pipe_flow flows (o + 2)) -ℤ part_if (side r.to) (pipe_flow flows (o + 2)))
  three_leave p q r flows o =
      omega (arith, ints, leaving_at p (q ∷ r ∷ []) flows o o (omega arith), leaving_at q (r ∷ []) flows (o + 1) (o + 1) (omega arith), leaving_at r [] flows (o + 1 + 1) (o + 2) (omega arith))

-- what a pair leaves at its seam node: nothing, where that balances
abbrev pub left_at_seam : Option At → Option At → List ℤ → ℕ → ℤ
left_at_seam (Some a) (Some b) flows o = (pipe_flow flows (o + 1) +ℤ pipe_flow flows (o + 2)) -ℤ pipe_flow flows o
left_at_seam (Some a) None flows o = pos 0
left_at_seam None b flows o = pos 0

abbrev pub IsSeam : Option At → Option At → Type 0
IsSeam (Some a) (Some b) = Unit {0}
IsSeam (Some a) None = ⊥
IsSeam None b = ⊥

module _ (side : ℕ → Bool) (d : At → At → ℕ) (axis : Axis) (s t middle : ℕ) (flows : List ℤ) where
  abbrev gone : ℕ → ℤ → ℤ
  gone n z = part_if (side n) z

  module _ (sink : side 1 ≡ false) where
    gone_out : (z : ℤ) → gone 1 z ≡ pos 0
    gone_out z = ap (λ b. part_if b z) sink

    -- a set without the seam node and the sink is left by what leaves the first cell, less what comes to the second
    pub pair_leaves : (a b : Option At) (new_a new_b : At) (o : ℕ) → (IsSeam a b → side middle ≡ false)
        → net_leaving side (pair_pipes d axis a b new_a new_b s t middle) (drop o flows)
        ≡ part_if (side s) (flow_of a b flows o).x -ℤ part_if (side t) (flow_of a b flows o).y
    pair_leaves (Some a) (Some b) new_a new_b o out =
        let none = λ (z : ℤ). ap (λ b. part_if b z) (out tt) in
        omega (
          arith,
          ints,
          three_leave side (pipe s middle (seam d axis a new_b) (seam d axis a new_b)) (pipe middle t (seam d axis new_a b) (seam d axis new_a b)) (pipe middle 1 (seam d axis a b) 0) flows o,
          none (pipe_flow flows o),
          none (pipe_flow flows (o + 1)),
          none (pipe_flow flows (o + 2)),
          gone_out (pipe_flow flows (o + 2)),
        )
    pair_leaves (Some a) None new_a new_b o out =
        omega (arith, ints, one_leaves side (pipe s 1 (seam d axis a new_b) 0) flows o, gone_out (pipe_flow flows o), part_none (side t))
    pair_leaves None (Some b) new_a new_b o out =
        omega (arith, ints, one_leaves side (pipe t 1 (seam d axis new_a b) 0) flows o, gone_out (pipe_flow flows o), part_none (side s), turned (side t) (pipe_flow flows o))
      where
        turned : (b : Bool) (z : ℤ) → part_if b (pos 0 -ℤ z) ≡ pos 0 -ℤ part_if b z
        turned true z = refl
        turned false z = refl
    pair_leaves None None new_a new_b o out = omega (arith, ints, part_none (side s), part_none (side t))

    -- a set without the cells' nodes and the sink is left by what the seam node leaves, where that is in it
    pub seam_leaves : side s ≡ false → side t ≡ false → (a b : Option At) (new_a new_b : At) (o : ℕ)
        → net_leaving side (pair_pipes d axis a b new_a new_b s t middle) (drop o flows) ≡ part_if (side middle) (left_at_seam a b flows o)
    seam_leaves out_s out_t (Some a) (Some b) new_a new_b o =
        omega (
          arith,
          ints,
          three_leave side (pipe s middle (seam d axis a new_b) (seam d axis a new_b)) (pipe middle t (seam d axis new_a b) (seam d axis new_a b)) (pipe middle 1 (seam d axis a b) 0) flows o,
          ap (λ b. part_if b (pipe_flow flows o)) out_s,
          ap (λ b. part_if b (pipe_flow flows (o + 1))) out_t,
          gone_out (pipe_flow flows (o + 2)),
          put_together (side middle) (pipe_flow flows (o + 1)) (pipe_flow flows (o + 2)) (pipe_flow flows o),
        )
      where
        put_together : (b : Bool) (x y z : ℤ) → part_if b ((x +ℤ y) -ℤ z) ≡ (part_if b x +ℤ part_if b y) -ℤ part_if b z
        put_together true x y z = refl
        put_together false x y z = refl
    seam_leaves out_s out_t (Some a) None new_a new_b o =
        omega (arith, ints, one_leaves side (pipe s 1 (seam d axis a new_b) 0) flows o, ap (λ b. part_if b (pipe_flow flows o)) out_s, gone_out (pipe_flow flows o), part_none (side middle))
    seam_leaves out_s out_t None (Some b) new_a new_b o =
        omega (arith, ints, one_leaves side (pipe t 1 (seam d axis new_a b) 0) flows o, ap (λ b. part_if b (pipe_flow flows o)) out_t, gone_out (pipe_flow flows o), part_none (side middle))
    seam_leaves out_s out_t None None new_a new_b o = omega (arith, ints, part_none (side middle))

-- the flow of a pair, whose first pipe has an index where it has one
pub flow_of_first : (d : At → At → ℕ) (axis : Axis) (a b : Option At) (new_a new_b : At) (s t middle : ℕ) (flows : List ℤ) (o : ℕ)
    → flow_of a b flows (first_or_none (pair_pipes d axis a b new_a new_b s t middle) o) ≡ flow_of a b flows o
flow_of_first d axis (Some a) (Some b) new_a new_b s t middle flows o = refl
flow_of_first d axis (Some a) None new_a new_b s t middle flows o = refl
flow_of_first d axis None (Some b) new_a new_b s t middle flows o = refl
flow_of_first d axis None None new_a new_b s t middle flows o = refl

-- flows of the pipes of a pair from an index on
abbrev pub AreFlowsAt : List Pipe → List ℤ → ℕ → Type 0
AreFlowsAt pipes flows o = (k i : ℕ) → o + k ≡ i → k < length pipes → FitsPipe (pipe_at pipes k) (pipe_flow flows i)

-- where they fit and the seam node balances, the flow of the record is within its bounds
pub pair_bounded : (d : At → At → ℕ) (axis : Axis) (a b : Option At) (new_a new_b : At) (s t middle : ℕ) (flows : List ℤ) (o : ℕ)
    → AreFlowsAt (pair_pipes d axis a b new_a new_b s t middle) flows o → left_at_seam a b flows o ≡ pos 0
    → IsBounded d axis a b new_a new_b (flow_of a b flows o)
pair_bounded d axis (Some a) (Some b) new_a new_b s t middle flows o fits none =
    let one = fits 0 o (omega arith) (omega arith) in
    let two = fits 1 (o + 1) (omega arith) (omega arith) in
    let three = fits 2 (o + 2) (omega arith) (omega arith) in
    record {
      x = (one.back, one.ahead);
      y = (two.back, two.ahead);
      seam = (omega (arith, ints, three.back), omega (arith, ints, three.ahead));
    }
pair_bounded d axis (Some a) None new_a new_b s t middle flows o fits none =
    let one = fits 0 o (omega arith) (omega arith) in
    record { x = (omega (arith, ints, one.back), one.ahead); y = refl }
pair_bounded d axis None (Some b) new_a new_b s t middle flows o fits none =
    let one = fits 0 o (omega arith) (omega arith) in
    record { x = refl; y = (omega (arith, ints, one.ahead), omega (arith, ints, one.back)) }
pair_bounded d axis None None new_a new_b s t middle flows o fits none = record { x = refl; y = refl }

-- how many pipes a pair has, from their index on
pub pipe_count_fits : (d : At → At → ℕ) (axis : Axis) (a b : Option At) (new_a new_b : At) (s t middle : ℕ) (o n : ℕ)
    → o + length (pair_pipes d axis a b new_a new_b s t middle) ≤ n → first_or_none (pair_pipes d axis a b new_a new_b s t middle) o + pipe_count a b ≤ n
pipe_count_fits d axis (Some a) (Some b) new_a new_b s t middle o n le = le
pipe_count_fits d axis (Some a) None new_a new_b s t middle o n le = le
pipe_count_fits d axis None (Some b) new_a new_b s t middle o n le = le
pipe_count_fits d axis None None new_a new_b s t middle o n le = omega arith
