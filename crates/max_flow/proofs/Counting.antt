-- What leaves each node, counted pipe by pipe from the last.
use Rattle.std.proofs.Common.{◌≡◌, ◌<◌, ◌≤◌, ◌+◌, ◌==◌, ℕ, List, ◌∷◌, length, slice_index, drop, replicate, refl, ap, sym, ◌∙◌, subst, arith, ⊎_elim, Bool, true, false, ℤ, pos, ◌+ℤ◌, ◌-ℤ◌, ◌≤ℤ◌, to_z, of_z, w64}
use Rattle.std.proofs.lemmas.Bool.{cases_eq, cases_lt}
use Rattle.std.proofs.lemmas.Int.{ints, to_z-of_z}
use Rattle.std.proofs.lemmas.List.{get_or-replicate, get_or_past, length-replicate, drop_all, drop_more}
use Rattle.max_flow.specs.declared.network.Pipe.{Pipe}
use Rattle.max_flow.specs.Networks.{IsPipeOf, pipe_at, no_pipe}
use Rattle.max_flow.specs.Flows.{part_if, net_leaving}
use Rattle.max_flow.specs.Residual.{Carries, flows_of, excess}
use Rattle.max_flow.specs.Checking.{excess_at, AddsAt, AreWithin, CountsPipe, AreExcesses, IsBalancedBetween}

part_opposite : (b : Bool) (y z : ℤ) → y +ℤ z ≡ pos 0 → part_if b y +ℤ part_if b z ≡ pos 0
part_opposite true y z e = e
part_opposite false y z e = refl

-- a flow is added at a pipe's first end and taken away at its second
pub CountsPipe_at : (pipe : Pipe) (against : ℕ) (flow less : ℤ) (before between after : List ℤ) → AddsAt pipe.from flow before between → AddsAt pipe.to less between after
    → against ≤ pipe.ahead + pipe.back → flow ≡ pos against -ℤ pos pipe.back → less +ℤ flow ≡ pos 0 → CountsPipe pipe against before after
CountsPipe_at pipe against flow less before between after first second fits is opposite = record {
  within = fits;
  counted = λ n. omega (arith, ints, first n, second n, part_opposite (pipe.to == n) less flow opposite, ap (part_if (pipe.from == n)) is, ap (part_if (pipe.to == n)) is);
}

-- the pipes from a place on are counted
pub record AreCountedFrom (pipes : List Pipe) (backward : List ℕ) (table : List ℤ) (left : ℕ) : Type 0 where
  pub fits : (j : ℕ) → left ≤ j → j < length pipes → slice_index backward j ≤ (pipe_at pipes j).ahead + (pipe_at pipes j).back
  pub counted : (n : ℕ) → excess_at table n ≡ net_leaving (λ k. k == n) (drop left pipes) (flows_of (drop left pipes) (drop left backward))

pub zero_at : (nodes n : ℕ) → excess_at (replicate nodes (pos 0)) n ≡ pos 0
zero_at nodes n = ⊎_elim (λ lt. get_or-replicate nodes n (pos 0) (pos 0) lt) (λ past. get_or_past (replicate nodes (pos 0)) n (pos 0) (omega (arith, length-replicate {A = ℤ} nodes (pos 0)))) (cases_lt n nodes)

pub AreCountedFrom_none : (pipes : List Pipe) (backward : List ℕ) (table : List ℤ) (left : ℕ) → length pipes ≤ left → ((n : ℕ) → excess_at table n ≡ pos 0) → AreCountedFrom pipes backward table left
AreCountedFrom_none pipes backward table left past clear = record {
  fits = λ j low lt. absurd (omega arith);
  counted = λ n. clear n ∙ sym (ap (λ ps. net_leaving (λ k. k == n) ps (flows_of ps (drop left backward))) (drop_all left pipes past));
}

-- a part of a flow is no farther from 0 than the flow
pub part_low : (b : Bool) (flow : ℤ) (most : ℕ) → (pos 0 -ℤ pos most) ≤ℤ flow → (pos 0 -ℤ pos most) ≤ℤ part_if b flow
part_low true flow most h = h
part_low false flow most h = omega (arith, ints)

pub part_high : (b : Bool) (flow : ℤ) (most : ℕ) → flow ≤ℤ pos most → part_if b flow ≤ℤ pos most
part_high true flow most h = h
part_high false flow most h = omega (arith, ints)

-- the flow of a pipe, and the same taken away, as 64 bits hold them
pub flow_is : (against back : ℕ) (a b : ℤ) → a ≡ pos against → b ≡ pos back → against ≤ 131072 → back ≤ 65536
    → to_z w64 (of_z w64 (to_z w64 (of_z w64 a) -ℤ to_z w64 (of_z w64 b))) ≡ pos against -ℤ pos back
flow_is against back a b is other la lb =
    let first : to_z w64 (of_z w64 a) ≡ pos against = to_z-of_z w64 a (omega (arith, ints, is)) ∙ is in
    let second : to_z w64 (of_z w64 b) ≡ pos back = to_z-of_z w64 b (omega (arith, ints, other)) ∙ other in
    (λ t. to_z w64 (of_z w64 (first t -ℤ second t))) ∙ to_z-of_z w64 (pos against -ℤ pos back) (omega (arith, ints))

pub less_is : (flow : ℤ) → (pos 0 -ℤ pos 65536) ≤ℤ flow → flow ≤ℤ pos 131072 → to_z w64 (of_z w64 (pos 0 -ℤ flow)) ≡ pos 0 -ℤ flow
less_is flow low high = to_z-of_z w64 (pos 0 -ℤ flow) (omega (arith, ints))

pub less_opposite : (less flow : ℤ) → less ≡ pos 0 -ℤ flow → less +ℤ flow ≡ pos 0
less_opposite less flow is = omega (arith, ints)

-- where it was perhaps added before it is taken away
pub taken_low : (b : Bool) (before between flow : ℤ) → between ≡ before +ℤ part_if b flow → (pos 0 -ℤ pos 2305843009213693952) ≤ℤ before → (pos 0 -ℤ pos 65536) ≤ℤ flow → flow ≤ℤ pos 131072
    → (pos 0 -ℤ pos 4611686018427387904) ≤ℤ (between +ℤ (pos 0 -ℤ flow))
taken_low true before between flow is within low high = omega (arith, ints)
taken_low false before between flow is within low high = omega (arith, ints)

pub taken_high : (b : Bool) (before between flow : ℤ) → between ≡ before +ℤ part_if b flow → before ≤ℤ pos 2305843009213693952 → (pos 0 -ℤ pos 65536) ≤ℤ flow → flow ≤ℤ pos 131072
    → (between +ℤ (pos 0 -ℤ flow)) ≤ℤ pos 4611686018427387904
taken_high true before between flow is within low high = omega (arith, ints)
taken_high false before between flow is within low high = omega (arith, ints)

-- a pipe takes no entry farther from 0 than twice what it can carry
pub AreWithin_more : (pipe : Pipe) (nodes against most larger : ℕ) (before after : List ℤ) → IsPipeOf nodes pipe → AreWithin most before → CountsPipe pipe against before after → most + 131072 ≤ larger → AreWithin larger after
AreWithin_more pipe nodes against most larger before after sound h counts rises =
    let flow = pos against -ℤ pos pipe.back in
    let low : (pos 0 -ℤ pos 65536) ≤ℤ flow = omega (arith, ints, sound.back_limit) in
    let high : flow ≤ℤ pos 65536 = omega (arith, ints, sound.ahead_limit, counts.within) in
    record {
      low = λ n. omega (arith, ints, rises, h.low n, counts.counted n, part_low (pipe.from == n) flow 65536 low, part_high (pipe.to == n) flow 65536 high);
      high = λ n. omega (arith, ints, rises, h.high n, counts.counted n, part_high (pipe.from == n) flow 65536 high, part_low (pipe.to == n) flow 65536 low);
    }

pub AreWithin_larger : (most larger : ℕ) (table : List ℤ) → AreWithin most table → most ≤ larger → AreWithin larger table
AreWithin_larger most larger table h fits = record { low = λ n. omega (arith, ints, fits, h.low n); high = λ n. omega (arith, ints, fits, h.high n) }

pub AreWithin_none : (table : List ℤ) → ((n : ℕ) → excess_at table n ≡ pos 0) → AreWithin 0 table
AreWithin_none table clear = record { low = λ n. omega (arith, ints, clear n); high = λ n. omega (arith, ints, clear n) }

-- one pipe more
module _ (pipes : List Pipe) (backward : List ℕ) (left : ℕ) (left_in : left < length pipes) (sized : length backward ≡ length pipes) where
  counted_first : (side : ℕ → Bool) → net_leaving side (drop left pipes) (flows_of (drop left pipes) (drop left backward))
      ≡ (part_if (side (pipe_at pipes left).from) (pos (slice_index backward left) -ℤ pos (pipe_at pipes left).back)
      -ℤ part_if (side (pipe_at pipes left).to) (pos (slice_index backward left) -ℤ pos (pipe_at pipes left).back))
      +ℤ net_leaving side (drop (left + 1) pipes) (flows_of (drop (left + 1) pipes) (drop (left + 1) backward))
  unfolding flows_of
  counted_first side =
      ap (λ ps. net_leaving side ps (flows_of ps (drop left backward))) (drop_more pipes left no_pipe left_in)
      ∙ ap (λ bs. net_leaving side (pipe_at pipes left ∷ drop (left + 1) pipes) (flows_of (pipe_at pipes left ∷ drop (left + 1) pipes) bs)) (drop_more backward left 0 (omega arith))

  pub AreCountedFrom_more : (table table' : List ℤ) (before : ℕ) → before ≡ left + 1 → AreCountedFrom pipes backward table before → CountsPipe (pipe_at pipes left) (slice_index backward left) table table' → AreCountedFrom pipes backward table' left
  AreCountedFrom_more table table' before next from_next counts = let h = subst (AreCountedFrom pipes backward table) next from_next in record {
    fits = λ j low lt. ⊎_elim
        (λ same. subst (λ i. slice_index backward i ≤ (pipe_at pipes i).ahead + (pipe_at pipes i).back) (sym same) counts.within)
        (λ other. h.fits j (omega arith) lt)
        (cases_eq j left);
    counted = λ n. omega (arith, ints, counts.counted n, h.counted n, counted_first (λ k. k == n));
  }

pub AreCountedFrom_all : (pipes : List Pipe) (backward : List ℕ) (table : List ℤ) (left : ℕ) → length backward ≡ length pipes → AreCountedFrom pipes backward table left → left ≡ 0 → AreExcesses pipes backward table
unfolding excess
AreCountedFrom_all pipes backward table left sized from_left none = let h = subst (AreCountedFrom pipes backward table) none from_left in record {
  residuals = record { sized = sized; within = λ j lt. h.fits j (omega arith) lt };
  counted = λ n. h.counted n;
}

-- a flow that balances has the value that leaves the source
pub Carries_counted : (pipes : List Pipe) (source sink : ℕ) (backward : List ℕ) (table : List ℤ) (value : ℕ) → AreExcesses pipes backward table → IsBalancedBetween source sink table → excess_at table source ≡ pos value
    → Carries pipes source sink backward value
Carries_counted pipes source sink backward table value h balanced is = record {
  residuals = h.residuals;
  leaves = sym (h.counted source) ∙ is;
  balance = λ n other off. sym (h.counted n) ∙ balanced n other off;
}
