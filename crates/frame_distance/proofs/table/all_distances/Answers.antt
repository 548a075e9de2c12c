use Rattle.std.proofs.lemmas.Grind.{common_steps}
use Rattle.std.proofs.Common.{◌≡◌, ℕ, List, ◌<◌, ◌^◌, length, sym, ◌∙◌, ap, arith, ◌*◌}
use Rattle.std.proofs.lemmas.List.Elements.{All-push}
use Rattle.frame_distance.specs.Frames.{distance_in}
use Rattle.frame_distance.specs.Tables.{entries_of}
use Rattle.frame_distance.proofs.EntryLaws.{entries_of_more, length-entries_of}
use Rattle.frame_distance.proofs.table.all_distances.Goals as goal

-- so many entries as rounds
rounds : (n k : ℕ) (f : ℕ → ℕ → ℕ) (xs ys : List ℕ) → xs ≡ ys → ys ≡ entries_of n f k → length xs ≡ k
rounds n k f xs ys same are = ap length (same ∙ are) ∙ length-entries_of n f k

pub next_distance-number-requires-clause-more : goal.next_distance-number-requires-clause-more
next_distance-number-requires-clause-more c = omega (arith, rounds c.args.n c.loop-k._k (distance_in c.args.bytes.now c.args.len) _ _ c.as_slice.ensures.value c.loop-k.invariant.so_far)

pub next_distance-number-requires-clause-so_far : goal.next_distance-number-requires-clause-so_far
next_distance-number-requires-clause-so_far c =
    let f = distance_in c.args.bytes.now c.args.len in
    c.as_slice.ensures.value ∙ c.loop-k.invariant.so_far
    ∙ ap (entries_of c.args.n f) (sym (rounds c.args.n c.loop-k._k f _ _ c.as_slice.ensures.value c.loop-k.invariant.so_far))

pub loop-k-preserved : goal.loop-k-preserved
loop-k-preserved c =
    let f = distance_in c.args.bytes.now c.args.len in
    let long = rounds c.args.n c.loop-k._k f _ _ c.as_slice.ensures.value c.loop-k.invariant.so_far in
    record {
      so_far =
          rw (c.in_ok-push.ensures.items, c.next_distance-number.ensures.distance, long, c.loop-k.invariant.so_far)
          (sym (entries_of_more c.args.n f c.loop-k._k));
      small = rw c.in_ok-push.ensures.items (All-push (λ number. number < 2 ^ 43) _ _ c.loop-k.invariant.small c.next_distance-number.ensures.below);
    }

pub returns-clause-numbers : goal.returns-clause-numbers
returns-clause-numbers c =
    let n = c.args.n in
    let all : c.loop-k._k ≡ n * n = omega (arith, c.loop-k-test.false, c.loop-k.auto._k-end) in
    c.loop-k.invariant.so_far ∙ ap (entries_of n (distance_in c.args.bytes.now c.args.len)) all

pub next_distance-number-requires-clause-small : goal.next_distance-number-requires-clause-small
next_distance-number-requires-clause-small c = grind (arith, common_steps)

pub returns-clause-small : goal.returns-clause-small
returns-clause-small c = grind (arith, common_steps)

pub next_distance-number-requires-clause-frames : goal.next_distance-number-requires-clause-frames
next_distance-number-requires-clause-frames c = grind (arith, common_steps)
