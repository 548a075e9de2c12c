use Rattle.std.proofs.Common.{arith}
use Rattle.std.proofs.lemmas.Grind.{common_steps}
use Rattle.std.proofs.Common.{ℕ, ◌<◌, ◌≤◌, ◌*◌, ◌/◌, ◌%◌, ◌+◌, length, refl, sym, ◌∙◌, ap, get_or}
use Rattle.std.proofs.Math.Nat.{mul-le-mul_right}
use Rattle.frame_distance.specs.Frames.{distance_in, frame_in}
use Rattle.frame_distance.proofs.EntryLaws.{entries_of-at, across_before, row_below}
use Rattle.frame_distance.proofs.FrameLaws.{ssd_same, ssd_turned}
use Rattle.frame_distance.proofs.table.next_distance.Goals as goal

pub returns-then-j-i-clause-distance : goal.returns-then-j-i-clause-distance
returns-then-j-i-clause-distance c =
    let k = length c.args.so_far.now in
    let n = c.args.n in
    let i = k / n in
    let j = k % n in
    let row = row_below n k c.requires.more in
    ap (λ xs. get_or xs (j * n + i) 0) c.requires.so_far
    ∙ entries_of-at n (distance_in c.args.bytes.now c.args.len) k j i 0 row (across_before n k i j refl refl row c.if-j-i.true)
    ∙ ssd_turned (frame_in c.args.bytes.now c.args.len j) (frame_in c.args.bytes.now c.args.len i)

pub returns-then-j-i-2-clause-distance : goal.returns-then-j-i-2-clause-distance
returns-then-j-i-2-clause-distance c =
    let k = length c.args.so_far.now in
    let i = k / c.args.n in
    sym (ssd_same (frame_in c.args.bytes.now c.args.len i)) ∙ ap (distance_in c.args.bytes.now c.args.len i) (sym c.if-j-i-2.true)

pub overflow_mul-result : goal.overflow_mul-result
overflow_mul-result c = grind (arith, common_steps)

pub bounds-so_far-j : goal.bounds-so_far-j
bounds-so_far-j c = grind (arith, common_steps)

pub overflow_add-result : goal.overflow_add-result
overflow_add-result c = grind (arith, common_steps)

pub returns-then-j-i-clause-below : goal.returns-then-j-i-clause-below
returns-then-j-i-clause-below c = grind (arith, common_steps)

pub offset_bounds-so_far-j : goal.offset_bounds-so_far-j
offset_bounds-so_far-j c = grind (arith, common_steps)

-- a frame below n ends within the bytes of n frames
frame_inside : (len i n : ℕ) → i < n → len * i + len ≤ len * n
frame_inside len i n below = omega (arith, mul-le-mul_right len below)

pub frame-requires : goal.frame-requires
frame-requires c =
    let k = length c.args.so_far.now in
    let row = row_below c.args.n k c.requires.more in
    omega (arith, c.requires.frames, frame_inside c.args.len (k / c.args.n) c.args.n row)

pub frame-requires-else-j-i-2 : goal.frame-requires-else-j-i-2
frame-requires-else-j-i-2 c =
    let k = length c.args.so_far.now in
    let row = row_below c.args.n k c.requires.more in
    let column : k % c.args.n < c.args.n = omega arith in
    omega (arith, c.requires.frames, frame_inside c.args.len (k % c.args.n) c.args.n column)

pub nonzero_rem-j : goal.nonzero_rem-j
nonzero_rem-j c = grind (arith, common_steps)

pub nonzero_div-i : goal.nonzero_div-i
nonzero_div-i c = grind (arith, common_steps)

pub returns-else-j-i-2-clause-distance : goal.returns-else-j-i-2-clause-distance
returns-else-j-i-2-clause-distance c = grind (arith, common_steps)
