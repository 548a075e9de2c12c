use Rattle.std.proofs.lemmas.Grind.{common_steps}
use Rattle.std.proofs.Common.{◌≡◌, ◌+◌, ◌-◌, ◌*◌, ◌≤◌, drop, take, length, get_or, ap, ◌∙◌, arith, length-take, length-drop}
use Rattle.std.proofs.Math.Nat.{mul-le-mul_right}
use Rattle.loop_walk.specs.Rests.{rest_of}
use Rattle.loop_walk.proofs.RestLaws.{get_or-row, rests_row_more, small_rests}
use Rattle.loop_walk.proofs.rests.fill_rest_table.Goals as goal

pub loop-v-preserved : goal.loop-v-preserved
loop-v-preserved c =
    let n = c.args.n in
    let v = c.loop-v.v in
    let nears = c.args.nears.now in
    let bases = c.fill_bases.new.bases in
    let room : v * n + n ≤ n * n = omega (arith, mul-le-mul_right n c.loop-v-test.true) in
    let part = take (v * n + n - v * n) (drop (v * n) nears) in
    let whole : length part ≡ n = omega (arith, room, c.requires.nears, length-take (v * n + n - v * n) (drop (v * n) nears), length-drop (v * n) nears) in
    rests_row_more n v nears bases c.loop-v.rests c.fill_rests.new.rests c.loop-v-test.true (c.loop-v.auto.rests ∙ c.requires.rests)
    (omega (arith, room, c.fill_rests.auto.rests, length-take (v * n + n - v * n) (drop (v * n) c.loop-v.rests), length-drop (v * n) c.loop-v.rests, c.loop-v.auto.rests, c.requires.rests))
    c.loop-v.invariant
    (λ j lt. c.fill_rests.ensures.rests j (omega (arith, whole, lt)) ∙ ap (λ x. rest_of (get_or bases v 0) x) (get_or-row nears (v * n) n j lt))

pub returns : goal.returns
returns c = record {
  taken = c.fill_bases.ensures;
  left = λ v j lt column. c.loop-v.invariant v j (omega arith) column;
  small = small_rests c.args.n c.args.nears.now c.fill_bases.new.bases c.loop-v.rests (c.loop-v.auto.rests ∙ c.requires.rests)
      (λ v j lt column. c.loop-v.invariant v j (omega arith) column);
}

pub fill_rests-requires-clause-base : goal.fill_rests-requires-clause-base
fill_rests-requires-clause-base c = grind (arith, common_steps)

pub slice_bounds-fill_rests-end-in-loop-v : goal.slice_bounds-fill_rests-end-in-loop-v
slice_bounds-fill_rests-end-in-loop-v c = grind (arith, common_steps)

pub slice_bounds-fill_rests-end : goal.slice_bounds-fill_rests-end
slice_bounds-fill_rests-end c = omega (arith, c.loop-v.auto.rests, c.requires.rests, mul-le-mul_right c.args.n c.loop-v-test.true)

pub fill_rests-requires-clause-rests : goal.fill_rests-requires-clause-rests
fill_rests-requires-clause-rests c = grind (arith, common_steps)

pub overflow_add-v-in-loop-v : goal.overflow_add-v-in-loop-v
overflow_add-v-in-loop-v c = grind (arith, common_steps)

pub offset_bounds-rests-v : goal.offset_bounds-rests-v
offset_bounds-rests-v c = grind (arith, common_steps)

pub overflow_mul-v-in-loop-v-3 : goal.overflow_mul-v-in-loop-v-3
overflow_mul-v-in-loop-v-3 c = grind (arith, common_steps)

pub overflow_mul-v-in-loop-v-2 : goal.overflow_mul-v-in-loop-v-2
overflow_mul-v-in-loop-v-2 c = grind (arith, common_steps)
