use Rattle.std.proofs.lemmas.Grind.{common_steps}
use Rattle.std.proofs.Common.{◌≡◌, ◌+◌, ◌-◌, ◌*◌, ◌<◌, ◌≤◌, length, drop, get_or, take, subst, arith, length-take, length-drop}
use Rattle.std.proofs.Math.Nat.{mul-le-mul_right}
use Rattle.loop_walk.specs.declared.rests.TheConstants.{GREATEST_BASE}
use Rattle.loop_walk.proofs.ProductLaws.{set_more}
use Rattle.loop_walk.proofs.RestLaws.{get_or-row}
use Rattle.loop_walk.proofs.rests.fill_bases.Goals as goal

pub loop-v-preserved : goal.loop-v-preserved
loop-v-preserved c =
    let n = c.args.n in
    let v = c.loop-v.v in
    let nears = c.args.nears.now in
    let bases = c.loop-v.bases in
    let inside : v < length bases = omega (arith, c.loop-v.auto.bases, c.requires.bases, c.loop-v-test.true) in
    let room : v * n + n ≤ n * n = omega (arith, mul-le-mul_right n c.loop-v-test.true) in
    let whole : length (take (v * n + n - v * n) (drop (v * n) nears)) ≡ n = omega (arith, room, c.requires.nears, length-take (v * n + n - v * n) (drop (v * n) nears), length-drop (v * n) nears) in
    record {
      small = set_more (λ u base. base ≤ GREATEST_BASE) bases v c.base_of.result inside c.loop-v.invariant.small c.base_of.ensures.small;
      below = λ u j lt column. set_more (λ u base. base ≤ get_or nears (u * n + j) 0) bases v c.base_of.result inside
          (λ u lt. c.loop-v.invariant.below u j lt column)
          (subst (λ x. c.base_of.result ≤ x) (get_or-row nears (v * n) n j column) (c.base_of.ensures.base j (omega (arith, whole, column)))) u lt;
    }

pub slice_bounds-base_of-end : goal.slice_bounds-base_of-end
slice_bounds-base_of-end c = grind (arith, common_steps)
