use Rattle.std.proofs.lemmas.Grind.{common_steps}
use Rattle.std.proofs.Common.{◌≡◌, ◌+◌, ◌-◌, ◌*◌, ◌<◌, ◌≤◌, subst, arith, ⊎_elim}
use Rattle.std.proofs.lemmas.Bool.{cases_lt}
use Rattle.std.proofs.lemmas.Nat.{mul-add-lt}
use Rattle.std.proofs.Math.Nat.{mul-le-mul_right, mul-le-mul_left}
use Rattle.loop_walk.specs.Records.{IsFirstPlace, PlaceHolds}
use Rattle.loop_walk.specs.Products.{IsBelowProducts}
use Rattle.loop_walk.proofs.NearLaws.{place_from_row, row_from_place}
use Rattle.loop_walk.proofs.rules.broken_entry.Goals as goal

pub returns-in-Some-clause-broken : goal.returns-in-Some-clause-broken
returns-in-Some-clause-broken c =
    let costs = c.args.costs.now in
    let m = c.args.length in
    let tables = c.args.tables.now in
    let t = c.args.t in
    let n = costs.frames in
    let i = c.loop-i.i in
    let j = c.in-Some.j in
    let row : i < n = omega (arith, c.frames-n.ensures.frames, c.loop-i-test.true) in
    let first = subst (λ s. IsFirstPlace n (IsBelowProducts costs tables t s i) j) c.second_table-second.ensures c.in-Some.ensures.broken in
    let inside = mul-add-lt i n j n row first.below in
    rw c.frames-n.ensures.frames
    (record {
      below = omega (arith, inside);
      before = λ place lt. ⊎_elim (λ earlier. c.loop-i.invariant place earlier)
          (λ from.
          let k = place - (t * (n * n) + i * n) in
          let less : k < j = omega arith in
          let here : t * (n * n) + (i * n + k) ≡ place = omega arith in
          subst (PlaceHolds costs m tables) here (place_from_row costs m tables t i k row (omega (arith, first.below)) c.requires.last (first.before k less)))
          (cases_lt place (t * (n * n) + i * n));
      broken = λ holds. first.broken (row_from_place costs m tables t i j row first.below c.requires.last holds);
    })

pub loop-i-preserved : goal.loop-i-preserved
loop-i-preserved c = λ place lt.
    let costs = c.args.costs.now in
    let m = c.args.length in
    let tables = c.args.tables.now in
    let t = c.args.t in
    let n = costs.frames in
    let i = c.loop-i.i in
    let row : i < n = omega (arith, c.frames-n.ensures.frames, c.loop-i-test.true) in
    ⊎_elim (λ earlier. c.loop-i.invariant place earlier)
    (λ from.
    let k = place - (t * (n * n) + i * n) in
    let less : k < n = omega arith in
    let here : t * (n * n) + (i * n + k) ≡ place = omega arith in
    subst (PlaceHolds costs m tables) here (place_from_row costs m tables t i k row less c.requires.last
    (subst (λ s. IsBelowProducts costs tables t s i k) c.second_table-second.ensures (c.in-None.ensures.hold k less))))
    (cases_lt place (t * (n * n) + i * n))

pub returns-clause-hold : goal.returns-clause-hold
returns-clause-hold c = λ place lt.
    let all : c.args.costs.now.frames ≤ c.loop-i.i = omega (arith, c.frames-n.ensures.frames) in
    c.loop-i.invariant place (omega (arith, lt, mul-le-mul_right c.args.costs.now.frames all))

pub broken_in_row-requires-clause-left : goal.broken_in_row-requires-clause-left
broken_in_row-requires-clause-left c = grind (arith, common_steps)

pub broken_in_row-requires-clause-bases : goal.broken_in_row-requires-clause-bases
broken_in_row-requires-clause-bases c = grind (arith, common_steps)

pub slice_bounds-broken_in_row-end : goal.slice_bounds-broken_in_row-end
slice_bounds-broken_in_row-end c = grind (arith, common_steps)

pub loop-i-init : goal.loop-i-init
loop-i-init c = grind (arith, common_steps)

pub slice_bounds-bases-end-in-loop-i : goal.slice_bounds-bases-end-in-loop-i
slice_bounds-bases-end-in-loop-i c = grind (arith, common_steps)

pub overflow_add-result-in-Some : goal.overflow_add-result-in-Some
overflow_add-result-in-Some c =
    let n = c.frames-n.result in
    let frames = c.frames-n.ensures in
    let least : n ≤ 256 = omega (arith, frames.frames, frames.steps.frames.1) in
    let row : c.loop-i.i ≤ 256 = omega (arith, least, c.loop-i-test.true) in
    let table : n * n ≤ 65536 = omega (arith, mul-le-mul_right n least, least) in
    omega (arith, least, mul-le-mul_right n row, frames.frames, c.in-Some.ensures.broken.below, c.requires.number, mul-le-mul_left c.args.t table)

pub broken_in_row-requires-clause-entries : goal.broken_in_row-requires-clause-entries
broken_in_row-requires-clause-entries c = grind (arith, common_steps)

pub broken_in_row-requires-clause-second : goal.broken_in_row-requires-clause-second
broken_in_row-requires-clause-second c = grind (arith, common_steps)

pub broken_in_row-requires-clause-near : goal.broken_in_row-requires-clause-near
broken_in_row-requires-clause-near c = grind (arith, common_steps)

pub fill_rest_table-requires-clause-bases : goal.fill_rest_table-requires-clause-bases
fill_rest_table-requires-clause-bases c = grind (arith, common_steps)

pub overflow_add-result : goal.overflow_add-result
overflow_add-result c =
    let n = c.frames-n.result in
    let frames = c.frames-n.ensures in
    let least : n ≤ 256 = omega (arith, frames.frames, frames.steps.frames.1) in
    let row : c.loop-i.i ≤ 256 = omega (arith, least, c.loop-i-test.true) in
    omega (arith, least, mul-le-mul_right n row, frames.frames, c.in-Some.ensures.broken.below)

pub overflow_mul-result : goal.overflow_mul-result
overflow_mul-result c =
    let n = c.frames-n.result in
    let frames = c.frames-n.ensures in
    let least : n ≤ 256 = omega (arith, frames.frames, frames.steps.frames.1) in
    let row : c.loop-i.i ≤ 256 = omega (arith, least, c.loop-i-test.true) in
    omega (arith, least, mul-le-mul_right n row)

pub fill_rest_table-requires-clause-rests : goal.fill_rest_table-requires-clause-rests
fill_rest_table-requires-clause-rests c = grind (arith, common_steps)

pub fill_rest_table-requires-clause-nears : goal.fill_rest_table-requires-clause-nears
fill_rest_table-requires-clause-nears c = grind (arith, common_steps)

pub slice_bounds-fill_rest_table-end : goal.slice_bounds-fill_rest_table-end
slice_bounds-fill_rest_table-end c = grind (arith, common_steps)

pub broken_in_row-requires-clause-nears : goal.broken_in_row-requires-clause-nears
broken_in_row-requires-clause-nears c = grind (arith, common_steps)

pub broken_in_row-requires-clause-rests : goal.broken_in_row-requires-clause-rests
broken_in_row-requires-clause-rests c = grind (arith, common_steps)

pub overflow_cast-result : goal.overflow_cast-result
overflow_cast-result c = grind (arith, common_steps)

pub overflow_cast-result-in-Some : goal.overflow_cast-result-in-Some
overflow_cast-result-in-Some c = grind (arith, common_steps)

pub fill_near_table-requires-clause-enough : goal.fill_near_table-requires-clause-enough
fill_near_table-requires-clause-enough c = grind (arith, common_steps)

pub fill_near_table-requires-clause-nears : goal.fill_near_table-requires-clause-nears
fill_near_table-requires-clause-nears c = grind (arith, common_steps)

pub broken_in_row-requires-clause-enough : goal.broken_in_row-requires-clause-enough
broken_in_row-requires-clause-enough c = grind (arith, common_steps)

pub broken_in_row-requires-clause-row : goal.broken_in_row-requires-clause-row
broken_in_row-requires-clause-row c = grind (arith, common_steps)

pub broken_in_row-requires-clause-number : goal.broken_in_row-requires-clause-number
broken_in_row-requires-clause-number c = grind (arith, common_steps)

pub slice_bounds-rests-end-2 : goal.slice_bounds-rests-end-2
slice_bounds-rests-end-2 c = grind (arith, common_steps)

pub fill_near_table-requires-clause-number : goal.fill_near_table-requires-clause-number
fill_near_table-requires-clause-number c = grind (arith, common_steps)

pub slice_bounds-nears-end-2 : goal.slice_bounds-nears-end-2
slice_bounds-nears-end-2 c = grind (arith, common_steps)

pub returns-in-Some-clause-hold : goal.returns-in-Some-clause-hold
returns-in-Some-clause-hold c = grind (arith, common_steps)
