use Rattle.std.proofs.Common.{◌≡◌, ◌+◌, ◌-◌, ◌*◌, ◌≤◌, length, take, drop, ap, arith}
use Rattle.std.proofs.lemmas.Grind.{common_steps}
use Rattle.y4m_clip.specs.Clips.{span}
use Rattle.y4m_clip.proofs.Laying.{in_runs, laid_more, laid_same, length-span, runs_laid}
use Rattle.y4m_clip.proofs.lay.lay_samples.Goals as goal

pub returns-then-count-k : goal.returns-then-count-k
returns-then-count-k c =
    runs_laid c.args.row.now c.args.planes.now c.lay.new.planes c.args.k c.args.start c.args.count c.args.w c.args.at c.lay.result c.requires.row c.requires.inside c.if-count-k.true c.lay.ensures

pub loop-x-preserved : goal.loop-x-preserved
loop-x-preserved c =
    let a = c.args in
    let x = c.loop-x.x in
    let from = a.k * x + a.start in
    let inside : from + a.count ≤ length a.row.now = omega (arith, c.requires.row, in_runs a.k x a.w (a.start + a.count) c.loop-x-test.true c.requires.inside) in
    let many : from + a.count - from ≡ a.count = omega arith in
    let laid = laid_same _ (span a.row.now from a.count) c.loop-x.planes c.lay-next.new.planes c.loop-x.next c.lay-next.result (ap (λ n. take n (drop from a.row.now)) many) c.lay-next.ensures in
    let more : a.count * (x + 1) ≡ a.count * x + a.count = grind arith in
    record {
      lays = laid_more x (λ i. span a.row.now (a.k * i + a.start) a.count) a.planes.now c.loop-x.planes c.lay-next.new.planes a.at c.loop-x.next c.lay-next.result c.loop-x.invariant.lays laid;
      place = omega (arith, more, laid.place, c.loop-x.invariant.place, length-span a.row.now from a.count inside);
    }

pub overflow_mul-from : goal.overflow_mul-from
overflow_mul-from c = grind (arith, common_steps)

pub lay-next-requires : goal.lay-next-requires
lay-next-requires c = grind (arith, common_steps)

pub slice_bounds-lay-end : goal.slice_bounds-lay-end
slice_bounds-lay-end c = grind (arith, common_steps)

pub overflow_add-from-in-loop-x : goal.overflow_add-from-in-loop-x
overflow_add-from-in-loop-x c = grind (arith, common_steps)

pub overflow_add-from : goal.overflow_add-from
overflow_add-from c = grind (arith, common_steps)

pub lay-requires : goal.lay-requires
lay-requires c = grind (arith, common_steps)
