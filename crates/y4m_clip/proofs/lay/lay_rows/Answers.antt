use Rattle.std.proofs.lemmas.Grind.{common_steps}
use Rattle.std.proofs.Common.{◌≡◌, ℕ, ◌+◌, ◌*◌, ◌≤◌, arith}
use Rattle.y4m_clip.specs.Laying.{run_samples}
use Rattle.y4m_clip.proofs.Laying.{in_runs, laid_more, length-run_samples}
use Rattle.y4m_clip.proofs.lay.lay_rows.Goals as goal

pub loop-j-preserved : goal.loop-j-preserved
loop-j-preserved c =
    let a = c.args in
    let j = c.loop-j.j in
    let inside : a.start + a.count * j + a.count ≤ a.k = omega (arith, in_runs a.count j a.rows a.count (omega arith) (omega arith)) in
    let more : a.count * a.w * (j + 1) ≡ a.count * a.w * j + a.count * a.w = grind arith in
    record {
      lays = laid_more j (λ (i : ℕ). run_samples a.row.now a.k (a.start + a.count * i) a.count a.w) a.planes.now c.loop-j.planes c.lay_samples-next.new.planes a.at c.loop-j.next c.lay_samples-next.result c.loop-j.invariant.lays c.lay_samples-next.ensures;
      place = omega (arith, more, c.lay_samples-next.ensures.place, c.loop-j.invariant.place, length-run_samples a.row.now a.k (a.start + a.count * j) a.count a.w c.requires.row inside);
    }

pub overflow_mul-count : goal.overflow_mul-count
overflow_mul-count c = grind (arith, common_steps)

pub lay_samples-next-requires-clause-inside : goal.lay_samples-next-requires-clause-inside
lay_samples-next-requires-clause-inside c =
    let a = c.args in
    omega (arith, c.requires.inside, in_runs a.count c.loop-j.j a.rows a.count c.loop-j-test.true (omega arith))

pub overflow_add-start : goal.overflow_add-start
overflow_add-start c = grind (arith, common_steps)

pub lay_samples-next-requires-clause-room : goal.lay_samples-next-requires-clause-room
lay_samples-next-requires-clause-room c =
    let a = c.args in
    omega (arith, c.loop-j.invariant.place, c.loop-j.invariant.lays.room, c.requires.room, in_runs (a.count * a.w) c.loop-j.j a.rows (a.count * a.w) c.loop-j-test.true (omega arith))
