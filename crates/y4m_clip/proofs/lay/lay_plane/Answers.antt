use Rattle.std.proofs.lemmas.Grind.{common_steps}
use Rattle.std.proofs.Common.{◌≡◌, ℕ, ◌+◌, ◌*◌, ◌<◌, List, sym, ap, ◌∙◌, subst, arith, pos, to_z, w32}
use Rattle.cells.specs.declared.place.Size.{Size}
use Rattle.cells.specs.Places.{spot}
use Rattle.cells.specs.Cells.{row_at}
use Rattle.y4m_clip.specs.Spaces.{joined_to}
use Rattle.y4m_clip.specs.Writing.{row_samples}
use Rattle.y4m_clip.specs.Laying.{run_samples}
use Rattle.y4m_clip.proofs.Laying.{in_runs, laid_same, laid_more, length-rows, rows_laid, signed_same}
use Rattle.y4m_clip.proofs.lay.lay_plane.Goals as goal

pub lay_rows-next-requires-clause-room : goal.lay_rows-next-requires-clause-room
lay_rows-next-requires-clause-room c =
    let a = c.args in
    let v = a.volume.now in
    let row = a.count * v.size.w * a.rows in
    let same : a.count * c.size-size.result.w * a.rows ≡ row = ap (λ (s : Size). a.count * s.w * a.rows) c.size-size.ensures.size in
    let below : c.loop-y.y < v.size.h = subst (λ (s : Size). c.loop-y.y < s.h) c.size-size.ensures.size c.loop-y-test.true in
    omega (arith, same, c.loop-y.invariant.place, c.loop-y.invariant.lays.room, c.requires.room, in_runs row c.loop-y.y v.size.h row below (omega arith))

pub loop-y-preserved : goal.loop-y-preserved
loop-y-preserved c =
    let a = c.args in
    let v = a.volume.now in
    let y = c.loop-y.y in
    let size = c.size-size.ensures.size in
    let k = c.samples-k.ensures.samples in
    let row = c.row-row.result.now in
    let below : y < v.size.h = subst (λ (s : Size). y < s.h) size c.loop-y-test.true in
    let axes = c.size-size.ensures.volume.small.axes in
    let y_is : to_z w32 y ≡ pos y = signed_same y (omega (arith, axes.h, below)) in
    let f_is : to_z w32 a.f ≡ pos a.f = signed_same a.f (omega (arith, axes.f, c.requires.frame)) in
    let bytes : row ≡ row_at v (spot 0 y a.f) v.size.w
    = c.row-row.ensures.bytes ∙ (λ i. row_at v (record { x = pos 0; y = y_is i; f = f_is i }) (size i).w) in
    let part : ℕ → List ℕ = λ (j : ℕ). joined_to a.rows (λ (i : ℕ). row_samples v a.f j (a.start + a.count * i) a.count) in
    let laid : joined_to a.rows (λ (j : ℕ). run_samples row c.samples-k.result (a.start + a.count * j) a.count c.size-size.result.w) ≡ part y
    = (λ i. joined_to a.rows (λ (j : ℕ). run_samples (bytes i) (k i) (a.start + a.count * j) a.count (size i).w)) ∙ rows_laid v c.size-size.ensures.volume y a.f a.start a.count a.rows below c.requires.frame c.requires.inside in
    let row_size : a.count * c.size-size.result.w * a.rows ≡ a.count * v.size.w * a.rows = ap (λ (s : Size). a.count * s.w * a.rows) size in
    let whole : a.count * v.size.w * a.rows * (y + 1) ≡ a.count * v.size.w * a.rows * y + a.count * v.size.w * a.rows = grind arith in
    record {
      lays = laid_more y part a.planes.now c.loop-y.planes c.lay_rows-next.new.planes a.at c.loop-y.next c.lay_rows-next.result c.loop-y.invariant.lays
          (laid_same _ (part y) c.loop-y.planes c.lay_rows-next.new.planes c.loop-y.next c.lay_rows-next.result laid c.lay_rows-next.ensures);
      place = omega (arith, whole, c.lay_rows-next.ensures.place, c.loop-y.invariant.place, length-rows row c.samples-k.result a.start a.count a.rows c.size-size.result.w (c.row-row.ensures.len ∙ (λ i. sym k i * c.size-size.result.w)) (omega arith), row_size);
    }

pub row-row-requires : goal.row-row-requires
row-row-requires c = grind (arith, common_steps)

pub lay_rows-next-requires-clause-row : goal.lay_rows-next-requires-clause-row
lay_rows-next-requires-clause-row c = grind (arith, common_steps)

pub returns-clause-place : goal.returns-clause-place
returns-clause-place c = grind (arith, common_steps)

pub overflow_cast-place : goal.overflow_cast-place
overflow_cast-place c = grind (arith, common_steps)

pub lay_rows-next-requires-clause-inside : goal.lay_rows-next-requires-clause-inside
lay_rows-next-requires-clause-inside c = grind (arith, common_steps)

pub overflow_cast-size : goal.overflow_cast-size
overflow_cast-size c = grind (arith, common_steps)
