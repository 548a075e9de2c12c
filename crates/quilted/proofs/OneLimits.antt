-- The limit: it excludes a run to the end, there is one number, and a run that passes its bound does so there.
use Rattle.std.proofs.Common.{◌≡◌, ℕ, ◌+◌, ◌<◌, ◌≤◌, List, [], ◌∷◌, ap, sym, ◌∙◌, subst, arith}
use Rattle.std.proofs.lemmas.Bool.{false≢true}
use Rattle.std.proofs.lemmas.Option.{same_Some}
use Rattle.std.specs.Prelude.{IsSome, Some}
use Rattle.cells.specs.declared.place.Box3.{Box3}
use Rattle.cells.specs.declared.place.Size.{Size}
use Rattle.cells.specs.Cells.{Cells, IsVolume}
use Rattle.cells.specs.Places.{cell_count}
use Rattle.boxes.proofs.FirstBoxes.{one_limit, whole_within}
use Rattle.map_canvas.specs.Maps.{empty_map}
use Rattle.map_canvas.proofs.EmptyAndFull.{map_at-empty}
use Rattle.map_canvas.proofs.Marks.{empty_is_canvas}
use Rattle.block_strips.specs.declared.plan.QuiltPlan.{QuiltPlan}
use Rattle.block_strips.specs.Blocks.{next_box}
use Rattle.block_strips.specs.Laid.{IsLaidByBlocks, plan_block}
use Rattle.block_strips.proofs.Laying.{next_after}
use Rattle.block_check.specs.declared.block.BlockRecord.{BlockRecord}
use Rattle.block_check.specs.Blocks.{block_cells}
use Rattle.quilted.specs.Runs.{QuiltsTo, Quilting, Rating, first_quilting}
use Rattle.limits.specs.declared.bounds.TheConstants.{MOST_BOX_CELLS}
use Rattle.quilted.specs.declared.asked.QuiltRun.{QuiltRun}
use Rattle.quilted.specs.OneLimit.{OneQuiltLimit, QuiltEndsWithin, RunPassesAt, RunsPassThere}
use Rattle.quilted.specs.PlanLimit.{PlanPassesAt, PlanStaysWithin}
use Rattle.quilted.specs.Quilted.{CanBeQuilted}
use Rattle.quilted.proofs.OneQuilt.{one_step}
use Rattle.quilted.proofs.RunBlocks.{LaysFirst, none_after, run_is_map, run_lays}

pub limits_are_one : (asked : QuiltRun) (sample : Cells) → OneQuiltLimit asked sample
limits_are_one asked sample = one_limit (plan_block asked.plan asked.size sample.size) asked.size

-- at first there is no block
abbrev none_laid : (plan : QuiltPlan) (sample : Cells) (size : Size) → IsLaidByBlocks plan sample (empty_map size)
none_laid plan sample size = record {
  rects = [];
  blocks = tt;
  filled = λ p inside. (λ filled. absurd (false≢true (subst IsSome (map_at-empty size p) filled)), λ none. absurd none);
}

module _ (asked : QuiltRun) (sample : Cells) (volume : IsVolume sample) (can : CanBeQuilted asked sample) where
  laid_by : (rating : Rating) (blocks : List BlockRecord) (after : Quilting) → QuiltsTo rating asked.plan sample (first_quilting asked.size asked.seed) blocks after
      → LaysFirst asked.plan sample asked.size after.map (block_cells blocks)
  laid_by rating blocks after run =
      let lays : LaysFirst asked.plan sample asked.size after.map (0 + block_cells blocks) =
      run_lays rating asked.plan sample volume can.block (first_quilting asked.size asked.seed) after blocks (empty_is_canvas asked.size 1 can.small (omega arith, omega arith)).map can.frame (none_laid asked.plan sample asked.size) run in
      record { laid = lays.laid; size = lays.size; cells_are = omega (arith, lays.cells_are) }

  pub ends_within : (rating : Rating) → QuiltEndsWithin rating asked sample
  ends_within rating blocks after number run within =
      let lays = laid_by rating blocks after run.run in
      let map = run_is_map rating asked.plan sample volume can.block (first_quilting asked.size asked.seed) after blocks (empty_is_canvas asked.size 1 can.small (omega arith, omega arith)).map run.run in
      let stays : PlanStaysWithin asked.plan after.map.size sample.size = whole_within (plan_block asked.plan after.map.size sample.size) after.map.size lays.laid.rects lays.laid.blocks (none_after asked.plan sample after.map map lays.laid run.full) (omega (arith, within, lays.cells_are)) in
      subst (λ (size : Size). PlanStaysWithin asked.plan size sample.size) lays.size stays number

  pub passes_there : (rating : Rating) → RunsPassThere rating asked sample
  passes_there rating number passes =
      let m = passes.so_far.map in
      let lays = laid_by rating passes.blocks passes.so_far passes.run in
      let map = run_is_map rating asked.plan sample volume can.block (first_quilting asked.size asked.seed) passes.so_far passes.blocks (empty_is_canvas asked.size 1 can.small (omega arith, omega arith)).map passes.run in
      let there : PlanPassesAt asked.plan m.size sample.size number = record {
        rects = lays.laid.rects;
        before = lays.laid.blocks;
        within = omega (arith, lays.cells_are, passes.within);
        rect = passes.rect;
        next = next_after asked.plan m sample map lays.laid passes.rect passes.next;
        cells = omega (arith, lays.cells_are, passes.cells);
        past = passes.past;
      } in
      subst (λ (size : Size). PlanPassesAt asked.plan size sample.size number) lays.size there

-- Two runs so far by a rating, of which the next box of each passes the bound, are one run: the blocks of neither
-- have the next box of the other.
module _ (rating : Rating) (plan : QuiltPlan) (sample : Cells) where
  -- blocks from a quilt so far on, beside so many cells, and the next box, with which they have too many
  record Passes (before : Quilting) (had : ℕ) (blocks : List BlockRecord) (rect : Box3) : Type 0 where
    so_far : Quilting
    run : QuiltsTo rating plan sample before blocks so_far
    next : next_box plan so_far.map sample ≡ Some rect
    within : had + block_cells blocks ≤ MOST_BOX_CELLS
    past : MOST_BOX_CELLS < had + block_cells blocks + cell_count rect.size

  -- the next box is that of the first block of the other run, which is within the bound
  not_sooner : (before : Quilting) (had : ℕ) (rect : Box3) (block : BlockRecord) (blocks : List BlockRecord) (other : Box3) → Passes before had [] rect → Passes before had (block ∷ blocks) other → ⊥
  not_sooner before had rect block blocks other a b =
      let here : next_box plan before.map sample ≡ Some rect = subst (λ (q : Quilting). next_box plan q.map sample ≡ Some rect) a.run a.next in
      let same : cell_count rect.size ≡ cell_count block.placement.rect.size = ap (λ (r : Box3). cell_count r.size) (same_Some rect block.placement.rect (sym here ∙ b.run.1.0.next)) in
      omega (arith, same, a.past, b.within)

  same_cells : (before : Quilting) (had : ℕ) (blocks others : List BlockRecord) (rect other : Box3) → Passes before had blocks rect → Passes before had others other → block_cells blocks + cell_count rect.size ≡ block_cells others + cell_count other.size
  same_cells before had [] [] rect other a b =
      let left : next_box plan before.map sample ≡ Some rect = subst (λ (q : Quilting). next_box plan q.map sample ≡ Some rect) a.run a.next in
      let right : next_box plan before.map sample ≡ Some other = subst (λ (q : Quilting). next_box plan q.map sample ≡ Some other) b.run b.next in
      let same : cell_count rect.size ≡ cell_count other.size = ap (λ (r : Box3). cell_count r.size) (same_Some rect other (sym left ∙ right)) in
      omega (arith, same)
  same_cells before had [] (o ∷ others) rect other a b = absurd (not_sooner before had rect o others other a b)
  same_cells before had (x ∷ blocks) [] rect other a b = absurd (not_sooner before had other x blocks rect b a)
  same_cells before had (x ∷ blocks) (o ∷ others) rect other a b =
      let step = one_step rating plan sample before a.run.0 b.run.0 x o a.run.1.0 b.run.1.0 in
      let cells : cell_count x.placement.rect.size ≡ cell_count o.placement.rect.size = ap (λ (it : BlockRecord). cell_count it.placement.rect.size) step.block_is in
      let now = had + cell_count x.placement.rect.size in
      let rest : block_cells blocks + cell_count rect.size ≡ block_cells others + cell_count other.size =
      same_cells a.run.0 now blocks others rect other
      (record { so_far = a.so_far; run = a.run.1.1; next = a.next; within = omega (arith, a.within); past = omega (arith, a.past) })
      (record {
        so_far = b.so_far;
        run = subst (λ (q : Quilting). QuiltsTo rating plan sample q others b.so_far) (sym step.after_is) b.run.1.1;
        next = b.next;
        within = omega (arith, b.within, cells);
        past = omega (arith, b.past, cells);
      }) in
      omega (arith, cells, rest)

pub runs_pass_once : (rating : Rating) (asked : QuiltRun) (sample : Cells) (number other : ℕ) → RunPassesAt rating asked sample number → RunPassesAt rating asked sample other → number ≡ other
runs_pass_once rating asked sample number other a b =
    let same = same_cells rating asked.plan sample (first_quilting asked.size asked.seed) 0 a.blocks b.blocks a.rect b.rect
    (record { so_far = a.so_far; run = a.run; next = a.next; within = omega (arith, a.within); past = omega (arith, a.past, a.cells) })
    (record { so_far = b.so_far; run = b.run; next = b.next; within = omega (arith, b.within); past = omega (arith, b.past, b.cells) }) in
    omega (arith, same, a.cells, b.cells)
