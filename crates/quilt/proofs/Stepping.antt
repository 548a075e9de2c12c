-- The steps of a run, as the code makes them.
use Rattle.std.proofs.Common.{◌≡◌, ℕ, ◌+◌, ◌≤◌, ◌<◌, ◌^◌, List, [], ◌∷◌, ◌++◌, refl, ap, sym, ◌∙◌, subst, arith, ⊎_elim}
use Rattle.std.proofs.lemmas.Bool.{cases_lt}
use Rattle.std.proofs.lemmas.List.Elements.{All-nil, All-push}
use Rattle.std.specs.Prelude.{All, Option, Some, None}
use Rattle.cells.specs.declared.place.Size.{Size}
use Rattle.cells.specs.Cells.{Cells, IsVolume}
use Rattle.map_canvas.specs.declared.canvas.Placement.{Placement}
use Rattle.map_canvas.specs.Canvases.{CanvasState, IsCanvas, StandsOver, empty_canvas}
use Rattle.map_canvas.specs.Choices.{Fits, box_count}
use Rattle.map_canvas.specs.Maps.{SourceMap, empty_map}
use Rattle.strip_boundary.specs.declared.boundary.BoundaryRecord.{BoundaryRecord}
use Rattle.patch_picks.specs.Draws.{DrawState}
use Rattle.block_strips.specs.declared.side.Side.{Side}
use Rattle.block_strips.specs.declared.side.Side.TheVariants.{Left, Top}
use Rattle.block_strips.specs.Laid.{IsLaidByBlocks}
use Rattle.block_strips.proofs.Laying.{next_fits, shares_strips}
use Rattle.block_check.specs.declared.block.BlockRecord.{BlockRecord}
use Rattle.block_check.specs.Blocks.{IsFormedBlock, block_cells}
use Rattle.block_check.specs.Records.{BlockStands, JoinStands}
use Rattle.quilted.specs.Runs.{HaveOneFrame, QuiltsBy, QuiltsTo, Quilting, Rating, first_quilting, quilting}
use Rattle.block_check.specs.Several.{left_by_blocks}
use Rattle.quilted.proofs.Laying.{HasJoins, laid_formed}
use Rattle.quilted.proofs.Runs.{quilts_replay}
use Rattle.limits.specs.declared.bounds.TheConstants.{MOST_BOX_CELLS}
use Rattle.quilted.specs.declared.asked.QuiltRun.{QuiltRun}
use Rattle.quilt.specs.declared.work.QuiltWork.{QuiltWork}
use Rattle.quilted.specs.Costs.{IsFileBlock, IsFileSide, all_boundaries, block_boundaries, block_cost, quilt_cost}
use Rattle.quilted.specs.PlanLimit.{PlanStaysWithin}
use Rattle.quilted.specs.Quilted.{CanBeQuilted}
use Rattle.quilted.specs.Totals.{BlockCostsSo, HasBlockWidths, HasSideWidths}
use Rattle.quilt.specs.QuiltWork.{IsQuiltWork}
use Rattle.quilted.proofs.More.{boundaries_more, cells_more, cost_more, quilts_more}
use Rattle.quilted.proofs.OneLimits.{passes_there}

-- a boundary that stands, with the widths of its types, is as a file holds it
file_side : (side : Side) (m : SourceMap) (sample : Cells) (placement : Placement) (boundary : Option BoundaryRecord) → JoinStands side m sample placement boundary → HasSideWidths boundary → IsFileSide side placement boundary
file_side side m sample placement None stands widths = tt
file_side side m sample placement (Some it) stands widths = record { column_per_row = stands.path.column_per_row; columns = widths.columns; sums = widths.sums }

module _ (rating : Rating) (asked : QuiltRun) (sample : Cells) (volume : IsVolume sample) (can : CanBeQuilted asked sample) (was : QuiltWork) (work : IsQuiltWork rating asked sample was) (block : BlockRecord) (after : Quilting)
    (by : QuiltsBy rating asked.plan sample (quilting was.canvas.map was.draws) block after) where
  pub block_formed : IsFormedBlock block
  block_formed =
      let m = was.canvas.map in
      let rect = block.placement.rect in
      let axes = volume.small.axes in
      let one : m.size.f ≡ 1 = ap (λ (size : Size). size.f) work.size ∙ can.frame in
      let box = next_fits asked.plan m sample rect work.canvas.map axes can.block one by.next in
      let has : HasJoins asked.plan m sample block = record {
        fits = by.fits;
        first_frame = box.first_frame;
        one_frame = box.one_frame;
        shares = shares_strips asked.plan m sample rect work.canvas.map axes can.block one by.next work.laid;
        left = by.laid.left;
        top = by.laid.top;
      } in
      laid_formed asked.plan m sample block has

  file_block : BlockStands was.canvas.map sample block → HasBlockWidths block → IsFileBlock asked.size sample block
  file_block stands widths = record {
    fits = subst (λ size. Fits size sample block.placement) work.size by.fits;
    formed = block_formed;
    left = file_side Left was.canvas.map sample block.placement block.left stands.left widths.left;
    top = file_side Top was.canvas.map sample block.placement block.top stands.top widths.top;
  }

  left : left_by_blocks (empty_map asked.size) was.blocks.items ≡ was.canvas.map
  left = (quilts_replay asked.plan sample volume can.block asked.size can.small can.frame rating asked.seed was.blocks.items (quilting was.canvas.map was.draws) work.steps).left

  -- its box doesn't take the run past the bound, as the plan's boxes don't
  pub stays_within : PlanStaysWithin asked.plan asked.size sample.size → block_cells was.blocks.items + box_count block.placement ≤ MOST_BOX_CELLS
  stays_within within =
      let number = block_cells was.blocks.items + box_count block.placement in
      ⊎_elim (λ (past : MOST_BOX_CELLS < number). absurd (within number (passes_there asked sample volume can rating number (record {
        blocks = was.blocks.items;
        so_far = quilting was.canvas.map was.draws;
        run = work.steps;
        within = work.within;
        rect = block.placement.rect;
        next = by.next;
        cells = refl;
        past = past;
      })))) (λ le. le) (cases_lt MOST_BOX_CELLS number)

  pub more_cells : (blocks : List BlockRecord) → blocks ≡ was.blocks.items ++ block ∷ [] → block_cells blocks ≡ block_cells was.blocks.items + box_count block.placement
  more_cells blocks items = ap block_cells items ∙ cells_more was.blocks.items block

  -- a block that is laid is one step more
  pub one_more : (now : QuiltWork) (cost : ℕ) → after ≡ quilting now.canvas.map now.draws → BlockStands was.canvas.map sample block → HaveOneFrame now.canvas sample → IsLaidByBlocks asked.plan sample now.canvas.map → IsCanvas now.canvas
      → HasBlockWidths block → 1 ≤ box_count block.placement → now.blocks.items ≡ was.blocks.items ++ block ∷ [] → PlanStaysWithin asked.plan asked.size sample.size
      → now.boundaries ≡ was.boundaries + block_boundaries block → block_boundaries block ≤ 2 → now.cost ≡ was.cost + cost → BlockCostsSo block cost → cost < 2 ^ 33 → IsQuiltWork rating asked sample now
  one_more now cost is stands pictures laid canvas widths some items within boundaries few costs so cheap = record {
    steps = subst (λ blocks. QuiltsTo rating asked.plan sample (first_quilting asked.size asked.seed) blocks (quilting now.canvas.map now.draws)) (sym items)
        (quilts_more rating asked.plan sample (first_quilting asked.size asked.seed) was.blocks.items (quilting was.canvas.map was.draws) block (quilting now.canvas.map now.draws) work.steps
        (subst (QuiltsBy rating asked.plan sample (quilting was.canvas.map was.draws) block) is by));
    size = ap (λ (q : Quilting). q.map.size) (sym is) ∙ ap (λ (m : SourceMap). m.size) by.map ∙ work.size;
    pictures = pictures;
    laid = laid;
    canvas = canvas;
    within = omega (arith, cells, stays_within within);
    boundaries = boundaries ∙ ap (λ n. n + block_boundaries block) work.boundaries ∙ sym (boundaries_more was.blocks.items block) ∙ ap all_boundaries (sym items);
    few = omega (arith, boundaries, few, work.few, cells, some);
    cost = costs ∙ (λ i. work.cost i + here i) ∙ sym (cost_more sample (empty_map asked.size) was.blocks.items block) ∙ ap (quilt_cost sample (empty_map asked.size)) (sym items);
    cheap = omega (arith, costs, cheap, work.cheap, cells, some);
    each = subst (All (IsFileBlock asked.size sample)) (sym items) (All-push (IsFileBlock asked.size sample) was.blocks.items block work.each (file_block stands widths));
  }
    where
      cells : block_cells now.blocks.items ≡ block_cells was.blocks.items + box_count block.placement
      cells = more_cells now.blocks.items items

      here : cost ≡ block_cost (left_by_blocks (empty_map asked.size) was.blocks.items) sample block
      here = so was.canvas.map sample stands ∙ ap (λ m. block_cost m sample block) (sym left)

-- where none is laid, all is as it was
pub stays : (rating : Rating) (asked : QuiltRun) (sample : Cells) (was : QuiltWork) (canvas : CanvasState) (draws : DrawState) → IsQuiltWork rating asked sample was → quilting canvas.map draws ≡ quilting was.canvas.map was.draws → HaveOneFrame canvas sample → IsCanvas canvas
    → IsQuiltWork rating asked sample (record was { canvas = canvas; draws = draws })
stays rating asked sample was canvas draws work same pictures is = record {
  steps = subst (QuiltsTo rating asked.plan sample (first_quilting asked.size asked.seed) was.blocks.items) (sym same) work.steps;
  size = ap (λ (q : Quilting). q.map.size) same ∙ work.size;
  pictures = pictures;
  laid = subst (λ (q : Quilting). IsLaidByBlocks asked.plan sample q.map) (sym same) work.laid;
  canvas = is;
  within = work.within;
  boundaries = work.boundaries;
  few = work.few;
  cost = work.cost;
  cheap = work.cheap;
  each = work.each;
}

-- no step is made yet
pub none_made : (rating : Rating) (asked : QuiltRun) (sample : Cells) (now : QuiltWork) → CanBeQuilted asked sample → IsCanvas now.canvas → StandsOver now.canvas sample → now.canvas ≡ empty_canvas asked.size sample.k → IsLaidByBlocks asked.plan sample (empty_map asked.size)
    → now.draws ≡ record { seed = asked.seed; place = 0 } → now.blocks.items ≡ [] → now.boundaries ≡ 0 → now.cost ≡ 0 → IsQuiltWork rating asked sample now
none_made rating asked sample now can is over canvas laid draws none boundaries cost =
    let map : now.canvas.map ≡ empty_map asked.size = ap (λ (c : CanvasState). c.map) canvas in
    let size : now.canvas.map.size ≡ asked.size = ap (λ (m : SourceMap). m.size) map in
    record {
      steps = subst (λ blocks. QuiltsTo rating asked.plan sample (first_quilting asked.size asked.seed) blocks (quilting now.canvas.map now.draws)) (sym none) (λ i. quilting (map i) (draws i));
      size = size;
      pictures = record {
        over = over;
        samples = can.samples;
        part = can.part;
        output_frame = ap (λ (size : Size). size.f) size ∙ can.frame;
        sample_frame = can.sample_frame;
      };
      laid = subst (IsLaidByBlocks asked.plan sample) (sym map) laid;
      canvas = is;
      within = omega (arith, ap block_cells none);
      boundaries = boundaries ∙ ap all_boundaries (sym none);
      few = omega (arith, boundaries);
      cost = cost ∙ ap (quilt_cost sample (empty_map asked.size)) (sym none);
      cheap = omega (arith, cost);
      each = subst (All (IsFileBlock asked.size sample)) (sym none) (All-nil (IsFileBlock asked.size sample));
    }
