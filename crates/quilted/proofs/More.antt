-- One record more at the end of a list.
use Rattle.std.proofs.Common.{◌≡◌, ◌+◌, List, [], ◌∷◌, ◌++◌, refl, subst, arith}
use Rattle.cells.specs.Cells.{Cells}
use Rattle.map_canvas.specs.Choices.{box_count}
use Rattle.map_canvas.specs.Maps.{SourceMap}
use Rattle.block_strips.specs.declared.plan.QuiltPlan.{QuiltPlan}
use Rattle.block_check.specs.declared.block.BlockRecord.{BlockRecord}
use Rattle.block_check.specs.Blocks.{after_block, block_cells}
use Rattle.quilted.specs.Runs.{QuiltsBy, QuiltsTo, Quilting, Rating}
use Rattle.block_check.specs.Several.{left_by_blocks}
use Rattle.quilted.specs.Costs.{all_boundaries, block_boundaries, block_cost, quilt_cost}

pub quilts_more : (rating : Rating) (plan : QuiltPlan) (sample : Cells) (s : Quilting) (blocks : List BlockRecord) (t : Quilting) (block : BlockRecord) (u : Quilting) → QuiltsTo rating plan sample s blocks t → QuiltsBy rating plan sample t block u → QuiltsTo rating plan sample s (blocks ++ block ∷ []) u
quilts_more rating plan sample s [] t block u run step = (u, (subst (λ x. QuiltsBy rating plan sample x block u) run step, refl))
quilts_more rating plan sample s (first ∷ blocks) t block u run step = (run.0, (run.1.0, quilts_more rating plan sample run.0 blocks t block u run.1.1 step))

pub boundaries_more : (blocks : List BlockRecord) (block : BlockRecord) → all_boundaries (blocks ++ block ∷ []) ≡ all_boundaries blocks + block_boundaries block
boundaries_more [] block = omega arith
boundaries_more (first ∷ blocks) block = omega (arith, boundaries_more blocks block)

pub cells_more : (blocks : List BlockRecord) (block : BlockRecord) → block_cells (blocks ++ block ∷ []) ≡ block_cells blocks + box_count block.placement
cells_more [] block = omega arith
cells_more (first ∷ blocks) block = omega (arith, cells_more blocks block)

pub cost_more : (sample : Cells) (m : SourceMap) (blocks : List BlockRecord) (block : BlockRecord) → quilt_cost sample m (blocks ++ block ∷ []) ≡ quilt_cost sample m blocks + block_cost (left_by_blocks m blocks) sample block
cost_more sample m [] block = omega arith
cost_more sample m (first ∷ blocks) block = omega (arith, cost_more sample (after_block m first) blocks block)
