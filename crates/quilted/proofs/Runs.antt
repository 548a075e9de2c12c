-- Steps of quilting leave what their records leave, each of which stands.
use Rattle.std.proofs.Common.{◌≡◌, ◌≤◌, List, [], ◌∷◌, refl, ap, sym, ◌∙◌, subst, arith}
use Rattle.cells.specs.declared.place.Size.{Size}
use Rattle.cells.specs.Cells.{Cells, IsVolume}
use Rattle.cells.specs.Places.{IsSmall}
use Rattle.map_canvas.specs.Maps.{IsMap, SourceMap}
use Rattle.map_canvas.proofs.Marks.{empty_is_canvas}
use Rattle.block_strips.specs.declared.plan.QuiltPlan.{QuiltPlan}
use Rattle.block_strips.specs.Laid.{IsLaidByBlocks}
use Rattle.block_strips.proofs.Laying.{empty_is_laid, next_fits, shares_strips, stays_laid}
use Rattle.block_check.specs.declared.block.BlockRecord.{BlockRecord}
use Rattle.block_check.specs.Blocks.{after_block, new_cells}
use Rattle.block_check.specs.Records.{BlockStands}
use Rattle.quilted.specs.Runs.{QuiltsBy, QuiltsReplay, QuiltsTo, Quilting, Rating, BlocksReplay}
use Rattle.block_check.proofs.Filling.{fills_block}
use Rattle.quilted.proofs.Laying.{HasJoins, laid_stands}
use Rattle.map_canvas.proofs.MapsAfter.{after_is_map}
use Rattle.block_check.proofs.Standing.{standing_is_least}

-- one step
pub record StepLeaves (plan : QuiltPlan) (sample : Cells) (m : SourceMap) (block : BlockRecord) : Type 0 where
  pub stands : BlockStands m sample block
  pub map : IsMap (after_block m block)
  pub laid : IsLaidByBlocks plan sample (after_block m block)

module _ (plan : QuiltPlan) (sample : Cells) (volume : IsVolume sample) (some : 1 ≤ plan.block) where
  pub step_leaves : (rating : Rating) (before after : Quilting) (block : BlockRecord) → IsMap before.map → before.map.size.f ≡ 1 → IsLaidByBlocks plan sample before.map → QuiltsBy rating plan sample before block after → StepLeaves plan sample before.map block
  step_leaves rating before after block is one laid step =
      let m = before.map in
      let rect = block.placement.rect in
      let axes = volume.small.axes in
      let box = next_fits plan m sample rect is axes some one step.next in
      let has : HasJoins plan m sample block = record {
        fits = step.fits;
        first_frame = box.first_frame;
        one_frame = box.one_frame;
        shares = shares_strips plan m sample rect is axes some one step.next laid;
        left = step.laid.left;
        top = step.laid.top;
      } in
      let stands : BlockStands m sample block = laid_stands plan m sample block has in
      record {
        stands = stands;
        map = after_is_map m sample block.placement (new_cells block) volume is step.fits;
        laid = stays_laid plan m sample rect is axes some one step.next laid (after_block m block) refl (λ p inside. fills_block m sample block is stands.right p);
      }

  run_replays : (rating : Rating) (before after : Quilting) (blocks : List BlockRecord) → IsMap before.map → before.map.size.f ≡ 1 → IsLaidByBlocks plan sample before.map → QuiltsTo rating plan sample before blocks after → BlocksReplay plan sample before.map blocks after.map
  run_replays rating before after [] is one laid end =
      let same : before.map ≡ after.map = ap (λ (q : Quilting). q.map) (sym end) in
      record { left = same; stand = tt; least = tt; laid = subst (IsLaidByBlocks plan sample) same laid }
  run_replays rating before after (block ∷ blocks) is one laid run =
      let next = run.0 in
      let step = run.1.0 in
      let leaves = step_leaves rating before next block is one laid step in
      let rest : BlocksReplay plan sample next.map blocks after.map = run_replays rating next after blocks
      (subst IsMap (sym step.map) leaves.map) (ap (λ (m : SourceMap). m.size.f) step.map ∙ one) (subst (IsLaidByBlocks plan sample) (sym step.map) leaves.laid) run.1.1 in
      let here : BlocksReplay plan sample (after_block before.map block) blocks after.map = subst (λ (m : SourceMap). BlocksReplay plan sample m blocks after.map) step.map rest in
      record {
        left = here.left;
        stand = (leaves.stands, here.stand);
        least = (standing_is_least before.map sample block leaves.stands, here.least);
        laid = here.laid;
      }

  pub quilts_replay : (size : Size) → IsSmall size → size.f ≡ 1 → QuiltsReplay plan sample size
  quilts_replay size small one rating seed blocks after run =
      run_replays rating _ after blocks (empty_is_canvas size 1 small (omega arith, omega arith)).map one (empty_is_laid plan sample size) run
