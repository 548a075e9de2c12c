-- The blocks of a run are the first blocks of its plan, whatever rates their places.
use Rattle.std.proofs.Common.{◌≡◌, ℕ, ◌+◌, ◌≤◌, List, [], ◌∷◌, refl, ap, sym, ◌∙◌, subst, arith, inl, inr, ⊎_elim}
use Rattle.cells.specs.declared.place.At.{At}
use Rattle.cells.specs.declared.place.Box3.{Box3}
use Rattle.cells.specs.declared.place.Size.{Size}
use Rattle.cells.specs.Cells.{Cells, IsVolume}
use Rattle.cells.specs.Places.{cell_count, place_of}
use Rattle.boxes.specs.FirstBoxes.{IsBoxAfter, cells_of_boxes}
use Rattle.map_canvas.specs.Maps.{IsFull, IsMap, SourceMap}
use Rattle.map_canvas.proofs.MapsAfter.{after_is_map}
use Rattle.block_strips.specs.declared.plan.QuiltPlan.{QuiltPlan}
use Rattle.block_strips.specs.Laid.{IsLaidByBlocks, plan_block}
use Rattle.block_strips.proofs.Laying.{next_after, place_inside}
use Rattle.block_check.specs.declared.block.BlockRecord.{BlockRecord}
use Rattle.block_check.specs.Blocks.{after_block, block_cells, new_cells}
use Rattle.block_check.proofs.Filling.{fills_block}
use Rattle.quilted.specs.Runs.{QuiltsBy, QuiltsTo, Quilting, Rating}
use Rattle.quilted.proofs.Runs.{step_leaves}

-- a map of a size is laid by first blocks of the plan with so many cells
pub record LaysFirst (plan : QuiltPlan) (sample : Cells) (output : Size) (m : SourceMap) (cells : ℕ) : Type 0 where
  pub laid : IsLaidByBlocks plan sample m
  pub size : m.size ≡ output
  pub cells_are : cells_of_boxes laid.rects ≡ cells

-- where the map is full, no block comes after them
pub none_after : (plan : QuiltPlan) (sample : Cells) (m : SourceMap) → IsMap m → (laid : IsLaidByBlocks plan sample m) → IsFull m → (rect : Box3) → IsBoxAfter (plan_block plan m.size sample.size) m.size laid.rects rect → ⊥
none_after plan sample m is laid full rect after =
    let q : At = place_of m.size after.index in
    let inside = place_inside m.size after.index is.small.axes.w.0 is.small.axes.h.0 after.first.below in
    after.first.here ((laid.filled q inside).0 (full q inside))

module _ (rating : Rating) (plan : QuiltPlan) (sample : Cells) (volume : IsVolume sample) (some : 1 ≤ plan.block) where
  pub run_is_map : (before after : Quilting) (blocks : List BlockRecord) → IsMap before.map → QuiltsTo rating plan sample before blocks after → IsMap after.map
  run_is_map before after [] is end = subst (λ (q : Quilting). IsMap q.map) (sym end) is
  run_is_map before after (block ∷ blocks) is run =
      run_is_map run.0 after blocks (subst IsMap (sym run.1.0.map) (after_is_map before.map sample block.placement (new_cells block) volume is run.1.0.fits)) run.1.1

  step_lays : (before after : Quilting) (block : BlockRecord) → IsMap before.map → before.map.size.f ≡ 1 → (laid : IsLaidByBlocks plan sample before.map) → QuiltsBy rating plan sample before block after
      → LaysFirst plan sample before.map.size after.map (cell_count block.placement.rect.size + cells_of_boxes laid.rects)
  step_lays before after block is one laid step =
      let m = before.map in
      let rect = block.placement.rect in
      let stands = (step_leaves plan sample volume some rating before after block is one laid step).stands in
      let fills = λ (p : At). fills_block m sample block is stands.right p in
      let more : IsLaidByBlocks plan sample (after_block m block) = record {
        rects = rect ∷ laid.rects;
        blocks = (next_after plan m sample is laid rect step.next, laid.blocks);
        filled = λ p inside. (
          λ now. ⊎_elim (λ old. inr ((laid.filled p inside).0 old)) (λ has. inl has) ((fills p).0 now),
          λ in_one. (fills p).1 (⊎_elim (λ has. inr has) (λ old. inl ((laid.filled p inside).1 old)) in_one),
        );
      } in
      let here : LaysFirst plan sample m.size (after_block m block) (cell_count rect.size + cells_of_boxes laid.rects) = record { laid = more; size = refl; cells_are = refl } in
      subst (λ (n : SourceMap). LaysFirst plan sample m.size n (cell_count rect.size + cells_of_boxes laid.rects)) (sym step.map) here

  pub run_lays : (before after : Quilting) (blocks : List BlockRecord) → IsMap before.map → before.map.size.f ≡ 1 → (laid : IsLaidByBlocks plan sample before.map) → QuiltsTo rating plan sample before blocks after
      → LaysFirst plan sample before.map.size after.map (cells_of_boxes laid.rects + block_cells blocks)
  run_lays before after [] is one laid end =
      subst (λ (q : Quilting). LaysFirst plan sample before.map.size q.map (cells_of_boxes laid.rects + 0)) (sym end) (record { laid = laid; size = refl; cells_are = omega arith })
  run_lays before after (block ∷ blocks) is one laid run =
      let next = run.0 in
      let step = step_lays before next block is one laid run.1.0 in
      let map : IsMap next.map = subst IsMap (sym run.1.0.map) (after_is_map before.map sample block.placement (new_cells block) volume is run.1.0.fits) in
      let rest = run_lays next after blocks map (ap (λ (m : SourceMap). m.size.f) run.1.0.map ∙ one) step.laid run.1.1 in
      record { laid = rest.laid; size = rest.size ∙ step.size; cells_are = omega (arith, rest.cells_are, step.cells_are) }
