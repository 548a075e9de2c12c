-- The first blocks of a plan are those of a run, whatever rates their places: each fills its box, and for the next
-- one there is a place that is picked, and a boundary through each strip.
use Rattle.std.proofs.Common.{◌≡◌, ℕ, ◌<◌, ◌≤◌, List, [], ◌∷◌, ◌++◌, refl, ap, sym, ◌∙◌, subst, arith, inl, inr, ⊎_elim}
use Rattle.std.proofs.lemmas.Bool.{false≢true}
use Rattle.std.specs.Prelude.{◌↔◌, All, Option, Some, None, IsSome, option_map}
use Rattle.cells.specs.declared.place.At.{At}
use Rattle.cells.specs.declared.place.Box3.{Box3}
use Rattle.cells.specs.declared.place.Size.{Size}
use Rattle.cells.specs.Boxes.{IsInBox, IsInOne}
use Rattle.cells.specs.Cells.{Cells, IsVolume}
use Rattle.cells.specs.Firsts.{IsFirstWithout}
use Rattle.cells.specs.Places.{IsInside, cell_count, place_of}
use Rattle.boxes.specs.FirstBoxes.{AreFirstBoxes, IsBoxAfter, cells_of_boxes}
use Rattle.boxes.proofs.FirstBoxes.{one_first}
use Rattle.map_canvas.specs.declared.canvas.Placement.{Placement}
use Rattle.map_canvas.specs.Choices.{Fits}
use Rattle.map_canvas.specs.Maps.{IsFilled, IsMap, SourceMap, first_unfilled}
use Rattle.map_canvas.proofs.EmptyAndFull.{map_at-empty, whole_is_full}
use Rattle.map_canvas.proofs.MapsAfter.{after_is_map}
use Rattle.map_canvas.proofs.Marks.{empty_is_canvas}
use Rattle.patch_picks.specs.Lists.{fit_list, part_lists}
use Rattle.patch_picks.specs.Picks.{IsPick}
use Rattle.patch_picks.specs.Steps.{after_draw}
use Rattle.patch_picks.proofs.AnyPick.{SomePick, some_pick}
use Rattle.patch_picks.proofs.BoxLists.{all_in_room, some_room}
use Rattle.patch_picks.proofs.Counting.{All-each, All-slice_get, first_at}
use Rattle.block_strips.specs.declared.side.Side.TheVariants.{Left, Top}
use Rattle.block_strips.specs.Blocks.{FitsBlock, block_at, next_box}
use Rattle.block_strips.specs.Laid.{IsLaidByBlocks, plan_block}
use Rattle.block_strips.proofs.Laying.{first_is, next_fits, place_inside}
use Rattle.block_check.specs.declared.block.BlockRecord.{BlockRecord}
use Rattle.block_check.specs.Blocks.{after_block, block_cells, new_cells}
use Rattle.block_check.specs.Records.{BlockStands}
use Rattle.block_check.proofs.Filling.{fills_block}
use Rattle.limits.specs.declared.bounds.TheConstants.{MOST_BOX_CELLS}
use Rattle.quilted.specs.declared.asked.QuiltRun.{QuiltRun}
use Rattle.quilted.specs.OneLimit.{RunPassesWhereBlocksDo}
use Rattle.quilted.specs.Quilted.{CanBeQuilted}
use Rattle.quilted.specs.Runs.{QuiltsBy, QuiltsTo, Quilting, Rating, first_quilting, plan_strip, quilting}
use Rattle.quilted.proofs.Boundaries.{some_join}
use Rattle.quilted.proofs.More.{cells_more, quilts_more}
use Rattle.quilted.proofs.Picking.{all_have}
use Rattle.quilted.proofs.Runs.{step_leaves}

-- the first place that isn't filled is the first unfilled cell
first_there : (m : SourceMap) (i : ℕ) → IsMap m → IsFirstWithout (cell_count m.size) (λ k. IsFilled m (place_of m.size k)) i → first_unfilled m ≡ Some (place_of m.size i)
first_there m i is first = by (first_unfilled m) refl
  where
    by : (o : Option At) → first_unfilled m ≡ o → first_unfilled m ≡ Some (place_of m.size i)
    by None none = absurd (first.here (whole_is_full m is none (place_of m.size i) (place_inside m.size i is.small.axes.w.0 is.small.axes.h.0 first.below)))
    by (Some p) some =
        let at = first_is m p is some in
        let same : at.index ≡ i = one_first (cell_count m.size) (λ k. IsFilled m (place_of m.size k)) at.index i at.first first in
        some ∙ ap Some (sym at.place ∙ ap (place_of m.size) same)

-- a run has laid these boxes, and no others
record Reached (rating : Rating) (asked : QuiltRun) (sample : Cells) (rects : List Box3) : Type 0 where
  blocks : List BlockRecord
  so_far : Quilting
  run : QuiltsTo rating asked.plan sample (first_quilting asked.size asked.seed) blocks so_far
  is : IsMap so_far.map
  size : so_far.map.size ≡ asked.size
  cells : block_cells blocks ≡ cells_of_boxes rects
  laid : AreFirstBoxes (plan_block asked.plan so_far.map.size sample.size) so_far.map.size rects
  filled : (p : At) → IsInside so_far.map.size p → IsFilled so_far.map p ↔ IsInOne rects p

module _ (rating : Rating) (asked : QuiltRun) (sample : Cells) (volume : IsVolume sample) (can : CanBeQuilted asked sample) where
  nothing_laid : Reached rating asked sample []
  nothing_laid = record {
    blocks = [];
    so_far = first_quilting asked.size asked.seed;
    run = refl;
    is = (empty_is_canvas asked.size 1 can.small (omega arith, omega arith)).map;
    size = refl;
    cells = refl;
    laid = tt;
    filled = λ p inside. (λ filled. absurd (false≢true (subst IsSome (map_at-empty asked.size p) filled)), λ none. absurd none);
  }

  module _ (rects : List Box3) (rect : Box3) (reached : Reached rating asked sample rects) (after : IsBoxAfter (plan_block asked.plan asked.size sample.size) asked.size rects rect) where
    abbrev m : SourceMap
    m = reached.so_far.map

    here : IsBoxAfter (plan_block asked.plan m.size sample.size) m.size rects rect
    here = subst (λ (size : Size). IsBoxAfter (plan_block asked.plan size sample.size) size rects rect) (sym reached.size) after

    one : m.size.f ≡ 1
    one = ap (λ (size : Size). size.f) reached.size ∙ can.frame

    inside_at : (i : ℕ) → i < cell_count m.size → IsInside m.size (place_of m.size i)
    inside_at i lt = place_inside m.size i reached.is.small.axes.w.0 reached.is.small.axes.h.0 lt

    unfilled : IsFirstWithout (cell_count m.size) (λ i. IsFilled m (place_of m.size i)) here.index
    unfilled = record {
      below = here.first.below;
      before = λ earlier lt. (reached.filled (place_of m.size earlier) (inside_at earlier (omega (arith, lt, here.first.below)))).1 (here.first.before earlier lt);
      here = λ filled. here.first.here ((reached.filled (place_of m.size here.index) (inside_at here.index here.first.below)).0 filled);
    }

    -- the next block is that of the plan
    next : next_box asked.plan m sample ≡ Some rect
    next = ap (option_map (block_at asked.plan m.size sample.size)) (first_there m here.index reached.is unfilled) ∙ here.is

    fits : FitsBlock m.size sample.size rect
    fits = next_fits asked.plan m sample rect reached.is volume.small.axes can.block one next

    abbrev list : List Placement
    list = part_lists (fit_list rect) sample

    abbrev Suits : Placement → Type 0
    Suits placement = Fits m.size sample placement × (placement.rect ≡ rect)

    -- each place where it fits may be picked, and there is one
    each_suits : All Suits list
    each_suits =
        All-each Suits list
        (λ i placement is. (
          All-slice_get (Fits m.size sample) list i placement (all_in_room m.size sample rect fits.some fits.inside) is,
          All-slice_get (λ (p : Placement). p.rect ≡ rect) list i placement (all_have rect sample) is,
        ))

    pick : SomePick (rating m) asked.plan.tol list reached.so_far.draws Suits
    pick =
        let some = first_at list (some_room sample rect 1 sample.size refl fits.room) in
        some_pick (rating m) asked.plan.tol list reached.so_far.draws Suits each_suits some.0 some.1

    abbrev placement : Placement
    placement = pick.picked

    abbrev block : BlockRecord
    block = record {
      placement = placement;
      left = (some_join (plan_strip Left asked.plan m sample placement)).0;
      top = (some_join (plan_strip Top asked.plan m sample placement)).0;
    }

    abbrev left_then : Quilting
    left_then = quilting (after_block m block) (after_draw reached.so_far.draws)

    step : QuiltsBy rating asked.plan sample reached.so_far block left_then
    step = record {
      next = next ∙ ap Some (sym pick.holds.1);
      pick = subst (λ (r : Box3). IsPick (rating m) (Some asked.plan.tol) (part_lists (fit_list r) sample) reached.so_far.draws placement) (sym pick.holds.1) pick.is;
      fits = pick.holds.0;
      laid = record {
        placed = refl;
        left = (some_join (plan_strip Left asked.plan m sample placement)).1;
        top = (some_join (plan_strip Top asked.plan m sample placement)).1;
      };
      map = refl;
      draws = refl;
    }

    stands : BlockStands m sample block
    stands =
        let laid : IsLaidByBlocks asked.plan sample m = record { rects = rects; blocks = reached.laid; filled = reached.filled } in
        (step_leaves asked.plan sample volume can.block rating reached.so_far left_then block reached.is one laid step).stands

    one_laid : Reached rating asked sample (rect ∷ rects)
    one_laid = record {
      blocks = reached.blocks ++ block ∷ [];
      so_far = left_then;
      run = quilts_more rating asked.plan sample (first_quilting asked.size asked.seed) reached.blocks reached.so_far block left_then reached.run step;
      is = after_is_map m sample placement (new_cells block) volume reached.is pick.holds.0;
      size = reached.size;
      cells = omega (arith, cells_more reached.blocks block, reached.cells, ap (λ (r : Box3). cell_count r.size) pick.holds.1);
      laid = (here, reached.laid);
      filled = λ p there.
          let now = fills_block m sample block reached.is stands.right p in
          let was = reached.filled p there in (
            λ filled. ⊎_elim (λ old. inr (was.0 old)) (λ has. inl (subst (λ (r : Box3). IsInBox r p) pick.holds.1 has)) (now.0 filled),
            λ in_one. now.1 (⊎_elim (λ has. inr (subst (λ (r : Box3). IsInBox r p) (sym pick.holds.1) has)) (λ old. inl (was.1 old)) in_one),
          );
    }

  reach : (rects : List Box3) → AreFirstBoxes (plan_block asked.plan asked.size sample.size) asked.size rects → Reached rating asked sample rects
  reach [] are = nothing_laid
  reach (rect ∷ rects) are = one_laid rects rect (reach rects are.1) are.0

  pub blocks_pass : RunPassesWhereBlocksDo rating asked sample
  blocks_pass number passes =
      let reached = reach passes.rects passes.before in
      record {
        blocks = reached.blocks;
        so_far = reached.so_far;
        run = reached.run;
        within = subst (λ n. n ≤ MOST_BOX_CELLS) (sym reached.cells) passes.within;
        rect = passes.rect;
        next = next passes.rects passes.rect reached passes.next;
        cells = omega (arith, passes.cells, reached.cells);
        past = passes.past;
      }
