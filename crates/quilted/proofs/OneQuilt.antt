-- Of a plan, a sample, a size and a seed there is one quilted run.
use Rattle.std.proofs.Common.{◌≡◌, List, [], ◌∷◌, refl, ap, sym, ◌∙◌, subst, arith}
use Rattle.std.proofs.lemmas.Option.{none-some, same_Some}
use Rattle.std.specs.Prelude.{Option, Some, None, option_map}
use Rattle.cells.specs.declared.place.Box3.{Box3}
use Rattle.cells.specs.declared.place.Size.{Size}
use Rattle.cells.specs.Cells.{Cells, IsVolume}
use Rattle.cells.specs.Places.{IsSmall}
use Rattle.map_canvas.specs.declared.canvas.Placement.{Placement}
use Rattle.map_canvas.specs.Maps.{IsFull, IsMap, SourceMap}
use Rattle.map_canvas.proofs.Marks.{empty_is_canvas}
use Rattle.map_canvas.proofs.Unfilled.{full_is_whole}
use Rattle.patch_picks.specs.Lists.{fit_list, part_lists}
use Rattle.patch_picks.specs.Picks.{IsPick}
use Rattle.patch_picks.proofs.OnePick.{one_pick}
use Rattle.strip_boundary.specs.declared.boundary.BoundaryRecord.{BoundaryRecord}
use Rattle.strip_boundary.specs.Strips.{ErrorTable}
use Rattle.strip_boundary.proofs.OneAnswer.{one_first_least, one_tight}
use Rattle.block_strips.specs.declared.plan.QuiltPlan.{QuiltPlan}
use Rattle.block_strips.specs.declared.side.Side.TheVariants.{Left, Top}
use Rattle.block_strips.specs.Blocks.{block_at, next_box}
use Rattle.block_check.specs.declared.block.BlockRecord.{BlockRecord}
use Rattle.block_check.specs.Blocks.{after_block, new_cells}
use Rattle.quilted.specs.Runs.{JoinsBy, OneQuilt, QuiltsBy, QuiltsTo, Quilting, Rating, plan_strip}
use Rattle.map_canvas.proofs.MapsAfter.{after_is_map}

-- through a strip there is one boundary, or none
one_join : (strip : ErrorTable) (a b : Option BoundaryRecord) → JoinsBy strip a → JoinsBy strip b → a ≡ b
one_join strip None None x y = refl
one_join strip None (Some b) x y = let none : strip.cols ≡ 0 = x in absurd (omega (arith, none, y.some))
one_join strip (Some a) None x y = let none : strip.cols ≡ 0 = y in absurd (omega (arith, none, x.some))
one_join strip (Some a) (Some b) x y =
    let path : a.path ≡ b.path = one_first_least strip a.path b.path x.first y.first in
    let sums : a.sums ≡ b.sums = one_tight strip a.sums b.sums x.tight y.tight in
    let same : a ≡ b = λ i. record { path = path i; sums = sums i } in
    ap (λ (it : BoundaryRecord). Some it) same

-- the same block, and the same left
pub record IsSameStep (block other : BlockRecord) (after left : Quilting) : Type 0 where
  pub block_is : block ≡ other
  pub after_is : after ≡ left

pub one_step : (rating : Rating) (plan : QuiltPlan) (sample : Cells) (before after left : Quilting) (block other : BlockRecord) → QuiltsBy rating plan sample before block after → QuiltsBy rating plan sample before other left → IsSameStep block other after left
one_step rating plan sample before after left block other x y =
    let m = before.map in
    let rect : block.placement.rect ≡ other.placement.rect = same_Some _ _ (sym x.next ∙ y.next) in
    let pick : IsPick (rating m) (Some plan.tol) (part_lists (fit_list block.placement.rect) sample) before.draws other.placement =
    subst (λ (r : Box3). IsPick (rating m) (Some plan.tol) (part_lists (fit_list r) sample) before.draws other.placement) (sym rect) y.pick in
    let placement : block.placement ≡ other.placement = one_pick (rating m) (Some plan.tol) (part_lists (fit_list block.placement.rect) sample) before.draws block.placement other.placement x.pick pick in
    let left_same : block.left ≡ other.left = one_join (plan_strip Left plan m sample block.placement) block.left other.left x.laid.left
    (subst (λ (p : Placement). JoinsBy (plan_strip Left plan m sample p) other.left) (sym placement) y.laid.left) in
    let top_same : block.top ≡ other.top = one_join (plan_strip Top plan m sample block.placement) block.top other.top x.laid.top
    (subst (λ (p : Placement). JoinsBy (plan_strip Top plan m sample p) other.top) (sym placement) y.laid.top) in
    let same : block ≡ other = λ i. record { placement = placement i; left = left_same i; top = top_same i } in
    let map : after.map ≡ left.map = x.map ∙ ap (after_block m) same ∙ sym y.map in
    let draws : after.draws ≡ left.draws = x.draws ∙ sym y.draws in
    record { block_is = same; after_is = λ i. record { map = map i; draws = draws i } }

-- over a full map there is no step
pub no_box : (plan : QuiltPlan) (m : SourceMap) (sample : Cells) (rect : Box3) → IsMap m → IsFull m → next_box plan m sample ≡ Some rect → ⊥
no_box plan m sample rect is full next = none-some rect (sym (ap (option_map (block_at plan m.size sample.size)) (full_is_whole m is full)) ∙ next)

pub record IsSameQuilt (blocks others : List BlockRecord) (after other : Quilting) : Type 0 where
  pub blocks_are : blocks ≡ others
  pub after_is : after ≡ other

one_run : (rating : Rating) (plan : QuiltPlan) (sample : Cells) → IsVolume sample → (before after other : Quilting) (blocks others : List BlockRecord) → IsMap before.map
    → QuiltsTo rating plan sample before blocks after → IsFull after.map → QuiltsTo rating plan sample before others other → IsFull other.map → IsSameQuilt blocks others after other
one_run rating plan sample volume before after other [] [] is x full y whole = record { blocks_are = refl; after_is = x ∙ sym y }
one_run rating plan sample volume before after other [] (o ∷ others) is x full y whole =
    absurd (no_box plan before.map sample _ is (subst (λ (q : Quilting). IsFull q.map) x full) y.1.0.next)
one_run rating plan sample volume before after other (b ∷ blocks) [] is x full y whole =
    absurd (no_box plan before.map sample _ is (subst (λ (q : Quilting). IsFull q.map) y whole) x.1.0.next)
one_run rating plan sample volume before after other (b ∷ blocks) (o ∷ others) is x full y whole =
    let step = one_step rating plan sample before x.0 y.0 b o x.1.0 y.1.0 in
    let map : IsMap x.0.map = subst IsMap (sym x.1.0.map) (after_is_map before.map sample b.placement (new_cells b) volume is x.1.0.fits) in
    let rest = one_run rating plan sample volume x.0 after other blocks others map x.1.1 full (subst (λ (q : Quilting). QuiltsTo rating plan sample q others other) (sym step.after_is) y.1.1) whole in
    record { blocks_are = λ i. step.block_is i ∷ rest.blocks_are i; after_is = rest.after_is }

pub one_quilt : (plan : QuiltPlan) (sample : Cells) (size : Size) → IsVolume sample → IsSmall size → OneQuilt plan sample size
one_quilt plan sample size volume small rating seed blocks others after other x y =
    let same = one_run rating plan sample volume _ after other blocks others (empty_is_canvas size 1 small (omega arith, omega arith)).map x.run x.full y.run y.full in
    (same.blocks_are, same.after_is)
