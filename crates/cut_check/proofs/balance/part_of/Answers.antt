use Rattle.std.proofs.Common.{arith}
use Rattle.std.proofs.lemmas.Grind.{common_steps}
use Rattle.std.proofs.Common.{◌≡◌, ◌∙◌, List, refl, sym, ap, subst, w32, to_z, of_z, rules}
use Rattle.std.proofs.lemmas.Int.{to_z-of_z}
use Rattle.std.specs.Prelude.{pos}
use mathlib.Core.Bool.{false≢true}
use Rattle.map_canvas.specs.Maps.{IsFilled}
use Rattle.boxes.specs.Pairs.{at_index}
use Rattle.boxes.proofs.Indices.{at_index_is}
use Rattle.boxes.proofs.PairNumbers.{walk_in}
use Rattle.costs.specs.Lawful.{StaysOld}
use Rattle.cut_check.specs.declared.record.Flow.{Flow}
use Rattle.cut_check.specs.Flows.{leaving, IsBetween, minus_of}
use Rattle.cut_check.proofs.Cells.{in_box_at, unbalanced_free}
use mir.Val.{SFits}
use Rattle.cut_check.specs.Steps.{most_leaving, LiesIn}
use Rattle.cut_check.proofs.balance.part_of.Goals as goal

pub leaving-out-requires-clause-inside : goal.leaving-out-requires-clause-inside
leaving-out-requires-clause-inside c = walk_in c.args.cut.now.placement.rect.size c.args.i c.args.walk c.requires.here c.requires.below

-- what leaves the cell, by its index
pub returns-then-out-eq0-clause-balanced : goal.returns-then-out-eq0-clause-balanced
returns-then-out-eq0-clause-balanced c = λ sample. (
  λ _. λ free.
      let cut = c.args.cut.now in
      let size = cut.placement.rect.size in
      let at = c.args.walk.at in
      let fits : SFits w32 c.leaving-out.result = search rules in
      let near = to_z-of_z w32 c.leaving-out.result fits in
      let is = c.leaving-out.ensures.is ∙ ap (λ (flows : List Flow). leaving size flows at.x at.y at.f) c.as_slice.ensures ∙ sym (at_index_is size (leaving size cut.flows) c.args.i at.x at.y at.f c.requires.here.at) in
      sym is ∙ sym near ∙ ap (to_z w32) c.if-out-eq0.true,
  λ _. refl,
)

pub returns-then-out-eq0-clause-part : goal.returns-then-out-eq0-clause-part
returns-then-out-eq0-clause-part c =
    let cut = c.args.cut.now in
    let size = cut.placement.rect.size in
    let at = c.args.walk.at in
    let fits : SFits w32 c.leaving-out.result = search rules in
    let near = to_z-of_z w32 c.leaving-out.result fits in
    let is = c.leaving-out.ensures.is ∙ ap (λ (flows : List Flow). leaving size flows at.x at.y at.f) c.as_slice.ensures ∙ sym (at_index_is size (leaving size cut.flows) c.args.i at.x at.y at.f c.requires.here.at) in
    record { here = λ _. sym (sym is ∙ sym near ∙ ap (to_z w32) c.if-out-eq0.true); elsewhere = λ _. refl }

pub returns-then-stays_old-clause-balanced : goal.returns-then-stays_old-clause-balanced
returns-then-stays_old-clause-balanced c = λ sample. (
  λ _. λ free.
      absurd (free.free (subst (StaysOld c.args.canvas.now.map c.args.cut.now.placement c.args.held.now) c.box_cell-p.ensures (c.stays_old.ensures.0 c.if-stays_old.true))),
  λ _. refl,
)

pub returns-then-stays_old-clause-part : goal.returns-then-stays_old-clause-part
returns-then-stays_old-clause-part c =
    let cut = c.args.cut.now in
    let size = cut.placement.rect.size in
    let at = c.args.walk.at in
    let fits : SFits w32 c.leaving-out.result = search rules in
    let near = to_z-of_z w32 c.leaving-out.result fits in
    let is = c.leaving-out.ensures.is ∙ ap (λ (flows : List Flow). leaving size flows at.x at.y at.f) c.as_slice.ensures ∙ sym (at_index_is size (leaving size cut.flows) c.args.i at.x at.y at.f c.requires.here.at) in
    let old = subst (StaysOld c.args.canvas.now.map cut.placement c.args.held.now) c.box_cell-p.ensures (c.stays_old.ensures.0 c.if-stays_old.true) in
    record { here = λ _. near ∙ is; elsewhere = λ none. absurd (none old) }

pub returns-then-is_filled-clause-balanced : goal.returns-then-is_filled-clause-balanced
returns-then-is_filled-clause-balanced c = λ sample. (
  λ none. absurd (false≢true none),
  λ balanced.
      let m = c.args.canvas.now.map in
      let cut = c.args.cut.now in
      let size = cut.placement.rect.size in
      let at = c.args.walk.at in
      let is = c.leaving-out.ensures.is ∙ ap (λ (flows : List Flow). leaving size flows at.x at.y at.f) c.as_slice.ensures ∙ sym (at_index_is size (leaving size cut.flows) c.args.i at.x at.y at.f c.requires.here.at) in
      absurd (unbalanced_free m sample c.args.held.now cut c.args.i c.box_cell-p.result c.box_cell-p.ensures (in_box_at m cut.placement c.args.i c.requires.lies c.requires.below)
      (c.is_filled.ensures.0 c.if-is_filled.true) (λ old. false≢true (sym c.if-stays_old.false ∙ c.stays_old.ensures.1 old))
      (λ (e : at_index size (leaving size cut.flows) c.args.i ≡ pos 0). c.if-out-eq0.false (ap (of_z w32) (is ∙ e))) balanced),
)

pub returns-else-is_filled-clause-balanced : goal.returns-else-is_filled-clause-balanced
returns-else-is_filled-clause-balanced c = λ sample. (
  λ _. λ free. absurd (false≢true (sym c.if-is_filled.false ∙ c.is_filled.ensures.1 (subst (IsFilled c.args.canvas.now.map) (sym c.box_cell-p.ensures) free.filled))),
  λ _. refl,
)

pub returns-else-is_filled-clause-part : goal.returns-else-is_filled-clause-part
returns-else-is_filled-clause-part c = record {
  here = λ old.
      absurd (false≢true (sym c.if-stays_old.false ∙ c.stays_old.ensures.1 (subst (StaysOld c.args.canvas.now.map c.args.cut.now.placement c.args.held.now) (sym c.box_cell-p.ensures) old)));
  elsewhere = λ _. refl;
}

pub box_cell-p-requires-clause-lies : goal.box_cell-p-requires-clause-lies
box_cell-p-requires-clause-lies c =
    subst (λ m. LiesIn m c.args.cut.now.placement) (sym c.map.ensures.map) c.requires.lies

pub returns-then-stays_old-clause-near : goal.returns-then-stays_old-clause-near
returns-then-stays_old-clause-near c =
    let fits : SFits w32 c.leaving-out.result = search rules in
    subst (IsBetween (minus_of most_leaving) (pos most_leaving)) (sym (to_z-of_z w32 c.leaving-out.result fits)) c.leaving-out.ensures.near

pub stays_old-requires-clause-lies : goal.stays_old-requires-clause-lies
stays_old-requires-clause-lies c = grind (arith, common_steps)
