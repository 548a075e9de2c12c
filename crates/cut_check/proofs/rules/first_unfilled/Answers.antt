use Rattle.std.proofs.Common.{◌≡◌, ◌∙◌, List, Bool, refl, ap, sym, subst, arith, below_more}
use Rattle.std.specs.Prelude.{Option, Some, None, true, false, slice_index_or}
use Rattle.std.specs.Option.{is_some}
use mathlib.Core.Bool.{not, false≢true}
use Rattle.cells.specs.declared.place.At.{At}
use Rattle.map_canvas.specs.Choices.{box_cell}
use Rattle.map_canvas.specs.Maps.{map_at}
use Rattle.cut_check.proofs.Cells.{counts_in}
use Rattle.cut_check.proofs.rules.first_unfilled.Goals as goal
use Rattle.cut_check.proofs.rules.first_unfilled.Goals.{else-not-is_marked-via-then-not-is_marked+else-is_none, else-not-is_marked-via-else-not-is_marked}

pub cells-i-end-requires : goal.cells-i-end-requires
cells-i-end-requires c = c.requires.lies.small

pub loop-i-init : goal.loop-i-init
loop-i-init c = record {
  at = c.first-at.ensures.index c.args.cut.now.placement.rect.size c.requires.lies.some;
  before = λ k lt. absurd (omega arith);
}

pub box_cell-p-requires-clause-below : goal.box_cell-p-requires-clause-below
box_cell-p-requires-clause-below c = omega (arith, c.cells-i-end.ensures, c.loop-i-test.true)

pub next-at-requires : goal.next-at-requires
next-at-requires c = counts_in c.args.cut.now.placement c.loop-i.i c.loop-i.at c.loop-i.invariant.at (omega (arith, c.cells-i-end.ensures, c.loop-i-test.true))

pub returns-clause-hold : goal.returns-clause-hold
returns-clause-hold c = λ sample i lt. c.loop-i.invariant.before i (omega (arith, c.cells-i-end.ensures, c.loop-i-test.false))

none_of : (x : Option At) → is_some x ≡ false → x ≡ None
none_of None e = refl
none_of (Some p) e = absurd (false≢true (sym e))

pub returns-then-is_none-clause-broken : goal.returns-then-is_none-clause-broken
returns-then-is_none-clause-broken c = λ sample.
    let cut = c.args.cut.now in
    let i = c.loop-i.i in
    let unmarked = subst (λ (choice : List Bool). slice_index_or choice i false ≡ false) c.as_slice-choice.ensures (sym c.is_marked.ensures ∙ c.if-not-is_marked.true) in
    let none : map_at c.args.map.now (box_cell cut.placement i) ≡ None =
    sym (c.at.ensures.named ∙ ap (map_at c.args.map.now) c.box_cell-p.ensures) ∙ none_of c.at.result (c.is_none.ensures ∙ ap not c.if-is_none.true) in
    record {
      below = omega (arith, c.cells-i-end.ensures, c.loop-i-test.true);
      before = c.loop-i.invariant.before;
      here = λ fills. false≢true (sym unmarked ∙ fills none);
    }

pub loop-i-preserved : goal.loop-i-preserved
loop-i-preserved c =
    let m = c.args.map.now in
    let cut = c.args.cut.now in
    let i = c.loop-i.i in
    let here : map_at m (box_cell cut.placement i) ≡ None → slice_index_or cut.choice i false ≡ true = λ none.
    elim c.else-not-is_marked.branch [
      | else-not-is_marked-via-then-not-is_marked+else-is_none w ↦
          absurd (false≢true (sym (ap is_some (w.at.ensures.named ∙ ap (map_at m) c.box_cell-p.ensures ∙ none)) ∙ w.is_none.ensures ∙ ap not w.if-is_none.false))
      | else-not-is_marked-via-else-not-is_marked w ↦
          subst (λ (choice : List Bool). slice_index_or choice i false ≡ true) c.as_slice-choice.ensures (sym c.is_marked.ensures ∙ w.if-not-is_marked.false)
    ] in
    record {
      at = c.next-at.ensures i c.loop-i.invariant.at;
      before = below_more (λ k. map_at m (box_cell cut.placement k) ≡ None → slice_index_or cut.choice k false ≡ true) i c.loop-i.invariant.before here;
    }
