-- The choice of the smallest source side is the least one with the fewest old cells.
use Rattle.std.proofs.Common.{◌≡◌, ℕ, ◌≤◌, refl, ap, sym, subst, arith, Bool, true, false, List}
use mathlib.Core.Bool.{false≢true}
use Rattle.std.specs.Prelude.{ℤ, not}
use Rattle.cells.specs.declared.place.At.{At}
use Rattle.cells.specs.Boxes.{cell_in}
use Rattle.map_canvas.specs.declared.canvas.Placement.{Placement}
use Rattle.map_canvas.specs.Maps.{SourceMap}
use Rattle.boxes.proofs.Bounds.{box_at_most, box_terms_equal}
use Rattle.costs.specs.Lawful.{ChangesAsWindow, IsLeastHeld, is_new, window_after}
use Rattle.boxes.specs.Pairs.{AreCounts, one_if}
use Rattle.boxes.proofs.Cells.{cell_of}
use Rattle.max_flow.specs.Networks.{FlowNetwork}
use Rattle.max_flow.specs.Flows.{IsLeastCut, is_in}
use Rattle.max_flow.specs.Solutions.{IsSolution}
use Rattle.cut_graph.specs.declared.places.Places.{Places}
use Rattle.cut_graph.specs.Nodes.{cell_node}
use Rattle.cut_graph.specs.Cuts.{Agree, ChoicesAreCuts, HasCut, IsLawfulHeld}
use Rattle.least_choice.specs.Fewest.{AreSame, IsFewestHeld, old_count}

-- a cell that is old where its node is in a set
fewer_old : (in_one in_other new other : Bool) → (in_one ≡ true → in_other ≡ true) → new ≡ not in_one → other ≡ not in_other → one_if (not new) ≤ one_if (not other)
fewer_old true true new other sub e o = omega (arith, ap (λ b. one_if (not b)) e, ap (λ b. one_if (not b)) o)
fewer_old true false new other sub e o = absurd (false≢true (sub refl))
fewer_old false b new other sub e o = omega (arith, ap (λ b. one_if (not b)) e)

same_of_count : (new other : Bool) → one_if (not new) ≡ one_if (not other) → new ≡ other
same_of_count true true e = refl
same_of_count true false e = absurd (omega (arith, e))
same_of_count false true e = absurd (omega (arith, e))
same_of_count false false e = refl

module _ (d : At → At → ℕ) (m : SourceMap) (placement : Placement) (held : List Bool) (network : FlowNetwork) (places : Places)
    (choices : ChoicesAreCuts d m placement held network places) (flows : List ℤ) (sides : List Bool) (amount : ℕ) (is : IsSolution network flows sides amount)
    (choice : List Bool) (agree : Agree placement places sides choice) (opened : IsLawfulHeld m placement held choice) (value : amount ≡ window_after d m placement choice)
    (changes : ChangesAsWindow d m placement) where
  least_window : (other : List Bool) → IsLawfulHeld m placement held other → window_after d m placement choice ≤ window_after d m placement other
  least_window other its = let cut = choices.cuts other its in omega (arith, value, is.capacity, cut.capacity, is.least.least cut.sides cut.cut)

  is_least : IsLeastHeld d m placement held choice
  is_least = record {
    one = (opened.lawful, opened.held_old);
    least = λ other both. omega (arith, changes choice other opened.lawful both.0, least_window other (record { lawful = both.0; held_old = both.1 }));
  }

  module _ (other : List Bool) (also : IsLeastHeld d m placement held other) where
    abbrev its_cut : HasCut d m placement network places other
    its_cut = choices.cuts other (record { lawful = also.one.0; held_old = also.one.1 })

    its_window : window_after d m placement other ≤ window_after d m placement choice
    its_window = omega (arith, changes choice other opened.lawful also.one.0, also.least choice (opened.lawful, opened.held_old))

    its_least : IsLeastCut network its_cut.sides
    its_least = record { cut = its_cut.cut; least = λ another cut. omega (arith, its_window, value, is.capacity, its_cut.capacity, is.least.least another cut) }

    no_more_old : (x y f : ℕ) → AreCounts placement.rect.size x y f
        → one_if (not (is_new placement choice (cell_in placement.rect x y f))) ≤ one_if (not (is_new placement other (cell_in placement.rect x y f)))
    no_more_old x y f at =
        let n = cell_node places placement.rect.size x y f in
        fewer_old (is_in sides n) (is_in its_cut.sides n) _ _ (is.smallest its_cut.sides its_least n) (agree x y f at) (its_cut.agree x y f at)

    fewest : old_count placement choice ≤ old_count placement other
    fewest = box_at_most placement.rect.size _ _ (λ x y f lx ly lf. no_more_old x y f (record { column = lx; row = ly; frame = lf }))

    only : old_count placement other ≤ old_count placement choice → AreSame placement choice other
    only as_few p inside =
        let at = cell_of placement.rect p inside in
        subst (λ q. is_new placement choice q ≡ is_new placement other q) (sym at.cell)
        (same_of_count _ _ (box_terms_equal placement.rect.size
        (λ x y f. one_if (not (is_new placement choice (cell_in placement.rect x y f)))) (λ x y f. one_if (not (is_new placement other (cell_in placement.rect x y f))))
        (λ x y f lx ly lf. no_more_old x y f (record { column = lx; row = ly; frame = lf })) as_few at.x at.y at.f at.counts.column at.counts.row at.counts.frame))

  pub fewest_held : IsFewestHeld d m placement held choice
  fewest_held = record { least = is_least; fewest = fewest; only = λ other also as_few. only other also as_few }
