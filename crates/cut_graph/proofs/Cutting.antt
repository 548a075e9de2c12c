-- The cuts of a placement's network are the choices between old and new. (Kwatra et al. 2003.)
use Rattle.std.proofs.Common.{◌≡◌, ℕ, ◌+◌, ◌<◌, ◌≤◌, inl, inr, refl, ap, sym, ◌∙◌, subst, arith, ⊎_elim, Bool, true, false, List, []}
use Rattle.std.proofs.lemmas.Int.{ints}
use Rattle.std.proofs.lemmas.Bool.{cases_eq, cases_lt}
use Rattle.std.proofs.lemmas.List.FromFn.{get_or-map-range_with_len, length-map-range_with_len}
use Rattle.std.specs.List.{range_with_len}
use Rattle.std.specs.Prelude.{ℤ, ◌+ℤ◌, ◌-ℤ◌, Option, Some, None, is_some, if◌then◌else◌, map, not, ◌&&◌}
use borrow.Author.Tests.{ltb-true}
use mathlib.Core.Bool.{false≢true}
use Rattle.cells.specs.declared.place.At.{At}
use Rattle.cells.specs.declared.place.Axis.{Axis}
use Rattle.cells.specs.declared.place.Axis.TheVariants.{X, Y, F}
use Rattle.cells.specs.Places.{plus}
use Rattle.cells.specs.Neighbours.{unit_step}
use Rattle.cells.specs.Boxes.{IsInBox, cell_in}
use Rattle.cells.specs.Distances.{IsPseudometric}
use Rattle.map_canvas.specs.declared.canvas.Placement.{Placement}
use Rattle.map_canvas.specs.Maps.{SourceMap, IsFilled, map_at}
use Rattle.map_canvas.specs.Choices.{after_at, new_source}
use Rattle.boxes.proofs.Additions.{counts}
use Rattle.boxes.proofs.Boxes.{box_related}
use Rattle.max_flow.specs.Networks.{FlowNetwork}
use Rattle.max_flow.specs.Flows.{IsCut, capacity_out, cut_capacity, is_in}
use Rattle.costs.specs.Costs.{pair_at, seam_of}
use Rattle.costs.specs.Lawful.{StaysOld, is_new, window_after}
use Rattle.boxes.specs.Pairs.{AreCounts, has_next, IsPair}
use Rattle.costs.proofs.Existence.{new_inside}
use Rattle.boxes.proofs.Cells.{next_is, cell_inside, cell_of}
use Rattle.costs.proofs.Windows.{pair_within, window_pairs}
use Rattle.cut_graph.specs.declared.places.Places.{Places}
use Rattle.cut_graph.specs.Nodes.{HasSeam, IsFreeAt, IsInner, StandsForCell, StandsForSeam, cell_node, seam_node}
use Rattle.cut_graph.specs.Pipes.{next_node, pipes_along, pipes_between}
use Rattle.cut_graph.specs.Cuts.{Agree, ChoicesAreCuts, HasCut, IsNetworkOf, IsLawfulHeld}
use Rattle.cut_graph.proofs.Joined.{capacity_of_pairs}
use Rattle.cut_graph.proofs.Crossing.{capacity_is, carried, cost_at_most, cost_exact, source_if}

-- what holds of each cell and its node holds of the second cell of each pair
module _ (placement : Placement) (places : Places) (Holds : At → ℕ → Type 0)
    (each : (x y f : ℕ) → AreCounts placement.rect.size x y f → Holds (cell_in placement.rect x y f) (cell_node places placement.rect.size x y f)) where
  pub of_second : (axis : Axis) (x y f : ℕ) → IsPair placement.rect.size axis x y f
      → Holds (plus (cell_in placement.rect x y f) (unit_step axis)) (next_node places placement.rect.size axis x y f)
  of_second X x y f pair =
      subst (λ p. Holds p (cell_node places placement.rect.size (x + 1) y f)) (sym (next_is placement.rect X x y f))
      (each (x + 1) y f (record { column = ltb-true _ _ pair.next; row = pair.counts.row; frame = pair.counts.frame }))
  of_second Y x y f pair =
      subst (λ p. Holds p (cell_node places placement.rect.size x (y + 1) f)) (sym (next_is placement.rect Y x y f))
      (each x (y + 1) f (record { column = pair.counts.column; row = ltb-true _ _ pair.next; frame = pair.counts.frame }))
  of_second F x y f pair =
      subst (λ p. Holds p (cell_node places placement.rect.size x y (f + 1))) (sym (next_is placement.rect F x y f))
      (each x y (f + 1) (record { column = pair.counts.column; row = pair.counts.row; frame = ltb-true _ _ pair.next }))

new_behind : (placement : Placement) (p e : At) → new_source placement (plus p e) ≡ plus (new_source placement p) e
new_behind placement p e = λ k. record {
  x = one placement.from.x p.x e.x placement.rect.corner.x k;
  y = one placement.from.y p.y e.y placement.rect.corner.y k;
  f = one placement.from.f p.f e.f placement.rect.corner.f k;
}
  where
    one : (a b c d : ℤ) → a +ℤ ((b +ℤ c) -ℤ d) ≡ (a +ℤ (b -ℤ d)) +ℤ c
    one a b c d = omega (arith, ints)

module _ (d : At → At → ℕ) (m : SourceMap) (placement : Placement) (held : List Bool) (network : FlowNetwork) (places : Places) (of : IsNetworkOf d m placement held network places) where
  -- sides and a choice that say the same: a relation of the cost of each pair after the choice and of what its pipes can carry is one of the window sum
  -- and of the capacity
  module _ (sides choice : List Bool) (sink : is_in sides 1 ≡ false) (agree : Agree placement places sides choice)
      (Related : ℕ → ℕ → Type 0) (none : Related 0 0) (both : (a b p q : ℕ) → Related a p → Related b q → Related (a + b) (p + q)) where
    abbrev Pairs : Type 0
    Pairs = (axis : Axis) (x y f : ℕ) → IsPair placement.rect.size axis x y f
        → let p = cell_in placement.rect x y f in
        let q = plus p (unit_step axis) in
        let s = is_in sides (cell_node places placement.rect.size x y f) in
        let t = is_in sides (next_node places placement.rect.size axis x y f) in
        new_source placement q ≡ plus (new_source placement p) (unit_step axis) → (map_at m p ≡ None → s ≡ false) → (map_at m q ≡ None → t ≡ false)
        → Related (seam_of d axis (source_if s (map_at m p) (new_source placement p)) (source_if t (map_at m q) (new_source placement q)))
        (carried d axis (map_at m p) (map_at m q) (new_source placement p) (new_source placement q) s t (is_in sides (seam_node places placement.rect.size axis x y f)))

    moved : (a b p q : ℕ) → a ≡ p → b ≡ q → Related p q → Related a b
    moved a b p q e e' related = subst (λ n. Related n b) (sym e) (subst (Related p) (sym e') related)

    unfilled : (x y f : ℕ) → AreCounts placement.rect.size x y f → map_at m (cell_in placement.rect x y f) ≡ None → is_in sides (cell_node places placement.rect.size x y f) ≡ false
    unfilled x y f at e = ap (is_in sides) (of.nodes.unfilled x y f at e) ∙ sink

    pair_related : Pairs → (axis : Axis) (x y f : ℕ) → AreCounts placement.rect.size x y f
        → Related (pair_within d placement.rect (after_at m placement choice) axis x y f) (capacity_out (is_in sides) (pipes_along d m placement places axis x y f))
    pair_related pairs axis x y f at = by (has_next placement.rect.size axis x y f) refl
      where
        by : (b : Bool) → has_next placement.rect.size axis x y f ≡ b
            → Related (if b then pair_at d (after_at m placement choice) axis (cell_in placement.rect x y f) else 0)
            (capacity_out (is_in sides)
            (if b then pipes_between d m placement axis (cell_in placement.rect x y f) (plus (cell_in placement.rect x y f) (unit_step axis))
            (cell_node places placement.rect.size x y f) (next_node places placement.rect.size axis x y f) (seam_node places placement.rect.size axis x y f) else []))
        by false e = none
        by true e =
            let pair : IsPair placement.rect.size axis x y f = record { counts = at; next = e } in
            let old_p : is_new placement choice (cell_in placement.rect x y f) ≡ not (is_in sides (cell_node places placement.rect.size x y f)) = agree x y f at in
            let old_q : is_new placement choice (plus (cell_in placement.rect x y f) (unit_step axis)) ≡ not (is_in sides (next_node places placement.rect.size axis x y f))
            = of_second placement places (λ p n. is_new placement choice p ≡ not (is_in sides n)) agree axis x y f pair in
            let cost = λ (s t : Bool). seam_of d axis (if s then Some (new_source placement (cell_in placement.rect x y f)) else map_at m (cell_in placement.rect x y f))
            (if t then Some (new_source placement (plus (cell_in placement.rect x y f) (unit_step axis))) else map_at m (plus (cell_in placement.rect x y f) (unit_step axis))) in
            moved _ _ _ _ (λ k. cost (old_p k) (old_q k)) (capacity_is d axis _ _ _ _ _ _ _ (is_in sides) sink)
            (pairs axis x y f pair (new_behind placement (cell_in placement.rect x y f) (unit_step axis)) (unfilled x y f at)
            (of_second placement places (λ p n. map_at m p ≡ None → is_in sides n ≡ false) unfilled axis x y f pair))

    pub all_related : Pairs → Related (window_after d m placement choice) (cut_capacity network sides)
    all_related pairs =
        moved _ _ _ _ (window_pairs d placement.rect (after_at m placement choice))
        (ap (capacity_out (is_in sides)) of.pipes ∙ capacity_of_pairs d m placement places (is_in sides))
        (box_related counts counts Related none both placement.rect.size _ _ (λ x y f lx ly lf. let at : AreCounts placement.rect.size x y f = record { column = lx; row = ly; frame = lf } in
        both _ _ _ _ (both _ _ _ _ (pair_related pairs X x y f at) (pair_related pairs Y x y f at)) (pair_related pairs F x y f at)))

  -- a cell that has to stay old isn't new in an open choice
  stays_old : (choice : List Bool) → IsLawfulHeld m placement held choice → (p : At) → StaysOld m placement held p → is_new placement choice p ≡ false
  stays_old choice opened p (inl kept) = opened.lawful.kept p kept
  stays_old choice opened p (inr mark) = opened.held_old p mark

  -- any cut is a choice
  module _ (sides choice : List Bool) (cut : IsCut network sides) (agree : Agree placement places sides choice) where
    sink : is_in sides 1 ≡ false
    sink = ap (is_in sides) (sym of.sink) ∙ cut.sink

    source : is_in sides 0 ≡ true
    source = ap (is_in sides) (sym of.source) ∙ cut.source

    old : (p : At) → IsInBox placement.rect p → StaysOld m placement held p → is_new placement choice p ≡ false
    old p inside stays =
        let at = cell_of placement.rect p inside in
        ap (is_new placement choice) at.cell ∙ agree at.x at.y at.f at.counts
        ∙ ap (λ n. not (is_in sides n)) (of.nodes.old at.x at.y at.f at.counts (subst (StaysOld m placement held) at.cell stays)) ∙ ap not source

    new : (p : At) → IsInBox placement.rect p → map_at m p ≡ None → is_new placement choice p ≡ true
    new p inside e =
        let at = cell_of placement.rect p inside in
        ap (is_new placement choice) at.cell ∙ agree at.x at.y at.f at.counts
        ∙ ap (λ n. not (is_in sides n)) (of.nodes.unfilled at.x at.y at.f at.counts (ap (map_at m) (sym at.cell) ∙ e)) ∙ ap not sink

    is_open : IsLawfulHeld m placement held choice
    is_open = record {
      lawful = record { unfilled = new; kept = λ p kept. old p kept.inside (inl kept) };
      held_old = λ p mark. let at = new_inside placement held p mark in old p (ap is_some at.1.index) (inr mark);
    }

    window_below : IsPseudometric d → window_after d m placement choice ≤ cut_capacity network sides
    window_below is = all_related sides choice sink agree (λ a b. a ≤ b) (omega arith) (λ a b p q le le'. omega arith)
        (λ axis x y f pair next none_a none_b. cost_at_most d is axis _ _ _ _ _ _ _ next none_a none_b)

  -- the side of a node in the cut of a choice
  record IsSideOf (choice : List Bool) (n : ℕ) (side : Bool) : Type 0 where
    source : n ≡ 0 → side ≡ true
    sink : n ≡ 1 → side ≡ false
    cell : (x y f : ℕ) → IsFreeAt m placement held x y f → cell_node places placement.rect.size x y f ≡ n → side ≡ not (is_new placement choice (cell_in placement.rect x y f))
    seam : (axis : Axis) (x y f : ℕ) → HasSeam m placement axis x y f → seam_node places placement.rect.size axis x y f ≡ n
        → side ≡ not (is_new placement choice (cell_in placement.rect x y f)) && not (is_new placement choice (plus (cell_in placement.rect x y f) (unit_step axis)))

  module _ (choice : List Bool) (opened : IsLawfulHeld m placement held choice) where
    -- nodes that stand for different things are different
    of_free : (n : ℕ) → StandsForCell m placement held places n → IsInner network.nodes n → (side : Bool) × IsSideOf choice n side
    of_free n stands inner = (
      not (is_new placement choice (cell_in placement.rect stands.x stands.y stands.f)),
      record {
        source = λ e. absurd (omega (arith, inner.above));
        sink = λ e. absurd (omega (arith, inner.above));
        cell = λ x y f free e.
            let same = of.nodes.cells_apart stands.x stands.y stands.f x y f stands.free free (stands.node ∙ sym e) in
            λ k. not (is_new placement choice (cell_in placement.rect (same.0 k) (same.1 k) (same.2 k)));
        seam = λ axis x y f seam e. absurd (of.nodes.apart axis x y f stands.x stands.y stands.f seam stands.free (e ∙ sym stands.node));
      },
    )

    of_seam : (n : ℕ) → StandsForSeam m placement places n → IsInner network.nodes n → (side : Bool) × IsSideOf choice n side
    of_seam n stands inner = (
      not (is_new placement choice (cell_in placement.rect stands.x stands.y stands.f))
          && not (is_new placement choice (plus (cell_in placement.rect stands.x stands.y stands.f) (unit_step stands.axis))),
      record {
        source = λ e. absurd (omega (arith, inner.above));
        sink = λ e. absurd (omega (arith, inner.above));
        cell = λ x y f free e. absurd (of.nodes.apart stands.axis stands.x stands.y stands.f x y f stands.seam free (stands.node ∙ sym e));
        seam = λ axis x y f seam e.
            let same = of.nodes.seams_apart stands.axis axis stands.x stands.y stands.f x y f stands.seam seam (stands.node ∙ sym e) in
            λ k. not (is_new placement choice (cell_in placement.rect (same.1 k) (same.2 k) (same.3 k)))
            && not (is_new placement choice (plus (cell_in placement.rect (same.1 k) (same.2 k) (same.3 k)) (unit_step (same.0 k))));
      },
    )

    -- no other node is one of a cell or of a seam
    of_end : (n : ℕ) (side : Bool) → (IsInner network.nodes n → ⊥) → (n ≡ 0 → side ≡ true) → (n ≡ 1 → side ≡ false) → (side : Bool) × IsSideOf choice n side
    of_end n side out first second = (
      side,
      record {
        source = first;
        sink = second;
        cell = λ x y f free e. absurd (out (subst (IsInner network.nodes) e (of.nodes.free x y f free)));
        seam = λ axis x y f seam e. absurd (out (subst (IsInner network.nodes) e (of.nodes.seam axis x y f seam)));
      },
    )

    side_of : (n : ℕ) → (side : Bool) × IsSideOf choice n side
    side_of n =
        ⊎_elim (λ low. ⊎_elim (λ is. of_end n true (λ inner. absurd (omega (arith, inner.above))) (λ _. refl) (λ e. absurd (omega arith)))
        (λ other. of_end n false (λ inner. absurd (omega (arith, inner.above))) (λ e. absurd (other e)) (λ _. refl)) (cases_eq n 0))
        (λ high. ⊎_elim (λ lt. let inner : IsInner network.nodes n = record { above = high; below = lt } in
        ⊎_elim (λ stands. of_free n stands inner) (λ stands. of_seam n stands inner) (of.nodes.each n inner))
        (λ past. of_end n false (λ inner. absurd (omega (arith, inner.below))) (λ e. absurd (omega arith)) (λ _. refl)) (cases_lt n network.nodes)) (cases_lt n 2)

    abbrev cut_sides : List Bool
    cut_sides = map (λ n. (side_of n).0) (range_with_len 0 network.nodes)

    side_is : (n : ℕ) → n < network.nodes → is_in cut_sides n ≡ (side_of n).0
    side_is n lt = get_or-map-range_with_len (λ n. (side_of n).0) 0 network.nodes n n false lt (omega arith)

    first_side : is_in cut_sides 0 ≡ true
    first_side = side_is 0 (omega (arith, of.nodes.ends)) ∙ (side_of 0).1.source refl

    second_side : is_in cut_sides 1 ≡ false
    second_side = side_is 1 (omega (arith, of.nodes.ends)) ∙ (side_of 1).1.sink refl

    is_cut : IsCut network cut_sides
    is_cut = record {
      sized = length-map-range_with_len (λ n. (side_of n).0) 0 network.nodes;
      source = ap (is_in cut_sides) of.source ∙ first_side;
      sink = ap (is_in cut_sides) of.sink ∙ second_side;
    }

    turned : (a b : Bool) → b ≡ not a → a ≡ not b
    turned true b e = sym (ap not e)
    turned false b e = sym (ap not e)

    agrees : Agree placement places cut_sides choice
    agrees x y f at = by (map_at m (cell_in placement.rect x y f)) refl
      where
        free : IsFreeAt m placement held x y f → is_new placement choice (cell_in placement.rect x y f) ≡ not (is_in cut_sides (cell_node places placement.rect.size x y f))
        free is = turned _ _ (side_is _ (of.nodes.free x y f is).below ∙ (side_of _).1.cell x y f is refl)

        -- a cell with the node of the source is no free cell, so a choice that says it new would let it not be old
        first : IsFilled m (cell_in placement.rect x y f) → cell_node places placement.rect.size x y f ≡ 0 → (b : Bool) → is_new placement choice (cell_in placement.rect x y f) ≡ b → b ≡ false
        first filled e false new = refl
        first filled e true new =
            let is : IsFreeAt m placement held x y f = record {
              counts = at;
              free = record { inside = cell_inside placement.rect x y f at; filled = filled; free = λ stays. absurd (false≢true (sym (stays_old choice opened _ stays) ∙ new)) };
            } in
            absurd (omega (arith, (of.nodes.free x y f is).above))

        by : (a : Option At) → map_at m (cell_in placement.rect x y f) ≡ a → is_new placement choice (cell_in placement.rect x y f) ≡ not (is_in cut_sides (cell_node places placement.rect.size x y f))
        by None e = opened.lawful.unfilled _ (cell_inside placement.rect x y f at) e ∙ sym (ap not (ap (is_in cut_sides) (of.nodes.unfilled x y f at e) ∙ second_side))
        by (Some a) e =
            ⊎_elim (λ is. first (ap is_some e) is _ refl ∙ sym (ap not (ap (is_in cut_sides) is ∙ first_side)))
            (λ other. free (record {
              counts = at;
              free = record { inside = cell_inside placement.rect x y f at; filled = ap is_some e; free = λ stays. other (of.nodes.old x y f at stays) };
            })) (cases_eq (cell_node places placement.rect.size x y f) 0)

    -- each seam node is on the source's side just where both cells of the seam stay old
    seam_best : (axis : Axis) (x y f : ℕ) → HasSeam m placement axis x y f
        → is_in cut_sides (seam_node places placement.rect.size axis x y f)
        ≡ is_in cut_sides (cell_node places placement.rect.size x y f) && is_in cut_sides (next_node places placement.rect.size axis x y f)
    seam_best axis x y f seam =
        side_is _ (of.nodes.seam axis x y f seam).below ∙ (side_of _).1.seam axis x y f seam refl
        ∙ (λ k. sym (turned _ _ (agrees x y f seam.pair.counts)) k
        && sym (turned _ _ (of_second placement places (λ p n. is_new placement choice p ≡ not (is_in cut_sides n)) agrees axis x y f seam.pair)) k)

    window_exact : IsPseudometric d → window_after d m placement choice ≡ cut_capacity network cut_sides
    window_exact is = all_related cut_sides choice second_side agrees (λ a b. a ≡ b) refl (λ a b p q e e'. λ k. e k + e' k)
        (λ axis x y f pair next none_a none_b. cost_exact d is axis _ _ _ _ _ _ _ next none_a none_b
        (λ first second. seam_best axis x y f (record { pair = pair; first = first; second = second })))

    has_cut : IsPseudometric d → HasCut d m placement network places choice
    has_cut is = record { sides = cut_sides; cut = is_cut; agree = agrees; capacity = sym (window_exact is) }

-- the cuts of the network of a placement are its open choices, and the least capacity of each is its window sum
pub choices_are_cuts : (d : At → At → ℕ) → IsPseudometric d → (m : SourceMap) (placement : Placement) (held : List Bool) (network : FlowNetwork) (places : Places)
    → IsNetworkOf d m placement held network places → ChoicesAreCuts d m placement held network places
choices_are_cuts d is m placement held network places of = record {
  choices = λ sides choice cut agree. (is_open d m placement held network places of sides choice cut agree, window_below d m placement held network places of sides choice cut agree is);
  cuts = λ choice opened. has_cut d m placement held network places of choice opened is;
}
