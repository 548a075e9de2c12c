-- The nodes of all cells and of all pairs of a box are those of the network.
use Rattle.std.proofs.Common.{◌≡◌, ◌≢◌, ℕ, ◌+◌, ◌/◌, ◌%◌, ◌<◌, ◌≤◌, List, [], get_or, refl, sym, ap, ◌∙◌, subst, arith, Bool, true, false, inl, inr, ⊎_elim, eqb}
use Rattle.std.proofs.lemmas.Bool.{cases_lt}
use Rattle.std.specs.Prelude.{Option, Some, None, IsSome, IfSome, not, slice_index, if◌then◌else◌}
use borrow.Author.Tests.{eqb-true}
use mathlib.Core.Bool.{false≢true}
use Rattle.cells.specs.declared.place.At.{At}
use Rattle.cells.specs.declared.place.Axis.{Axis}
use Rattle.cells.specs.declared.place.Size.{Size}
use Rattle.cells.specs.Boxes.{HasCells, cell_in}
use Rattle.cells.specs.Neighbours.{unit_step}
use Rattle.cells.specs.Places.{cell_count, plus, raster_index}
use Rattle.map_canvas.specs.declared.canvas.Placement.{Placement}
use Rattle.map_canvas.specs.Maps.{SourceMap, IsFilled, map_at}
use Rattle.costs.specs.Lawful.{AreHeld, AreMarks, IsFree, StaysOld, held_marks}
use Rattle.boxes.proofs.PairNumbers.{HasPair, find_pair, number_apart, number_below}
use Rattle.boxes.proofs.Indices.{at_counts, counts_at, index_below, same_counts}
use Rattle.boxes.specs.Raster.{stride}
use Rattle.boxes.specs.Pairs.{AreCounts, pair_count, pair_number, IsPair}
use Rattle.cut_graph.specs.declared.numbering.Numbering.{Numbering}
use Rattle.cut_graph.specs.declared.places.Places.{Places}
use Rattle.cut_graph.specs.declared.piping.Piping.{Piping}
use Rattle.map_canvas.specs.Choices.{box_index, chosen}
use Rattle.cut_graph.specs.Cuts.{IsNetworkOf}
use Rattle.cut_graph.specs.Building.{HasAllPipes, AreCellNodes, AreSeamNodes, IsCellNode, IsNodeOf, IsSeamNode, IsStanding, Standing, Old, Unfilled, Free, are_filled, both_filled}
use Rattle.cut_graph.specs.Plans.{AreSinksUnfilled}
use Rattle.cut_graph.specs.Nodes.{AreNodes, HasSeam, IsFreeAt, StandsForCell, StandsForSeam, cell_node, seam_node}
use Rattle.cut_graph.proofs.Laying.{behind_of}

-- what a cell's node says of it
module _ (m : SourceMap) (placement : Placement) (held : List Bool) (p : At) (n : ℕ) (cell : IsCellNode m placement held p n) where
  not_filled : map_at m p ≡ None → IsFilled m p → ⊥
  not_filled none filled = false≢true (subst IsSome none filled)

  pub node_old : AreHeld m placement held → StaysOld m placement held p → n ≡ 0
  node_old held_filled stays = by cell.standing cell.is cell.node
    where
      filled : StaysOld m placement held p → IsFilled m p
      filled (inl kept) = kept.filled
      filled (inr marked) = held_filled p marked

      by : (s : Standing) → IsStanding m placement held p s → IsNodeOf s n → n ≡ 0
      by Old is node = node
      by Unfilled is node = absurd (not_filled is (filled stays))
      by Free is node = absurd (is.free stays)

  pub node_unfilled : map_at m p ≡ None → n ≡ 1
  node_unfilled none = by cell.standing cell.is cell.node
    where
      by : (s : Standing) → IsStanding m placement held p s → IsNodeOf s n → n ≡ 1
      by Old is node = absurd (not_filled none is.0)
      by Unfilled is node = node
      by Free is node = absurd (not_filled none is.filled)

  pub node_free : IsFree m placement held p → 2 ≤ n
  node_free free = by cell.standing cell.is cell.node
    where
      by : (s : Standing) → IsStanding m placement held p s → IsNodeOf s n → 2 ≤ n
      by Old is node = absurd (free.free is.1)
      by Unfilled is node = absurd (not_filled is free.filled)
      by Free is node = node

  pub free_of : 2 ≤ n → IsFree m placement held p
  free_of own = by cell.standing cell.is cell.node
    where
      by : (s : Standing) → IsStanding m placement held p s → IsNodeOf s n → IsFree m placement held p
      by Old is node = absurd (omega arith)
      by Unfilled is node = absurd (omega arith)
      by Free is node = is

  pub unfilled_of : n ≡ 1 → map_at m p ≡ None
  unfilled_of sink = by cell.standing cell.is cell.node
    where
      by : (s : Standing) → IsStanding m placement held p s → IsNodeOf s n → map_at m p ≡ None
      by Old is node = absurd (omega arith)
      by Unfilled is node = is
      by Free is node = absurd (omega arith)

  pub filled_of : n ≢ 1 → IsFilled m p
  filled_of other = by cell.standing cell.is cell.node
    where
      by : (s : Standing) → IsStanding m placement held p s → IsNodeOf s n → IsFilled m p
      by Old is node = is.0
      by Unfilled is node = absurd (other node)
      by Free is node = is.filled

  pub not_sink : IsFilled m p → n ≢ 1
  not_sink filled = by cell.standing cell.is cell.node
    where
      by : (s : Standing) → IsStanding m placement held p s → IsNodeOf s n → n ≢ 1
      by Old is node = omega arith
      by Unfilled is node = absurd (not_filled is filled)
      by Free is node = omega arith

-- the sink is the node of unfilled cells alone
pub sinks_unfilled : (m : SourceMap) (placement : Placement) (held : List Bool) (cells : Numbering) → AreCellNodes m placement held (cell_count placement.rect.size) cells
    → AreSinksUnfilled m placement cells.nodes.items
sinks_unfilled m placement held cells are = record {
  each = λ x y f at sink.
      let index = raster_index placement.rect.size x y f in
      let cell = subst (λ p. IsCellNode m placement held p (slice_index cells.nodes.items index)) (at_counts placement.rect.size (cell_in placement.rect) x y f at.column at.row)
      (are.each index (index_below placement.rect.size x y f at)) in
      unfilled_of m placement held (cell_in placement.rect x y f) (slice_index cells.nodes.items index) cell sink;
}

-- both cells of a pair are filled, or not
not_one : (n : ℕ) → n ≢ 1 → eqb n 1 ≡ false
not_one n other = by (eqb n 1) refl
  where
    by : (b : Bool) → eqb n 1 ≡ b → eqb n 1 ≡ false
    by true is = absurd (other (eqb-true n 1 is))
    by false is = is

pub both_of : (cells : List ℕ) (i j : ℕ) → get_or cells i 0 ≢ 1 → get_or cells j 0 ≢ 1 → both_filled cells i j ≡ true
both_of cells i j first second = λ k. if not_one (get_or cells i 0) first k then false else not (not_one (get_or cells j 0) second k)

pub of_both : (cells : List ℕ) (i j : ℕ) → both_filled cells i j ≡ true → (get_or cells i 0 ≢ 1) × (get_or cells j 0 ≢ 1)
of_both cells i j both = (λ e. first (eqb (get_or cells i 0) 1) refl e, λ e. second (eqb (get_or cells i 0) 1) refl e)
  where
    one : (n : ℕ) → n ≡ 1 → eqb n 1 ≡ true
    one n e = ap (λ k. eqb k 1) e

    first : (b : Bool) → eqb (get_or cells i 0) 1 ≡ b → get_or cells i 0 ≡ 1 → ⊥
    first b is e = false≢true (sym (λ k. if one (get_or cells i 0) e k then false else not (eqb (get_or cells j 0) 1)) ∙ both)

    second : (b : Bool) → eqb (get_or cells i 0) 1 ≡ b → get_or cells j 0 ≡ 1 → ⊥
    second true is e = false≢true (sym (λ k. if is k then false else not (eqb (get_or cells j 0) 1)) ∙ both)
    second false is e = false≢true (sym (λ k. if is k then false else not (one (get_or cells j 0) e k)) ∙ both)

module _ (m : SourceMap) (placement : Placement) (held : List Bool) (cells seams : Numbering) (first : List ℕ) (some : HasCells placement.rect.size) (held_filled : AreHeld m placement held)
    (is_cells : AreCellNodes m placement held (cell_count placement.rect.size) cells) (is_seams : AreSeamNodes cells.nodes.items placement.rect.size cells.next (pair_count placement.rect.size) seams) where
  abbrev size : Size
  size = placement.rect.size

  abbrev places : Places
  places = record { cell_nodes = cells.nodes.items; seam_nodes = seams.nodes.items; pipes = first }

  -- the node of each cell is one for it
  cell_at : (x y f : ℕ) → AreCounts size x y f → IsCellNode m placement held (cell_in placement.rect x y f) (cell_node places size x y f)
  cell_at x y f at =
      subst (λ p. IsCellNode m placement held p (cell_node places size x y f)) (at_counts size (cell_in placement.rect) x y f at.column at.row)
      (is_cells.each (raster_index size x y f) (index_below size x y f at))

  -- a pair has a seam where both of its cells are filled
  second_at : (axis : Axis) (x y f : ℕ) → IsPair size axis x y f
      → IsCellNode m placement held (plus (cell_in placement.rect x y f) (unit_step axis)) (slice_index cells.nodes.items (raster_index size x y f + stride size axis))
  second_at axis x y f is =
      let next = behind_of placement.rect axis x y f is in
      subst (λ i. IsCellNode m placement held (plus (cell_in placement.rect x y f) (unit_step axis)) (slice_index cells.nodes.items i)) next.index
      (subst (λ p. IsCellNode m placement held p (cell_node places size next.a next.b next.c)) next.place (cell_at next.a next.b next.c next.counts))

  filled_seam : (axis : Axis) (x y f : ℕ) → HasSeam m placement axis x y f → are_filled cells.nodes.items size axis x y f ≡ true
  filled_seam axis x y f has =
      both_of cells.nodes.items (raster_index size x y f) (raster_index size x y f + stride size axis)
      (not_sink m placement held _ _ (cell_at x y f has.pair.counts) has.first) (not_sink m placement held _ _ (second_at axis x y f has.pair) has.second)

  seam_filled : (axis : Axis) (x y f : ℕ) → IsPair size axis x y f → are_filled cells.nodes.items size axis x y f ≡ true → HasSeam m placement axis x y f
  seam_filled axis x y f is both =
      let other = of_both cells.nodes.items (raster_index size x y f) (raster_index size x y f + stride size axis) both in
      record {
        pair = is;
        first = filled_of m placement held _ _ (cell_at x y f is.counts) other.0;
        second = filled_of m placement held _ _ (second_at axis x y f is) other.1;
      }

  -- the node of each pair is one for it
  seam_at : (axis : Axis) (x y f : ℕ) → IsPair size axis x y f → IsSeamNode cells.next (are_filled cells.nodes.items size axis x y f) (seam_node places size axis x y f)
  seam_at axis x y f is = is_seams.each.each axis x y f is (omega (arith, number_below size axis x y f is, is_seams.count))

  seam_own : (axis : Axis) (x y f : ℕ) → HasSeam m placement axis x y f → cells.next ≤ seam_node places size axis x y f
  seam_own axis x y f has = subst (λ b. IsSeamNode cells.next b (seam_node places size axis x y f)) (filled_seam axis x y f has) (seam_at axis x y f has.pair)

  no_seam : (axis : Axis) (x y f : ℕ) → IsPair size axis x y f → (HasSeam m placement axis x y f → ⊥) → seam_node places size axis x y f ≡ 0
  no_seam axis x y f is none = by (are_filled cells.nodes.items size axis x y f) refl
    where
      by : (b : Bool) → are_filled cells.nodes.items size axis x y f ≡ b → seam_node places size axis x y f ≡ 0
      by true both = absurd (none (seam_filled axis x y f is both))
      by false both = subst (λ b. IsSeamNode cells.next b (seam_node places size axis x y f)) both (seam_at axis x y f is)

  seam_of_own : (axis : Axis) (x y f : ℕ) → IsPair size axis x y f → 2 ≤ seam_node places size axis x y f → HasSeam m placement axis x y f
  seam_of_own axis x y f is own = by (are_filled cells.nodes.items size axis x y f) refl
    where
      by : (b : Bool) → are_filled cells.nodes.items size axis x y f ≡ b → HasSeam m placement axis x y f
      by true both = seam_filled axis x y f is both
      by false both =
          let none : seam_node places size axis x y f ≡ 0 = subst (λ b. IsSeamNode cells.next b (seam_node places size axis x y f)) both (seam_at axis x y f is) in
          absurd (omega arith)

  free_own : (x y f : ℕ) → IsFreeAt m placement held x y f → 2 ≤ cell_node places size x y f
  free_own x y f is = node_free m placement held _ _ (cell_at x y f is.counts) is.free

  -- what stands for a node
  for_cell : (n : ℕ) → 2 ≤ n → n < cells.next → StandsForCell m placement held places n
  for_cell n own lt =
      let at = is_cells.numbering.each n own lt in
      let counts = counts_at size at.index some (omega (arith, at.below, is_cells.count)) in
      let x = at.index % size.w in
      let y = at.index / size.w % size.h in
      let f = at.index / size.w / size.h in
      let node : cell_node places size x y f ≡ n = ap (slice_index cells.nodes.items) counts.index ∙ at.is in
      record {
        x = x;
        y = y;
        f = f;
        free = record { counts = counts.counts; free = free_of m placement held _ _ (cell_at x y f counts.counts) (omega arith) };
        node = node;
      }

  for_pair : (n i : ℕ) → slice_index seams.nodes.items i ≡ n → 2 ≤ n → HasPair size i → StandsForSeam m placement places n
  for_pair n i is own pair =
      let node : seam_node places size pair.axis pair.x pair.y pair.f ≡ n = ap (slice_index seams.nodes.items) pair.number ∙ is in
      record {
        axis = pair.axis;
        x = pair.x;
        y = pair.y;
        f = pair.f;
        seam = seam_of_own pair.axis pair.x pair.y pair.f pair.is (omega arith);
        node = node;
      }

  for_seam : (n : ℕ) → cells.next ≤ n → n < seams.next → StandsForSeam m placement places n
  for_seam n own lt =
      let at = is_seams.numbering.each n own lt in
      for_pair n at.index at.is (omega (arith, is_cells.numbering.order)) (find_pair size (cell_count size) at.index some (omega arith) (omega (arith, at.below, is_seams.count)))

  pub are_nodes : AreNodes m placement held places seams.next
  are_nodes = record {
    ends = omega (arith, is_cells.numbering.order, is_seams.numbering.order);
    cell_nodes = is_cells.count;
    seam_nodes = is_seams.count;
    old = λ x y f at stays. node_old m placement held _ _ (cell_at x y f at) held_filled stays;
    unfilled = λ x y f at none. node_unfilled m placement held _ _ (cell_at x y f at) none;
    free = λ x y f is. record { above = free_own x y f is; below = omega (arith, is_cells.numbering.below (raster_index size x y f), is_seams.numbering.order) };
    seam = λ axis x y f has. record {
      above = omega (arith, is_cells.numbering.order, seam_own axis x y f has);
      below = is_seams.numbering.below (pair_number size axis x y f);
    };
    no_seam = no_seam;
    cells_apart = λ x y f a b c is other e.
        let at = same_counts size x y f a b c is.counts other.counts (is_cells.numbering.apart (raster_index size x y f) (raster_index size a b c) (free_own x y f is) e) in
        (at.x_same, at.y_same, at.f_same);
    seams_apart = λ axis other x y f a b c has has' e.
        let at = number_apart size axis other x y f a b c has.pair has'.pair (is_seams.numbering.apart (pair_number size axis x y f) (pair_number size other a b c) (seam_own axis x y f has) e) in
        (at.axis_same, at.x_same, at.y_same, at.f_same);
    apart = λ axis x y f a b c has is e. absurd (omega (arith, e, seam_own axis x y f has, is_cells.numbering.below (raster_index size a b c)));
    each = λ n inner. ⊎_elim (λ lt. inl (for_cell n inner.above lt)) (λ ge. inr (for_seam n ge inner.below)) (cases_lt n cells.next);
  }

-- marks that are given or missing
pub held_filled : (m : SourceMap) (placement : Placement) (marks : Option (List Bool)) → IfSome marks (AreMarks m placement) → AreHeld m placement (held_marks marks)
held_filled m placement None is p held = none (box_index placement p) held
  where
    none : (index : Option ℕ) → chosen [] index ≡ true → IsFilled m p
    none None held = absurd (false≢true held)
    none (Some i) held = absurd (false≢true held)
held_filled m placement (Some marks) is p held = is.filled p held

-- the nodes and the pipes are those of the network
pub is_network : (d : At → At → ℕ) (m : SourceMap) (placement : Placement) (held : List Bool) (cells seams : List ℕ) (nodes : ℕ) (piping : Piping)
    → AreNodes m placement held (record { cell_nodes = cells; seam_nodes = seams; pipes = piping.first.items }) nodes → HasAllPipes d m placement cells seams nodes piping
    → IsNetworkOf d m placement held piping.network (record { cell_nodes = cells; seam_nodes = seams; pipes = piping.first.items })
is_network d m placement held cells seams nodes piping is laid = record {
  nodes = subst (AreNodes m placement held (record { cell_nodes = cells; seam_nodes = seams; pipes = piping.first.items })) (sym laid.size) is;
  source = laid.source;
  sink = laid.sink;
  pipes = laid.pipes;
  first = laid.first;
}
