-- The flows of a record, pair by pair, and where each is in the list.
use Rattle.std.proofs.Common.{◌≡◌, ℕ, ◌+◌, ◌*◌, ◌/◌, ◌%◌, ◌<◌, ◌≤◌, refl, ap, ◌∙◌, subst, arith, Bool, true, false, List, [], ◌∷◌, ◌++◌, length, get_or, length-append}
use Rattle.std.proofs.Math.Numerals.{add-one}
use mathlib.Core.Bool.{false≢true}
use Rattle.std.specs.Prelude.{ℤ, if◌then◌else◌, slice_index, slice_index_or}
use Rattle.cells.specs.declared.place.Size.{Size}
use Rattle.cells.specs.declared.place.Axis.{Axis}
use Rattle.cells.specs.declared.place.Axis.TheVariants.{X, Y, F}
use Rattle.cells.specs.Places.{IsSmall, cell_count, raster_index}
use Rattle.cells.specs.Boxes.{HasCells}
use Rattle.map_canvas.specs.declared.canvas.Placement.{Placement}
use Rattle.map_canvas.specs.Maps.{SourceMap}
use Rattle.boxes.proofs.Additions.{counts}
use Rattle.boxes.proofs.Axes.{sum_equal}
use Rattle.boxes.proofs.Boxes.{at_counts}
use Rattle.boxes.specs.Pairs.{at_index, has_next, one_if, pair_number, pairs_before, pairs_from, IsPair}
use Rattle.boxes.proofs.Indices.{index_below}
use Rattle.boxes.proofs.PairNumbers.{number_below as pair_number_below, pairs_few}
use Rattle.max_flow.specs.declared.solver.Solved.{Solved}
use Rattle.cut_graph.specs.declared.places.Places.{Places}
use Rattle.cut_graph.proofs.Joined.{StandsAt, joined_at, sum_joined}
use Rattle.cut_check.specs.declared.record.Flow.{Flow}
use Rattle.cut_check.specs.Flows.{no_flow}
use Rattle.graph_place.specs.Records.{IsRecordOf, IsSolvedFor, flow_at_pair}
use Rattle.graph_place.specs.Parts.{IsChoiceOf, flow_along, flows_before, flows_from}
use Rattle.graph_place.proofs.Nodes.{counts_of, node_below}

-- the index of the counts of an index
pub index_again : (size : Size) (i : ℕ) → raster_index size (i % size.w) (i / size.w % size.h) (i / size.w / size.h) ≡ i
index_again size i =
    let row : i / size.w % size.h + size.h * (i / size.w / size.h) ≡ i / size.w = parts (i / size.w) size.h in
    ap (λ n. i % size.w + size.w * n) row ∙ parts i size.w
  where
    parts : (n w : ℕ) → n % w + w * (n / w) ≡ n
    parts n w = omega arith

module _ (m : SourceMap) (placement : Placement) (places : Places) (flows : List ℤ) where
  abbrev along : Axis → ℕ → ℕ → ℕ → List Flow
  along = flow_along m placement places flows

  abbrev own : Axis → ℕ → ℕ → ℕ → Flow
  own = flow_at_pair m placement places flows

  pub along_pair : (axis : Axis) (x y f : ℕ) → has_next placement.rect.size axis x y f ≡ true → along axis x y f ≡ own axis x y f ∷ []
  along_pair axis x y f e = ap (λ b. if b then own axis x y f ∷ [] else []) e

  pub along_none : (axis : Axis) (x y f : ℕ) → has_next placement.rect.size axis x y f ≡ false → along axis x y f ≡ []
  along_none axis x y f e = ap (λ b. if b then own axis x y f ∷ [] else []) e

  pub length-along : (axis : Axis) (x y f : ℕ) → length (along axis x y f) ≡ one_if (has_next placement.rect.size axis x y f)
  length-along axis x y f = by (has_next placement.rect.size axis x y f) (own axis x y f)
    where
      by : (b : Bool) (flow : Flow) → length (if b then flow ∷ [] else []) ≡ one_if b
      by true flow = refl
      by false flow = refl

  pub length-from : (x y f : ℕ) → length (flows_from m placement places flows x y f) ≡ pairs_from placement.rect.size x y f
  length-from x y f =
      omega (arith, length-append (along X x y f) (along Y x y f ++ along F x y f), length-append (along Y x y f) (along F x y f), length-along X x y f, length-along Y x y f, length-along F x y f)

  -- the flows of the cells before an index are as many as their pairs
  pub length-before : (i : ℕ) → length (flows_before m placement places flows i) ≡ pairs_before placement.rect.size i
  length-before i =
      sum_joined counts (λ ps _. length ps) (record { none = λ o. refl; append = λ xs ys o. length-append xs ys }) (at_index placement.rect.size (flows_from m placement places flows)) i
      ∙ sum_equal counts i _ _ (λ j lt. length-from _ _ _)

  pub before_more : (i : ℕ) → flows_before m placement places flows (i + 1) ≡ flows_before m placement places flows i ++ at_index placement.rect.size (flows_from m placement places flows) i
  before_more i = ap (flows_before m placement places flows) (add-one i)

  pick_x : (a b c : Bool) (p q r : Flow) → a ≡ true → get_or ((if a then p ∷ [] else []) ++ ((if b then q ∷ [] else []) ++ (if c then r ∷ [] else []))) 0 no_flow ≡ p
  pick_x false b c p q r e = absurd (false≢true e)
  pick_x true b c p q r e = refl

  pick_y : (a b c : Bool) (p q r : Flow) → b ≡ true → get_or ((if a then p ∷ [] else []) ++ ((if b then q ∷ [] else []) ++ (if c then r ∷ [] else []))) (one_if a) no_flow ≡ q
  pick_y a false c p q r e = absurd (false≢true e)
  pick_y true true c p q r e = refl
  pick_y false true c p q r e = refl

  pick_f : (a b c : Bool) (p q r : Flow) → c ≡ true → get_or ((if a then p ∷ [] else []) ++ ((if b then q ∷ [] else []) ++ (if c then r ∷ [] else []))) (one_if a + one_if b) no_flow ≡ r
  pick_f a b false p q r e = absurd (false≢true e)
  pick_f true true true p q r e = refl
  pick_f true false true p q r e = refl
  pick_f false true true p q r e = refl
  pick_f false false true p q r e = refl

  -- each pair's flow is at the pair's number
  pub flow_stands : (axis : Axis) (x y f : ℕ) → IsPair placement.rect.size axis x y f
      → slice_index_or (flows_before m placement places flows (cell_count placement.rect.size)) (pair_number placement.rect.size axis x y f) no_flow ≡ own axis x y f
  flow_stands axis x y f pair = by axis pair.next
    where
      stands : StandsAt (flows_before m placement places flows (cell_count placement.rect.size)) (flows_from m placement places flows x y f)
          (length (flows_before m placement places flows (raster_index placement.rect.size x y f)))
      stands = subst (λ fs. StandsAt (flows_before m placement places flows (cell_count placement.rect.size)) fs (length (flows_before m placement places flows (raster_index placement.rect.size x y f))))
          (at_counts placement.rect.size (flows_from m placement places flows) x y f pair.counts.column pair.counts.row)
          (joined_at (at_index placement.rect.size (flows_from m placement places flows)) (cell_count placement.rect.size) _ (index_below placement.rect.size x y f pair.counts))

      place : (k n : ℕ) → n ≡ pairs_before placement.rect.size (raster_index placement.rect.size x y f) + k → k < length (flows_from m placement places flows x y f)
          → slice_index_or (flows_before m placement places flows (cell_count placement.rect.size)) n no_flow ≡ slice_index_or (flows_from m placement places flows x y f) k no_flow
      place k n e lt = ap (λ j. slice_index_or (flows_before m placement places flows (cell_count placement.rect.size)) j no_flow) (at k n e) ∙ stands.same k no_flow lt
        where
          at : (k n : ℕ) → n ≡ pairs_before placement.rect.size (raster_index placement.rect.size x y f) + k → n ≡ length (flows_before m placement places flows (raster_index placement.rect.size x y f)) + k
          at k n e = omega (arith, e, length-before (raster_index placement.rect.size x y f))

      by : (a : Axis) → has_next placement.rect.size a x y f ≡ true
          → slice_index_or (flows_before m placement places flows (cell_count placement.rect.size)) (pair_number placement.rect.size a x y f) no_flow ≡ own a x y f
      by X e = place 0 _ (omega arith) (omega (arith, length-from x y f, ap one_if e))
          ∙ pick_x (has_next placement.rect.size X x y f) (has_next placement.rect.size Y x y f) (has_next placement.rect.size F x y f) (own X x y f) (own Y x y f) (own F x y f) e
      by Y e = place (one_if (has_next placement.rect.size X x y f)) _ (omega arith) (omega (arith, length-from x y f, ap one_if e))
          ∙ pick_y (has_next placement.rect.size X x y f) (has_next placement.rect.size Y x y f) (has_next placement.rect.size F x y f) (own X x y f) (own Y x y f) (own F x y f) e
      by F e = place (one_if (has_next placement.rect.size X x y f) + one_if (has_next placement.rect.size Y x y f)) _ (omega arith) (omega (arith, length-from x y f, ap one_if e))
          ∙ pick_f (has_next placement.rect.size X x y f) (has_next placement.rect.size Y x y f) (has_next placement.rect.size F x y f) (own X x y f) (own Y x y f) (own F x y f) e

-- a pair of the box
module _ (m : SourceMap) (placement : Placement) (places : Places) (solved : Solved) (is : IsSolvedFor m placement places solved) (axis : Axis) (x y f : ℕ) (pair : IsPair placement.rect.size axis x y f) where
  pub number_below : pair_number placement.rect.size axis x y f < length places.pipes
  number_below = omega (arith, is.first.count, is.nodes.seam_nodes, pair_number_below placement.rect.size axis x y f pair)

  pub number_small : IsSmall placement.rect.size → pair_number placement.rect.size axis x y f ≤ 100663296
  number_small small = omega (arith, pair_number_below placement.rect.size axis x y f pair, pairs_few placement.rect.size (cell_count placement.rect.size), small.cells)

module _ (m : SourceMap) (placement : Placement) (places : Places) (solved : Solved) (is : IsSolvedFor m placement places solved) (some : HasCells placement.rect.size) where
  -- each cell's node has a side
  pub nodes_in : (i : ℕ) → i < length places.cell_nodes → slice_index places.cell_nodes i < length solved.source_side
  nodes_in i lt =
      subst (λ n. slice_index places.cell_nodes n < length solved.source_side) (index_again placement.rect.size i)
      (omega (arith, node_below m placement is.held places is.count is.nodes _ _ _ (counts_of placement.rect.size i some (omega (arith, lt, is.nodes.cell_nodes))), is.sides))

  pub record_of : (choice : List Bool) (flows : List Flow) → IsChoiceOf places.cell_nodes solved.source_side choice
      → flows ≡ flows_before m placement places solved.flow (cell_count placement.rect.size)
      → IsRecordOf m placement places solved (record { placement = placement; choice = choice; flows = flows })
  record_of choice flows chosen recorded = record {
    same_placement = refl;
    choice_count = chosen.count ∙ is.nodes.cell_nodes;
    choice = λ i lt. chosen.says i (omega (arith, lt, is.nodes.cell_nodes));
    flow_count = ap length recorded ∙ length-before m placement places solved.flow (cell_count placement.rect.size);
    flows = λ axis x y f pair. ap (λ fs. slice_index_or fs (pair_number placement.rect.size axis x y f) no_flow) recorded ∙ flow_stands m placement places solved.flow axis x y f pair;
  }
