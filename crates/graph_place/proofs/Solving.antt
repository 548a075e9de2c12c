-- What the solved network of a placement gives.
use Rattle.std.proofs.Common.{◌≡◌, ℕ, zero, suc, ◌+◌, ◌<◌, ◌≤◌, ap, sym, ◌∙◌, subst, arith, Bool, true, false, List, [], ◌∷◌, All, length}
use Rattle.std.proofs.lemmas.Int.{ints}
use Rattle.std.proofs.lemmas.List.Elements.{All-append, All-cons, All-nil}
use Rattle.std.specs.Prelude.{Option, Some, None, if◌then◌else◌}
use Rattle.cells.specs.declared.place.At.{At}
use Rattle.cells.specs.declared.place.Axis.{Axis}
use Rattle.cells.specs.declared.place.Axis.TheVariants.{X, Y, F}
use Rattle.cells.specs.Cells.{Cells, IsVolume}
use Rattle.cells.specs.Distances.{distance}
use Rattle.cells.specs.Neighbours.{unit_step}
use Rattle.cells.specs.Places.{cell_count, minus, plus}
use Rattle.cells.specs.Boxes.{cell_in}
use Rattle.cells.proofs.DistanceLaws.{distance_bound}
use Rattle.map_canvas.specs.declared.canvas.Placement.{Placement}
use Rattle.map_canvas.specs.Maps.{SourceMap, map_at}
use Rattle.costs.specs.Costs.{seam}
use Rattle.boxes.specs.Pairs.{has_next, IsPair}
use Rattle.max_flow.specs.declared.network.Pipe.{Pipe}
use Rattle.max_flow.specs.declared.solver.Solved.{Solved}
use Rattle.max_flow.specs.Networks.{FlowNetwork, no_pipe}
use Rattle.max_flow.specs.Flows.{pipe_flow}
use Rattle.max_flow.specs.Solutions.{IsSolution}
use Rattle.cut_graph.specs.declared.places.Places.{Places}
use Rattle.cut_graph.specs.Nodes.{cell_node, seam_node}
use Rattle.cut_graph.specs.Pipes.{first_or_none, first_pipe, joined, next_node, pair_pipes, pipe, pipes_along, pipes_between, pipes_of}
use Rattle.cut_graph.specs.Cuts.{IsNetworkOf}
use Rattle.cut_graph.proofs.Joined.{pair_stands}
use Rattle.graph_place.specs.Records.{IsSmallFlow, IsSolvedFor, pipe_count, pipe_of}
use Rattle.graph_place.proofs.Pipes.{pipe_count_fits}

-- a pipe of at most this much each way
pub record IsNarrow (pipe : Pipe) : Type 0 where
  pub ahead : pipe.ahead ≤ 3060
  pub back : pipe.back ≤ 3060

one_narrow : (p : Pipe) → p.ahead ≤ 3060 → p.back ≤ 3060 → All IsNarrow (p ∷ [])
one_narrow p ahead back = All-cons IsNarrow p [] (record { ahead = ahead; back = back }) (All-nil IsNarrow)

module _ (v : Cells) (volume : IsVolume v) where
  seam_small : (axis : Axis) (a b : At) → seam (distance v) axis a b ≤ 3060
  seam_small axis a b =
      omega (arith, distance_bound v volume a (minus b (unit_step axis)), distance_bound v volume (plus a (unit_step axis)) b, volume.samples)

  pair_narrow : (axis : Axis) (a b : Option At) (new_a new_b : At) (s t middle : ℕ) → All IsNarrow (pair_pipes (distance v) axis a b new_a new_b s t middle)
  pair_narrow axis (Some a) (Some b) new_a new_b s t middle =
      All-cons IsNarrow (pipe s middle (seam (distance v) axis a new_b) (seam (distance v) axis a new_b))
      (pipe middle t (seam (distance v) axis new_a b) (seam (distance v) axis new_a b) ∷ pipe middle 1 (seam (distance v) axis a b) 0 ∷ [])
      (record { ahead = seam_small axis a new_b; back = seam_small axis a new_b })
      (All-cons IsNarrow (pipe middle t (seam (distance v) axis new_a b) (seam (distance v) axis new_a b)) (pipe middle 1 (seam (distance v) axis a b) 0 ∷ [])
      (record { ahead = seam_small axis new_a b; back = seam_small axis new_a b })
      (one_narrow (pipe middle 1 (seam (distance v) axis a b) 0) (seam_small axis a b) (omega arith)))
  pair_narrow axis (Some a) None new_a new_b s t middle = one_narrow (pipe s 1 (seam (distance v) axis a new_b) 0) (seam_small axis a new_b) (omega arith)
  pair_narrow axis None (Some b) new_a new_b s t middle = one_narrow (pipe t 1 (seam (distance v) axis new_a b) 0) (seam_small axis new_a b) (omega arith)
  pair_narrow axis None None new_a new_b s t middle = All-nil IsNarrow

  module _ (m : SourceMap) (placement : Placement) (places : Places) where
    along_narrow : (axis : Axis) (x y f : ℕ) → All IsNarrow (pipes_along (distance v) m placement places axis x y f)
    along_narrow axis x y f = by (has_next placement.rect.size axis x y f) _ (pair_narrow axis _ _ _ _ _ _ _)
      where
        by : (b : Bool) (pipes : List Pipe) → All IsNarrow pipes → All IsNarrow (if b then pipes else [])
        by true pipes all = all
        by false pipes all = All-nil IsNarrow

    joined_narrow : (g : ℕ → List Pipe) (n : ℕ) → ((i : ℕ) → All IsNarrow (g i)) → All IsNarrow (joined g n)
    joined_narrow g zero each = All-nil IsNarrow
    joined_narrow g (suc n) each = All-append IsNarrow (joined g n) (g n) (joined_narrow g n each) (each n)

    all_narrow : All IsNarrow (pipes_of (distance v) m placement places)
    all_narrow = joined_narrow _ (cell_count placement.rect.size)
        (λ i. All-append IsNarrow _ _ (along_narrow X _ _ _) (All-append IsNarrow _ _ (along_narrow Y _ _ _) (along_narrow F _ _ _)))

    -- the flows of a solved network are read as a record by its places
    pub solved_for : (held : List Bool) (network : FlowNetwork) (solved : Solved) → IsNetworkOf (distance v) m placement held network places
        → IsSolution network solved.flow solved.source_side solved.value → IsSolvedFor m placement places solved
    solved_for held network solved net is = record {
      d = distance v;
      held = held;
      count = network.nodes;
      nodes = net.nodes;
      first = net.first;
      sides = omega (arith, is.cut.sized);
      flows = λ axis x y f pair. record { inside = fits axis x y f pair; small = λ j from to. narrow j (omega (arith, to, fits axis x y f pair, is.flow.sized)) };
    }
      where
        fits : (axis : Axis) (x y f : ℕ) → IsPair placement.rect.size axis x y f
            → pipe_of placement places axis x y f + pipe_count (map_at m (cell_in placement.rect x y f)) (map_at m (plus (cell_in placement.rect x y f) (unit_step axis))) ≤ length solved.flow
        fits axis x y f pair =
            subst (λ n. n + pipe_count (map_at m (cell_in placement.rect x y f)) (map_at m (plus (cell_in placement.rect x y f) (unit_step axis))) ≤ length solved.flow)
            (sym (net.first.first axis x y f pair ∙ ap (λ ps. first_or_none ps (first_pipe (distance v) m placement places axis x y f)) same))
            (pipe_count_fits (distance v) axis _ _ _ _ _ _ _ (first_pipe (distance v) m placement places axis x y f) (length solved.flow)
            (omega (arith, (pair_stands (distance v) m placement places axis x y f pair.counts).fits, ap length same, ap length net.pipes, is.flow.sized)))
          where
            same : pipes_along (distance v) m placement places axis x y f ≡ pipes_between (distance v) m placement axis (cell_in placement.rect x y f) (plus (cell_in placement.rect x y f) (unit_step axis))
                (cell_node places placement.rect.size x y f) (next_node places placement.rect.size axis x y f) (seam_node places placement.rect.size axis x y f)
            same = ap (λ b. if b then pipes_between (distance v) m placement axis (cell_in placement.rect x y f) (plus (cell_in placement.rect x y f) (unit_step axis))
                (cell_node places placement.rect.size x y f) (next_node places placement.rect.size axis x y f) (seam_node places placement.rect.size axis x y f) else []) pair.next

        narrow : (j : ℕ) → j < length network.pipes → IsSmallFlow (pipe_flow solved.flow j)
        narrow j lt =
            let fit = is.flow.fits j lt in
            let is_narrow = subst (All IsNarrow) (sym net.pipes) all_narrow j no_pipe lt in
            (omega (arith, ints, fit.back, is_narrow.back), omega (arith, ints, fit.ahead, is_narrow.ahead))
