-- To be trusted: the pipes of the network of a placement, in the order of the pairs of its box.
-- (Kwatra et al. 2003; that a pair with
-- one filled cell leads to the sink is own.)
use Rattle.std.specs.Prelude.{◌≡◌, ◌+◌, ◌*◌, ℕ, zero, suc, List, [], ◌∷◌, ◌++◌, length, slice_index, Option, Some, None, if◌then◌else◌}
use Rattle.cells.specs.declared.place.At.{At}
use Rattle.cells.specs.declared.place.Size.{Size}
use Rattle.cells.specs.declared.place.Axis.{Axis}
use Rattle.cells.specs.declared.place.Axis.TheVariants.{X, Y, F}
use Rattle.cells.specs.Places.{cell_count, plus}
use Rattle.cells.specs.Neighbours.{unit_step}
use Rattle.cells.specs.Boxes.{cell_in}
use Rattle.max_flow.specs.declared.network.Pipe.{Pipe}
use Rattle.map_canvas.specs.declared.canvas.Placement.{Placement}
use Rattle.map_canvas.specs.Maps.{SourceMap, map_at}
use Rattle.map_canvas.specs.Choices.{new_source}
use Rattle.costs.specs.Costs.{seam}
use Rattle.boxes.specs.Pairs.{at_index, has_next, pair_number, IsPair}
use Rattle.cut_graph.specs.declared.places.Places.{Places}
use Rattle.cut_graph.specs.Nodes.{cell_node, seam_node}

abbrev pub pipe : ℕ → ℕ → ℕ → ℕ → Pipe
pipe s t ahead back = record { from = s; to = t; ahead = ahead; back = back }

-- the pipes of a pair along an axis, by the sources of its cells before and their new ones, and by
-- the nodes of the two and of
-- the seam: through the seam node, as much both ways as old meets new, and from the seam to the
-- sink what old meets old
abbrev pub pair_pipes : (At → At → ℕ) → Axis → Option At → Option At → At → At → ℕ → ℕ → ℕ →
    List Pipe
pair_pipes d axis (Some a) (Some b) new_a new_b s t middle =
    pipe s middle (seam d axis a new_b) (seam d axis a new_b) ∷ pipe middle t (seam d axis new_a b)
    (seam d axis new_a b)
    ∷ pipe middle 1 (seam d axis a b) 0 ∷ []
pair_pipes d axis (Some a) None new_a new_b s t middle = pipe s 1 (seam d axis a new_b) 0 ∷ []
pair_pipes d axis None (Some b) new_a new_b s t middle = pipe t 1 (seam d axis new_a b) 0 ∷ []
pair_pipes d axis None None new_a new_b s t middle = []

-- the node of the cell next to a cell along an axis
abbrev pub next_node : Places → Size → Axis → ℕ → ℕ → ℕ → ℕ
next_node places size X x y f = cell_node places size (x + 1) y f
next_node places size Y x y f = cell_node places size x (y + 1) f
next_node places size F x y f = cell_node places size x y (f + 1)

-- the pipes of two cells of a placement
abbrev pub pipes_between : (At → At → ℕ) → SourceMap → Placement → Axis → At → At → ℕ → ℕ → ℕ →
    List Pipe
pipes_between d m placement axis s t = pair_pipes d axis (map_at m s) (map_at m t)
    (new_source placement s) (new_source placement t)

-- those of a cell and the next one along an axis, where the box has it
abbrev pub pipes_along : (At → At → ℕ) → SourceMap → Placement → Places → Axis → ℕ → ℕ → ℕ →
    List Pipe
pipes_along d m placement places axis x y f =
    if has_next placement.rect.size axis x y f
    then pipes_between d m placement axis (cell_in placement.rect x y f)
    (plus (cell_in placement.rect x y f) (unit_step axis))
    (cell_node places placement.rect.size x y f) (next_node places placement.rect.size axis x y f)
    (seam_node places placement.rect.size axis x y f)
    else []

-- those of a cell and the next ones along X, Y and F
abbrev pub pipes_from : (At → At → ℕ) → SourceMap → Placement → Places → ℕ → ℕ → ℕ → List Pipe
pipes_from d m placement places x y f =
    pipes_along d m placement places X x y f
    ++ (pipes_along d m placement places Y x y f ++ pipes_along d m placement places F x y f)

-- lists one after another: g 0, g 1, .. , g (n - 1)
abbrev pub joined : {A : Type 0} → (ℕ → List A) → ℕ → List A
joined g zero = []
joined g (suc n) = joined g n ++ g n

-- those of the cells before an index
abbrev pub pipes_before : (At → At → ℕ) → SourceMap → Placement → Places → ℕ → List Pipe
pipes_before d m placement places = joined
    (at_index placement.rect.size (pipes_from d m placement places))

-- all of them
abbrev pub pipes_of : (At → At → ℕ) → SourceMap → Placement → Places → List Pipe
pipes_of d m placement places = pipes_before d m placement places (cell_count placement.rect.size)

-- where the pipes of a pair begin
abbrev pub first_pipe : (At → At → ℕ) → SourceMap → Placement → Places → Axis → ℕ → ℕ → ℕ → ℕ
first_pipe d m placement places X x y f =
    length (pipes_before d m placement places
    (x + placement.rect.size.w * (y + placement.rect.size.h * f)))
first_pipe d m placement places Y x y f =
    length (pipes_before d m placement places
    (x + placement.rect.size.w * (y + placement.rect.size.h * f)))
    + length (pipes_along d m placement places X x y f)
first_pipe d m placement places F x y f =
    length (pipes_before d m placement places
    (x + placement.rect.size.w * (y + placement.rect.size.h * f)))
    + length (pipes_along d m placement places X x y f) + length
    (pipes_along d m placement places Y x y f)

-- the index, and 0 for a pair without a pipe
abbrev pub first_or_none : List Pipe → ℕ → ℕ
first_or_none [] first = 0
first_or_none (one ∷ more) first = first

-- the indices of the first pipes of all pairs
pub record AreFirstPipes (d : At → At → ℕ) (m : SourceMap) (placement : Placement)
    (places : Places) : Type 0 where
  pub count : length places.pipes ≡ length places.seam_nodes
  pub first : (axis : Axis) (x y f : ℕ) → IsPair placement.rect.size axis x y f
      → slice_index places.pipes (pair_number placement.rect.size axis x y f)
      ≡ first_or_none (pipes_along d m placement places axis x y f)
      (first_pipe d m placement places axis x y f)
