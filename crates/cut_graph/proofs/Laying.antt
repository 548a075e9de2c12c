-- The pipes of one pair more, and of all pairs of a cell.
use Rattle.std.proofs.Common.{◌≡◌, ℕ, ◌+◌, ◌*◌, ◌≤◌, List, [], ◌∷◌, ◌++◌, length, refl, sym, ap, ◌∙◌, subst, arith, true, append_assoc}
use Rattle.std.proofs.Math.Numerals.{add-one}
use Rattle.std.proofs.lemmas.Int.{ints}
use Rattle.std.proofs.lemmas.List.{length-append}
use Rattle.std.specs.Prelude.{ℤ, pos, ◌+ℤ◌, Option, Some, None, slice_index, if◌then◌else◌, vec_capacity}
use borrow.Author.Tests.{ltb-true}
use Rattle.cells.specs.declared.place.At.{At}
use Rattle.cells.specs.declared.place.Axis.{Axis}
use Rattle.cells.specs.declared.place.Axis.TheVariants.{X, Y, F}
use Rattle.cells.specs.declared.place.Box3.{Box3}
use Rattle.cells.specs.declared.place.Size.{Size}
use Rattle.cells.specs.Boxes.{HoldsBox, IsInBox, cell_in}
use Rattle.cells.specs.Distances.{distance}
use Rattle.cells.specs.Neighbours.{unit_step}
use Rattle.cells.specs.Places.{IsSmall, cell_count, plus, raster_index}
use Rattle.map_canvas.specs.Choices.{new_source}
use Rattle.map_canvas.specs.Maps.{map_at}
use Rattle.cells.proofs.BoxLaws.{box_small}
use Rattle.max_flow.specs.Networks.{empty_network}
use Rattle.max_flow.specs.declared.network.Pipe.{Pipe}
use Rattle.boxes.proofs.PairNumbers.{number_below, pairs_next}
use Rattle.boxes.proofs.Indices.{at_counts}
use Rattle.boxes.specs.Raster.{largest, stride}
use Rattle.costs.proofs.Near.{in_largest}
use Rattle.boxes.specs.Pairs.{AreCounts, at_index, has_next, one_if, pair_count, pair_number, pairs_before, IsPair}
use Rattle.cut_graph.specs.declared.piping.Piping.{Piping}
use Rattle.cut_graph.specs.declared.plan.PairCell.{PairCell}
use Rattle.cut_graph.specs.declared.plan.Plan.{Plan}
use Rattle.cut_graph.specs.Nodes.{cell_node, seam_node}
use Rattle.cut_graph.specs.Numberings.{AtPairs}
use Rattle.cut_graph.specs.Building.{HasAllPipes}
use Rattle.cut_graph.specs.Pipes.{first_or_none, first_pipe, joined, next_node, pair_pipes, pipes_between, pipes_from}
use Rattle.cut_graph.specs.Plans.{IsCellAt, IsFirst, IsPiped, IsPipedPast, IsPipedTo, IsPlan, along, before, pipes_of_pair, places_of, up_to, with_pipes}
use Rattle.cut_graph.proofs.AtPairs.{at_more, at_none}
use Rattle.cut_graph.proofs.Numbered.{in_box}
use Rattle.cut_graph.proofs.Numbers.{length-end}

pub plan_small : (plan : Plan) → IsPlan plan → IsSmall plan.placement.rect.size
plan_small plan is = box_small plan.map.now.size plan.placement.rect.corner plan.placement.rect.size is.over.small is.fits.some is.fits.inside

-- its box lies in the largest output
pub plan_inside : (plan : Plan) → IsPlan plan → HoldsBox largest plan.placement.rect.corner plan.placement.rect.size
plan_inside plan is = in_largest plan.map.now.size plan.placement.rect.corner plan.placement.rect.size is.over.small is.fits.inside

-- no pipe yet
pub none_piped : (plan : Plan) (nodes pairs : ℕ) (piping : Piping) → IsPlan plan → pairs ≡ length plan.seams.now → piping.network ≡ empty_network nodes 0 1 (3 * pairs) → piping.count ≡ 0
    → piping.first.items ≡ [] → vec_capacity piping.first ≡ pairs → IsPiped plan nodes (before plan 0) 0 piping
none_piped plan nodes pairs piping is same network count first space = record {
  size = ap (λ n. n.nodes) network;
  source = ap (λ n. n.source) network;
  sink = ap (λ n. n.sink) network;
  pipes = ap (λ n. n.pipes) network;
  room = omega (arith, ap (λ n. n.spare) network, same, is.seams_count);
  total = count;
  few = omega arith;
  number = ap length first;
  space = space ∙ same ∙ is.seams_count;
  firsts = at_none plan.placement.rect.size (IsFirst plan) piping.first.items first;
}

-- a step by steps on two axes or three
next_along : (z : ℤ) (n : ℕ) → z +ℤ pos (n + 1) ≡ (z +ℤ pos n) +ℤ pos 1
next_along z n = omega (arith, ints)

same_along : (z : ℤ) (n : ℕ) → z +ℤ pos n ≡ (z +ℤ pos n) +ℤ pos 0
same_along z n = omega (arith, ints)

next_x : (rect : Box3) (x y f : ℕ) → cell_in rect (x + 1) y f ≡ plus (cell_in rect x y f) (unit_step X)
next_x rect x y f = λ k. record { x = next_along rect.corner.x x k; y = same_along rect.corner.y y k; f = same_along rect.corner.f f k }

next_y : (rect : Box3) (x y f : ℕ) → cell_in rect x (y + 1) f ≡ plus (cell_in rect x y f) (unit_step Y)
next_y rect x y f = λ k. record { x = same_along rect.corner.x x k; y = next_along rect.corner.y y k; f = same_along rect.corner.f f k }

next_f : (rect : Box3) (x y f : ℕ) → cell_in rect x y (f + 1) ≡ plus (cell_in rect x y f) (unit_step F)
next_f rect x y f = λ k. record { x = same_along rect.corner.x x k; y = same_along rect.corner.y y k; f = next_along rect.corner.f f k }

-- the second cell of a pair, by its counts
pub record HasBehind (rect : Box3) (axis : Axis) (x y f : ℕ) : Type 0 where
  pub a : ℕ
  pub b : ℕ
  pub c : ℕ
  pub counts : AreCounts rect.size a b c
  pub place : cell_in rect a b c ≡ plus (cell_in rect x y f) (unit_step axis)
  pub index : raster_index rect.size a b c ≡ raster_index rect.size x y f + stride rect.size axis

pub behind_of : (rect : Box3) (axis : Axis) (x y f : ℕ) → IsPair rect.size axis x y f → HasBehind rect axis x y f
behind_of rect X x y f is = record {
  a = x + 1;
  b = y;
  c = f;
  counts = record { column = ltb-true (x + 1) rect.size.w is.next; row = is.counts.row; frame = is.counts.frame };
  place = next_x rect x y f;
  index = omega arith;
}
behind_of rect Y x y f is = record {
  a = x;
  b = y + 1;
  c = f;
  counts = record { column = is.counts.column; row = ltb-true (y + 1) rect.size.h is.next; frame = is.counts.frame };
  place = next_y rect x y f;
  index = omega arith;
}
behind_of rect F x y f is = record {
  a = x;
  b = y;
  c = f + 1;
  counts = record { column = is.counts.column; row = is.counts.row; frame = ltb-true (f + 1) rect.size.f is.next };
  place = next_f rect x y f;
  index = omega arith;
}

-- it is in the box
pub second_in_box : (rect : Box3) (axis : Axis) (x y f : ℕ) → IsPair rect.size axis x y f → IsInBox rect (plus (cell_in rect x y f) (unit_step axis))
second_in_box rect axis x y f is =
    let next = behind_of rect axis x y f is in
    subst (IsInBox rect) next.place (in_box rect next.a next.b next.c next.counts)

-- and its node comes so far after it
next_is : (plan : Plan) (axis : Axis) (x y f : ℕ)
    → next_node (places_of plan) plan.placement.rect.size axis x y f ≡ slice_index plan.cells.now (raster_index plan.placement.rect.size x y f + stride plan.placement.rect.size axis)
next_is plan X x y f =
    let size = plan.placement.rect.size in
    let e : raster_index size (x + 1) y f ≡ raster_index size x y f + 1 = omega arith in ap (slice_index plan.cells.now) e
next_is plan Y x y f =
    let size = plan.placement.rect.size in
    let e : raster_index size x (y + 1) f ≡ raster_index size x y f + size.w = omega arith in ap (slice_index plan.cells.now) e
next_is plan F x y f =
    let size = plan.placement.rect.size in
    let e : raster_index size x y (f + 1) ≡ raster_index size x y f + size.w * size.h = omega arith in ap (slice_index plan.cells.now) e

-- the pipes of a pair by its two cells
module _ (plan : Plan) (axis : Axis) (x y f i : ℕ) (p : At) (first second : PairCell) (seam : ℕ) (index : raster_index plan.placement.rect.size x y f ≡ i)
    (place : p ≡ plus (cell_in plan.placement.rect x y f) (unit_step axis)) (next : has_next plan.placement.rect.size axis x y f ≡ true)
    (is_first : IsCellAt plan (cell_in plan.placement.rect x y f) i first) (is_second : IsCellAt plan p (i + stride plan.placement.rect.size axis) second)
    (is_seam : seam ≡ seam_node (places_of plan) plan.placement.rect.size axis x y f) where
  first_node : first.node ≡ cell_node (places_of plan) plan.placement.rect.size x y f
  first_node = is_first.own ∙ ap (slice_index plan.cells.now) (sym index)

  second_node : second.node ≡ next_node (places_of plan) plan.placement.rect.size axis x y f
  second_node = is_second.own ∙ ap (λ n. slice_index plan.cells.now (n + stride plan.placement.rect.size axis)) (sym index) ∙ sym (next_is plan axis x y f)

  abbrev between : List Pipe
  between = pipes_between (distance plan.sample.now) plan.map.now plan.placement axis (cell_in plan.placement.rect x y f) (plus (cell_in plan.placement.rect x y f) (unit_step axis))
      (cell_node (places_of plan) plan.placement.rect.size x y f) (next_node (places_of plan) plan.placement.rect.size axis x y f) (seam_node (places_of plan) plan.placement.rect.size axis x y f)

  pub pair_is : pipes_of_pair plan axis first second seam ≡ along plan axis x y f
  pair_is =
      (λ k. pair_pipes (distance plan.sample.now) axis (is_first.source k) ((is_second.source ∙ ap (map_at plan.map.now) place) k) (is_first.new k)
      ((is_second.new ∙ ap (new_source plan.placement) place) k) (first_node k) (second_node k) (is_seam k))
      ∙ sym (ap (λ b. if b then between else []) next)

-- two cells whose nodes are the sink have no pipes
pub none_along : (plan : Plan) (axis : Axis) (x y f i j : ℕ) → IsPlan plan → IsPair plan.placement.rect.size axis x y f → raster_index plan.placement.rect.size x y f ≡ i
    → i + stride plan.placement.rect.size axis ≡ j → slice_index plan.cells.now i ≡ 1 → slice_index plan.cells.now j ≡ 1 → [] ≡ along plan axis x y f
none_along plan axis x y f i j is pair index next first second =
    sym (ap (λ b. if b then between else []) pair.next
    ∙ (λ k. pair_pipes (distance plan.sample.now) axis (first_none k) (second_none k) (new_source plan.placement p) (new_source plan.placement q)
    (cell_node (places_of plan) plan.placement.rect.size x y f) (next_node (places_of plan) plan.placement.rect.size axis x y f) (seam_node (places_of plan) plan.placement.rect.size axis x y f)))
  where
    p : At
    p = cell_in plan.placement.rect x y f

    q : At
    q = plus p (unit_step axis)

    between : List Pipe
    between = pipes_between (distance plan.sample.now) plan.map.now plan.placement axis p q
        (cell_node (places_of plan) plan.placement.rect.size x y f) (next_node (places_of plan) plan.placement.rect.size axis x y f) (seam_node (places_of plan) plan.placement.rect.size axis x y f)

    first_none : map_at plan.map.now p ≡ None
    first_none = is.unfilled.each x y f pair.counts (ap (slice_index plan.cells.now) index ∙ first)

    second_none : map_at plan.map.now q ≡ None
    second_none =
        let behind = behind_of plan.placement.rect axis x y f pair in
        ap (map_at plan.map.now) (sym behind.place)
        ∙ is.unfilled.each behind.a behind.b behind.c behind.counts (ap (slice_index plan.cells.now) (behind.index ∙ ap (λ n. n + stride plan.placement.rect.size axis) index ∙ next) ∙ second)

-- a pair has three pipes at most
pub pipes_most : (plan : Plan) (axis : Axis) (first second : PairCell) (seam : ℕ) → length (pipes_of_pair plan axis first second seam) ≤ 3
pipes_most plan axis first second seam = by first.before second.before
  where
    by : (a b : Option At) → length (pair_pipes (distance plan.sample.now) axis a b first.after second.after first.node second.node seam) ≤ 3
    by (Some a) (Some b) = omega arith
    by (Some a) None = omega arith
    by None (Some b) = omega arith
    by None None = omega arith

-- there is room for those of one pair more
pub has_room : (plan : Plan) (nodes : ℕ) (axis : Axis) (x y f : ℕ) (was : Piping) → IsPair plan.placement.rect.size axis x y f → IsPipedTo plan nodes axis x y f was → 3 ≤ was.network.spare
has_room plan nodes axis x y f was is so_far = omega (arith, so_far.room, number_below plan.placement.rect.size axis x y f is)

-- what comes of one pair more
pub record Grows (plan : Plan) (made : List Pipe) (was now : Piping) : Type 0 where
  pub network : now.network ≡ with_pipes was.network made
  pub total : now.count ≡ was.count + length made
  pub firsts : now.first.items ≡ was.first.items ++ first_or_none made was.count ∷ []
  pub space : vec_capacity now.first ≡ vec_capacity was.first
  pub few : length made ≤ 3

pub grown : (plan : Plan) (nodes : ℕ) (axis : Axis) (x y f : ℕ) (made : List Pipe) (was now : Piping) → IsPair plan.placement.rect.size axis x y f → made ≡ along plan axis x y f
    → Grows plan made was now → IsPipedTo plan nodes axis x y f was → IsPipedPast plan nodes axis x y f now
grown plan nodes axis x y f made was now is same grows so_far = record {
  size = ap (λ n. n.nodes) grows.network ∙ so_far.size;
  source = ap (λ n. n.source) grows.network ∙ so_far.source;
  sink = ap (λ n. n.sink) grows.network ∙ so_far.sink;
  pipes = ap (λ n. n.pipes) grows.network ∙ (λ k. so_far.pipes k ++ same k);
  room = omega (arith, so_far.room, ap (λ n. n.spare) grows.network, grows.few, more, number_below plan.placement.rect.size axis x y f is);
  total = omega (arith, grows.total, so_far.total, ap length same, lengths);
  few = omega (arith, so_far.few, grows.few, ap length same, lengths, more);
  number = ap length grows.firsts ∙ length-end was.first.items (first_or_none made was.count) ∙ (λ k. so_far.number k + sym more k);
  space = grows.space ∙ so_far.space;
  firsts = subst (AtPairs plan.placement.rect.size (IsFirst plan)) (sym grows.firsts)
      (at_more plan.placement.rect.size (IsFirst plan) axis x y f (first_or_none made was.count) was.first.items is so_far.number (λ k. first_or_none (same k) (so_far.total k)) so_far.firsts);
}
  where
    more : one_if (has_next plan.placement.rect.size axis x y f) ≡ 1
    more = ap one_if is.next

    lengths : length (up_to plan axis x y f ++ along plan axis x y f) ≡ length (up_to plan axis x y f) + length (along plan axis x y f)
    lengths = length-append (up_to plan axis x y f) (along plan axis x y f)

-- past the third pair of a cell is before the next cell
pub past_cell : (plan : Plan) (nodes : ℕ) (x y f i : ℕ) (now : Piping) → AreCounts plan.placement.rect.size x y f → raster_index plan.placement.rect.size x y f ≡ i
    → IsPipedPast plan nodes F x y f now → IsPiped plan nodes (before plan (i + 1)) (pairs_before plan.placement.rect.size (i + 1)) now
past_cell plan nodes x y f i now at index past =
    subst (λ n. IsPiped plan nodes (before plan (i + 1)) n now) numbers (subst (λ made. IsPiped plan nodes made (pair_number plan.placement.rect.size F x y f + one_if (has_next plan.placement.rect.size F x y f)) now) lists past)
  where
    size : Size
    size = plan.placement.rect.size

    numbers : pair_number size F x y f + one_if (has_next size F x y f) ≡ pairs_before size (i + 1)
    numbers = omega (arith, pairs_next size x y f at, ap (λ i. pairs_before size (i + 1)) index)

    from : ℕ → ℕ → ℕ → List Pipe
    from = pipes_from (distance plan.sample.now) plan.map.now plan.placement (places_of plan)

    lists : up_to plan F x y f ++ along plan F x y f ≡ before plan (i + 1)
    lists = append_assoc (before plan (raster_index size x y f) ++ along plan X x y f) (along plan Y x y f) (along plan F x y f)
        ∙ append_assoc (before plan (raster_index size x y f)) (along plan X x y f) (along plan Y x y f ++ along plan F x y f)
        ∙ ap (λ made. before plan (raster_index size x y f) ++ made) (sym (at_counts size from x y f at.column at.row))
        ∙ ap (joined (at_index size from)) (sym (add-one (raster_index size x y f)) ∙ ap (λ n. n + 1) index)

-- all pipes of a plan
first_is : (plan : Plan) (axis : Axis) (x y f : ℕ)
    → length (up_to plan axis x y f) ≡ first_pipe (distance plan.sample.now) plan.map.now plan.placement (places_of plan) axis x y f
first_is plan X x y f = refl
first_is plan Y x y f = length-append (up_to plan X x y f) (along plan X x y f)
first_is plan F x y f =
    length-append (up_to plan Y x y f) (along plan Y x y f) ∙ ap (λ n. n + length (along plan Y x y f)) (length-append (up_to plan X x y f) (along plan X x y f))

pub laid : (plan : Plan) (nodes : ℕ) (piping : Piping) → length plan.seams.now ≡ pair_count plan.placement.rect.size
    → IsPiped plan nodes (before plan (cell_count plan.placement.rect.size)) (pair_count plan.placement.rect.size) piping
    → HasAllPipes (distance plan.sample.now) plan.map.now plan.placement plan.cells.now plan.seams.now nodes piping
laid plan nodes piping count piped = record {
  size = piped.size;
  source = piped.source;
  sink = piped.sink;
  pipes = piped.pipes;
  first = record {
    count = piped.number ∙ sym count;
    first = λ axis x y f pair.
        piped.firsts.each axis x y f pair (omega (arith, number_below plan.placement.rect.size axis x y f pair, piped.number))
        ∙ ap (first_or_none (along plan axis x y f)) (first_is plan axis x y f);
  };
}
