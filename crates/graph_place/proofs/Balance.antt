-- The flow of a network of a placement, pair by pair and cell by cell.
use Rattle.std.proofs.Common.{◌≡◌, ℕ, ◌<◌, ◌≤◌, ◌==◌, refl, ap, sym, ◌∙◌, subst, arith, Bool, true, false, List, [], drop}
use Rattle.std.proofs.lemmas.Int.{ints}
use Rattle.std.proofs.lemmas.Bool.{eq-eqb, ne_eqb}
use Rattle.std.specs.Prelude.{ℤ, pos, ◌+ℤ◌, ◌-ℤ◌, Option, Some, None, if◌then◌else◌, is_some, slice_index_or}
use Rattle.cells.specs.declared.place.At.{At}
use Rattle.cells.specs.declared.place.Axis.{Axis}
use Rattle.cells.specs.declared.place.Axis.TheVariants.{X, Y, F}
use Rattle.cells.specs.Places.{plus}
use Rattle.cells.specs.Neighbours.{unit_step}
use Rattle.cells.specs.Boxes.{cell_in}
use Rattle.map_canvas.specs.declared.canvas.Placement.{Placement}
use Rattle.map_canvas.specs.Maps.{SourceMap, map_at}
use Rattle.map_canvas.specs.Choices.{new_source}
use Rattle.boxes.specs.Sums.{signed_sum_box}
use Rattle.boxes.proofs.Additions.{integers}
use Rattle.boxes.proofs.Boxes.{box_equal, box_single}
use Rattle.costs.specs.Lawful.{StaysOld}
use Rattle.boxes.specs.Pairs.{AreCounts, has_next, pair_number, IsPair}
use Rattle.max_flow.specs.declared.network.Pipe.{Pipe}
use Rattle.max_flow.specs.Networks.{FlowNetwork, no_pipe, pipe_at}
use Rattle.max_flow.specs.Flows.{FitsPipe, IsFlow, pipe_flow, flow_value, net_leaving, part_if}
use Rattle.cut_graph.specs.declared.places.Places.{Places}
use Rattle.cut_graph.specs.Nodes.{HasSeam, IsFreeAt, cell_node, seam_node}
use Rattle.cut_graph.specs.Pipes.{first_or_none, first_pipe, next_node, pipes_along, pipes_between}
use Rattle.cut_graph.specs.Cuts.{IsNetworkOf}
use Rattle.cut_graph.proofs.Joined.{StandsAt, leaving_of_pairs, pair_leaving, pair_stands}
use Rattle.cut_check.specs.declared.record.Flow.{Flow}
use Rattle.cut_check.specs.Flows.{IsBoundedAt, IsBoundedOn, leaving, no_flow, pair_flow as recorded_at}
use Rattle.cut_check.specs.Records.{IsPartWhere}
use Rattle.cut_check.proofs.Leaving.{given, given_is_left, no_pair, part_if as part_where}
use Rattle.graph_place.specs.Records.{flow_of, pipe_of}
use Rattle.graph_place.proofs.Nodes.{cell_alone, next_of, none_free, seam_alone, selects, selects_cell, selects_next}
use Rattle.graph_place.proofs.Pipes.{AreFlowsAt, IsSeam, flow_of_first, left_at_seam, pair_bounded, pair_leaves, part_none, seam_leaves}

module _ (d : At → At → ℕ) (m : SourceMap) (placement : Placement) (held : List Bool) (network : FlowNetwork) (places : Places) (net : IsNetworkOf d m placement held network places)
    (flows : List ℤ) (flow : IsFlow network flows) where
  -- the sources of the two cells of a pair
  abbrev first : ℕ → ℕ → ℕ → Option At
  first x y f = map_at m (cell_in placement.rect x y f)

  abbrev second : Axis → ℕ → ℕ → ℕ → Option At
  second axis x y f = map_at m (plus (cell_in placement.rect x y f) (unit_step axis))

  -- the pipes of a pair, and where they begin
  abbrev pipes : Axis → ℕ → ℕ → ℕ → List Pipe
  pipes axis x y f = pipes_between d m placement axis (cell_in placement.rect x y f) (plus (cell_in placement.rect x y f) (unit_step axis))
      (cell_node places placement.rect.size x y f) (next_node places placement.rect.size axis x y f) (seam_node places placement.rect.size axis x y f)

  abbrev begin : Axis → ℕ → ℕ → ℕ → ℕ
  begin = first_pipe d m placement places

  -- what leaves a set of nodes along the pipes of a pair
  abbrev left : (ℕ → Bool) → Axis → ℕ → ℕ → ℕ → ℤ
  left side = pair_leaving d m placement places side flows

  along_pair : (axis : Axis) (x y f : ℕ) → IsPair placement.rect.size axis x y f → pipes_along d m placement places axis x y f ≡ pipes axis x y f
  along_pair axis x y f pair = ap (λ b. if b then pipes axis x y f else []) pair.next

  along_none : (axis : Axis) (x y f : ℕ) → has_next placement.rect.size axis x y f ≡ false → pipes_along d m placement places axis x y f ≡ []
  along_none axis x y f none = ap (λ b. if b then pipes axis x y f else []) none

  left_pair : (side : ℕ → Bool) (axis : Axis) (x y f : ℕ) → IsPair placement.rect.size axis x y f → left side axis x y f ≡ net_leaving side (pipes axis x y f) (drop (begin axis x y f) flows)
  left_pair side axis x y f pair = ap (λ ps. net_leaving side ps (drop (begin axis x y f) flows)) (along_pair axis x y f pair)

  left_none : (side : ℕ → Bool) (axis : Axis) (x y f : ℕ) → has_next placement.rect.size axis x y f ≡ false → left side axis x y f ≡ pos 0
  left_none side axis x y f none = ap (λ ps. net_leaving side ps (drop (begin axis x y f) flows)) (along_none axis x y f none)

  all_left : (side : ℕ → Bool) → signed_sum_box placement.rect.size (λ x y f. (left side X x y f +ℤ left side Y x y f) +ℤ left side F x y f) ≡ net_leaving side network.pipes flows
  all_left side = sym (leaving_of_pairs d m placement places side flows) ∙ ap (λ ps. net_leaving side ps flows) (sym net.pipes)

  -- a pair has a seam where both cells are filled
  has_seam : (axis : Axis) (x y f : ℕ) → IsPair placement.rect.size axis x y f → IsSeam (first x y f) (second axis x y f) → HasSeam m placement axis x y f
  has_seam axis x y f pair both = by (first x y f) (second axis x y f) refl refl
    where
      by : (a b : Option At) → first x y f ≡ a → second axis x y f ≡ b → HasSeam m placement axis x y f
      by (Some a) (Some b) ea eb = record { pair = pair; first = ap is_some ea; second = ap is_some eb }
      by (Some a) None ea eb = absurd (subst (λ o. o) (λ k. IsSeam (ea k) (eb k)) both)
      by None b ea eb = absurd (subst (λ o. o) (λ k. IsSeam (ea k) (eb k)) both)

  -- what is left at a seam node, and that it balances
  abbrev behind : Axis → ℕ → ℕ → ℕ → ℤ
  behind axis x y f = left_at_seam (first x y f) (second axis x y f) flows (begin axis x y f)

  module _ (axis : Axis) (x y f : ℕ) (seam : HasSeam m placement axis x y f) where
    abbrev here : ℕ
    here = seam_node places placement.rect.size axis x y f

    abbrev at_here : ℕ → Bool
    at_here n = n == here

    inner : 2 ≤ here
    inner = (net.nodes.seam axis x y f seam).above

    cell_out : (a b c : ℕ) → AreCounts placement.rect.size a b c → at_here (cell_node places placement.rect.size a b c) ≡ false
    cell_out a b c at = ne_eqb (cell_node places placement.rect.size a b c) here (seam_alone m placement held places network.nodes net.nodes axis a b c x y f at seam)

    next_out : (other : Axis) (a b c : ℕ) → IsPair placement.rect.size other a b c → at_here (next_node places placement.rect.size other a b c) ≡ false
    next_out other a b c pair = let next = next_of placement places other a b c pair in ap at_here next.node ∙ cell_out next.column next.row next.frame next.counts

    at_pair : (other : Axis) (a b c : ℕ) → IsPair placement.rect.size other a b c → left at_here other a b c ≡ part_if (at_here (seam_node places placement.rect.size other a b c)) (behind other a b c)
    at_pair other a b c pair =
        left_pair at_here other a b c pair
        ∙ seam_leaves at_here d other _ _ _ flows (ne_eqb 1 here (λ e. absurd (omega (arith, inner, e)))) (cell_out a b c pair.counts) (next_out other a b c pair) (first a b c) (second other a b c)
        (new_source placement (cell_in placement.rect a b c)) (new_source placement (plus (cell_in placement.rect a b c) (unit_step other))) (begin other a b c)

    -- nothing leaves along the pipes of another pair
    other_pair : (other : Axis) (a b c : ℕ) → AreCounts placement.rect.size a b c → ((other ≡ axis) × (a ≡ x) × (b ≡ y) × (c ≡ f) → ⊥) → left at_here other a b c ≡ pos 0
    other_pair other a b c at apart = by (has_next placement.rect.size other a b c) refl
      where
        kinds : (pair : IsPair placement.rect.size other a b c) (p q : Option At) → first a b c ≡ p → second other a b c ≡ q
            → part_if (at_here (seam_node places placement.rect.size other a b c)) (behind other a b c) ≡ pos 0
        kinds pair (Some p) (Some q) ep eq =
            ap (λ t. part_if t (behind other a b c)) (ne_eqb (seam_node places placement.rect.size other a b c) here
            (λ e. apart (net.nodes.seams_apart other axis a b c x y f (record { pair = pair; first = ap is_some ep; second = ap is_some eq }) seam e)))
        kinds pair (Some p) None ep eq =
            (λ k. part_if (at_here (seam_node places placement.rect.size other a b c)) (left_at_seam (ep k) (eq k) flows (begin other a b c)))
            ∙ part_none (at_here (seam_node places placement.rect.size other a b c))
        kinds pair None q ep eq =
            (λ k. part_if (at_here (seam_node places placement.rect.size other a b c)) (left_at_seam (ep k) (eq k) flows (begin other a b c)))
            ∙ part_none (at_here (seam_node places placement.rect.size other a b c))

        by : (more : Bool) → has_next placement.rect.size other a b c ≡ more → left at_here other a b c ≡ pos 0
        by false e = left_none at_here other a b c e
        by true e = let pair : IsPair placement.rect.size other a b c = record { counts = at; next = e } in at_pair other a b c pair ∙ kinds pair (first a b c) (second other a b c) refl refl

    cell_left : (left at_here X x y f +ℤ left at_here Y x y f) +ℤ left at_here F x y f ≡ pos 0
    cell_left =
        sym (box_single integers placement.rect.size x y f (λ x y f. (left at_here X x y f +ℤ left at_here Y x y f) +ℤ left at_here F x y f) seam.pair.counts.column seam.pair.counts.row seam.pair.counts.frame
        (λ a b c la lb lc other. none3 _ _ _ (elsewhere X a b c la lb lc other) (elsewhere Y a b c la lb lc other) (elsewhere F a b c la lb lc other)))
        ∙ all_left at_here ∙ flow.balance here (λ e. absurd (omega (arith, inner, e, net.source))) (λ e. absurd (omega (arith, inner, e, net.sink)))
      where
        none3 : (p q r : ℤ) → p ≡ pos 0 → q ≡ pos 0 → r ≡ pos 0 → (p +ℤ q) +ℤ r ≡ pos 0
        none3 p q r ep eq er = omega (arith, ints)

        elsewhere : (other : Axis) (a b c : ℕ) → a < placement.rect.size.w → b < placement.rect.size.h → c < placement.rect.size.f → ((a ≡ x) × (b ≡ y) × (c ≡ f) → ⊥) → left at_here other a b c ≡ pos 0
        elsewhere other a b c la lb lc apart = other_pair other a b c (record { column = la; row = lb; frame = lc }) (λ same. apart (same.1, same.2, same.3))

    -- what leaves the seam node along its pair is all that leaves it
    pub seam_balances : behind axis x y f ≡ pos 0
    seam_balances = own ∙ only axis refl ∙ cell_left
      where
        own : behind axis x y f ≡ left at_here axis x y f
        own = ap (λ b. part_if b (behind axis x y f)) (sym (eq-eqb here here refl)) ∙ sym (at_pair axis x y f seam.pair)

        other_axis : (a : Axis) → (a ≡ axis → ⊥) → left at_here a x y f ≡ pos 0
        other_axis a apart = other_pair a x y f seam.pair.counts (λ same. apart same.0)

        only : (a : Axis) → axis ≡ a → left at_here axis x y f ≡ (left at_here X x y f +ℤ left at_here Y x y f) +ℤ left at_here F x y f
        only X e = ap (λ a. left at_here a x y f) e ∙ one (left at_here X x y f) (left at_here Y x y f) (left at_here F x y f) (other_axis Y (λ o. let no : Y ≡ X = o ∙ e in absurd (cc))) (other_axis F (λ o. let no : F ≡ X = o ∙ e in absurd (cc)))
          where
            one : (p q r : ℤ) → q ≡ pos 0 → r ≡ pos 0 → p ≡ (p +ℤ q) +ℤ r
            one p q r eq er = omega (arith, ints)
        only Y e = ap (λ a. left at_here a x y f) e ∙ one (left at_here X x y f) (left at_here Y x y f) (left at_here F x y f) (other_axis X (λ o. let no : X ≡ Y = o ∙ e in absurd (cc))) (other_axis F (λ o. let no : F ≡ Y = o ∙ e in absurd (cc)))
          where
            one : (p q r : ℤ) → p ≡ pos 0 → r ≡ pos 0 → q ≡ (p +ℤ q) +ℤ r
            one p q r ep er = omega (arith, ints)
        only F e = ap (λ a. left at_here a x y f) e ∙ one (left at_here X x y f) (left at_here Y x y f) (left at_here F x y f) (other_axis X (λ o. let no : X ≡ F = o ∙ e in absurd (cc))) (other_axis Y (λ o. let no : Y ≡ F = o ∙ e in absurd (cc)))
          where
            one : (p q r : ℤ) → p ≡ pos 0 → q ≡ pos 0 → r ≡ (p +ℤ q) +ℤ r
            one p q r ep eq = omega (arith, ints)

  -- the pipes of a pair have fitting flows
  pipes_fit : (axis : Axis) (x y f : ℕ) → IsPair placement.rect.size axis x y f → AreFlowsAt (pipes axis x y f) flows (begin axis x y f)
  pipes_fit axis x y f pair k i e lt =
      let stands = subst (λ ps. StandsAt network.pipes ps (begin axis x y f)) (along_pair axis x y f pair)
      (subst (λ ps. StandsAt ps (pipes_along d m placement places axis x y f) (begin axis x y f)) (sym net.pipes) (pair_stands d m placement places axis x y f pair.counts)) in
      subst (λ p. FitsPipe p (pipe_flow flows i)) (ap (pipe_at network.pipes) (sym e) ∙ stands.same k no_pipe lt) (flow.fits i (omega (arith, stands.fits, e, lt)))

  nothing_behind : (axis : Axis) (x y f : ℕ) → IsPair placement.rect.size axis x y f → behind axis x y f ≡ pos 0
  nothing_behind axis x y f pair = by (first x y f) (second axis x y f) refl refl
    where
      by : (a b : Option At) → first x y f ≡ a → second axis x y f ≡ b → behind axis x y f ≡ pos 0
      by (Some a) (Some b) ea eb = seam_balances axis x y f (record { pair = pair; first = ap is_some ea; second = ap is_some eb })
      by (Some a) None ea eb = λ k. left_at_seam (ea k) (eb k) flows (begin axis x y f)
      by None b ea eb = λ k. left_at_seam (ea k) (eb k) flows (begin axis x y f)

  module _ (recorded : List Flow)
      (told : (axis : Axis) (x y f : ℕ) → IsPair placement.rect.size axis x y f
      → slice_index_or recorded (pair_number placement.rect.size axis x y f) no_flow ≡ flow_of (first x y f) (second axis x y f) flows (pipe_of placement places axis x y f)) where
    recorded_pair : (axis : Axis) (x y f : ℕ) → IsPair placement.rect.size axis x y f
        → recorded_at placement.rect.size recorded axis x y f ≡ flow_of (first x y f) (second axis x y f) flows (begin axis x y f)
    recorded_pair axis x y f pair =
        ap (λ b. if b then slice_index_or recorded (pair_number placement.rect.size axis x y f) no_flow else no_flow) pair.next
        ∙ told axis x y f pair
        ∙ ap (flow_of (first x y f) (second axis x y f) flows) (net.first.first axis x y f pair ∙ ap (λ ps. first_or_none ps (begin axis x y f)) (along_pair axis x y f pair))
        ∙ flow_of_first d axis (first x y f) (second axis x y f) _ _ _ _ _ flows (begin axis x y f)

    -- the flow of each pair is within its bounds
    pub all_bounded : (axis : Axis) (x y f : ℕ) → IsPair placement.rect.size axis x y f → IsBoundedAt d m placement recorded axis x y f
    all_bounded axis x y f pair =
        subst (IsBoundedOn d m placement axis (cell_in placement.rect x y f) (plus (cell_in placement.rect x y f) (unit_step axis))) (sym (recorded_pair axis x y f pair))
        (pair_bounded d axis (first x y f) (second axis x y f) (new_source placement (cell_in placement.rect x y f)) (new_source placement (plus (cell_in placement.rect x y f) (unit_step axis)))
        (cell_node places placement.rect.size x y f) (next_node places placement.rect.size axis x y f) (seam_node places placement.rect.size axis x y f) flows (begin axis x y f)
        (pipes_fit axis x y f pair) (nothing_behind axis x y f pair))

    -- what leaves a set of cells' nodes is what leaves its cells
    module _ (side : ℕ → Bool) (sink : side 1 ≡ false) (seams : (axis : Axis) (x y f : ℕ) → HasSeam m placement axis x y f → side (seam_node places placement.rect.size axis x y f) ≡ false) where
      abbrev pub selected : At → Bool
      selected = selects placement places side

      same_part : (b : Bool) (z : ℤ) → part_if b z ≡ part_where b z
      same_part true z = refl
      same_part false z = refl

      pair_gives : (axis : Axis) (x y f : ℕ) → AreCounts placement.rect.size x y f → left side axis x y f ≡ given selected placement.rect recorded axis x y f
      pair_gives axis x y f at = by (has_next placement.rect.size axis x y f) refl
        where
          by : (more : Bool) → has_next placement.rect.size axis x y f ≡ more → left side axis x y f ≡ given selected placement.rect recorded axis x y f
          by false e =
              left_none side axis x y f e
              ∙ none (selected (cell_in placement.rect x y f)) (selected (plus (cell_in placement.rect x y f) (unit_step axis)))
              ∙ ap (λ flow. part_where (selected (cell_in placement.rect x y f)) flow.x -ℤ part_where (selected (plus (cell_in placement.rect x y f) (unit_step axis))) flow.y)
              (sym (no_pair placement.rect.size recorded axis x y f e))
            where
              none : (b c : Bool) → pos 0 ≡ part_where b (pos 0) -ℤ part_where c (pos 0)
              none true true = refl
              none true false = refl
              none false true = refl
              none false false = refl
          by true e =
              let pair : IsPair placement.rect.size axis x y f = record { counts = at; next = e } in
              left_pair side axis x y f pair
              ∙ pair_leaves side d axis _ _ _ flows sink (first x y f) (second axis x y f) _ _ (begin axis x y f) (λ both. seams axis x y f (has_seam axis x y f pair both))
              ∙ (λ k. part_if (own k) (flow_is k).x -ℤ part_if (next k) (flow_is k).y)
              ∙ (λ k. same_part (selected (cell_in placement.rect x y f)) (recorded_at placement.rect.size recorded axis x y f).x k
              -ℤ same_part (selected (plus (cell_in placement.rect x y f) (unit_step axis))) (recorded_at placement.rect.size recorded axis x y f).y k)
            where
              own : side (cell_node places placement.rect.size x y f) ≡ selected (cell_in placement.rect x y f)
              own = sym (selects_cell placement places side x y f at)

              next : side (next_node places placement.rect.size axis x y f) ≡ selected (plus (cell_in placement.rect x y f) (unit_step axis))
              next = sym (selects_next placement places side axis x y f (record { counts = at; next = e }))

              flow_is : flow_of (first x y f) (second axis x y f) flows (begin axis x y f) ≡ recorded_at placement.rect.size recorded axis x y f
              flow_is = sym (recorded_pair axis x y f (record { counts = at; next = e }))

      -- what leaves a cell, where its node is in the set
      abbrev pub part : ℕ → ℕ → ℕ → ℤ
      part x y f = part_where (selected (cell_in placement.rect x y f)) (leaving placement.rect.size recorded x y f)

      pub cells_leave : signed_sum_box placement.rect.size part ≡ net_leaving side network.pipes flows
      cells_leave =
          sym (given_is_left selected placement.rect recorded)
          ∙ box_equal integers placement.rect.size _ _ (λ x y f lx ly lf. let at : AreCounts placement.rect.size x y f = record { column = lx; row = ly; frame = lf } in
          λ k. (sym (pair_gives X x y f at) k +ℤ sym (pair_gives Y x y f at) k) +ℤ sym (pair_gives F x y f at) k)
          ∙ all_left side

    module _ (x y f : ℕ) (free : IsFreeAt m placement held x y f) where
      abbrev own : ℕ
      own = cell_node places placement.rect.size x y f

      abbrev at_own : ℕ → Bool
      at_own n = n == own

      own_inner : 2 ≤ own
      own_inner = (net.nodes.free x y f free).above

      own_sink : at_own 1 ≡ false
      own_sink = ne_eqb 1 own (λ e. absurd (omega (arith, own_inner, e)))

      own_seams : (axis : Axis) (a b c : ℕ) → HasSeam m placement axis a b c → at_own (seam_node places placement.rect.size axis a b c) ≡ false
      own_seams axis a b c seam = ne_eqb (seam_node places placement.rect.size axis a b c) own (λ e. seam_alone m placement held places network.nodes net.nodes axis x y f a b c free.counts seam (sym e))

      own_is : selects placement places at_own (cell_in placement.rect x y f) ≡ true
      own_is = selects_cell placement places at_own x y f free.counts ∙ eq-eqb own own refl

      out : (a b c : ℕ) → AreCounts placement.rect.size a b c → ((a ≡ x) × (b ≡ y) × (c ≡ f) → ⊥) → part at_own own_sink own_seams a b c ≡ pos 0
      out a b c at other =
          ap (λ t. part_where t (leaving placement.rect.size recorded a b c)) (selects_cell placement places at_own a b c at
          ∙ ne_eqb (cell_node places placement.rect.size a b c) own (cell_alone m placement held places network.nodes net.nodes a b c x y f at free other))

      -- a free cell is left by nothing
      pub free_balances : leaving placement.rect.size recorded x y f ≡ pos 0
      free_balances =
          ap (λ b. part_where b (leaving placement.rect.size recorded x y f)) (sym own_is)
          ∙ sym (box_single integers placement.rect.size x y f (part at_own own_sink own_seams) free.counts.column free.counts.row free.counts.frame
          (λ a b c la lb lc other. out a b c (record { column = la; row = lb; frame = lc }) other))
          ∙ cells_leave at_own own_sink own_seams
          ∙ flow.balance own (λ e. absurd (omega (arith, own_inner, e, net.source))) (λ e. absurd (omega (arith, own_inner, e, net.sink)))

    -- what leaves the cells that have to stay old is the value of the flow
    abbrev at_source : ℕ → Bool
    at_source n = n == 0

    pub seams_inside : (axis : Axis) (x y f : ℕ) → HasSeam m placement axis x y f → at_source (seam_node places placement.rect.size axis x y f) ≡ false
    seams_inside axis x y f seam = ne_eqb (seam_node places placement.rect.size axis x y f) 0 (λ e. absurd (omega (arith, (net.nodes.seam axis x y f seam).above, e)))

    abbrev pub source_part : ℕ → ℕ → ℕ → ℤ
    source_part = part at_source refl seams_inside

    pub source_parts : (x y f : ℕ) → AreCounts placement.rect.size x y f
        → IsPartWhere (StaysOld m placement held (cell_in placement.rect x y f)) (leaving placement.rect.size recorded x y f) (source_part x y f)
    source_parts x y f at = record {
      here = λ old. told_by true (selects_cell placement places at_source x y f at ∙ eq-eqb (cell_node places placement.rect.size x y f) 0 (net.nodes.old x y f at old));
      elsewhere = λ not_old. told_by false (selects_cell placement places at_source x y f at ∙ ne_eqb (cell_node places placement.rect.size x y f) 0 (none_free m placement held places network.nodes net.nodes x y f at not_old));
    }
      where
        told_by : (b : Bool) → selects placement places at_source (cell_in placement.rect x y f) ≡ b → source_part x y f ≡ part_where b (leaving placement.rect.size recorded x y f)
        told_by b e = ap (λ t. part_where t (leaving placement.rect.size recorded x y f)) e

    pub source_leaves : signed_sum_box placement.rect.size source_part ≡ flow_value network flows
    source_leaves = cells_leave at_source refl seams_inside ∙ ap (λ n. net_leaving (λ k. k == n) network.pipes flows) (sym net.source)
