use Rattle.std.proofs.Common.{◌≡◌, ◌≤◌, ◌*◌, ◌++◌, ℕ, ap, sym, ◌∙◌, subst, arith, rules, length, append_assoc, length-append, Fits, w64}
use Rattle.std.proofs.lemmas.List.{get_or_default}
use Rattle.std.specs.Prelude.{None, Some, IsSome, slice_index_or}
use Rattle.cells.specs.declared.place.Axis.TheVariants.{X, Y, F}
use Rattle.cells.specs.Boxes.{cell_in}
use Rattle.cells.specs.Places.{IsSmall, index_in}
use Rattle.cells.proofs.Raster.{index_below}
use Rattle.costs.proofs.Near.{in_largest}
use Rattle.map_canvas.specs.Maps.{source_at}
use Rattle.cut_graph.proofs.MapIndices.{cell_in_map}
use Rattle.graph_place.specs.Parts.{flow_along}
use Rattle.graph_place.proofs.Recording.{length-along}
use Rattle.graph_place.proofs.record.add_pairs.Goals as goal
use Rattle.graph_place.proofs.record.add_pairs.Goals.{After-unwrap-k}

pub cell-requires-clause-inside : goal.cell-requires-clause-inside
cell-requires-clause-inside c =
    let rect = c.args.placement.now.rect in
    in_largest c.args.map.now.size rect.corner rect.size c.size-size.ensures.map.small c.requires.inside

pub index_of-requires : goal.index_of-requires
index_of-requires c = subst IsSmall (sym c.size-size.ensures.size) c.size-size.ensures.map.small

pub unwrap-k-requires : goal.unwrap-k-requires
unwrap-k-requires c =
    let at = c.args.at in
    subst IsSome (sym (c.index_of.ensures.index ∙ (λ k. index_in (c.size-size.ensures.size k) (c.cell.ensures k))))
    (cell_in_map c.args.map.now.size c.args.placement.now.rect at.x at.y at.f c.requires.inside c.requires.counts)

-- the index of the cell in the map
index : (c : After-unwrap-k) → index_in c.args.map.now.size (cell_in c.args.placement.now.rect c.args.at.x c.args.at.y c.args.at.f) ≡ Some c.unwrap-k.result
index c = sym (c.index_of.ensures.index ∙ (λ k. index_in (c.size-size.ensures.size k) (c.cell.ensures k))) ∙ c.unwrap-k.ensures

fits_eight : (n : ℕ) → n ≤ 100000000 → Fits w64 (n * 8)
fits_eight n le = search rules

pub offset_bounds-sources-k : goal.offset_bounds-sources-k
offset_bounds-sources-k c =
    fits_eight c.unwrap-k.result (omega (arith, index_below c.args.map.now.size _ _ (index (goal.at.offset_bounds-sources-k c).After-unwrap-k), c.size-size.ensures.map.small.cells))

pub bounds-sources-k : goal.bounds-sources-k
bounds-sources-k c = omega (arith, index_below c.args.map.now.size _ _ (index (goal.at.bounds-sources-k c).After-unwrap-k), c.size-size.ensures.map.count, ap length c.sources.ensures)

pub add_pair-requires-clause-index : goal.add_pair-requires-clause-index
add_pair-requires-clause-index c = index (goal.at.add_pair-requires-clause-index c).After-unwrap-k

pub add_pair-requires-clause-source : goal.add_pair-requires-clause-source
add_pair-requires-clause-source c =
    let m = c.args.map.now in
    let k = c.unwrap-k.result in
    let entry = c.index-sources-k.result in
    let here = index (goal.at.add_pair-requires-clause-source c).After-unwrap-k in
    c.source-source.ensures ∙ c.index-sources-k.is ∙ ap (λ list. slice_index_or list k entry) c.sources.ensures
    ∙ get_or_default m.sources k entry None (omega (arith, index_below m.size _ _ here, c.size-size.ensures.map.count)) ∙ sym (ap (source_at m.sources) here)

pub add_pair-requires-2-clause-number : goal.add_pair-requires-2-clause-number
add_pair-requires-2-clause-number c =
    let at = c.args.at in
    let was = c.args.flows.now in
    let now = c.add_pair.new.flows in
    let flows = c.args.solved.now.flow in
    omega (
      arith,
      was.ok,
      now.ok,
      ap length c.add_pair.ensures.flows,
      length-append was.items (flow_along c.args.map.now c.args.placement.now c.args.places.now flows X at.x at.y at.f),
      length-along c.args.map.now c.args.placement.now c.args.places.now flows X at.x at.y at.f,
      c.requires.number,
    )

pub add_pair-requires-3-clause-number : goal.add_pair-requires-3-clause-number
add_pair-requires-3-clause-number c =
    let at = c.args.at in
    let was = c.args.flows.now in
    let then = c.add_pair.new.flows in
    let now = c.add_pair-2.new.flows in
    let flows = c.args.solved.now.flow in
    omega (
      arith,
      was.ok,
      now.ok,
      ap length c.add_pair.ensures.flows,
      ap length c.add_pair-2.ensures.flows,
      length-append was.items (flow_along c.args.map.now c.args.placement.now c.args.places.now flows X at.x at.y at.f),
      length-append then.items (flow_along c.args.map.now c.args.placement.now c.args.places.now flows Y at.x at.y at.f),
      length-along c.args.map.now c.args.placement.now c.args.places.now flows X at.x at.y at.f,
      length-along c.args.map.now c.args.placement.now c.args.places.now flows Y at.x at.y at.f,
      c.requires.number,
    )

pub returns-clause-flows : goal.returns-clause-flows
returns-clause-flows c =
    let at = c.args.at in
    let was = c.args.flows.now.items in
    let along = flow_along c.args.map.now c.args.placement.now c.args.places.now c.args.solved.now.flow in
    let x = along X at.x at.y at.f in
    let y = along Y at.x at.y at.f in
    let f = along F at.x at.y at.f in
    c.add_pair-3.ensures.flows ∙ ap (λ fs. fs ++ f) (c.add_pair-2.ensures.flows ∙ ap (λ fs. fs ++ y) c.add_pair.ensures.flows) ∙ append_assoc (was ++ x) y f ∙ append_assoc was x (y ++ f)
