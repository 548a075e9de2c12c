use Rattle.std.proofs.Common.{◌≡◌, ◌≤◌, ◌+◌, ◌*◌, ◌∷◌, ◌++◌, [], ℕ, rules, ap, sym, ◌∙◌, arith, length, subst, Fits, w64, append-nil}
use Rattle.std.proofs.lemmas.List.{get_or_default}
use Rattle.std.specs.Prelude.{None, slice_index, slice_index_or}
use Rattle.cells.proofs.Raster.{index_below}
use Rattle.cells.specs.declared.place.Size.{Size}
use Rattle.cells.specs.Places.{IsSmall}
use Rattle.boxes.proofs.PairNumbers.{number_below as pair_number_below}
use Rattle.boxes.specs.Pairs.{IsPair}
use Rattle.boxes.specs.Raster.{stride}
use Rattle.map_canvas.specs.Maps.{source_at}
use Rattle.cut_graph.proofs.MapIndices.{second_index}
use Rattle.graph_place.specs.Records.{flow_of, next_source}
use Rattle.graph_place.proofs.Recording.{along_none, along_pair, number_below, number_small}
use Rattle.graph_place.proofs.record.add_pair.Goals as goal
use Rattle.graph_place.proofs.record.add_pair.Goals.{After-len}

pair : (c : After-len) → IsPair c.args.placement.now.rect.size c.args.axis c.args.at.x c.args.at.y c.args.at.f
pair c = record { counts = c.requires.counts; next = sym c.has_next.ensures ∙ c.if-not-has_next.false }

pub returns-then-not-has_next-clause-flows : goal.returns-then-not-has_next-clause-flows
returns-then-not-has_next-clause-flows c =
    let at = c.args.at in
    let was = c.args.flows.now.items in
    let none = along_none c.args.map.now c.args.placement.now c.args.places.now c.args.solved.now.flow c.args.axis at.x at.y at.f (sym c.has_next.ensures ∙ c.if-not-has_next.true) in
    sym (ap (λ more. was ++ more) none ∙ append-nil was)

pub stride-requires : goal.stride-requires
stride-requires c = subst IsSmall (sym c.size.ensures.size) c.size.ensures.map.small

-- the index of the next cell in the map
pub overflow_add-k : goal.overflow_add-k
overflow_add-k c =
    let m = c.args.map.now in
    let at = c.args.at in
    let is : IsPair c.args.placement.now.rect.size c.args.axis at.x at.y at.f = record { counts = c.requires.counts; next = sym c.has_next.ensures ∙ c.if-not-has_next.false } in
    let index = second_index m.size c.args.placement.now.rect c.args.axis at.x at.y at.f c.args.k c.requires.inside is c.requires.index in
    let step : c.stride.result ≡ stride m.size c.args.axis = c.stride.ensures ∙ ap (λ (s : Size). stride s c.args.axis) c.size.ensures.size in
    omega (arith, step, index_below m.size _ _ index, c.size.ensures.map.small.cells)

fits_eight : (n : ℕ) → n ≤ 100000000 → Fits w64 (n * 8)
fits_eight n le = search rules

pub offset_bounds-sources-k : goal.offset_bounds-sources-k
offset_bounds-sources-k c =
    let m = c.args.map.now in
    let at = c.args.at in
    let is : IsPair c.args.placement.now.rect.size c.args.axis at.x at.y at.f = record { counts = c.requires.counts; next = sym c.has_next.ensures ∙ c.if-not-has_next.false } in
    let index = second_index m.size c.args.placement.now.rect c.args.axis at.x at.y at.f c.args.k c.requires.inside is c.requires.index in
    let step : c.stride.result ≡ stride m.size c.args.axis = c.stride.ensures ∙ ap (λ (s : Size). stride s c.args.axis) c.size.ensures.size in
    fits_eight (c.args.k + c.stride.result) (omega (arith, step, index_below m.size _ _ index, c.size.ensures.map.small.cells))

pub bounds-sources-k : goal.bounds-sources-k
bounds-sources-k c =
    let m = c.args.map.now in
    let at = c.args.at in
    let is : IsPair c.args.placement.now.rect.size c.args.axis at.x at.y at.f = record { counts = c.requires.counts; next = sym c.has_next.ensures ∙ c.if-not-has_next.false } in
    let index = second_index m.size c.args.placement.now.rect c.args.axis at.x at.y at.f c.args.k c.requires.inside is c.requires.index in
    let step : c.stride.result ≡ stride m.size c.args.axis = c.stride.ensures ∙ ap (λ (s : Size). stride s c.args.axis) c.size.ensures.size in
    omega (arith, step, index_below m.size _ _ index, c.size.ensures.map.count, ap length c.sources.ensures)

-- the source of the next cell
next : (c : After-len) → c.source-next.result ≡ next_source c.args.map.now c.args.placement.now c.args.axis c.args.at.x c.args.at.y c.args.at.f
next c =
    let m = c.args.map.now in
    let at = c.args.at in
    let k = c.args.k in
    let step : c.stride.result ≡ stride m.size c.args.axis = c.stride.ensures ∙ ap (λ (s : Size). stride s c.args.axis) c.size.ensures.size in
    let index = second_index m.size c.args.placement.now.rect c.args.axis at.x at.y at.f k c.requires.inside (pair c) c.requires.index in
    let entry = c.index-sources-k.result in
    c.source-next.ensures ∙ c.index-sources-k.is ∙ (λ i. slice_index_or (c.sources.ensures i) (k + step i) entry)
    ∙ get_or_default m.sources (k + stride m.size c.args.axis) entry None (omega (arith, index_below m.size _ _ index, c.size.ensures.map.count)) ∙ sym (ap (source_at m.sources) index)

fits_four : (n : ℕ) → n ≤ 100663296 → Fits w64 (n * 4)
fits_four n le = search rules

pub offset_bounds-as_slice-len : goal.offset_bounds-as_slice-len
offset_bounds-as_slice-len c =
    let at = c.args.at in
    rw (c.len.ensures, c.requires.number)
    (fits_four _ (number_small c.args.map.now c.args.placement.now c.args.places.now c.args.solved.now c.requires.solved c.args.axis at.x at.y at.f (pair c) c.requires.small))

pub bounds-as_slice-len : goal.bounds-as_slice-len
bounds-as_slice-len c =
    let at = c.args.at in
    rw (c.len.ensures, c.requires.number, c.as_slice.ensures)
    (number_below c.args.map.now c.args.placement.now c.args.places.now c.args.solved.now c.requires.solved c.args.axis at.x at.y at.f
    (pair (goal.at.bounds-as_slice-len c).After-len))

pub flow_of-requires : goal.flow_of-requires
flow_of-requires c =
    let at = c.args.at in
    let here = (goal.at.flow_of-requires c).After-len in
    rw (c.as_slice-2.ensures, c.as_slice.ensures, c.len.ensures, c.requires.number, c.requires.source, next here) (c.requires.solved.flows c.args.axis at.x at.y at.f (pair here))

pub push_reserved-requires : goal.push_reserved-requires
push_reserved-requires c =
    let at = c.args.at in
    let here = (goal.at.push_reserved-requires c).After-len in
    omega (arith, pair_number_below c.args.placement.now.rect.size c.args.axis at.x at.y at.f (pair here), c.requires.number, c.requires.room)

pub returns-clause-flows : goal.returns-clause-flows
returns-clause-flows c =
    let m = c.args.map.now in
    let placement = c.args.placement.now in
    let places = c.args.places.now in
    let flows = c.args.solved.now.flow in
    let axis = c.args.axis in
    let at = c.args.at in
    let was = c.args.flows.now.items in
    let here = (goal.at.returns-clause-flows c).After-len in
    c.push_reserved.ensures.items
    ∙ ap (λ flow. was ++ flow ∷ [])
    (c.flow_of.ensures ∙ (λ k. flow_of (c.requires.source k) (next here k) (c.as_slice-2.ensures k) (slice_index (c.as_slice.ensures k) ((c.len.ensures ∙ c.requires.number) k))))
    ∙ ap (λ more. was ++ more) (sym (along_pair m placement places flows axis at.x at.y at.f (pair here).next))

pub returns-clause-room : goal.returns-clause-room
returns-clause-room c = c.push_reserved.ensures.capacity ∙ c.requires.room
