use Rattle.std.proofs.Common.{◌≡◌, ◌≤◌, ◌*◌, ℕ, ◌∙◌, refl, sym, ap, length, subst, arith, rules, Fits, w64}
use Rattle.std.proofs.lemmas.List.{get_or_default}
use Rattle.std.proofs.lemmas.List.Elements.{All-get_or}
use Rattle.std.specs.Prelude.{None, IfSome, slice_index_or}
use Rattle.cells.specs.Places.{SumFits, plus}
use Rattle.cells.proofs.Raster.{index_below}
use Rattle.map_canvas.specs.Maps.{IsSource, map_at, source_at}
use Rattle.cut_graph.proofs.PlanCells.{cell_fits}
use Rattle.cut_graph.proofs.plan.Plan.cell.Goals as goal

fits_eight : (n : ℕ) → n ≤ 100000000 → Fits w64 (n * 8)
fits_eight n le = search rules

pub offset_bounds-sources-k : goal.offset_bounds-sources-k
offset_bounds-sources-k c =
    let m = c.args.self.now.map.now in
    fits_eight c.args.k (omega (arith, index_below m.size c.args.p c.args.k c.requires.named, c.requires.plan.over.small.cells))

pub bounds-sources-k : goal.bounds-sources-k
bounds-sources-k c =
    let m = c.args.self.now.map.now in
    omega (arith, index_below m.size c.args.p c.args.k c.requires.named, c.requires.plan.over.count, ap length c.sources.ensures)

pub minus-requires : goal.minus-requires
minus-requires c = (cell_fits c.args.self.now c.args.p c.requires.plan c.requires.inside).difference

pub plus-requires : goal.plus-requires
plus-requires c = subst (SumFits c.args.self.now.placement.from) (sym c.minus.ensures) (cell_fits c.args.self.now c.args.p c.requires.plan c.requires.inside).sum

pub returns-clause-cell : goal.returns-clause-cell
returns-clause-cell c =
    let m = c.args.self.now.map.now in
    let k = c.args.k in
    let below = index_below m.size c.args.p k c.requires.named in
    let named : map_at m c.args.p ≡ slice_index_or m.sources k None = ap (source_at m.sources) c.requires.named in
    record {
      source = c.source.ensures ∙ c.index-sources-k.is ∙ ap (λ list. slice_index_or list k c.index-sources-k.result) c.sources.ensures
          ∙ get_or_default m.sources k c.index-sources-k.result None (omega (arith, below, c.requires.plan.over.count)) ∙ sym named;
      new = c.plus.ensures ∙ ap (plus c.args.self.now.placement.from) c.minus.ensures;
      own = refl;
    }

pub returns-clause-sources : goal.returns-clause-sources
returns-clause-sources c =
    let map = c.requires.plan.over in
    let m = c.args.self.now.map.now in
    let k = c.args.k in
    let below = index_below m.size c.args.p k c.requires.named in
    let entry = c.index-sources-k.result in
    record {
      source = subst (λ source. IfSome source IsSource) (sym (c.source.ensures ∙ c.index-sources-k.is ∙ ap (λ list. slice_index_or list k entry) c.sources.ensures))
          (All-get_or (λ source. IfSome source IsSource) m.sources k entry (omega (arith, below, map.count)) map.sources);
      new = subst IsSource (sym (c.plus.ensures ∙ ap (plus c.args.self.now.placement.from) c.minus.ensures)) (cell_fits c.args.self.now c.args.p c.requires.plan c.requires.inside).source;
    }
