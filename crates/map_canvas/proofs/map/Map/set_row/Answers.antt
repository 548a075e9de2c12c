use Rattle.std.proofs.Common.{◌≡◌, ◌≤◌, ◌+◌, ap, sym, ◌∙◌, subst, arith, length}
use Rattle.std.specs.Vec.{with_items}
use Rattle.std.specs.Prelude.{List, Option, Some, pos, ◌+ℤ◌, ◌≤ℤ◌}
use Rattle.std.proofs.lemmas.List.{with_items_is}
use Rattle.cells.specs.declared.place.At.{At}
use Rattle.cells.specs.Places.{cell_count, index_in}
use Rattle.cells.specs.Cells.{put_run}
use Rattle.cells.proofs.Raster.{run_below}
use Rattle.map_canvas.specs.Maps.{IsMap, SourceMap}
use Rattle.map_canvas.specs.Runs.{source_run, with_run}
use Rattle.map_canvas.proofs.Runs.{with_run_is}
use Rattle.map_canvas.proofs.map.Map.set_row.Goals as goal

pub name_run-requires-clause-room : goal.name_run-requires-clause-room
name_run-requires-clause-room c =
    let m : SourceMap = record { size = c.self.inside.size; sources = c.self.inside.sources.items } in
    let at : index_in m.size c.args.p ≡ Some c.unwrap-i.result = sym c.index_of.ensures.index ∙ c.unwrap-i.ensures in
    let room = subst (λ (s : SourceMap). (c.args.p.x +ℤ pos c.args.w) ≤ℤ pos s.size.w) (sym c.self.view_is) c.requires.room in
    let fits : c.unwrap-i.result + c.args.w ≤ cell_count m.size = run_below m.size c.args.p c.unwrap-i.result c.args.w at room in
    subst (λ sources. c.unwrap-i.result + c.args.w ≤ length sources) (sym c.deref_mut.ensures.value) (omega (arith, fits, c.self.invariant.count))

-- the sources that the call leaves
named : (c : goal.After-self-1) → c.name_run.new.sources ≡ put_run c.self.inside.sources.items (index_in c.self.inside.size c.args.p) (source_run c.args.from c.args.w)
named c =
    let run = source_run c.args.from c.args.w in
    c.name_run.ensures ∙ ap (λ sources. put_run sources (Some c.unwrap-i.result) run) c.deref_mut.ensures.value
    ∙ ap (λ o. put_run c.self.inside.sources.items o run) (sym c.unwrap-i.ensures ∙ c.index_of.ensures.index)

items : (c : goal.After-self-1) → (with_items c.self.inside.sources c.name_run.new.sources).items ≡ put_run c.self.inside.sources.items (index_in c.self.inside.size c.args.p) (source_run c.args.from c.args.w)
items c = with_items_is c.self.inside.sources c.name_run.new.sources (omega arith) ∙ named c

pub invariant_of-self : goal.invariant_of-self
invariant_of-self c =
    let m : SourceMap = record { size = c.self.inside.size; sources = c.self.inside.sources.items } in
    let at : index_in m.size c.args.p ≡ Some c.unwrap-i.result = sym c.index_of.ensures.index ∙ c.unwrap-i.ensures in
    let room = subst (λ (s : SourceMap). (c.args.p.x +ℤ pos c.args.w) ≤ℤ pos s.size.w) (sym c.self.view_is) c.requires.room in
    let fits : c.unwrap-i.result + c.args.w ≤ cell_count m.size = run_below m.size c.args.p c.unwrap-i.result c.args.w at room in
    subst (λ (sources : List (Option At)). IsMap (record { size = m.size; sources = sources })) (sym (items c))
    (with_run_is m c.args.p c.args.from c.args.w c.unwrap-i.result c.self.invariant at fits c.requires.sources)

pub returns : goal.returns
returns c =
    let map : List (Option At) → SourceMap = λ sources. record { size = c.self.inside.size; sources = sources } in
    ap map (items c) ∙ ap (λ m. with_run m c.args.p c.args.from c.args.w) c.self.view_is
