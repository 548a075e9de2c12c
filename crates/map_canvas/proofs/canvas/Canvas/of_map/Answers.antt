use Rattle.std.proofs.Common.{arith}
use Rattle.std.proofs.lemmas.Grind.{common_steps}
use Rattle.std.proofs.Common.{◌≡◌, ◌*◌, length, map, ap, sym, ◌∙◌, subst}
use Rattle.std.specs.Prelude.{is_none}
use Rattle.std.specs.List.{concat, position_or_len}
use Rattle.cells.specs.Cells.{Cells, volume_of}
use Rattle.cells.specs.Places.{cell_count}
use Rattle.map_canvas.specs.Canvases.{CanvasState, IsCanvas, StandsOver, filled_marks, mark_of}
use Rattle.map_canvas.specs.Shown.{HaveCells, shown_cell}
use Rattle.map_canvas.proofs.FromMaps.{have_cells, map_is_canvas, map_stands, mark_bytes_count, marks_of_bytes, picture, picture_of_bytes, shown_bytes_count}
use Rattle.map_canvas.proofs.canvas.Canvas.of_map.Goals as goal

pub shown_bytes-requires : goal.shown_bytes-requires
shown_bytes-requires c = subst (HaveCells c.args.sample.now) (sym c.sources.ensures) (have_cells c.args.map c.args.sample.now c.size-size.ensures.map c.samples-k.ensures.volume c.requires)

pub from_bytes-requires-clause-whole : goal.from_bytes-requires-clause-whole
from_bytes-requires-clause-whole c =
    let m = c.args.map in
    let sample = c.args.sample.now in
    ap length (c.in_ok-shown.ensures {u = tt}) ∙ ap (λ sources. length (concat (map (shown_cell sample) sources))) c.sources.ensures
    ∙ shown_bytes_count m sample c.size-size.ensures.map c.samples-k.ensures.volume c.requires
    ∙ (λ i. sym c.samples-k.ensures.samples i * cell_count (sym c.size-size.ensures.size i))

pub from_bytes-requires-2-clause-whole : goal.from_bytes-requires-2-clause-whole
from_bytes-requires-2-clause-whole c =
    let k = c.samples-k.result in
    ap length (c.in_ok-marks.ensures {u = tt}) ∙ ap (λ sources. length (concat (map (mark_of k) sources))) c.sources-2.ensures
    ∙ mark_bytes_count c.args.map c.size-size.ensures.map k ∙ ap (λ size. k * cell_count size) (sym c.size-size.ensures.size)

pub invariant_of-result : goal.invariant_of-result
invariant_of-result c =
    let m = c.args.map in
    let sample = c.args.sample.now in
    let k = c.samples-k.result in
    let is = c.size-size.ensures.map in
    let volume = c.samples-k.ensures.volume in
    let shown : c.from_bytes.result ≡ picture m sample is volume c.requires =
    c.from_bytes.ensures.volume ∙ ap (volume_of c.size-size.result k) (c.in_ok-shown.ensures {u = tt} ∙ ap (λ sources. concat (map (shown_cell sample) sources)) c.sources.ensures)
    ∙ (λ i. volume_of (c.size-size.ensures.size i) (c.samples-k.ensures.samples i) (concat (map (shown_cell sample) m.sources))) ∙ picture_of_bytes m sample is volume c.requires in
    let marks : c.from_bytes-2.result ≡ filled_marks m k =
    c.from_bytes-2.ensures.volume ∙ ap (volume_of c.size-size.result k) (c.in_ok-marks.ensures {u = tt} ∙ ap (λ sources. concat (map (mark_of k) sources)) c.sources-2.ensures)
    ∙ ap (λ size. volume_of size k (concat (map (mark_of k) m.sources))) c.size-size.ensures.size ∙ marks_of_bytes m is k in
    let canvas : ◌≡◌ {A = CanvasState} (record { map = m; picture = c.from_bytes.result }) (record { map = m; picture = picture m sample is volume c.requires }) = λ i. record { map = m; picture = shown i } in
    (subst IsCanvas (sym canvas) (map_is_canvas m sample is volume c.requires), c.filled_from-reached.ensures ∙ ap (position_or_len is_none) c.sources-3.ensures, marks ∙ ap (filled_marks m) (c.samples-k.ensures.samples ∙ sym (ap (λ (v : Cells). v.k) shown)))

pub returns-clause-canvas : goal.returns-clause-canvas
returns-clause-canvas c = (invariant_of-result c).0

pub returns-clause-stands : goal.returns-clause-stands
returns-clause-stands c =
    let m = c.args.map in
    let sample = c.args.sample.now in
    let is = c.size-size.ensures.map in
    let volume = c.samples-k.ensures.volume in
    let shown : c.from_bytes.result ≡ picture m sample is volume c.requires =
    c.from_bytes.ensures.volume ∙ ap (volume_of c.size-size.result c.samples-k.result) (c.in_ok-shown.ensures {u = tt} ∙ ap (λ sources. concat (map (shown_cell sample) sources)) c.sources.ensures)
    ∙ (λ i. volume_of (c.size-size.ensures.size i) (c.samples-k.ensures.samples i) (concat (map (shown_cell sample) m.sources))) ∙ picture_of_bytes m sample is volume c.requires in
    subst (λ v. StandsOver (record { map = m; picture = v }) sample) (sym shown) (map_stands m sample is volume c.requires)

pub from_bytes-requires-clause-small : goal.from_bytes-requires-clause-small
from_bytes-requires-clause-small c = grind (arith, common_steps)

pub from_bytes-requires-2-clause-small : goal.from_bytes-requires-2-clause-small
from_bytes-requires-2-clause-small c = grind (arith, common_steps)

pub overflow_mul-n : goal.overflow_mul-n
overflow_mul-n c = grind (arith, common_steps)

pub cells-requires : goal.cells-requires
cells-requires c = grind (arith, common_steps)

pub same-map : goal.same-map
same-map c = grind (arith, common_steps)
