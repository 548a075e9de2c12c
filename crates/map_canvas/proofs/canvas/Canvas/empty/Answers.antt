use Rattle.std.proofs.Common.{◌≡◌, ◌∙◌, ap, sym, subst}
use Rattle.cells.specs.Cells.{Cells, blank}
use Rattle.map_canvas.specs.Maps.{SourceMap, empty_map}
use Rattle.map_canvas.specs.Canvases.{CanvasState, IsCanvas, IsFilledPrefix, StandsOver, empty_canvas, filled_marks}
use Rattle.map_canvas.proofs.EmptyAndFull.{empty_stands}
use Rattle.map_canvas.proofs.Marks.{empty_front, empty_is_canvas, marks_empty}
use Rattle.map_canvas.proofs.canvas.Canvas.empty.Goals as goal

pub invariant_of-result : goal.invariant_of-result
invariant_of-result c =
    let size = c.args.size in
    let k = c.args.k in
    let marks : c.in_ok-marks.marks ≡ filled_marks c.in_ok-map.map c.in_ok-picture.picture.k
    = c.in_ok-marks.ensures {u = tt} ∙ sym (marks_empty size k) ∙ ap (λ (m : SourceMap). filled_marks m k) (sym (c.in_ok-map.ensures {u = tt}))
    ∙ ap (λ (v : Cells). filled_marks c.in_ok-map.map v.k) (sym (c.in_ok-picture.ensures {u = tt})) in
    let canvas : ◌≡◌ {A = CanvasState} (record { map = c.in_ok-map.map; picture = c.in_ok-picture.picture }) (record { map = empty_map size; picture = blank size k })
    = λ i. record { map = c.in_ok-map.ensures {u = tt} i; picture = c.in_ok-picture.ensures {u = tt} i } in
    (subst IsCanvas (sym canvas) (empty_is_canvas size k c.requires.small c.requires.samples), subst (λ (m : SourceMap). IsFilledPrefix m 0) (sym (c.in_ok-map.ensures {u = tt})) (empty_front size), marks)

-- the canvas that is made
made : (c : goal.In_ok-marks) → ◌≡◌ {A = CanvasState} (record { map = c.in_ok-map.map; picture = c.in_ok-picture.picture }) (empty_canvas c.args.size c.args.k)
made c = λ i. record { map = c.in_ok-map.ensures {u = tt} i; picture = c.in_ok-picture.ensures {u = tt} i }

pub returns-clause-empty : goal.returns-clause-empty
returns-clause-empty c = made c

pub returns-clause-canvas : goal.returns-clause-canvas
returns-clause-canvas c = subst IsCanvas (sym (made c)) (empty_is_canvas c.args.size c.args.k c.requires.small c.requires.samples)

pub returns-clause-stands : goal.returns-clause-stands
returns-clause-stands c = λ sample same. subst (λ canvas. StandsOver canvas sample) (sym (made c)) (empty_stands c.args.size c.args.k sample (sym same))
