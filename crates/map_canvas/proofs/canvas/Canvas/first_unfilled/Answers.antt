use Rattle.std.proofs.Common.{◌≡◌, ◌∙◌, ap, sym, subst}
use Rattle.std.specs.Prelude.{IfSome}
use Rattle.cells.specs.Places.{IsInside}
use Rattle.map_canvas.specs.Canvases.{CanvasState}
use Rattle.map_canvas.specs.Maps.{IsFull}
use Rattle.map_canvas.proofs.Unfilled.{first_inside, full_is_whole}
use Rattle.map_canvas.proofs.EmptyAndFull.{whole_is_full}
use Rattle.map_canvas.proofs.canvas.Canvas.first_unfilled.Goals as goal

pub returns-clause-full : goal.returns-clause-full
returns-clause-full c =
    let m = c.self.inside.map in
    let first = c.unfilled_after.ensures.first in
    let is = c.unfilled_after.ensures.map in
    let map : m ≡ c.args.self.now.map = ap (λ (s : CanvasState). s.map) c.self.view_is in
    (λ none. subst IsFull map (whole_is_full m is (sym first ∙ none)), λ full. first ∙ full_is_whole m is (subst IsFull (sym map) full))

pub returns-clause-inside : goal.returns-clause-inside
returns-clause-inside c =
    let m = c.self.inside.map in
    subst (λ (s : CanvasState). IfSome c.unfilled_after.result (IsInside s.map.size)) c.self.view_is
    (subst (λ o. IfSome o (IsInside m.size)) (sym c.unfilled_after.ensures.first) (first_inside m c.unfilled_after.ensures.map))
