use Rattle.std.proofs.Common.{◌∙◌, sym, ap, subst}
use mathlib.Core.Bool.{false≢true}
use Rattle.cells.specs.declared.place.Size.{Size}
use Rattle.cells.specs.Boxes.{HoldsBox}
use Rattle.map_canvas.specs.Canvases.{IsKept}
use Rattle.map_canvas.specs.Maps.{SourceMap}
use Rattle.costs.specs.Enclosures.{IsEnclosed}
use Rattle.costs.proofs.Enclosed.{enclosed_free}
use Rattle.costs.proofs.kept.is_kept_at.Goals as goal

pub is_enclosed-requires-clause-holds : goal.is_enclosed-requires-clause-holds
is_enclosed-requires-clause-holds c =
    let rect = c.args.rect.now in
    let size = c.size.ensures.size ∙ ap (λ (m : SourceMap). m.size) c.map.ensures.map in
    subst (λ (s : Size). HoldsBox s rect.corner rect.size) (sym size) c.requires.holds

pub returns-then-is_enclosed : goal.returns-then-is_enclosed
returns-then-is_enclosed c = (
  λ none. absurd (false≢true none),
  λ kept.
      let m = c.args.canvas.now.map in
      let rect = c.args.rect.now in
      let at = c.args.at in
      let size = c.size.ensures.size ∙ ap (λ (m : SourceMap). m.size) c.map.ensures.map in
      absurd (enclosed_free m rect at.x at.y at.f c.requires.counts (subst (λ (s : Size). IsEnclosed s rect at.x at.y at.f) size (c.is_enclosed.ensures c.if-is_enclosed.true)) (subst (IsKept m rect) c.requires.cell kept)),
)
