use Rattle.std.proofs.Common.{◌∙◌, sym, ap, subst}
use mathlib.Core.Bool.{false≢true}
use Rattle.cells.specs.declared.place.Size.{Size}
use Rattle.cells.specs.Boxes.{HoldsBox}
use Rattle.cells.specs.Cells.{Cells, IsOnePart}
use Rattle.cells.proofs.PartBoxes.{box_held, held_box}
use Rattle.block_check.proofs.check.fits.Goals as goal

pub returns-then-inside : goal.returns-then-inside
returns-then-inside c =
    let placement = c.args.placement.now in
    let size = ap (λ (v : Cells). v.size) c.picture.ensures.picture ∙ c.picture.ensures.canvas.size in
    let one = subst IsOnePart (sym c.picture.ensures.picture) c.picture.ensures.canvas.part in (
      λ held. record {
        some = c.requires;
        inside = subst (λ (s : Size). HoldsBox s placement.rect.corner placement.rect.size) size (held_box c.picture.result.now placement.rect.corner placement.rect.size one c.requires (c.holds-inside.ensures.0 c.if-inside.true));
        sources = c.holds-held.ensures.0 held;
      },
      λ fits. c.holds-held.ensures.1 fits.sources,
    )

pub returns-else-inside : goal.returns-else-inside
returns-else-inside c =
    let placement = c.args.placement.now in
    let size = ap (λ (v : Cells). v.size) c.picture.ensures.picture ∙ c.picture.ensures.canvas.size in (
      λ yes. absurd (false≢true (sym c.if-inside.false ∙ yes)),
      λ fits. absurd (false≢true (sym c.if-inside.false ∙ c.holds-inside.ensures.1 (box_held c.picture.result.now placement.rect.corner placement.rect.size (subst (λ (s : Size). HoldsBox s placement.rect.corner placement.rect.size) (sym size) fits.inside)))),
    )
