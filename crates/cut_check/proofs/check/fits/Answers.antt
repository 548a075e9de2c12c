use Rattle.std.proofs.Common.{◌∙◌, sym, ap, subst}
use mathlib.Core.Bool.{false≢true}
use Rattle.cells.specs.declared.place.Size.{Size}
use Rattle.cells.specs.Boxes.{HoldsBox}
use Rattle.cells.specs.Cells.{Cells, IsOnePart}
use Rattle.cells.proofs.PartBoxes.{box_held, held_box}
use Rattle.cut_check.proofs.Fitting.{fits_if}
use Rattle.cut_check.proofs.check.fits.Goals as goal

pub returns-then-holds : goal.returns-then-holds
returns-then-holds c =
    let placement = c.args.placement.now in
    let size = ap (λ (v : Cells). v.size) c.picture.ensures.picture ∙ c.picture.ensures.canvas.size in
    let one = subst IsOnePart (sym c.picture.ensures.picture) c.picture.ensures.canvas.part in
    fits_if c.args.canvas.now.map c.args.sample.now placement c.holds-then-holds.result c.picture.ensures.canvas.map c.samples-sample.ensures.volume c.requires
    (subst (λ (s : Size). HoldsBox s placement.rect.corner placement.rect.size) size (held_box c.picture.result.now placement.rect.corner placement.rect.size one c.requires (c.holds.ensures.0 c.if-holds.true))) c.holds-then-holds.ensures

pub returns-else-holds : goal.returns-else-holds
returns-else-holds c =
    let placement = c.args.placement.now in
    let size = ap (λ (v : Cells). v.size) c.picture.ensures.picture ∙ c.picture.ensures.canvas.size in
    rw c.if-holds.false (λ fits.
    absurd (false≢true (sym c.if-holds.false ∙ c.holds.ensures.1 (box_held c.picture.result.now placement.rect.corner placement.rect.size (subst (λ (s : Size). HoldsBox s placement.rect.corner placement.rect.size) (sym size) fits.inside)))))
