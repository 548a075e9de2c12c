use Rattle.std.proofs.Common.{◌∙◌, sym, ap, arith, subst}
use Rattle.cells.specs.declared.place.Size.{Size}
use Rattle.cells.specs.Boxes.{HasCells, HoldsBox}
use Rattle.cells.specs.Cells.{Cells, IsOnePart}
use Rattle.cells.proofs.PartBoxes.{held_box}
use Rattle.test_examples.proofs.samples.fits.Goals as goal

pub returns-then-inside : goal.returns-then-inside
returns-then-inside c =
    let placement = c.args.placement.now in
    let size = ap (λ (v : Cells). v.size) c.picture.ensures.picture ∙ c.picture.ensures.canvas.size in
    let one = subst IsOnePart (sym c.picture.ensures.picture) c.picture.ensures.canvas.part in
    let some : HasCells placement.rect.size = record { w = omega (arith, c.if-size-lt1.false); h = omega (arith, c.if-size-lt1-2.false); f = omega (arith, c.if-size-lt1-3.false) } in
    λ held. record {
      some = some;
      inside = subst (λ (s : Size). HoldsBox s placement.rect.corner placement.rect.size) size (held_box c.picture.result.now placement.rect.corner placement.rect.size one some (c.holds-inside.ensures.0 c.if-inside.true));
      sources = c.holds-held.ensures.0 held;
    }
