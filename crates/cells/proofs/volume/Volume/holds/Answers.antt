use Rattle.std.proofs.Common.{arith}
use Rattle.std.proofs.lemmas.Grind.{common_steps}
use Rattle.std.proofs.Common.{sym, subst}
use Rattle.std.specs.Prelude.{List}
use Rattle.cells.specs.declared.place.Size.{Size}
use Rattle.cells.specs.Parts.{HoldsFrom}
use Rattle.cells.specs.Cells.{Cells}
use Rattle.cells.proofs.PartBoxes.{held, of_held}
use Rattle.cells.proofs.volume.Volume.holds.Goals as goal

pub returns-else-not-has_cells : goal.returns-else-not-has_cells
returns-else-not-has_cells c =
    let rect = c.args.rect.now in
    let some = c.has_cells.ensures.0 c.if-not-has_cells.false in (
      λ yes.
          held c.args.self.now rect.corner rect.size
          (subst (λ (v : Cells). HoldsFrom v.size v.more rect.corner rect.size) c.self.view_is
          (subst (λ (more : List Size). HoldsFrom c.self.inside.size more rect.corner rect.size) c.as_slice.ensures.sizes (c.lies_along.ensures.0 yes))),
      λ each.
          c.lies_along.ensures.1
          (subst (λ (more : List Size). HoldsFrom c.self.inside.size more rect.corner rect.size) (sym c.as_slice.ensures.sizes)
          (subst (λ (v : Cells). HoldsFrom v.size v.more rect.corner rect.size) (sym c.self.view_is) (of_held c.args.self.now rect.corner rect.size some each))),
    )

pub returns-then-not-has_cells : goal.returns-then-not-has_cells
returns-then-not-has_cells c = grind (arith, common_steps)

pub lies_along-requires : goal.lies_along-requires
lies_along-requires c = grind (arith, common_steps)
