use Rattle.std.proofs.Common.{arith, ◌≡◌, ◌∙◌, pos, to_z, w32}
use Rattle.std.proofs.lemmas.Int.{ints}
use Rattle.cells.specs.Places.{plus}
use Rattle.targets.proofs.target.row_start.Goals as goal

pub returns : goal.returns
returns c =
    let y : to_z w32 c.args.y ≡ pos c.args.y = omega (arith, ints, c.requires.counts.0) in
    let f : to_z w32 c.args.f ≡ pos c.args.f = omega (arith, ints, c.requires.counts.1) in
    c.plus.ensures ∙ (λ t. plus c.args.corner (record { x = pos 0; y = y t; f = f t }))
