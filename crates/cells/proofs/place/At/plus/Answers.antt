use Rattle.std.proofs.Common.{◌≡◌, to_z, of_z, w32, arith}
use Rattle.std.proofs.lemmas.Int.{to_z-of_z}
use Rattle.std.specs.Prelude.{◌+ℤ◌}
use Rattle.std.proofs.lemmas.Grind.{common_steps}
use Rattle.cells.proofs.place.At.plus.Goals as goal

pub sum_of-requires-3 : goal.sum_of-requires-3
sum_of-requires-3 c = grind (arith, common_steps)

pub sum_of-requires-2 : goal.sum_of-requires-2
sum_of-requires-2 c = grind (arith, common_steps)

pub returns : goal.returns
returns c =
    let a = c.args.self in
    let b = c.args.by in
    let x : to_z w32 (of_z w32 c.sum_of.result) ≡ a.x +ℤ b.x = grind (arith, to_z-of_z, c.sum_of.ensures) in
    let y : to_z w32 (of_z w32 c.sum_of-2.result) ≡ a.y +ℤ b.y = grind (arith, to_z-of_z, c.sum_of-2.ensures) in
    let f : to_z w32 (of_z w32 c.sum_of-3.result) ≡ a.f +ℤ b.f = grind (arith, to_z-of_z, c.sum_of-3.ensures) in
    (λ i. record { x = x i; y = y i; f = f i })

pub sum_of-requires : goal.sum_of-requires
sum_of-requires c = grind (arith, common_steps)
