use Rattle.std.proofs.lemmas.Grind.{common_steps}
use Rattle.std.proofs.Common.{◌*◌, ◌∙◌, ap, refl, arith}
use Rattle.std.proofs.Math.Nat.{mul-le-mul_left}
use Rattle.std.specs.Prelude.{min}
use Rattle.search_squares.specs.Blocks.{block_bytes}
use Rattle.search_squares.proofs.RunEntries.{scale_holds}
use Rattle.search_squares.proofs.bound.scale_of.Goals as goal

pub overflow_mul-cells : goal.overflow_mul-cells
overflow_mul-cells c = omega (arith, c.requires.few, mul-le-mul_left (c.args.side * c.args.side) c.requires.some)

pub returns : goal.returns
returns c =
    let bound = c.saturating_mul-bound.ensures ∙ ap (λ bytes. min (bytes * c.args.limit) 18446744073709551615) c.from.ensures in
    let scaled = c.saturating_mul-most.ensures ∙ (λ t. min (c.saturating_mul-bound.result * (c.from-2.ensures t * c.from-3.ensures t)) 18446744073709551615) in
    scale_holds (block_bytes c.args.side c.args.k) c.args.limit _ c.saturating_mul-bound.result _ c.saturating_mul-most.result _ bound refl scaled refl (omega (arith, c.if-most-from.false))

pub overflow_mul-square : goal.overflow_mul-square
overflow_mul-square c = grind (arith, common_steps)
