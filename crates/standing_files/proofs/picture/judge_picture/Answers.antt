use Rattle.std.proofs.Common.{arith, refl, ◌<◌, ◌*◌, ◌∙◌, subst}
use Rattle.std.proofs.Math.Nat.{mul-le-mul_left}
use Rattle.cells.specs.declared.place.Size.{Size}
use Rattle.standing_files.specs.Standing.{map_output}
use Rattle.standing_files.proofs.Sizes.{first_is}
use Rattle.standing_files.proofs.picture.judge_picture.Goals as goal

pub returns-in-Some : goal.returns-in-Some
returns-in-Some c =
    let size = map_output c.args.map_file.now in
    let first = c.in-Some.ensures.some in
    let row : c.loop-row.row < size.h * size.f = subst (λ (s : Size). c.loop-row.row < s.h * s.f) (c.size-size.ensures.size ∙ first_is _ _ _ _ c.requires.one) c.loop-row-test.true in
    record {
      whole = record { number_is = refl; rule_is = refl };
      first = record { below = omega (arith, first.below, mul-le-mul_left size.w row); before = first.before; here = first.here };
    }
