-- Signed numbers, as their bits hold them.
use Rattle.std.proofs.Common.{◌≡◌, arith, w16, w32, to_z, of_z}
use Rattle.std.proofs.lemmas.Int.{ints}
use Rattle.std.specs.Prelude.{ℤ, pos, ◌-ℤ◌}
use mir.Val.{SFits}
use Rattle.cut_check.specs.Flows.{IsBetween, minus_of}
use Rattle.cut_check.specs.Steps.{most_along}

-- the difference of two numbers of 16 bits, in 32
pub held_difference : (a b wide_a wide_b : ℤ) → SFits w16 a → SFits w16 b → wide_a ≡ to_z w16 (of_z w16 a) → wide_b ≡ to_z w16 (of_z w16 b)
    → to_z w32 (of_z w32 (to_z w32 (of_z w32 wide_a) -ℤ to_z w32 (of_z w32 wide_b))) ≡ a -ℤ b
held_difference a b wide_a wide_b a_fits b_fits a_is b_is = omega (arith, ints)

pub near_difference : (a b : ℤ) → SFits w16 a → SFits w16 b → IsBetween (minus_of most_along) (pos most_along) (a -ℤ b)
near_difference a b a_fits b_fits = (omega (arith, ints), omega (arith, ints))
