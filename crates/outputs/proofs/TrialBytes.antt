-- The bytes of the sample of a number: one after another, and how many there are.
use Rattle.std.proofs.Common.{◌≡◌, ℕ, zero, suc, ◌+◌, List, [], ◌∷◌, ◌++◌, length, refl, ap, ◌∙◌, arith, add-one, length-append}
use Rattle.outputs.specs.TrialSamples.{trial_byte, trial_bytes}

pub no_byte : (n : ℕ) → trial_bytes n 0 ≡ []
unfolding trial_bytes
no_byte n = refl

pub one_more : (n j : ℕ) → trial_bytes n (j + 1) ≡ trial_bytes n j ++ trial_byte n j ∷ []
unfolding trial_bytes
one_more n j = ap (trial_bytes n) (add-one j)

pub length-bytes : (n j : ℕ) → length (trial_bytes n j) ≡ j
unfolding trial_bytes
length-bytes n zero = refl
length-bytes n (suc j) = length-append (trial_bytes n j) (trial_byte n j ∷ []) ∙ (let e = length-bytes n j in omega (arith, e))
