-- Numbers in decimal.
use Rattle.std.proofs.Common.{◌≡◌, ℕ, ◌<◌, ◌+◌, ◌*◌, ◌-◌, List, [], ◌∷◌, ◌++◌, length, take, get_or, refl, ap, ◌∙◌}
use Rattle.std.proofs.lemmas.List.{take_more}
use Rattle.shelf_traits.specs.Decimals.{value_behind}

pub value-push : (n : ℕ) (digits : List ℕ) (b : ℕ) → value_behind n (digits ++ b ∷ []) ≡ 10 * value_behind n digits + (b - 48)
value-push n [] b = refl
value-push n (digit ∷ digits) b = value-push (10 * n + (digit - 48)) digits b

-- one digit more
pub value_more : (digits : List ℕ) (i : ℕ) → i < length digits → value_behind 0 (take (i + 1) digits) ≡ 10 * value_behind 0 (take i digits) + (get_or digits i 0 - 48)
value_more digits i below = ap (value_behind 0) (take_more digits i 0 below) ∙ value-push 0 (take i digits) (get_or digits i 0)
