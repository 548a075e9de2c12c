-- Numbers that a text gives in decimal digits. To be trusted: contracts of readers cite these words. (Own.)
use Rattle.std.specs.Prelude.{◌≤◌, ℕ, ◌+◌, ◌-◌, ◌*◌, min, List, [], ◌∷◌}

abbrev pub IsDigit : ℕ → Type 0
IsDigit b = (48 ≤ b) × (b ≤ 57)

-- the value of decimal digits, the first of which counts most, after those of a number so far
abbrev pub value_behind : ℕ → List ℕ → ℕ
value_behind n [] = n
value_behind n (digit ∷ digits) = value_behind (10 * n + (digit - 48)) digits

-- a number as far as a u64 goes
abbrev pub greatest_number : ℕ
greatest_number = 18446744073709551615

abbrev pub capped : ℕ → ℕ
capped n = min n greatest_number
