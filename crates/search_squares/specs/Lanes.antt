-- Lanes of 16 bits that stand for signed numbers, for the contracts of this crate's own functions; no
-- public contract names them. (Own.)
use Rattle.std.specs.Prelude.{◌-◌, ◌^◌, ℕ, nat_lt, if◌then◌else◌}

-- how far the signed number of 16 bits is from 0, by its bits as a number
abbrev pub from_zero : ℕ → ℕ
from_zero n = if nat_lt n (2 ^ 15) then n else 2 ^ 16 - n
