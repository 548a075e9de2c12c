-- A reader has to trust this file. The end of a list, and what is copied of it. (Own.)
use Rattle.std.specs.Prelude.{ℕ, ◌-◌, List, length, drop, min, if◌then◌else◌, nat_le}

-- the last n, or all where there are fewer
abbrev pub tail_of : ℕ → List ℕ → List ℕ
tail_of n xs = drop (length xs - n) xs

-- how many bytes from so many before the end of the kept ones on go into a buffer; none where the
-- kept ones don't reach so far back
abbrev pub copied_count : ℕ → ℕ → ℕ → ℕ
copied_count back kept room = if nat_le back kept then min back room else 0
