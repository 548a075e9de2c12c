-- What a reader has to trust: the cyclic product of two lists of one length, of which the first and the
-- last number are neighbours; also called cyclic convolution.
use Rattle.std.specs.Prelude.{ℕ, ◌+◌, ◌*◌, ◌-◌, List, length, slice_index_or, cond, nat_le, nat_lt}
use Rattle.std.specs.List.{range_with_len}
use Rattle.std.proofs.Common.{map}
use Rattle.boxes.specs.Sums.{sum_to}

-- the index j below n for which i + j is k or k + n
abbrev pub index_to : ℕ → ℕ → ℕ → ℕ
index_to n k i = cond (nat_le i k) (k - i) (k + n - i)

-- the sum of f_i * g_j over all i and j for which i + j is k or k + n
abbrev pub cyclic_at : List ℕ → List ℕ → ℕ → ℕ
cyclic_at f g k = sum_to (length f)
    (λ i. slice_index_or f i 0 * slice_index_or g (index_to (length g) k i) 0)

-- the index that comes d after i, on n indices of which the first comes after the last
abbrev pub index_after : ℕ → ℕ → ℕ → ℕ
index_after n d i = cond (nat_lt (i + d) n) (i + d) (i + d - n)

-- the sum of f_i * g_j over all i, where j comes d after i; also called cyclic correlation
abbrev pub offset_at : List ℕ → List ℕ → ℕ → ℕ
offset_at f g d = sum_to (length f)
    (λ i. slice_index_or f i 0 * slice_index_or g (index_after (length g) d i) 0)

-- all sums of a cyclic product
unfoldable pub cyclic : List ℕ → List ℕ → List ℕ
cyclic f g = map (cyclic_at f g) (range_with_len 0 (length g))
