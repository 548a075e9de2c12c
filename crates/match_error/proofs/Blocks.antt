-- Sums over rows of bytes whose last block is masked.
use Rattle.std.proofs.Common.{◌≡◌, ℕ, ◌+◌, ◌-◌, ◌≤◌, List, ◌++◌, length, take, drop, ap, sym, ◌∙◌, arith}
use Rattle.std.proofs.Math.Seq.{take-add, take-length}
use Rattle.std.proofs.lemmas.List.{drop_at, drop-drop, drop-replicate, drop-append-le, length-drop, length-replicate, length-take-le, take-append-drop, take-replicate, take_at, take_rest}
use Rattle.std.specs.Prelude.{replicate}
use Rattle.lane_kernels.specs.Sums.{masked_sum_of_squared_differences, sum_of_squared_differences}
use Rattle.match_error.proofs.Runs.{masked-append, masked_by_ones, masked_by_zeros, ssd-append}

-- where the mask keeps the last n bytes, the sum is that over them
masked_end : (a b : List ℕ) (m n : ℕ) → length a ≡ m + n → length b ≡ m + n → masked_sum_of_squared_differences a b (replicate m 0 ++ replicate n 1) ≡ sum_of_squared_differences (drop m a) (drop m b)
masked_end a b m n long_a long_b =
    (λ t. masked_sum_of_squared_differences (sym (take-append-drop m a) t) (sym (take-append-drop m b) t) (replicate m 0 ++ replicate n 1))
    ∙ masked-append (take m a) (drop m a) (take m b) (drop m b) (replicate m 0) (replicate n 1)
    (front a long_a ∙ sym (front b long_b)) (front a long_a ∙ sym (length-replicate m 0))
    ∙ none_before (masked_by_zeros m (take m a) (take m b)) (masked_by_ones n (drop m a) (drop m b) back)
  where
    none_before : {x y z : ℕ} → x ≡ 0 → y ≡ z → x + y ≡ z
    none_before none is = omega arith

    front : (l : List ℕ) → length l ≡ m + n → length (take m l) ≡ m
    front l long = length-take-le m l (omega (arith, long))

    back : length (drop m a) ≡ n
    back = omega (arith, length-drop m a, long_a)

-- the last n bytes of rows, by a block that ends with them
pub last_block : (a b marks : List ℕ) (block n : ℕ) → length a ≡ length b → block ≤ length a → n ≤ block → marks ≡ replicate (block - n) 0 ++ replicate n 1
    → masked_sum_of_squared_differences (take (length a - (length a - block)) (drop (length a - block) a)) (take (length b - (length a - block)) (drop (length a - block) b)) marks
    ≡ sum_of_squared_differences (drop (length a - n) a) (drop (length b - n) b)
last_block a b marks block n same whole few is =
    (λ t. masked_sum_of_squared_differences (take_rest a (length a - block) t) (rest_b t) (is t))
    ∙ masked_end (drop (length a - block) a) (drop (length a - block) b) (block - n) n
    (let e : length (drop (length a - block) a) ≡ (block - n) + n = omega (arith, length-drop (length a - block) a) in e)
    (let e : length (drop (length a - block) b) ≡ (block - n) + n = omega (arith, length-drop (length a - block) b) in e)
    ∙ (λ t. sum_of_squared_differences (last_a t) (last_b t))
  where
    rest_b : take (length b - (length a - block)) (drop (length a - block) b) ≡ drop (length a - block) b
    rest_b = take_rest b (length a - block)

    ahead : (length a - block) + (block - n) ≡ length a - n
    ahead = omega arith

    last_a : drop (block - n) (drop (length a - block) a) ≡ drop (length a - n) a
    last_a = drop-drop (block - n) (length a - block) a ∙ ap (λ m. drop m a) ahead

    last_b : drop (block - n) (drop (length a - block) b) ≡ drop (length b - n) b
    last_b = drop-drop (block - n) (length a - block) b ∙ ap (λ m. drop m b) (let e : (length a - block) + (block - n) ≡ length b - n = omega arith in e)

-- a sum over the first bytes and one over those after them
pub both_parts : (a b : List ℕ) (whole rest sum last : ℕ) → length a ≡ length b → whole + rest ≡ length a
    → sum ≡ sum_of_squared_differences (take whole a) (take whole b) → last ≡ sum_of_squared_differences (drop (length a - rest) a) (drop (length b - rest) b)
    → sum + last ≡ sum_of_squared_differences a b
both_parts a b whole rest sum last same all is_sum is_last =
    (λ t. is_sum t + (is_last ∙ (λ u. sum_of_squared_differences (drop (from_a u) a) (drop (from_b u) b))) t)
    ∙ sym (ssd-append (take whole a) (drop whole a) (take whole b) (drop whole b) (length-take-le whole a (omega arith) ∙ sym (length-take-le whole b (omega arith))))
    ∙ (λ t. sum_of_squared_differences (take-append-drop whole a t) (take-append-drop whole b t))
  where
    from_a : length a - rest ≡ whole
    from_a = omega arith

    from_b : length b - rest ≡ whole
    from_b = omega arith

-- where there are none after them, it is the sum over all
pub one_part : (a b : List ℕ) (whole sum : ℕ) → length a ≡ length b → whole ≡ length a → sum ≡ sum_of_squared_differences (take whole a) (take whole b) → sum ≡ sum_of_squared_differences a b
one_part a b whole sum same all is =
    is ∙ (λ t. sum_of_squared_differences (all_of a all t) (all_of b (all ∙ same) t))
  where
    all_of : (l : List ℕ) → whole ≡ length l → take whole l ≡ l
    all_of l e = ap (λ n. take n l) e ∙ take-length l

-- a piece of a block of 0 and a block of 1
pub marks_piece : (block n : ℕ) → n ≤ block → take {A = ℕ} ((n + block) - n) (drop n (replicate block 0 ++ replicate block 1)) ≡ replicate (block - n) 0 ++ replicate n 1
marks_piece block n le =
    ap (take ((n + block) - n)) (drop-append-le n (replicate block 0) (replicate block 1) (omega (arith, length-replicate {A = ℕ} block 0)) ∙ ap (λ (zeros : List ℕ). zeros ++ replicate block 1) (drop-replicate n block 0))
    ∙ ap (λ m. take {A = ℕ} m (replicate (block - n) 0 ++ replicate block 1)) (let e : (n + block) - n ≡ (block - n) + n = omega arith in e)
    ∙ take-add (block - n) n (replicate (block - n) 0 ++ replicate block 1)
    ∙ (λ t. first t ++ (ap (take n) then ∙ take-replicate n block 1 le) t)
  where
    first : take {A = ℕ} (block - n) (replicate (block - n) 0 ++ replicate block 1) ≡ replicate (block - n) 0
    first = take_at {A = ℕ} (replicate (block - n) 0) (replicate block 1) (block - n) (length-replicate {A = ℕ} (block - n) 0)

    then : drop {A = ℕ} (block - n) (replicate (block - n) 0 ++ replicate block 1) ≡ replicate block 1
    then = drop_at {A = ℕ} (replicate (block - n) 0) (replicate block 1) (block - n) (length-replicate {A = ℕ} (block - n) 0)
