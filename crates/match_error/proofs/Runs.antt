-- Runs of cells that are joined, and sums over them cell by cell.
use Rattle.std.proofs.Common.{◌≡◌, ℕ, zero, suc, ◌+◌, ◌*◌, ◌<◌, ◌≤◌, List, [], ◌∷◌, ◌++◌, length, take, drop, get_or, refl, ap, sym, ◌∙◌, arith, length-append}
use Rattle.std.proofs.Math.Numerals.{add-one}
use Rattle.std.proofs.lemmas.List.{append-nil, get_or-drop, length-drop, take_more}
use Rattle.std.proofs.lemmas.List.Folds.{concat-append}
use Rattle.std.proofs.lemmas.List.Sums.{sum_by-append, sum_by-cons}
use Rattle.std.specs.Prelude.{replicate}
use Rattle.std.specs.List.{concat, sum_by, zip}
use Rattle.boxes.specs.Sums.{sum_to}
use Rattle.lane_kernels.specs.Sums.{masked_squared_difference, masked_sum_of_squared_differences, squared_difference, sum_of_squared_differences}

-- w cells from an index on, joined
abbrev pub run : List (List ℕ) → ℕ → ℕ → List ℕ
run cells i w = concat (take w (drop i cells))

-- each cell has k samples
abbrev pub HaveSamples : ℕ → List (List ℕ) → Type 0
HaveSamples k cells = (n : ℕ) → n < length cells → length (get_or cells n []) ≡ k

pub run_more : (cells : List (List ℕ)) (i w : ℕ) → i + w < length cells → run cells i (suc w) ≡ run cells i w ++ get_or cells (i + w) []
run_more cells i w lt =
    ap (λ n. concat (take n (drop i cells))) (sym (add-one w))
    ∙ ap concat (take_more (drop i cells) w [] (omega (arith, length-drop i cells)))
    ∙ concat-append (take w (drop i cells)) (get_or (drop i cells) w [] ∷ [])
    ∙ ap (λ bytes. run cells i w ++ bytes) (append-nil (get_or (drop i cells) w []) ∙ get_or-drop i cells w [])

pub length-run : (k : ℕ) (cells : List (List ℕ)) → HaveSamples k cells → (i w : ℕ) → i + w ≤ length cells → length (run cells i w) ≡ w * k
length-run k cells all i zero le = omega arith
length-run k cells all i (suc w) le =
    ap length (run_more cells i w (omega arith)) ∙ length-append (run cells i w) (get_or cells (i + w) [])
    ∙ omega (arith, length-run k cells all i w (omega arith), all (i + w) (omega arith))

zip-append : {X Y : Type 0} (xs xs' : List X) (ys ys' : List Y) → length xs ≡ length ys → zip (xs ++ xs') (ys ++ ys') ≡ zip xs ys ++ zip xs' ys'
zip-append [] xs' [] ys' same = refl
zip-append [] xs' (y ∷ ys) ys' same = absurd (omega arith)
zip-append (x ∷ xs) xs' [] ys' same = absurd (omega arith)
zip-append (x ∷ xs) xs' (y ∷ ys) ys' same = ap (λ pairs. (x, y) ∷ pairs) (zip-append xs xs' ys ys' (omega arith))

length-zip : {X Y : Type 0} (xs : List X) (ys : List Y) → length xs ≡ length ys → length (zip xs ys) ≡ length xs
length-zip [] ys same = refl
length-zip (x ∷ xs) [] same = absurd (omega arith)
length-zip (x ∷ xs) (y ∷ ys) same = ap suc (length-zip xs ys (omega arith))

pub masked-append : (a a' b b' m m' : List ℕ) → length a ≡ length b → length a ≡ length m
    → masked_sum_of_squared_differences (a ++ a') (b ++ b') (m ++ m') ≡ masked_sum_of_squared_differences a b m + masked_sum_of_squared_differences a' b' m'
masked-append a a' b b' m m' same mask =
    ap (λ pairs. sum_by masked_squared_difference (zip pairs (m ++ m'))) (zip-append a a' b b' same)
    ∙ ap (sum_by masked_squared_difference) (zip-append (zip a b) (zip a' b') m m' (length-zip a b same ∙ mask))
    ∙ sum_by-append masked_squared_difference (zip (zip a b) m) (zip (zip a' b') m')

-- the masked sum over three runs of cells of k samples is that of each three cells, added up
pub masked_cells : (k : ℕ) (olds news marks : List (List ℕ)) → HaveSamples k olds → HaveSamples k news → HaveSamples k marks
    → (i j w : ℕ) → i + w ≤ length olds → j + w ≤ length news → i + w ≤ length marks
    → masked_sum_of_squared_differences (run olds i w) (run news j w) (run marks i w)
    ≡ sum_to w (λ x. masked_sum_of_squared_differences (get_or olds (i + x) []) (get_or news (j + x) []) (get_or marks (i + x) []))
masked_cells k olds news marks in_olds in_news in_marks i j zero le_a le_b le_m = refl
masked_cells k olds news marks in_olds in_news in_marks i j (suc w) le_a le_b le_m =
    (λ t. masked_sum_of_squared_differences (run_more olds i w (omega arith) t) (run_more news j w (omega arith) t) (run_more marks i w (omega arith) t))
    ∙ masked-append (run olds i w) _ (run news j w) _ (run marks i w) _
    (length-run k olds in_olds i w (omega arith) ∙ sym (length-run k news in_news j w (omega arith)))
    (length-run k olds in_olds i w (omega arith) ∙ sym (length-run k marks in_marks i w (omega arith)))
    ∙ ap (λ s. s + masked_sum_of_squared_differences (get_or olds (i + w) []) (get_or news (j + w) []) (get_or marks (i + w) []))
    (masked_cells k olds news marks in_olds in_news in_marks i j w (omega arith) (omega arith) (omega arith))

-- the marks of one cell: of an unfilled one they keep nothing, of a filled one all
pub masked_by_zeros : (k : ℕ) (a b : List ℕ) → masked_sum_of_squared_differences a b (replicate k 0) ≡ 0
masked_by_zeros k a b = by k (zip a b)
  where
    by : (k : ℕ) (pairs : List (ℕ × ℕ)) → sum_by masked_squared_difference (zip pairs (replicate k 0)) ≡ 0
    by k [] = refl
    by zero (pair ∷ pairs) = refl
    by (suc k) (pair ∷ pairs) = omega (arith, sum_by-cons masked_squared_difference (pair, 0) (zip pairs (replicate k 0)), by k pairs)

pub masked_by_ones : (k : ℕ) (a b : List ℕ) → length a ≡ k → masked_sum_of_squared_differences a b (replicate k 1) ≡ sum_of_squared_differences a b
masked_by_ones k [] b long = refl
masked_by_ones k (x ∷ a) [] long = refl
masked_by_ones zero (x ∷ a) (y ∷ b) long = absurd (omega arith)
masked_by_ones (suc k) (x ∷ a) (y ∷ b) long =
    sum_by-cons masked_squared_difference ((x, y), 1) (zip (zip a b) (replicate k 1))
    ∙ ap (λ s. squared_difference (x, y) + s) (masked_by_ones k a b (omega arith))
    ∙ sym (sum_by-cons squared_difference (x, y) (zip a b))

pub ssd-append : (a a' b b' : List ℕ) → length a ≡ length b → sum_of_squared_differences (a ++ a') (b ++ b') ≡ sum_of_squared_differences a b + sum_of_squared_differences a' b'
ssd-append a a' b b' same = ap (sum_by squared_difference) (zip-append a a' b b' same) ∙ sum_by-append squared_difference (zip a b) (zip a' b')

-- the sum over two runs of cells of k samples is that of each two cells, added up
pub plain_cells : (k : ℕ) (olds news : List (List ℕ)) → HaveSamples k olds → HaveSamples k news → (i j w : ℕ) → i + w ≤ length olds → j + w ≤ length news
    → sum_of_squared_differences (run olds i w) (run news j w) ≡ sum_to w (λ x. sum_of_squared_differences (get_or olds (i + x) []) (get_or news (j + x) []))
plain_cells k olds news in_olds in_news i j zero le_a le_b = refl
plain_cells k olds news in_olds in_news i j (suc w) le_a le_b =
    (λ t. sum_of_squared_differences (run_more olds i w (omega arith) t) (run_more news j w (omega arith) t))
    ∙ ssd-append (run olds i w) _ (run news j w) _ (length-run k olds in_olds i w (omega arith) ∙ sym (length-run k news in_news j w (omega arith)))
    ∙ ap (λ s. s + sum_of_squared_differences (get_or olds (i + w) []) (get_or news (j + w) [])) (plain_cells k olds news in_olds in_news i j w (omega arith) (omega arith))
