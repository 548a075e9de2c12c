-- Frames in a clip's bytes, and the laws of their distance.
use Rattle.std.proofs.Common.{◌≡◌, ℕ, zero, suc, ◌+◌, ◌*◌, ◌<◌, ◌≤◌, List, [], ◌∷◌, ◌++◌, length, take, drop, refl, ap, sym, ◌∙◌, subst, arith}
use Rattle.std.specs.Prelude.{All}
use Rattle.std.specs.Int.{abs_diff}
use Rattle.std.specs.List.{concat, zip}
use Rattle.std.proofs.Math.Nat.{mul-le-mul_left}
use Rattle.std.proofs.lemmas.List.{length-append, drop-drop, drop_at, length-drop}
use Rattle.std.proofs.lemmas.List.Elements.{All-head, All-tail, All-drop}
use Rattle.std.proofs.lemmas.List.Sums.{sum_by-cons}
use Rattle.lane_kernels.specs.Sums.{squared_difference, sum_of_squared_differences}
use Rattle.cells.specs.Places.{cell_count}
use Rattle.cells.specs.Parts.{count_from}
use Rattle.cells.specs.Cells.{Cells, IsCell, IsOnePart, IsVolume, bytes_of}
use Rattle.frame_distance.proofs.FramePlaces.{frame_cells}
use Rattle.frame_distance.specs.Frames.{frame_of, frame_in, frame_distance, distance_in}

-- the distance of a row to itself, and the other way round
pub ssd_same : (a : List ℕ) → sum_of_squared_differences a a ≡ 0
ssd_same [] = refl
ssd_same (x ∷ a) = let none : abs_diff x x ≡ 0 = omega arith in sum_by-cons squared_difference (x, x) (zip a a) ∙ (λ i. none i * none i + ssd_same a i)

pub ssd_turned : (a b : List ℕ) → sum_of_squared_differences a b ≡ sum_of_squared_differences b a
ssd_turned [] [] = refl
ssd_turned [] (y ∷ b) = refl
ssd_turned (x ∷ a) [] = refl
ssd_turned (x ∷ a) (y ∷ b) =
    let turned : abs_diff x y ≡ abs_diff y x = omega arith in
    sum_by-cons squared_difference (x, y) (zip a b) ∙ (λ i. turned i * turned i + ssd_turned a b i) ∙ sym (sum_by-cons squared_difference (y, x) (zip b a))

module _ (k : ℕ) where
  -- cells of k samples each, joined
  pub length-concat : (cells : List (List ℕ)) → All (IsCell k) cells → length (concat cells) ≡ k * length cells
  length-concat [] are = omega arith
  length-concat (cell ∷ cells) are =
      length-append cell (concat cells) ∙ (λ i. (All-head (IsCell k) cell cells are).samples i + length-concat cells (All-tail (IsCell k) cell cells are) i) ∙ omega arith

  pub drop-concat : (cells : List (List ℕ)) (n : ℕ) → All (IsCell k) cells → n ≤ length cells → drop (k * n) (concat cells) ≡ concat (drop n cells)
  drop-concat cells zero are le = let none : k * 0 ≡ 0 = omega arith in rw none refl
  drop-concat [] (suc n) are le = absurd (omega arith)
  drop-concat (cell ∷ cells) (suc n) are le =
      ap (λ m. drop m (cell ++ concat cells)) (let e : k * suc n ≡ k + k * n = omega arith in e)
      ∙ sym (drop-drop (k * n) k (cell ++ concat cells))
      ∙ ap (drop (k * n)) (drop_at cell (concat cells) k (All-head (IsCell k) cell cells are).samples)
      ∙ drop-concat cells n (All-tail (IsCell k) cell cells are) (omega arith)

  pub take-concat : (cells : List (List ℕ)) (n : ℕ) → All (IsCell k) cells → n ≤ length cells → take (k * n) (concat cells) ≡ concat (take n cells)
  take-concat cells zero are le = let none : k * 0 ≡ 0 = omega arith in rw none refl
  take-concat [] (suc n) are le = absurd (omega arith)
  take-concat (cell ∷ cells) (suc n) are le =
      ap (λ m. take m (cell ++ concat cells)) (let e : k * suc n ≡ k + k * n = omega arith in e)
      ∙ take_over cell (concat cells) (k * n) (All-head (IsCell k) cell cells are).samples
      ∙ ap (λ xs. cell ++ xs) (take-concat cells n (All-tail (IsCell k) cell cells are) (omega arith))
    where
      take_over : (xs ys : List ℕ) (m : ℕ) → length xs ≡ k → take (k + m) (xs ++ ys) ≡ xs ++ take m ys
      take_over xs ys m long = subst (λ l. take (l + m) (xs ++ ys) ≡ xs ++ take m ys) long (over xs)
        where
          over : (zs : List ℕ) → take (length zs + m) (zs ++ ys) ≡ zs ++ take m ys
          over [] = let e : 0 + m ≡ m = omega arith in rw e refl
          over (z ∷ zs) = let e : suc (length zs) + m ≡ suc (length zs + m) = omega arith in rw e (ap (λ l. z ∷ l) (over zs))

module _ (clip : Cells) (is : IsVolume clip) (one : IsOnePart clip) where
  whole : length clip.cells ≡ cell_count clip.size
  whole = is.count ∙ ap (count_from clip.size) one

  -- all frames together
  pub length-bytes_of : length (bytes_of clip) ≡ clip.k * (clip.size.w * clip.size.h) * clip.size.f
  length-bytes_of = length-concat clip.k clip.cells is.cells ∙ ap (λ n. clip.k * n) whole ∙ omega arith

  -- a frame of the clip, in its bytes
  pub frame_in-bytes_of : (i : ℕ) → i < clip.size.f → frame_in (bytes_of clip) (clip.k * (clip.size.w * clip.size.h)) i ≡ frame_of clip i
  frame_in-bytes_of i below =
      let area = clip.size.w * clip.size.h in
      let all : area * clip.size.f ≡ length clip.cells = (let e : area * clip.size.f ≡ cell_count clip.size = omega arith in e) ∙ sym whole in
      let before : area * i + area ≤ length clip.cells = omega (arith, all, mul-le-mul_left area (let le : i + 1 ≤ clip.size.f = omega arith in le)) in
      ap (λ m. take (clip.k * area) (drop m (bytes_of clip))) (let e : clip.k * area * i ≡ clip.k * (area * i) = omega arith in e)
      ∙ ap (take (clip.k * area)) (drop-concat clip.k clip.cells (area * i) is.cells (omega (arith, before)))
      ∙ take-concat clip.k (drop (area * i) clip.cells) area (All-drop (IsCell clip.k) (area * i) clip.cells is.cells) (omega (arith, before, length-drop (area * i) clip.cells))
      ∙ frame_cells clip i is.small.axes.w.0 below before

  pub distance_in-bytes_of : (i j : ℕ) → i < clip.size.f → j < clip.size.f → distance_in (bytes_of clip) (clip.k * (clip.size.w * clip.size.h)) i j ≡ frame_distance clip i j
  distance_in-bytes_of i j row column = λ t. sum_of_squared_differences (frame_in-bytes_of i row t) (frame_in-bytes_of j column t)
