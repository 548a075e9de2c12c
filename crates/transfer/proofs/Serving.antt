-- The sums of a sample's blocks serve the sample with a target as its second part.
use Rattle.std.proofs.Common.{◌≡◌, ℕ, ◌+◌, ◌<◌, ◌≤◌, ap, sym, ◌∙◌, subst, arith}
use Rattle.std.proofs.lemmas.Int.{ints}
use Rattle.std.proofs.lemmas.List.Elements.{All-weaker}
use Rattle.std.specs.Prelude.{ℤ, pos, ◌+ℤ◌, sum}
use Rattle.boxes.proofs.Additions.{counts}
use Rattle.boxes.proofs.Axes.{sum_equal}
use Rattle.boxes.proofs.Cells.{cell_inside}
use Rattle.cells.specs.declared.place.At.{At}
use Rattle.cells.specs.declared.place.Box3.{Box3}
use Rattle.cells.specs.Boxes.{cell_in}
use Rattle.cells.specs.Cells.{Cells, HasRun, Holds, IsInsideOf, IsVolume, with_part}
use Rattle.cells.specs.Places.{plus, spot}
use Rattle.search_squares.specs.declared.levels.SampleSums.{SampleSums}
use Rattle.search_squares.specs.declared.sums.BlockSums.{BlockSums}
use Rattle.search_squares.specs.Blocks.{block_sum}
use Rattle.search_squares.specs.Eliminations.{AreSampleSums}
use Rattle.search_squares.specs.Sums.{AreBlockSums}
use Rattle.targets.specs.Joined.{CanBeJoined}
use Rattle.targets.proofs.Joining.{same_row, stays_held}

-- steps along the rows and the columns of a box
row_of : (rect : Box3) (x y f j : ℕ) → plus (cell_in rect x y f) (spot 0 j 0) ≡ cell_in rect x (y + j) f
row_of rect x y f j = λ k. record { x = stay rect.corner.x x k; y = on rect.corner.y y j k; f = stay rect.corner.f f k }
  where
    stay : (c : ℤ) (a : ℕ) → (c +ℤ pos a) +ℤ pos 0 ≡ c +ℤ pos a
    stay c a = omega (arith, ints)

    on : (c : ℤ) (a b : ℕ) → (c +ℤ pos a) +ℤ pos b ≡ c +ℤ pos (a + b)
    on c a b = omega (arith, ints)

column_of : (rect : Box3) (x y f i : ℕ) → plus (cell_in rect x y f) (spot i 0 0) ≡ cell_in rect (x + i) y f
column_of rect x y f i = λ k. record { x = on rect.corner.x x i k; y = stay rect.corner.y y k; f = stay rect.corner.f f k }
  where
    stay : (c : ℤ) (a : ℕ) → (c +ℤ pos a) +ℤ pos 0 ≡ c +ℤ pos a
    stay c a = omega (arith, ints)

    on : (c : ℤ) (a b : ℕ) → (c +ℤ pos a) +ℤ pos b ≡ c +ℤ pos (a + b)
    on c a b = omega (arith, ints)

module _ (sample target : Cells) (volume : IsVolume sample) (can : CanBeJoined sample target) where
  -- a row of a block in a box of the sample
  block_run : (rect : Box3) (side x y f j : ℕ) → Holds sample rect.corner rect.size → 1 ≤ side → x + side ≤ rect.size.w → y + side ≤ rect.size.h → f < rect.size.f → j < side
      → HasRun sample (plus (cell_in rect x y f) (spot 0 j 0)) side
  block_run rect side x y f j holds some columns rows frame lj =
      let inside : (i : ℕ) → i < side → IsInsideOf sample (cell_in rect (x + i) (y + j) f) =
      λ i li. holds (cell_in rect (x + i) (y + j) f) (cell_inside rect (x + i) (y + j) f (record { column = omega (arith, li, columns); row = omega (arith, lj, rows); frame = frame })) in
      let place : (i : ℕ) → plus (plus (cell_in rect x y f) (spot 0 j 0)) (spot i 0 0) ≡ cell_in rect (x + i) (y + j) f =
      λ i. ap (λ (p : At). plus p (spot i 0 0)) (row_of rect x y f j) ∙ column_of rect x (y + j) f i in
      let none : x + 0 ≡ x = omega arith in
      record {
        first = subst (IsInsideOf sample) (ap (λ a. cell_in rect a (y + j) f) none ∙ sym (row_of rect x y f j)) (inside 0 (omega (arith, some)));
        each = λ i li. subst (IsInsideOf sample) (sym (place i)) (inside i li);
      }

  block_same : (rect : Box3) (side x y f : ℕ) → Holds sample rect.corner rect.size → 1 ≤ side → x + side ≤ rect.size.w → y + side ≤ rect.size.h → f < rect.size.f
      → block_sum (with_part sample target) side (cell_in rect x y f) ≡ block_sum sample side (cell_in rect x y f)
  block_same rect side x y f holds some columns rows frame =
      sum_equal counts side _ _ (λ j lj. ap sum (same_row sample target volume can (plus (cell_in rect x y f) (spot 0 j 0)) side (block_run rect side x y f j holds some columns rows frame lj)))

  block_sums : (sums : BlockSums) → AreBlockSums sample sums → AreBlockSums (with_part sample target) sums
  block_sums sums are = record {
    some = are.some;
    few = are.few;
    inside = stays_held sample target volume can sums.rect.corner sums.rect.size are.inside;
    long = are.long;
    entries = λ x y f columns rows frame. are.entries x y f columns rows frame ∙ sym (block_same sums.rect sums.side x y f are.inside are.some columns rows frame);
  }

  pub sums_serve : (sums : SampleSums) → AreSampleSums sample sums → AreSampleSums (with_part sample target) sums
  sums_serve sums are = All-weaker (AreBlockSums sample) (AreBlockSums (with_part sample target)) block_sums sums.levels.items are
