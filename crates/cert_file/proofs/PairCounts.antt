-- How many cells and pairs a box has, also one whose axes are longer than those of a volume.
use Rattle.std.proofs.Common.{◌≡◌, ◌≤◌, ◌+◌, ◌-◌, ◌*◌, ℕ, zero, suc, refl, ap, ◌∙◌, arith}
use Rattle.std.specs.Prelude.{if◌then◌else◌}
use Rattle.std.proofs.Math.Nat.{mul-le-mul_right}
use borrow.Author.Tests.{le-ltb}
use Rattle.cells.specs.declared.place.Size.{Size}
use Rattle.cells.specs.Boxes.{HasCells}
use Rattle.cells.specs.Places.{cell_count}
use Rattle.boxes.specs.Pairs.{AreCounts, pair_count}
use Rattle.boxes.proofs.ClosedForm.{closed_is}
use Rattle.boxes.proofs.PairNumbers.{pairs_before_last}
use Rattle.cert_file.specs.CutForms.{IsBoxSize}

pub some_cells : (size : Size) → IsBoxSize size → 1 ≤ cell_count size
some_cells size axes =
    let layer : 1 ≤ size.h * size.f = omega (arith, mul-le-mul_right size.f axes.h.0, axes.f.0) in
    omega (arith, layer, mul-le-mul_right (size.h * size.f) axes.w.0)

pub flat_cells : (size : Size) → size.f ≡ 1 → cell_count size ≡ size.w * size.h
flat_cells size one = ap (λ f. size.w * (size.h * f)) one ∙ omega arith

-- on each axis, the cells less those of the last layer
pub pairs_by_layers : (size : Size) → HasCells size → pair_count size ≡ (cell_count size - size.h * size.f) + (cell_count size - size.w * size.f) + (cell_count size - size.w * size.h)
pairs_by_layers size some =
    let are : AreCounts size (size.w - 1) (size.h - 1) (size.f - 1) = record { column = omega (arith, some.w); row = omega (arith, some.h); frame = omega (arith, some.f) } in
    pairs_before_last size some ∙ closed_is size some (size.w - 1) (size.h - 1) (size.f - 1) are
    ∙ (λ k. ((size.w - 1) * ((size.h - 1) + size.h * (size.f - 1)) + (size.w - 1))
    + (size.w * ((size.h - 1) + (size.h - 1) * (size.f - 1)) + (if le-ltb (size.h - 1 + 1) size.h (omega (arith, some.h)) k then size.w - 1 else 0))
    + (if le-ltb (size.f - 1 + 1) size.f (omega (arith, some.f)) k then (size.w - 1) + size.w * ((size.h - 1) + size.h * (size.f - 1)) else size.w * (size.h * (size.f - 1))))
    ∙ layers size.w size.h size.f some.w some.h some.f
  where
    layers : (w h f : ℕ) → 1 ≤ w → 1 ≤ h → 1 ≤ f → ((w - 1) * ((h - 1) + h * (f - 1)) + (w - 1)) + (w * ((h - 1) + (h - 1) * (f - 1)) + 0) + w * (h * (f - 1))
        ≡ (w * (h * f) - h * f) + (w * (h * f) - w * f) + (w * (h * f) - w * h)
    layers zero h f w1 h1 f1 = absurd (omega arith)
    layers (suc w) zero f w1 h1 f1 = absurd (omega arith)
    layers (suc w) (suc h) zero w1 h1 f1 = absurd (omega arith)
    layers (suc w) (suc h) (suc f) w1 h1 f1 =
        by (suc w - 1) (suc h - 1) (suc f - 1) (suc w * (suc h * suc f)) (suc h * suc f) (suc w * suc f) (suc w * suc h) (omega arith) (omega arith) (omega arith) refl refl refl refl
      where
        parts : (p q r all x y z : ℕ) → all ≡ p + x → all ≡ q + y → all ≡ r + z → p + q + r ≡ (all - x) + (all - y) + (all - z)
        parts p q r all x y z one two three = omega arith

        by : (a b c all x y z : ℕ) → a ≡ w → b ≡ h → c ≡ f → all ≡ suc w * (suc h * suc f) → x ≡ suc h * suc f → y ≡ suc w * suc f → z ≡ suc w * suc h
            → (a * (b + suc h * c) + a) + (suc w * (b + b * c) + 0) + suc w * (suc h * c) ≡ (all - x) + (all - y) + (all - z)
        by a b c all x y z ea eb ec e ex ey ez =
            let one : all ≡ w * (suc h * suc f) + x = rw (e, ex) (omega arith) in
            let two : all ≡ suc w * (h * suc f) + y = rw (e, ey) (omega arith) in
            let three : all ≡ suc w * (suc h * f) + z = rw (e, ez) (omega arith) in
            let left : (a * (b + suc h * c) + a) + (suc w * (b + b * c) + 0) + suc w * (suc h * c) ≡ w * (suc h * suc f) + suc w * (h * suc f) + suc w * (suc h * f) = rw (ea, eb, ec) (omega arith) in
            left ∙ parts (w * (suc h * suc f)) (suc w * (h * suc f)) (suc w * (suc h * f)) all x y z one two three
