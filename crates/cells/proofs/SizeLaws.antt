-- Places of parts, as the joined volume counts them.
use Rattle.std.proofs.Common.{to_z, of_z, ◌≡◌, ◌≤◌, ◌<◌, ◌-◌, List, ℕ, zero, suc, ap, ◌∙◌, arith, rules}
use Rattle.std.proofs.lemmas.Int.{ints, to_z-of_z}
use Rattle.std.specs.Prelude.{ℤ, pos, negsuc, ◌+ℤ◌, ◌≤ℤ◌, ◌<ℤ◌, FitsSigned}
use Rattle.std.specs.Int.{w32}
use Rattle.cells.specs.declared.place.Size.{Size}
use Rattle.cells.specs.declared.place.At.{At}
use Rattle.cells.specs.Places.{HasAxes, IsInside}
use Rattle.cells.specs.SizeLists.{frames_to_part, stock_place}
use Rattle.cells.proofs.BoxTests.{of_inside, on_axis_bounds}

pub stock_fits : (size : Size) (p : At) (n : ℕ) → HasAxes size → IsInside size p → n ≤ 65552 → FitsSigned w32 (p.f +ℤ pos n)
stock_fits size p n axes inside le =
    let f = on_axis_bounds size.f p.f (of_inside size p inside).f in
    small (p.f +ℤ pos n) (omega (arith, ints, f.0)) (omega (arith, ints, f.1, axes.f.1))
  where
    low : (d : ℕ) → d < 69649 → FitsSigned w32 (pos d)
    low d lt = search rules

    small : (z : ℤ) → pos 0 ≤ℤ z → z <ℤ pos 69649 → FitsSigned w32 z
    small (pos d) from below = low d (omega (arith, ints, below))
    small (negsuc d) from below = absurd (omega (arith, ints, from))

pub stock_is : (sizes : List Size) (part : ℕ) (p : At) → 1 ≤ part → stock_place sizes part p ≡ record { x = p.x; y = p.y; f = p.f +ℤ pos (frames_to_part sizes (part - 1)) }
stock_is sizes zero p from = absurd (omega arith)
stock_is sizes (suc n) p from = λ k. record { x = p.x; y = p.y; f = p.f +ℤ pos (frames_to_part sizes ((let e : n ≡ suc n - 1 = omega arith in e) k)) }

-- such numbers come back from 32 bits as they are
pub near_back : (z : ℤ) → pos 0 ≤ℤ z → z <ℤ pos 69649 → to_z w32 (of_z w32 z) ≡ z
near_back (pos d) from below = to_z-of_z w32 (pos d) (let lt : d < 69649 = omega (arith, ints, below) in search rules)
near_back (negsuc d) from below = absurd (omega (arith, ints, from))

pub stock_sum : (size : Size) (p : At) (z : ℤ) (n : ℕ) → HasAxes size → IsInside size p → z ≡ pos n → n ≤ 65552 → to_z w32 (of_z w32 p.f) +ℤ to_z w32 (of_z w32 z) ≡ p.f +ℤ pos n
stock_sum size p z n axes inside is le =
    let f = on_axis_bounds size.f p.f (of_inside size p inside).f in
    (λ k. near_back p.f f.0 (omega (arith, ints, f.1, axes.f.1)) k +ℤ near_back z (omega (arith, ints, is)) (omega (arith, ints, is, le)) k) ∙ ap (λ t. p.f +ℤ t) is
