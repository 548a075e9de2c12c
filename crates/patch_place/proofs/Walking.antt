-- Walks from place to place of a part.
use Rattle.std.proofs.Common.{◌≡◌, ℕ, ◌+◌, ◌*◌, ◌/◌, ◌%◌, ◌<◌, ◌≤◌, ap, sym, subst, ◌∙◌, arith, ⊎_elim}
use Rattle.std.proofs.Math.Nat.{mul-le-mul_left}
use Rattle.std.proofs.lemmas.Bool.{cases_lt}
use Rattle.std.proofs.lemmas.Nat.{div-add-mod', div-mul-add, mod-mul-add, mod_below}
use Rattle.cells.specs.declared.place.Size.{Size}
use Rattle.cells.specs.Places.{cell_count}
use Rattle.patch_place.specs.declared.spots.Spot.{Spot}
use Rattle.patch_place.specs.Spots.{IsSpotAt}

-- one count further: within its axis, or to the next
pub record IsCarry (w i : ℕ) : Type 0 where
  pub within : i % w + 1 < w → ((i + 1) % w ≡ i % w + 1) × ((i + 1) / w ≡ i / w)
  pub over : w ≤ i % w + 1 → ((i + 1) % w ≡ 0) × ((i + 1) / w ≡ i / w + 1)

pub carry : (w i : ℕ) → 1 ≤ w → IsCarry w i
carry w i some = record { within = λ lt. turn (i / w) (i % w + 1) lt (omega (arith, whole)); over = λ le. let full : i % w + 1 ≡ w = omega (arith, mod_below i w some) in turn (i / w + 1) 0 some (omega (arith, whole, full)) }
  where
    whole : i / w * w + i % w ≡ i
    whole = div-add-mod' i w

    turn : (a b : ℕ) → b < w → i + 1 ≡ a * w + b → ((i + 1) % w ≡ b) × ((i + 1) / w ≡ a)
    turn a b lt e =
        let whole_part : (i + 1) / w ≡ a = ap (λ n. n / w) e ∙ div-mul-add a w b lt in
        (omega (arith, div-add-mod' (i + 1) w, ap (λ n. n * w) whole_part, e), whole_part)

-- the place after the last one of a row
pub spot_down : (size : Size) (frames i : ℕ) (was now : Spot) → 1 ≤ size.w → 1 ≤ size.h → size.w ≤ was.x + 1 → was.y + 1 < size.h → now.x ≡ 0 → now.y ≡ was.y + 1 → now.f ≡ was.f → IsSpotAt size frames i was → IsSpotAt size frames (i + 1) now
spot_down size frames i was now some rows over lt x y f is =
    let next = (carry size.w i some).over (subst (λ n. size.w ≤ n + 1) is.x over) in
    let row = (carry size.h (i / size.w) rows).within (subst (λ n. n + 1 < size.h) is.y lt) in
    record {
      x = x ∙ sym next.0;
      y = y ∙ ap (λ n. n + 1) is.y ∙ sym row.0 ∙ ap (λ n. n % size.h) (sym next.1);
      f = f ∙ is.f ∙ ap (λ n. frames + n) (sym row.1) ∙ ap (λ n. frames + n / size.h) (sym next.1);
    }

pub spot_over : (size : Size) (frames i : ℕ) (was now : Spot) → 1 ≤ size.w → 1 ≤ size.h → size.w ≤ was.x + 1 → size.h ≤ was.y + 1 → now.x ≡ 0 → now.y ≡ 0 → now.f ≡ was.f + 1 → IsSpotAt size frames i was → IsSpotAt size frames (i + 1) now
spot_over size frames i was now some rows over last x y f is =
    let next = (carry size.w i some).over (subst (λ n. size.w ≤ n + 1) is.x over) in
    let row = (carry size.h (i / size.w) rows).over (subst (λ n. size.h ≤ n + 1) is.y last) in
    record {
      x = x ∙ sym next.0;
      y = y ∙ sym row.0 ∙ ap (λ n. n % size.h) (sym next.1);
      f = f ∙ ap (λ n. n + 1) is.f ∙ (let e : frames + i / size.w / size.h + 1 ≡ frames + (i / size.w / size.h + 1) = omega arith in e) ∙ ap (λ n. frames + n) (sym row.1) ∙ ap (λ n. frames + n / size.h) (sym next.1);
    }

-- a place so many further in the same row
pub spot_further : (size : Size) (frames i n : ℕ) (was now : Spot) → was.x + n < size.w → now.x ≡ was.x + n → now.y ≡ was.y → now.f ≡ was.f → IsSpotAt size frames i was → IsSpotAt size frames (i + n) now
spot_further size frames i n was now lt x y f is =
    record {
      x = x ∙ ap (λ m. m + n) is.x ∙ sym column;
      y = y ∙ is.y ∙ ap (λ r. r % size.h) (sym row);
      f = f ∙ is.f ∙ ap (λ r. frames + r / size.h) (sym row);
    }
  where
    within : i % size.w + n < size.w
    within = subst (λ m. m + n < size.w) is.x lt

    whole : i + n ≡ i / size.w * size.w + (i % size.w + n)
    whole = omega (arith, div-add-mod' i size.w)

    column : (i + n) % size.w ≡ i % size.w + n
    column = ap (λ m. m % size.w) whole ∙ mod-mul-add (i / size.w) size.w (i % size.w + n) within

    row : (i + n) / size.w ≡ i / size.w
    row = ap (λ m. m / size.w) whole ∙ div-mul-add (i / size.w) size.w (i % size.w + n) within

-- the place after the last of some in one row
pub spot_after : (size : Size) (frames i n m : ℕ) (was last now : Spot) → m + 1 ≡ n → was.x + m < size.w → last.x ≡ was.x + m → last.y ≡ was.y → last.f ≡ was.f → ((frames i : ℕ) → IsSpotAt size frames i last → IsSpotAt size frames (i + 1) now) → IsSpotAt size frames i was → IsSpotAt size frames (i + n) now
spot_after size frames i n m was last now one lt x y f next is =
    let e : i + m + 1 ≡ i + n = omega (arith, one) in
    subst (λ k. IsSpotAt size frames k now) e (next frames (i + m) (spot_further size frames i m was last lt x y f is))

-- the places of a row come before the end
pub row_within : (size : Size) (frames i n : ℕ) (was : Spot) → was.x + n ≤ size.w → IsSpotAt size frames i was → i < cell_count size → i + n ≤ cell_count size
row_within size frames i n was le is lt =
    ⊎_elim
    (λ (below : i / size.w < size.h * size.f). omega (arith, whole, is.x, le, mul-le-mul_left size.w (more below)))
    (λ past. absurd (omega (arith, whole, lt, mul-le-mul_left size.w past)))
    (cases_lt (i / size.w) (size.h * size.f))
  where
    whole : i / size.w * size.w + i % size.w ≡ i
    whole = div-add-mod' i size.w

    more : i / size.w < size.h * size.f → i / size.w + 1 ≤ size.h * size.f
    more below = omega (arith, below)
