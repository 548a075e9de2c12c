-- The two moves of a frame, and what follows for all turns.
use Rattle.std.proofs.Common.{◌≡◌, ◌≢◌, ◌⊎◌, inl, inr, ℕ, zero, suc, ◌*◌, ◌/◌, ◌%◌, ◌<◌, ◌≤◌, refl, ap, sym, ◌∙◌, subst, arith}
use Rattle.std.proofs.lemmas.Int.{ints}
use Rattle.std.specs.Prelude.{ℤ, IsSome}
use Rattle.cells.specs.declared.place.At.{At}
use Rattle.cells.specs.declared.place.Size.{Size}
use Rattle.cells.specs.Places.{HasAxes, IsInside, IsSmall, cell_count, on_axis, plus, spot}
use Rattle.cells.proofs.BoxTests.{inside_of, of_inside, on_axis_bounds, on_axis_some}
use Rattle.turned.specs.Turns.{from_end, mirror, mirrors, quarter_from, quarter_size, quarter_to, quarters_from, quarters_size, quarters_to, turn_from, turn_size, turn_to}

-- what holds of each turn holds of all
pub each_turn : (P : ℕ → Type 0) → P 0 → P 1 → P 2 → P 3 → P 4 → P 5 → P 6 → P 7 → (t : ℕ) → t < 8 → P t
each_turn P a b c d e f g h zero lt = a
each_turn P a b c d e f g h (suc zero) lt = b
each_turn P a b c d e f g h (suc (suc zero)) lt = c
each_turn P a b c d e f g h (suc (suc (suc zero))) lt = d
each_turn P a b c d e f g h (suc (suc (suc (suc zero)))) lt = e
each_turn P a b c d e f g h (suc (suc (suc (suc (suc zero))))) lt = f
each_turn P a b c d e f g h (suc (suc (suc (suc (suc (suc zero)))))) lt = g
each_turn P a b c d e f g h (suc (suc (suc (suc (suc (suc (suc zero))))))) lt = h
each_turn P a b c d e f g h (suc (suc (suc (suc (suc (suc (suc (suc n)))))))) lt = absurd (omega arith)

pub same_place : (p q : At) → p.x ≡ q.x → p.y ≡ q.y → p.f ≡ q.f → p ≡ q
same_place p q x y f = λ k. record { x = x k; y = y k; f = f k }

pub end_twice : (n : ℕ) (z : ℤ) → from_end n (from_end n z) ≡ z
end_twice n z = omega (arith, ints)

-- counted from the other end, a coordinate stays on its axis
pub end_on_axis : (n : ℕ) (z : ℤ) → IsSome (on_axis n z) → IsSome (on_axis n (from_end n z))
end_on_axis n z on =
    let b = on_axis_bounds n z on in
    on_axis_some n (from_end n z) (omega (arith, ints, b.0, b.1)) (omega (arith, ints, b.0, b.1))

end_off_axis : (n : ℕ) (z : ℤ) → IsSome (on_axis n (from_end n z)) → IsSome (on_axis n z)
end_off_axis n z on = subst (λ t. IsSome (on_axis n t)) (end_twice n z) (end_on_axis n (from_end n z) on)

pub mirror_twice : (size : Size) (p : At) → mirror size (mirror size p) ≡ p
mirror_twice size p = same_place (mirror size (mirror size p)) p (end_twice size.w p.x) refl refl

pub mirror_inside : (size : Size) (p : At) → IsInside size p → IsInside size (mirror size p)
mirror_inside size p inside =
    let on = of_inside size p inside in
    inside_of size (mirror size p) (record { x = end_on_axis size.w p.x on.x; y = on.y; f = on.f })

pub quarter_back : (size : Size) (p : At) → quarter_from size (quarter_to size p) ≡ p
quarter_back size p = same_place (quarter_from size (quarter_to size p)) p refl (end_twice size.h p.y) refl

pub quarter_there : (size : Size) (p : At) → quarter_to size (quarter_from size p) ≡ p
quarter_there size p = same_place (quarter_to size (quarter_from size p)) p (end_twice size.h p.x) refl refl

pub quarter_inside : (size : Size) (p : At) → IsInside (quarter_size size) p → IsInside size (quarter_from size p)
quarter_inside size p inside =
    let on = of_inside (quarter_size size) p inside in
    inside_of size (quarter_from size p) (record { x = on.y; y = end_on_axis size.h p.x on.x; f = on.f })

pub quarter_outside : (size : Size) (p : At) → IsInside size (quarter_from size p) → IsInside (quarter_size size) p
quarter_outside size p inside =
    let on = of_inside size (quarter_from size p) inside in
    inside_of (quarter_size size) p (record { x = end_off_axis size.h p.x on.y; y = on.x; f = on.f })

-- several moves, one after another
mirrors_swap : (m : ℕ) (size : Size) (p : At) → mirrors m size (mirror size p) ≡ mirror size (mirrors m size p)
mirrors_swap zero size p = refl
mirrors_swap (suc m) size p = ap (mirror size) (mirrors_swap m size p)

pub mirrors_twice : (m : ℕ) (size : Size) (p : At) → mirrors m size (mirrors m size p) ≡ p
mirrors_twice zero size p = refl
mirrors_twice (suc m) size p =
    ap (mirror size) (mirrors_swap m size (mirrors m size p))
    ∙ mirror_twice size (mirrors m size (mirrors m size p)) ∙ mirrors_twice m size p

pub mirrors_inside : (m : ℕ) (size : Size) (p : At) → IsInside size p → IsInside size (mirrors m size p)
mirrors_inside zero size p inside = inside
mirrors_inside (suc m) size p inside = mirror_inside size (mirrors m size p) (mirrors_inside m size p inside)

mirrors_outside : (m : ℕ) (size : Size) (p : At) → IsInside size (mirrors m size p) → IsInside size p
mirrors_outside m size p inside = subst (IsInside size) (mirrors_twice m size p) (mirrors_inside m size (mirrors m size p) inside)

pub quarters_back : (r : ℕ) (size : Size) (p : At) → quarters_from r size (quarters_to r size p) ≡ p
quarters_back zero size p = refl
quarters_back (suc r) size p =
    ap (quarters_from r size) (quarter_back (quarters_size r size) (quarters_to r size p)) ∙ quarters_back r size p

pub quarters_there : (r : ℕ) (size : Size) (p : At) → quarters_to r size (quarters_from r size p) ≡ p
quarters_there zero size p = refl
quarters_there (suc r) size p =
    ap (quarter_to (quarters_size r size)) (quarters_there r size (quarter_from (quarters_size r size) p))
    ∙ quarter_there (quarters_size r size) p

pub quarters_inside : (r : ℕ) (size : Size) (p : At) → IsInside (quarters_size r size) p → IsInside size (quarters_from r size p)
quarters_inside zero size p inside = inside
quarters_inside (suc r) size p inside =
    quarters_inside r size (quarter_from (quarters_size r size) p) (quarter_inside (quarters_size r size) p inside)

pub quarters_outside : (r : ℕ) (size : Size) (p : At) → IsInside size (quarters_from r size p) → IsInside (quarters_size r size) p
quarters_outside zero size p inside = inside
quarters_outside (suc r) size p inside =
    quarter_outside (quarters_size r size) p (quarters_outside r size (quarter_from (quarters_size r size) p) inside)

pub quarters_to_inside : (r : ℕ) (size : Size) (p : At) → IsInside size p → IsInside (quarters_size r size) (quarters_to r size p)
quarters_to_inside r size p inside =
    quarters_outside r size (quarters_to r size p) (subst (IsInside size) (sym (quarters_back r size p)) inside)

-- turns
pub turn_back : (t : ℕ) (size : Size) (p : At) → turn_from t size (turn_to t size p) ≡ p
turn_back t size p =
    ap (mirrors (t / 4) size) (quarters_back (t % 4) size (mirrors (t / 4) size p)) ∙ mirrors_twice (t / 4) size p

pub turn_there : (t : ℕ) (size : Size) (p : At) → turn_to t size (turn_from t size p) ≡ p
turn_there t size p =
    ap (quarters_to (t % 4) size) (mirrors_twice (t / 4) size (quarters_from (t % 4) size p)) ∙ quarters_there (t % 4) size p

pub turn_inside : (t : ℕ) (size : Size) (p : At) → IsInside (turn_size t size) p → IsInside size (turn_from t size p)
turn_inside t size p inside = mirrors_inside (t / 4) size (quarters_from (t % 4) size p) (quarters_inside (t % 4) size p inside)

pub turn_outside : (t : ℕ) (size : Size) (p : At) → IsInside size (turn_from t size p) → IsInside (turn_size t size) p
turn_outside t size p inside = quarters_outside (t % 4) size p (mirrors_outside (t / 4) size (quarters_from (t % 4) size p) inside)

pub turn_to_inside : (t : ℕ) (size : Size) (p : At) → IsInside size p → IsInside (turn_size t size) (turn_to t size p)
turn_to_inside t size p inside = turn_outside t size (turn_to t size p) (subst (IsInside size) (sym (turn_back t size p)) inside)

-- the sizes of turns
pub quarters_axes : (r : ℕ) (size : Size) → HasAxes size → HasAxes (quarters_size r size)
quarters_axes zero size axes = axes
quarters_axes (suc r) size axes = let before = quarters_axes r size axes in record { w = before.h; h = before.w; f = before.f }

pub turn_axes : (t : ℕ) (size : Size) → HasAxes size → HasAxes (turn_size t size)
turn_axes t size axes = quarters_axes (t % 4) size axes

pub quarters_frames : (r : ℕ) (size : Size) → (quarters_size r size).f ≡ size.f
quarters_frames zero size = refl
quarters_frames (suc r) size = quarters_frames r size

pub turn_frames : (t : ℕ) (size : Size) → (turn_size t size).f ≡ size.f
turn_frames t size = quarters_frames (t % 4) size

pub quarters_count : (r : ℕ) (size : Size) → cell_count (quarters_size r size) ≡ cell_count size
quarters_count zero size = refl
quarters_count (suc r) size = swapped (quarters_size r size).w (quarters_size r size).h (quarters_size r size).f ∙ quarters_count r size
  where
    swapped : (w h f : ℕ) → h * (w * f) ≡ w * (h * f)
    swapped w h f = omega arith

pub turn_count : (t : ℕ) (size : Size) → cell_count (turn_size t size) ≡ cell_count size
turn_count t size = quarters_count (t % 4) size

pub turn_small : (t : ℕ) (size : Size) → IsSmall size → IsSmall (turn_size t size)
turn_small t size small = record { axes = turn_axes t size small.axes; cells = subst (λ n. n ≤ 33554432) (sym (turn_count t size)) small.cells }

-- the sizes by the number of quarter turns
pub even_size : (r : ℕ) (size : Size) → (r ≡ 0) ⊎ (r ≡ 2) → quarters_size r size ≡ size
even_size r size (inl e) = ap (λ n. quarters_size n size) e
even_size r size (inr e) = ap (λ n. quarters_size n size) e

pub odd_size : (r : ℕ) (size : Size) → r < 4 → r ≢ 0 → r ≢ 2 → quarters_size r size ≡ quarter_size size
odd_size zero size lt a b = absurd (a refl)
odd_size (suc zero) size lt a b = refl
odd_size (suc (suc zero)) size lt a b = absurd (b refl)
odd_size (suc (suc (suc zero))) size lt a b = refl
odd_size (suc (suc (suc (suc r)))) size lt a b = absurd (omega arith)

-- turns that keep rows
pub rows_size : (t : ℕ) (size : Size) → (t ≡ 0) ⊎ (t ≡ 6) → turn_size t size ≡ size
rows_size t size (inl e) = ap (λ n. turn_size n size) e
rows_size t size (inr e) = ap (λ n. turn_size n size) e

pub rows_along : (t : ℕ) (size : Size) (j y f : ℕ) → (t ≡ 0) ⊎ (t ≡ 6) → turn_from t size (spot j y f) ≡ plus (turn_from t size (spot 0 y f)) (spot j 0 0)
rows_along t size j y f (inl e) =
    subst (λ n. turn_from n size (spot j y f) ≡ plus (turn_from n size (spot 0 y f)) (spot j 0 0)) (sym e)
    (same_place (spot j y f) (plus (spot 0 y f) (spot j 0 0)) (omega (arith, ints)) (omega (arith, ints)) (omega (arith, ints)))
rows_along t size j y f (inr e) =
    subst (λ n. turn_from n size (spot j y f) ≡ plus (turn_from n size (spot 0 y f)) (spot j 0 0)) (sym e)
    (same_place (turn_from 6 size (spot j y f)) (plus (turn_from 6 size (spot 0 y f)) (spot j 0 0)) (omega (arith, ints)) (omega (arith, ints)) (omega (arith, ints)))
