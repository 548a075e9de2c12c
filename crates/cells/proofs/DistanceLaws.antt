-- The laws of the distance, which hold of all places, inside and outside: it is symmetric, a place has
-- distance 0 to itself, the way past a third place is not shorter, and it is bounded.
use Rattle.std.proofs.Common.{◌≡◌, ℕ, ◌+◌, ◌*◌, ◌<◌, ◌≤◌, List, [], ◌∷◌, get_or, length, refl, sym, ◌∙◌, subst, arith}
use Rattle.std.specs.Prelude.{Option, Some, None}
use Rattle.std.specs.Int.{abs_diff}
use Rattle.std.specs.List.{AllByRecursion, zip}
use Rattle.std.proofs.lemmas.List.Elements.{recursion_from_All}
use Rattle.std.proofs.lemmas.List.Sums.{sum_by-cons}
use Rattle.cells.specs.declared.place.At.{At}
use Rattle.cells.specs.Cells.{Cells, IsCell, IsVolume, cell_at}
use Rattle.cells.specs.Distances.{IsPseudometric, difference, distance, distance_of}
use Rattle.cells.proofs.CellLaws.{IfCell, cell_is_cell}

-- one more sample
difference_cons : (x : ℕ) (a : List ℕ) (y : ℕ) (b : List ℕ) → difference (x ∷ a) (y ∷ b) ≡ abs_diff x y + difference a b
difference_cons x a y b = sum_by-cons (λ pair. abs_diff pair.0 pair.1) (x, y) (zip a b)

pub difference_same : (a : List ℕ) → difference a a ≡ 0
difference_same [] = refl
difference_same (x ∷ a) = omega (arith, difference_cons x a x a, difference_same a)

-- of two cells of 3 samples
pub difference_three : (a b : List ℕ) → length a ≡ 3 → length b ≡ 3
    → abs_diff (get_or a 0 0) (get_or b 0 0) + abs_diff (get_or a 1 0) (get_or b 1 0) + abs_diff (get_or a 2 0) (get_or b 2 0) ≡ difference a b
difference_three [] b la lb = absurd (omega (arith, la))
difference_three (x ∷ []) b la lb = absurd (omega (arith, la))
difference_three (x ∷ y ∷ []) b la lb = absurd (omega (arith, la))
difference_three (x ∷ y ∷ z ∷ w ∷ a) b la lb = absurd (omega (arith, la))
difference_three (x ∷ y ∷ z ∷ []) [] la lb = absurd (omega (arith, lb))
difference_three (x ∷ y ∷ z ∷ []) (p ∷ []) la lb = absurd (omega (arith, lb))
difference_three (x ∷ y ∷ z ∷ []) (p ∷ q ∷ []) la lb = absurd (omega (arith, lb))
difference_three (x ∷ y ∷ z ∷ []) (p ∷ q ∷ r ∷ s ∷ b) la lb = absurd (omega (arith, lb))
difference_three (x ∷ y ∷ z ∷ []) (p ∷ q ∷ r ∷ []) la lb =
    omega (arith, difference_cons x (y ∷ z ∷ []) p (q ∷ r ∷ []), difference_cons y (z ∷ []) q (r ∷ []), difference_cons z [] r [], difference_same [])

pub difference_symmetric : (a b : List ℕ) → difference a b ≡ difference b a
difference_symmetric [] [] = refl
difference_symmetric [] (y ∷ b) = refl
difference_symmetric (x ∷ a) [] = refl
difference_symmetric (x ∷ a) (y ∷ b) = omega (arith, difference_cons x a y b, difference_cons y b x a, difference_symmetric a b)

pub difference_triangle : (a b c : List ℕ) → length a ≡ length b → length b ≡ length c → difference a c ≤ difference a b + difference b c
difference_triangle [] b c ab bc = omega arith
difference_triangle (x ∷ a) [] c ab bc = absurd (omega arith)
difference_triangle (x ∷ a) (y ∷ b) [] ab bc = absurd (omega arith)
difference_triangle (x ∷ a) (y ∷ b) (z ∷ c) ab bc =
    omega (arith, difference_cons x a z c, difference_cons x a y b, difference_cons y b z c, difference_triangle a b c (omega arith) (omega arith))

pub difference_bound : (a b : List ℕ) → AllByRecursion (λ x. x < 256) a → AllByRecursion (λ y. y < 256) b → difference a b ≤ 255 * length a
difference_bound [] b bytes_a bytes_b = omega arith
difference_bound (x ∷ a) [] bytes_a bytes_b = omega arith
difference_bound (x ∷ a) (y ∷ b) bytes_a bytes_b =
    omega (arith, difference_cons x a y b, bytes_a.0, bytes_b.0, difference_bound a b bytes_a.1 bytes_b.1)

-- of two cells of k samples
cells_bound : (k : ℕ) (a b : List ℕ) → IsCell k a → IsCell k b → difference a b ≤ 255 * k
cells_bound k a b is_a is_b =
    subst (λ n. difference a b ≤ 255 * n) is_a.samples (difference_bound a b (recursion_from_All (λ x. x < 256) a is_a.bytes) (recursion_from_All (λ y. y < 256) b is_b.bytes))

-- of what two places have, if anything
same_of : (k : ℕ) (a : Option (List ℕ)) → distance_of k a a ≡ 0
same_of k None = refl
same_of k (Some a) = difference_same a

symmetric_of : (k : ℕ) (a b : Option (List ℕ)) → distance_of k a b ≡ distance_of k b a
symmetric_of k None None = refl
symmetric_of k None (Some b) = refl
symmetric_of k (Some a) None = refl
symmetric_of k (Some a) (Some b) = difference_symmetric a b

triangle_of : (k : ℕ) (a b c : Option (List ℕ)) → IfCell k a → IfCell k b → IfCell k c → distance_of k a c ≤ distance_of k a b + distance_of k b c
triangle_of k None b None is_a is_b is_c = omega arith
triangle_of k None None (Some c) is_a is_b is_c = omega arith
triangle_of k None (Some b) (Some c) is_a is_b is_c = omega arith
triangle_of k (Some a) None None is_a is_b is_c = omega arith
triangle_of k (Some a) (Some b) None is_a is_b is_c = omega arith
triangle_of k (Some a) None (Some c) is_a is_b is_c = omega (arith, cells_bound k a c is_a is_c)
triangle_of k (Some a) (Some b) (Some c) is_a is_b is_c = difference_triangle a b c (is_a.samples ∙ sym is_b.samples) (is_b.samples ∙ sym is_c.samples)

bound_of : (k : ℕ) (a b : Option (List ℕ)) → IfCell k a → IfCell k b → distance_of k a b ≤ 255 * k
bound_of k None None is_a is_b = omega arith
bound_of k None (Some b) is_a is_b = omega arith
bound_of k (Some a) None is_a is_b = omega arith
bound_of k (Some a) (Some b) is_a is_b = cells_bound k a b is_a is_b

pub distance_same : (v : Cells) (a : At) → distance v a a ≡ 0
distance_same v a = same_of v.k (cell_at v a)

pub distance_symmetric : (v : Cells) (a b : At) → distance v a b ≡ distance v b a
distance_symmetric v a b = symmetric_of v.k (cell_at v a) (cell_at v b)

pub distance_triangle : (v : Cells) → IsVolume v → (a b c : At) → distance v a c ≤ distance v a b + distance v b c
distance_triangle v is a b c = triangle_of v.k (cell_at v a) (cell_at v b) (cell_at v c) (cell_is_cell v is a) (cell_is_cell v is b) (cell_is_cell v is c)

pub distance_bound : (v : Cells) → IsVolume v → (a b : At) → distance v a b ≤ 255 * v.k
distance_bound v is a b = bound_of v.k (cell_at v a) (cell_at v b) (cell_is_cell v is a) (cell_is_cell v is b)

pub distance_laws : (v : Cells) → IsVolume v → IsPseudometric (distance v)
distance_laws v is = record { same = distance_same v; symmetric = distance_symmetric v; triangle = distance_triangle v is }
