-- Along each axis a candidate lies in the output and in the sample, and has q.
use Rattle.std.proofs.Common.{◌≡◌, ℕ, ◌+◌, ◌-◌, ◌*◌, ◌/◌, ◌%◌, ◌<◌, ◌≤◌, min, refl, ap, sym, subst, arith, ⊎_elim}
use Rattle.std.proofs.Math.Nat.{mul-le-mul_right}
use Rattle.std.proofs.lemmas.Bool.{cases_lt}
use Rattle.std.proofs.lemmas.Int.{ints}
use Rattle.std.proofs.lemmas.Nat.{div-add-mod', mod_below}
use Rattle.std.specs.Prelude.{ℤ, pos, negsuc, ◌+ℤ◌, ◌-ℤ◌, ◌≤ℤ◌}
use Rattle.boxes.specs.Spans.{IsGridCorner, SpanFits, at_least_0, grid_corner, grid_on, grid_overlap, grid_step, laid_on, patch_corner, patch_len}

-- a number that is at least 0 stands, and a lesser one becomes 0
at_least_pos : (z : ℤ) (n : ℕ) → z ≡ pos n → at_least_0 z ≡ n
at_least_pos z n e = rw e refl

at_least_neg : (z : ℤ) → z ≤ℤ pos 0 → at_least_0 z ≡ 0
at_least_neg (pos n) le = omega (arith, ints)
at_least_neg (negsuc n) le = refl

pub difference : (a b : ℕ) → at_least_0 (pos a -ℤ pos b) ≡ a - b
difference a b = grind (arith, at_least_pos, at_least_neg)

pub laid_fits : (T S q c : ℕ) → 1 ≤ S → q < T → c < (S + 1) / 2 → SpanFits T S q (laid_on T S q c)
laid_fits T S q c some inside half =
    let corner : (laid_on T S q c).corner ≡ q - c = difference q c in
    let end : at_least_0 ((pos q -ℤ pos c) +ℤ pos S) ≡ q + S - c = at_least_pos ((pos q -ℤ pos c) +ℤ pos S) (q + S - c) (omega (arith, ints)) in
    let from : (laid_on T S q c).from ≡ c - q = at_least_pos (pos (at_least_0 (pos q -ℤ pos c)) -ℤ (pos q -ℤ pos c)) (c - q) (omega (arith, ints, corner)) in
    let len : (laid_on T S q c).len ≡ min (q + S - c) T - (q - c) = omega (arith, corner, end) in
    record {
      some = omega (arith, corner, len);
      inside = omega (arith, corner, len);
      sources = omega (arith, from, len);
      before = omega (arith, corner);
      covers = omega (arith, corner, len);
    }

pub grid_fits : (T S overlap q : ℕ) → 1 ≤ S → q < T → SpanFits T S q (grid_on T S overlap q)
grid_fits T S overlap q some inside =
    let step = grid_step S overlap in
    let least : 1 ≤ step = omega arith in
    let most : step ≤ S = omega arith in
    corners step (grid_corner S step q) least most refl
  where
    corners : (step corner : ℕ) → 1 ≤ step → step ≤ S → corner ≡ (q + step - S) / step * step → SpanFits T S q (record { corner = corner; len = min S (T - corner); from = 0 })
    corners step corner least most e = record {
      some = omega arith;
      inside = omega arith;
      sources = omega arith;
      before = omega arith;
      covers = omega arith;
    }

-- the same of a patch of the length B from a coordinate of the part on, where L is the least axis of all parts
pub patch_fits : (T L S side overlap q from : ℕ) → 1 ≤ side → 1 ≤ L → L ≤ S → q < T → from < S + 1 - patch_len T L side → SpanFits T S q (record { corner = patch_corner T (patch_len T L side) overlap q; len = patch_len T L side; from = from })
patch_fits T L S side overlap q from has some least inside free =
    patches (patch_len T L side) (patch_corner T (patch_len T L side) overlap q) (omega arith) (omega arith) free (omega (arith, difference q (min overlap (patch_len T L side - 1))))
  where
    patches : (B corner : ℕ) → 1 ≤ B → B ≤ T → from < S + 1 - B → corner ≡ min (T - B) (q - min overlap (B - 1)) → SpanFits T S q (record { corner = corner; len = B; from = from })
    patches B corner least most room e = record {
      some = omega arith;
      inside = omega arith;
      sources = omega arith;
      before = omega arith;
      covers = omega arith;
    }

pub least_corner : (S step q : ℕ) → 1 ≤ step → step ≤ S → IsGridCorner S step q (grid_corner S step q)
least_corner S step q some most = by ((q + step - S) / step) ((q + step - S) % step) (div-add-mod' (q + step - S) step) (mod_below (q + step - S) step some)
  where
    by : (d r : ℕ) → d * step + r ≡ q + step - S → r < step → IsGridCorner S step q (d * step)
    by d r whole below = record {
      multiple = (d, refl);
      greater = omega (arith, ints, whole);
      least = λ k past.
          ⊎_elim (λ more. let next : (k + 1) * step ≤ d * step = mul-le-mul_right step (let le : k + 1 ≤ d = omega arith in le) in absurd (omega (arith, ints, whole, next, past))) (λ le. mul-le-mul_right step le) (cases_lt k d);
    }

-- where the code begins a copy in the grid
pub grid_corner_at : (S overlap q o n : ℕ) → 1 ≤ S → o ≡ grid_overlap S overlap → n ≡ q - o → IsGridCorner S (grid_step S overlap) q (n / (S - o) * (S - o))
grid_corner_at S overlap q o n some e is =
    let step = grid_step S overlap in
    let same_step : S - o ≡ step = ap (λ k. S - k) e in
    let start : n ≡ q + step - S = omega (arith, is, e) in
    subst (λ k. IsGridCorner S step q (k / (S - o) * (S - o))) (sym start)
    (subst (λ k. IsGridCorner S step q ((q + step - S) / k * k)) (sym same_step) (least_corner S step q (omega arith) (omega arith)))
