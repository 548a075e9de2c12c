-- Marks, one a bit.
use Rattle.std.proofs.Common.{◌≡◌, ℕ, ◌%◌, ◌^◌, ◌<◌, List, Bool, true, false, cond, ltb, length, get_or, map, replicate, refl, sym, ap, subst, ◌∙◌, arith, w16, w32, Fits}
use Rattle.std.specs.Simd.Lanes.{zip2, mask_l, top}
use Rattle.std.proofs.lemmas.Simd.{bit_mask_l, get_or-replicate, get_or-zip2, length-zip2, mask_l-lt, mask_l-mod, tops_compared}
use Rattle.std.proofs.Math.Facts.{Fits-of_lt}
use Rattle.std.proofs.lemmas.Bool.{ltb-true}
use Rattle.search_squares.specs.Bounds.{IsMarked}

-- of each lane, whether it is above a number
abbrev pub lanes_above : ℕ → List ℕ → List Bool
lanes_above most totals = zip2 ltb (replicate 32 most) totals

module _ (most : ℕ) (totals : List ℕ) (long : length totals ≡ 32) where
  answers : length (lanes_above most totals) ≡ 32
  answers = length-zip2 ltb (replicate 32 most) totals (sym long)

  -- what a comparison of all lanes gives as bits
  pub mask_is : mask_l (map (top 15) (zip2 (λ a b. cond (ltb a b) 65535 0) (replicate 32 most) totals)) % 2 ^ 64 ≡ mask_l (lanes_above most totals)
  mask_is = ap (λ lanes. mask_l lanes % 2 ^ 64) (tops_compared w16 ltb (replicate 32 most) totals) ∙ mask_l-mod (lanes_above most totals) 64 (omega (arith, answers))

  -- and what one of wider lanes gives
  pub wide_mask_is : mask_l (map (top 31) (zip2 (λ a b. cond (ltb a b) 4294967295 0) (replicate 32 most) totals)) % 2 ^ 64 ≡ mask_l (lanes_above most totals)
  wide_mask_is = ap (λ lanes. mask_l lanes % 2 ^ 64) (tops_compared w32 ltb (replicate 32 most) totals) ∙ mask_l-mod (lanes_above most totals) 64 (omega (arith, answers))

  -- the marks fit 32 bits
  pub mask_fits : Fits w32 (mask_l (lanes_above most totals))
  mask_fits = Fits-of_lt (subst (λ n. mask_l (lanes_above most totals) < 2 ^ n) answers (mask_l-lt (lanes_above most totals)))

  set_only : (b : Bool) → cond {A = ℕ} b 1 0 ≡ 1 → b ≡ true
  set_only true e = refl
  set_only false e = absurd (omega arith)

  -- a lane that is marked is above the number
  pub marked_above : (j : ℕ) → j < 32 → IsMarked (mask_l (lanes_above most totals)) j → most < get_or totals j 0
  marked_above j lj marked =
      let bit : cond {A = ℕ} (get_or (lanes_above most totals) j false) 1 0 ≡ 1 = sym (bit_mask_l (lanes_above most totals) j) ∙ marked in
      let lane : get_or (lanes_above most totals) j false ≡ ltb most (get_or totals j 0) =
      get_or-zip2 ltb (replicate 32 most) totals j 0 0 false lj (omega (arith, lj, long)) ∙ ap (λ n. ltb n (get_or totals j 0)) (get_or-replicate 32 j most 0 lj) in
      ltb-true most (get_or totals j 0) (sym lane ∙ set_only (get_or (lanes_above most totals) j false) bit)
