-- The lists of several products, added up, have the sums at each offset.
use Rattle.std.proofs.Common.{◌≡◌, ℕ, zero, suc, ◌+◌, ◌<◌, List, length, get_or, reverse, sym, ap, ◌∙◌, arith}
use Rattle.std.proofs.lemmas.Bool.Decides.{nat_tests}
use Rattle.std.proofs.lemmas.List.FromFn.{get_or-map-range_with_len, length-map-range_with_len}
use Rattle.boxes.specs.Sums.{sum_to}
use Rattle.cyclic_products.specs.declared.residues.TheConstants.{LAST}
use Rattle.cyclic_products.specs.Products.{cyclic, cyclic_at, offset_at}
use Rattle.cyclic_products.specs.Residues.{IsCongruent, mixed}
use Rattle.cyclic_products.proofs.Lists.{get_or-zip_with, length-zip_with}
use Rattle.cyclic_products.proofs.Offsets.{index_of_offset, reversed_product}
use Rattle.cyclic_products.proofs.SameNumbers.{same_equal, same_mixed, same_trans}
use Rattle.offset_errors.specs.Summed.{summed}

cyclic_length : (f g : List ℕ) → length (cyclic f g) ≡ length g
unfolding cyclic
cyclic_length f g = length-map-range_with_len (cyclic_at f g) 0 (length g)

cyclic_entry : (f g : List ℕ) (k : ℕ) → k < length g → get_or (cyclic f g) k 0 ≡ cyclic_at f g k
unfolding cyclic
cyclic_entry f g k less = get_or-map-range_with_len (cyclic_at f g) 0 (length g) k k 0 less (omega arith)

pub offset_below : (n d : ℕ) → d < n → index_of_offset n d < n
offset_below n d below = grind (arith, nat_tests, below)

-- the entry of one product
product_entry : (n : ℕ) (f g : List ℕ) (d : ℕ) → length f ≡ n → length g ≡ n → d < n → get_or (cyclic (reverse f) g) (index_of_offset n d) 0 ≡ offset_at f g d
product_entry n f g d long same below =
    let less : index_of_offset n d < length g = omega (arith, same, offset_below n d below) in
    let equal : length f ≡ length g = omega (arith, long, same) in
    let within : d < length g = omega (arith, same, below) in
    cyclic_entry (reverse f) g (index_of_offset n d) less ∙ ap (λ m. cyclic_at (reverse f) g (index_of_offset m d)) (sym same) ∙ reversed_product f g d equal within

module _ (n : ℕ) (f g : ℕ → List ℕ) (long : (j : ℕ) → length (f j) ≡ n) (same : (j : ℕ) → length (g j) ≡ n) where
  pub summed_length : (last : ℕ) → length (summed last f g) ≡ n
  unfolding summed
  summed_length zero = cyclic_length (reverse (f 0)) (g 0) ∙ same 0
  summed_length (suc j) =
      let before = summed_length j in
      let next : length (cyclic (reverse (f (suc j))) (g (suc j))) ≡ n = cyclic_length (reverse (f (suc j))) (g (suc j)) ∙ same (suc j) in
      length-zip_with (mixed LAST 1 1) (summed j f g) (cyclic (reverse (f (suc j))) (g (suc j))) (omega (arith, before, next)) ∙ before

  pub summed_at : (last d : ℕ) → d < n → IsCongruent LAST (get_or (summed last f g) (index_of_offset n d) 0) (sum_to (suc last) (λ j. offset_at (f j) (g j) d))
  unfolding summed
  summed_at zero d below =
      let one = product_entry n (f 0) (g 0) d (long 0) (same 0) below in
      same_equal LAST _ (0 + offset_at (f 0) (g 0) d) (omega (arith, one))
  summed_at (suc j) d below =
      let before = summed_length j in
      let next : length (cyclic (reverse (f (suc j))) (g (suc j))) ≡ n = cyclic_length (reverse (f (suc j))) (g (suc j)) ∙ same (suc j) in
      let k = index_of_offset n d in
      let one = product_entry n (f (suc j)) (g (suc j)) d (long (suc j)) (same (suc j)) below in
      let entry : get_or (summed (suc j) f g) k 0 ≡ mixed LAST 1 1 (get_or (summed j f g) k 0) (get_or (cyclic (reverse (f (suc j))) (g (suc j))) k 0) =
      get_or-zip_with (mixed LAST 1 1) (summed j f g) (cyclic (reverse (f (suc j))) (g (suc j))) k (omega (arith, before, next)) (omega (arith, before, offset_below n d below))
      in
      same_trans LAST _ _ _ (same_equal LAST _ _ entry)
      (same_trans LAST _ _ _
      (same_mixed LAST 1 1 (get_or (summed j f g) k 0) (get_or (cyclic (reverse (f (suc j))) (g (suc j))) k 0)
      (sum_to (suc j) (λ j. offset_at (f j) (g j) d)) (offset_at (f (suc j)) (g (suc j)) d)
      (summed_at j d below) (same_equal LAST _ _ one))
      (same_equal LAST _ _ (omega arith)))
