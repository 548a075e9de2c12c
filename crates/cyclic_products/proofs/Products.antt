-- The images of a product are the products of images, and those of a sum are sums.
use Rattle.std.proofs.Common.{◌≡◌, ℕ, ◌+◌, ◌*◌, ◌^◌, ◌%◌, ◌≤◌, List, length, sym, ◌∙◌, ap, arith}
use Rattle.std.specs.List.{AllZip}
use Rattle.std.proofs.lemmas.Nat.{pow_pos}
use Rattle.cyclic_products.specs.Residues.{IsCongruent, mix, mixed, zip_with}
use Rattle.cyclic_products.specs.Products.{cyclic}
use Rattle.cyclic_products.specs.Splits.{AreImages, AreTables, Tables, at, split_by}
use Rattle.cyclic_products.proofs.SameNumbers.{same_equal, same_mixed, same_mod, same_sym, same_times, same_trans}
use Rattle.cyclic_products.proofs.Lists.{all_zip_both, all_zip_compose, all_zip_meet, length-zip_with}
use Rattle.cyclic_products.proofs.Values.{value, value-mix}
use Rattle.cyclic_products.proofs.Images.{IsValueAt, are_values, roots_of}
use Rattle.cyclic_products.proofs.Cyclic.{length-cyclic, value-cyclic}

module _ (q : ℕ) (t : Tables) (tables : AreTables q t) where
  abbrev roots : List ℕ
  roots = roots_of q t.roots t.levels 0 1

  abbrev Values : List ℕ → List ℕ → Type 0
  Values f images = AllZip (IsValueAt q t.levels 1 f) images roots

  pub room : (0 + 1) * 2 ^ t.levels ≤ 2 * length t.roots
  room = omega (arith, tables.whole)

  first : IsCongruent q (at t.roots 0 * at t.roots 0) 1
  first = same_trans q _ _ _ (tables.squares.even 0 (omega (arith, tables.whole, pow_pos t.levels))) tables.squares.first

  of_split : (f : List ℕ) → length f ≡ 2 ^ t.levels → Values f (split_by q t.roots t.levels 0 f)
  of_split f whole = are_values q t.roots tables.squares t.levels 0 1 f whole room (λ _. first)

  values_of : (f images : List ℕ) → AreImages q t f images → Values f images
  values_of f images are =
      all_zip_compose (IsCongruent q) (IsValueAt q t.levels 1 f) (IsValueAt q t.levels 1 f) images _ roots
      (λ a b r same at_r. record { value = same_trans q _ _ _ same at_r.value; root = at_r.root }) are.split (of_split f are.whole)

  images_of : (f images : List ℕ) → length f ≡ 2 ^ t.levels → Values f images → AreImages q t f images
  images_of f images whole values = record {
    whole = whole;
    split =
        all_zip_meet (IsValueAt q t.levels 1 f) (IsValueAt q t.levels 1 f) (IsCongruent q) images _ roots
        (λ a b r one other. same_trans q _ _ _ one.value (same_sym q _ _ other.value)) values (of_split f whole);
  }

  pub multiplied : (f g images others : List ℕ) → AreImages q t f images → AreImages q t g others → AreImages q t (cyclic f g) (zip_with (λ x y. (x * y) % (q + 1)) images others)
  multiplied f g images others of_f of_g =
      images_of (cyclic f g) _ (length-cyclic f g ∙ of_g.whole)
      (all_zip_both (IsValueAt q t.levels 1 f) (IsValueAt q t.levels 1 g) (IsValueAt q t.levels 1 (cyclic f g)) (λ x y. (x * y) % (q + 1)) images others roots
      each (values_of f images of_f) (values_of g others of_g))
    where
      each : (a b r : ℕ) → IsValueAt q t.levels 1 f a r → IsValueAt q t.levels 1 g b r → IsValueAt q t.levels 1 (cyclic f g) ((a * b) % (q + 1)) r
      each a b r at_f at_g =
          let root : IsCongruent q (r ^ length g) 1 = same_trans q _ _ _ (same_equal q _ _ (ap (λ n. r ^ n) of_g.whole)) at_f.root in
          let whole : IsCongruent q (value r (cyclic f g)) (value r f * value r g) =
          value-cyclic q r f g (omega (arith, of_g.whole, pow_pos t.levels)) (omega (arith, of_f.whole, of_g.whole)) root in
          record {
            value =
                same_trans q _ _ _ (same_mod q (a * b))
                (same_trans q _ _ _ (same_times q _ _ _ _ at_f.value at_g.value) (same_sym q _ _ whole));
            root = at_f.root;
          }

  pub added : (f g images others : List ℕ) → AreImages q t f images → AreImages q t g others → AreImages q t (mix q 1 1 f g) (mix q 1 1 images others)
  added f g images others of_f of_g =
      images_of (mix q 1 1 f g) _ (length-zip_with (mixed q 1 1) f g equal ∙ of_f.whole)
      (all_zip_both (IsValueAt q t.levels 1 f) (IsValueAt q t.levels 1 g) (IsValueAt q t.levels 1 (mix q 1 1 f g)) (mixed q 1 1) images others roots
      each (values_of f images of_f) (values_of g others of_g))
    where
      equal : length f ≡ length g
      equal = of_f.whole ∙ sym of_g.whole

      each : (a b r : ℕ) → IsValueAt q t.levels 1 f a r → IsValueAt q t.levels 1 g b r → IsValueAt q t.levels 1 (mix q 1 1 f g) (mixed q 1 1 a b) r
      each a b r at_f at_g = record {
        value =
            same_trans q _ _ _ (same_mixed q 1 1 a b (value r f) (value r g) at_f.value at_g.value)
            (same_sym q _ _ (value-mix q 1 1 r f g equal));
        root = at_f.root;
      }
