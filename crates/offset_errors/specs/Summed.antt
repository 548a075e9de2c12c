-- What a reader has to trust: the sums at each offset of several products of lists. (Own.)
use Rattle.std.specs.Prelude.{ℕ, zero, suc, List, reverse}
use Rattle.cyclic_products.specs.declared.residues.TheConstants.{LAST}
use Rattle.cyclic_products.specs.Products.{cyclic}
use Rattle.cyclic_products.specs.Residues.{mix}

-- the cyclic products of lists from their end with others, from number 0 to the last, added up modulo
-- the prime
unfoldable pub summed : ℕ → (ℕ → List ℕ) → (ℕ → List ℕ) → List ℕ
summed zero f g = cyclic (reverse (f 0)) (g 0)
summed (suc j) f g = mix LAST 1 1 (summed j f g) (cyclic (reverse (f (suc j))) (g (suc j)))
