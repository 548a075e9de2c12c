-- What a reader has to trust: a list of 2^k numbers as a polynomial, split into its residues modulo
-- polynomials of half the length, level by level, and joined again. The polynomial with number j of a
-- level is x^m - c, where c is the square of number j of a table; modulo its two halves' polynomials, x^(m/2) - a
-- and x^(m/2) + a for that number a, which have numbers 2 * j and 2 * j + 1 on the next level. (Bernstein 2001.)
use Rattle.std.specs.Prelude.{ℕ, zero, suc, ◌≡◌, ◌≤◌, ◌<◌, ◌+◌, ◌*◌, ◌^◌, ◌%◌, List, [], ◌∷◌, ◌++◌, length, slice_index_or, take, drop}
use Rattle.std.proofs.Common.{map}
use Rattle.cyclic_products.specs.Residues.{AreCongruent, IsCongruent, mix}

abbrev pub at : List ℕ → ℕ → ℕ
at table j = slice_index_or table j 0

-- the residues of a list of 2^k numbers, modulo x - r for each root r of polynomial j, one after another
unfoldable pub split_by : ℕ → List ℕ → ℕ → ℕ → List ℕ → List ℕ
split_by q table zero j f = f
split_by q table (suc k) j f =
    split_by q table k (2 * j) (mix q 1 (at table j) (take (2 ^ k) f) (drop (2 ^ k) f))
    ++ split_by q table k (2 * j + 1)
    (mix q 1 (q * at table j) (take (2 ^ k) f) (drop (2 ^ k) f))

-- the way back, by a half of 1 and a table of the halves of 1 / a
unfoldable pub join_by : ℕ → ℕ → List ℕ → ℕ → ℕ → List ℕ → List ℕ
join_by q half halves zero j f = f
join_by q half halves (suc k) j f =
    let low = join_by q half halves k (2 * j) (take (2 ^ k) f) in
    let high = join_by q half halves k (2 * j + 1) (drop (2 ^ k) f) in
    mix q half half low high ++ mix q (at halves j) (q * at halves j) low high

-- the tables: of 2^k numbers, each of the second half is one of the first, times one of a ladder
unfoldable pub table_of : ℕ → ℕ → List ℕ → ℕ → List ℕ
table_of q first ladder zero = first ∷ []
table_of q first ladder (suc k) =
    table_of q first ladder k
    ++ map (λ x. (x * at ladder k) % (q + 1)) (table_of q first ladder k)

-- the numbers of a table have the squares that polynomials are split by: those of numbers 2 * j and
-- 2 * j + 1 are number j and its negative
pub record HasSquares (q : ℕ) (table : List ℕ) : Type 0 where
  pub first : IsCongruent q (at table 0) 1
  pub even : (j : ℕ) → 2 * j < length table
      → IsCongruent q (at table (2 * j) * at table (2 * j)) (at table j)
  pub odd : (j : ℕ) → 2 * j + 1 < length table
      → IsCongruent q (at table (2 * j + 1) * at table (2 * j + 1)) (q * at table j)

-- those of another are the halves of one over them
pub record HasHalves (q : ℕ) (table halves : List ℕ) : Type 0 where
  pub inverse : (j : ℕ) → j < length table
      → IsCongruent q (2 * (at table j * at halves j)) 1

-- the tables of a transform of 2^levels numbers
pub record Tables : Type 0 where
  pub levels : ℕ
  pub roots : List ℕ
  pub halves : List ℕ

pub record AreTables (q : ℕ) (t : Tables) : Type 0 where
  pub some : 1 ≤ t.levels
  pub whole : 2 * length t.roots ≡ 2 ^ t.levels
  pub same : length t.halves ≡ length t.roots
  pub squares : HasSquares q t.roots
  pub inverses : HasHalves q t.roots t.halves

-- numbers are, modulo q + 1, the images of a list
pub record AreImages (q : ℕ) (t : Tables) (f images : List ℕ) : Type 0 where
  pub whole : length f ≡ 2 ^ t.levels
  pub split : AreCongruent q images (split_by q t.roots t.levels 0 f)
