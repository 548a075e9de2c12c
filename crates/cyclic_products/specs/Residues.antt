-- What a reader has to trust: numbers modulo q + 1, of which q is -1. (Own.)
use Rattle.std.specs.Prelude.{◌≡◌, ℕ, ◌+◌, ◌*◌, ◌%◌, List, [], ◌∷◌}
use Rattle.std.specs.List.{AllZip}

-- two numbers are the same modulo q + 1
pub record IsCongruent (q a b : ℕ) : Type 0 where
  pub same : a % (q + 1) ≡ b % (q + 1)

-- two lists have one length, and are the same number by number
abbrev pub AreCongruent : ℕ → List ℕ → List ℕ → Type 0
AreCongruent q xs ys = AllZip (IsCongruent q) xs ys

-- what an operation makes of two lists, number by number
unfoldable pub zip_with : (ℕ → ℕ → ℕ) → List ℕ → List ℕ → List ℕ
zip_with op [] ys = []
zip_with op (x ∷ xs) [] = []
zip_with op (x ∷ xs) (y ∷ ys) = op x y ∷ zip_with op xs ys

-- a * x + b * y modulo q + 1, for each x of one list and y of another
abbrev pub mixed : ℕ → ℕ → ℕ → ℕ → ℕ → ℕ
mixed q a b x y = (a * x + b * y) % (q + 1)

abbrev pub mix : ℕ → ℕ → ℕ → List ℕ → List ℕ → List ℕ
mix q a b xs ys = zip_with (mixed q a b) xs ys
