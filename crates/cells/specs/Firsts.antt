-- A reader has to trust this file. The numbers below a bound that have a property, and the first one
-- without it: rules that hold at each cell or pair are said by these words. (Own.)
use Rattle.std.specs.Prelude.{◌<◌, ℕ, Option, Some, None}

-- each number below n has the property
abbrev pub Each : ℕ → (ℕ → Type 0) → Type 0
Each n Holds = (i : ℕ) → i < n → Holds i

-- of the numbers below n, the first without the property
pub record IsFirstWithout (n : ℕ) (Holds : ℕ → Type 0) (place : ℕ) : Type 0 where
  pub below : place < n
  pub before : Each place Holds
  pub here : Holds place → ⊥

-- the first number below n without the property, if there is one
abbrev pub FirstWithout : ℕ → (ℕ → Type 0) → Option ℕ → Type 0
FirstWithout n Holds None = Each n Holds
FirstWithout n Holds (Some place) = IsFirstWithout n Holds place
