-- The first number without a property is one, and so is the first broken rule of several.
use Rattle.std.proofs.Common.{◌≡◌, ◌⊎◌, ℕ, inl, inr}
use Rattle.std.proofs.lemmas.Bool.{cases_order}
use Rattle.cells.specs.Firsts.{IsFirstWithout}
use Rattle.loop_walk.specs.Records.{IsFirstPlace}

pub one_first : (n : ℕ) (Holds : ℕ → Type 0) (p q : ℕ) → IsFirstWithout n Holds p → IsFirstWithout n Holds q → p ≡ q
one_first n Holds p q first other = elim (cases_order p q) [
  | inl same ↦ same
  | inr (inl lt) ↦ absurd (first.here (other.before p lt))
  | inr (inr lt) ↦ absurd (other.here (first.before q lt))
]

pub one_place : (n : ℕ) (Holds : ℕ → Type 0) (p q : ℕ) → IsFirstPlace n Holds p → IsFirstPlace n Holds q → p ≡ q
one_place n Holds p q first other = elim (cases_order p q) [
  | inl same ↦ same
  | inr (inl lt) ↦ absurd (first.broken (other.before p lt))
  | inr (inr lt) ↦ absurd (other.broken (first.before q lt))
]

-- of a first property of faults and others, of which at most one holds, and for one fault
pub either : {F : Type 0} → (Alike : F → F → Type 0) (P Q : F → Type 0) → ((f g : F) → P f → P g → Alike f g) → ((f g : F) → P f → Q g → ⊥) → ((f g : F) → Q f → Q g → Alike f g)
    → (f g : F) → P f ⊎ Q f → P g ⊎ Q g → Alike f g
either Alike P Q first apart others f g (inl p) (inl q) = first f g p q
either Alike P Q first apart others f g (inl p) (inr q) = absurd (apart f g p q)
either Alike P Q first apart others f g (inr p) (inl q) = absurd (apart g f q p)
either Alike P Q first apart others f g (inr p) (inr q) = others f g p q
