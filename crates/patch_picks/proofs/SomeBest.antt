-- Of some errors one is the best, or none has a filled cell.
use Rattle.std.proofs.Common.{◌≡◌, ℕ, zero, suc, ◌*◌, ◌<◌, ◌≤◌, Bool, true, false, List, [], ◌∷◌, get_or, length, ap, sym, ◌∙◌, subst, refl, arith, inl, inr, ⊎_elim}
use Rattle.std.proofs.lemmas.Bool.{leb-true, leb-false}
use Rattle.std.proofs.lemmas.List.Elements.{Contains-append_cases, Contains-append_right}
use Rattle.std.specs.Prelude.{◌⊎◌, Contains, nat_le}
use Rattle.match_error.specs.declared.error.Error.{Error}
use Rattle.patch_picks.specs.Picks.{IsBest}
use Rattle.patch_picks.proofs.Bests.{between}

-- of some errors one is the best, or none has a filled cell
abbrev pub BestOrNone : List Error → Type 0
BestOrNone errors = ((error : Error) → Contains errors error → error.count ≡ 0) ⊎ ((best : Error) × IsBest errors best)

module _ (error : Error) (errors : List Error) where
  here : Contains (error ∷ errors) error
  here = (zero, omega arith, refl)

  there : (other : Error) → Contains errors other → Contains (error ∷ errors) other
  there other has = Contains-append_right (error ∷ []) errors other has

  after : (other : Error) → Contains (error ∷ errors) other → (other ≡ error) ⊎ Contains errors other
  after other has = elim (Contains-append_cases (error ∷ []) errors other has) [
    | inl first ↦ inl (alone first.0 first.1 first.2)
    | inr later ↦ inr later
  ]
    where
      alone : (i : ℕ) → i < length (error ∷ []) → get_or (error ∷ []) i other ≡ other → other ≡ error
      alone zero lt e = sym e
      alone (suc i) lt e = absurd (omega (arith, lt))

  -- the first one is the best, where it has a filled cell and is no worse than the others
  first_best : 1 ≤ error.count → ((other : Error) → Contains errors other → 1 ≤ other.count → error.sum * other.count ≤ other.sum * error.count) → IsBest (error ∷ errors) error
  first_best some each = record {
    listed = here;
    filled = some;
    least = λ other has filled.
        ⊎_elim (λ (e : other ≡ error). omega (arith, ap (λ (x : Error). x.sum * error.count) e, ap (λ (x : Error). error.sum * x.count) e)) (λ old. each other old filled) (after other has);
  }

  -- a best of the others is the best, where the first one is no better
  later_best : (best : Error) → IsBest errors best → (1 ≤ error.count → best.sum * error.count ≤ error.sum * best.count) → IsBest (error ∷ errors) best
  later_best best is le = record {
    listed = there best is.listed;
    filled = is.filled;
    least = λ other has filled.
        ⊎_elim (λ (e : other ≡ error).
        let some : 1 ≤ error.count = subst (λ (x : Error). 1 ≤ x.count) e filled in
        omega (arith, le some, ap (λ (x : Error). x.sum * best.count) e, ap (λ (x : Error). best.sum * x.count) e)) (λ old. is.least other old filled) (after other has);
  }

  both_best : 1 ≤ error.count → (best : Error) → IsBest errors best → (b : Bool) → nat_le (error.sum * best.count) (best.sum * error.count) ≡ b → BestOrNone (error ∷ errors)
  both_best some best is true e =
      inr (error, first_best some (λ other old filled. between error.sum error.count best.sum best.count other.sum other.count is.filled (leb-true _ _ e) (is.least other old filled)))
  both_best some best is false e =
      let less : best.sum * error.count < error.sum * best.count = leb-false _ _ e in
      inr (best, later_best best is (λ some. omega (arith, less)))

  more_best : (n : ℕ) → error.count ≡ n → BestOrNone errors → BestOrNone (error ∷ errors)
  more_best zero e (inl each) = inl (λ other has. ⊎_elim (λ (same : other ≡ error). ap (λ (x : Error). x.count) same ∙ e) (λ old. each other old) (after other has))
  more_best zero e (inr found) = inr (found.0, later_best found.0 found.1 (λ some. absurd (omega (arith, some, e))))
  more_best (suc n) e (inl each) = inr (error, first_best (omega (arith, e)) (λ other old filled. absurd (omega (arith, filled, each other old))))
  more_best (suc n) e (inr found) = both_best (omega (arith, e)) found.0 found.1 (nat_le (error.sum * found.0.count) (found.0.sum * error.count)) refl

pub best_or_none : (errors : List Error) → BestOrNone errors
best_or_none [] = inl (λ error has. absurd (omega (arith, has.1)))
best_or_none (error ∷ errors) = more_best error errors error.count refl (best_or_none errors)
