-- Lists of nodes that grow by one.
use Rattle.std.proofs.Common.{◌≡◌, ℕ, ◌+◌, ◌<◌, ◌≤◌, List, [], ◌∷◌, ◌++◌, length, get_or, refl, sym, ◌∙◌, subst, arith, ◌⊎◌, inl, inr, ⊎_elim}
use Rattle.std.proofs.Math.ListN.{get_or-append}
use Rattle.std.proofs.Math.Seq.{get_or-append_seam}
use Rattle.std.proofs.lemmas.Bool.{cases_lt}
use Rattle.std.proofs.lemmas.List.{get_or_past, length-append}
use Rattle.cut_graph.specs.Numberings.{IsNumbering, IsGivenAt}

-- a list with one number more
pub get-left : (xs : List ℕ) (v k : ℕ) → k < length xs → get_or (xs ++ v ∷ []) k 0 ≡ get_or xs k 0
get-left xs v k lt = get_or-append xs (v ∷ []) 0 k lt

pub get-end : (xs : List ℕ) (v k : ℕ) → k ≡ length xs → get_or (xs ++ v ∷ []) k 0 ≡ v
get-end xs v k at = subst (λ i. get_or (xs ++ v ∷ []) i 0 ≡ v) (sym at) (get_or-append_seam xs v [] 0)

pub length-end : (xs : List ℕ) (v : ℕ) → length (xs ++ v ∷ []) ≡ length xs + 1
length-end xs v = length-append xs (v ∷ [])

pub get-past : (xs : List ℕ) (v k : ℕ) → length xs < k → get_or (xs ++ v ∷ []) k 0 ≡ 0
get-past xs v k lt = get_or_past (xs ++ v ∷ []) k 0 (omega (arith, length-end xs v))

-- where an index of the longer list is
data Stands (xs : List ℕ) (v k : ℕ) : Type 0 where
  before : k < length xs → get_or (xs ++ v ∷ []) k 0 ≡ get_or xs k 0 → Stands xs v k
  last : k ≡ length xs → get_or (xs ++ v ∷ []) k 0 ≡ v → Stands xs v k
  behind : length xs < k → get_or (xs ++ v ∷ []) k 0 ≡ 0 → Stands xs v k

stands : (xs : List ℕ) (v k : ℕ) → Stands xs v k
stands xs v k = ⊎_elim (λ lt. before lt (get-left xs v k lt))
    (λ ge. ⊎_elim (λ more. behind more (get-past xs v k more)) (λ le. let at : k ≡ length xs = omega arith in last at (get-end xs v k at)) (cases_lt (length xs) k))
    (cases_lt k (length xs))

-- a numbering begins with nothing
pub numbering_none : (from : ℕ) (xs : List ℕ) → 0 < from → xs ≡ [] → IsNumbering from from xs
numbering_none from xs some none = subst (IsNumbering from from) (sym none) (record {
  order = omega arith;
  short = omega arith;
  below = λ k. some;
  apart = λ j k le e. absurd (omega arith);
  each = λ n le lt. absurd (omega arith);
})

still_stands : (xs : List ℕ) (v n : ℕ) → IsGivenAt xs n → IsGivenAt (xs ++ v ∷ []) n
still_stands xs v n at = record {
  index = at.index;
  below = omega (arith, at.below, length-end xs v);
  is = get-left xs v at.index at.below ∙ at.is;
}

-- with one node below its numbers it is the same
pub numbering_end : (from next v : ℕ) (xs : List ℕ) → v < from → IsNumbering from next xs → IsNumbering from next (xs ++ v ∷ [])
numbering_end from next v xs low is = record {
  order = is.order;
  short = omega (arith, is.short, length-end xs v);
  below = λ k. below k (stands xs v k);
  apart = λ j k le e. apart j k (stands xs v j) (stands xs v k) le e;
  each = λ n le lt. still_stands xs v n (is.each n le lt);
}
  where
    below : (k : ℕ) → Stands xs v k → get_or (xs ++ v ∷ []) k 0 < next
    below k (before lt e) = omega (arith, is.below k)
    below k (last at e) = omega (arith, is.order)
    below k (behind gt e) = omega (arith, is.order)

    apart : (j k : ℕ) → Stands xs v j → Stands xs v k → from ≤ get_or (xs ++ v ∷ []) j 0 → get_or (xs ++ v ∷ []) j 0 ≡ get_or (xs ++ v ∷ []) k 0 → j ≡ k
    apart j k (before lt e) (before lt' e') le same = is.apart j k (omega arith) (sym e ∙ same ∙ e')
    apart j k (before lt e) (last at' e') le same = absurd (omega arith)
    apart j k (before lt e) (behind gt' e') le same = absurd (omega arith)
    apart j k (last at e) other le same = absurd (omega arith)
    apart j k (behind gt e) other le same = absurd (omega arith)

-- with the next number it goes on
pub numbering_own : (from next : ℕ) (xs : List ℕ) → 0 < from → IsNumbering from next xs → IsNumbering from (next + 1) (xs ++ next ∷ [])
numbering_own from next xs some is = record {
  order = omega (arith, is.order);
  short = omega (arith, is.short, length-end xs next);
  below = λ k. below k (stands xs next k);
  apart = λ j k le e. apart j k (stands xs next j) (stands xs next k) le e;
  each = λ n le lt. each n le lt (cases_lt n next);
}
  where
    below : (k : ℕ) → Stands xs next k → get_or (xs ++ next ∷ []) k 0 < next + 1
    below k (before lt e) = omega (arith, is.below k)
    below k (last at e) = omega arith
    below k (behind gt e) = omega arith

    apart : (j k : ℕ) → Stands xs next j → Stands xs next k → from ≤ get_or (xs ++ next ∷ []) j 0 → get_or (xs ++ next ∷ []) j 0 ≡ get_or (xs ++ next ∷ []) k 0 → j ≡ k
    apart j k (before lt e) (before lt' e') le same = is.apart j k (omega arith) (sym e ∙ same ∙ e')
    apart j k (before lt e) (last at' e') le same = absurd (omega (arith, is.below j))
    apart j k (before lt e) (behind gt' e') le same = absurd (omega arith)
    apart j k (last at e) (before lt' e') le same = absurd (omega (arith, is.below k))
    apart j k (last at e) (last at' e') le same = omega arith
    apart j k (last at e) (behind gt' e') le same = absurd (omega arith)
    apart j k (behind gt e) other le same = absurd (omega arith)

    each : (n : ℕ) → from ≤ n → n < next + 1 → (n < next) ⊎ (next ≤ n) → IsGivenAt (xs ++ next ∷ []) n
    each n le lt (inl under) = still_stands xs next n (is.each n le under)
    each n le lt (inr end) = record {
      index = length xs;
      below = omega (arith, length-end xs next);
      is = get-end xs next (length xs) refl ∙ (let at : next ≡ n = omega arith in at);
    }
