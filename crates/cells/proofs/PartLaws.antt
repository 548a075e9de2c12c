-- Places along parts: indices are below the count, and two places with one index are one place.
use Rattle.std.proofs.Common.{◌≡◌, ℕ, ◌+◌, ◌<◌, ◌≤◌, List, [], ◌∷◌, inl, inr, refl, ap, sym, ◌∙◌, arith}
use Rattle.std.proofs.lemmas.Int.{ints}
use Rattle.std.specs.Prelude.{◌⊎◌, ℤ, pos, ◌-ℤ◌, ◌≤ℤ◌, ◌<ℤ◌, Option, Some, None, length}
use Rattle.cells.specs.declared.place.At.{At}
use Rattle.cells.specs.declared.place.Size.{Size}
use Rattle.limits.specs.declared.bounds.TheConstants.{MOST_CELLS, MOST_PARTS}
use Rattle.cells.specs.Places.{IsSmall, index_in, cell_count}
use Rattle.cells.specs.Parts.{AreParts, count_from, index_from, or_later, past}
use Rattle.cells.proofs.Raster.{index_parts, index_below, one_place}

-- the first part is small
pub small_of : (size : Size) (more : List Size) → AreParts size more → IsSmall size
small_of size [] parts = record { axes = parts.first; cells = parts.cells }
small_of size (next ∷ more) parts = record { axes = parts.first; cells = let whole : cell_count size + count_from next more ≤ MOST_CELLS = parts.cells in omega arith }

-- and so are those after it
pub parts_behind : (size next : Size) (more : List Size) → AreParts size (next ∷ more) → AreParts next more
parts_behind size next more parts = record {
  few = let few : length (next ∷ more) < MOST_PARTS = parts.few in omega (arith, few);
  first = parts.others.0;
  others = parts.others.1;
  cells = let whole : cell_count size + count_from next more ≤ MOST_CELLS = parts.cells in omega arith;
}

some_same : {A : Type 0} (x y : A) → Some x ≡ Some y → x ≡ y
some_same x y e = cc

-- a place after a part
pub record IsBehind (size next : Size) (more : List Size) (p : At) (i : ℕ) : Type 0 where
  pub outside : index_in size p ≡ None
  pub j : ℕ
  pub index : index_from next more (past size p) ≡ Some j
  pub is : i ≡ cell_count size + j

pub split_from : (size next : Size) (more : List Size) (p : At) (i : ℕ) → index_from size (next ∷ more) p ≡ Some i → (index_in size p ≡ Some i) ⊎ IsBehind size next more p i
split_from size next more p i e = by (index_in size p) (index_from next more (past size p)) refl refl e
  where
    by : (a b : Option ℕ) → index_in size p ≡ a → index_from next more (past size p) ≡ b → or_later a (cell_count size) b ≡ Some i → (index_in size p ≡ Some i) ⊎ IsBehind size next more p i
    by (Some a) b ea eb is = inl (ea ∙ is)
    by None None ea eb is = cc
    by None (Some j) ea eb is = inr (record { outside = ea; j = j; index = eb; is = some_same _ _ (sym is) })

-- before the first frame no part has a place
pub from_frame : (size : Size) (more : List Size) (p : At) (i : ℕ) → index_from size more p ≡ Some i → pos 0 ≤ℤ p.f
from_frame size [] p i e = let at = index_parts size p i e in omega (arith, ints, at.f_on.is)
from_frame size (next ∷ more) p i e =
    elim (split_from size next more p i e) [
      | inl here ↦ let at = index_parts size p i here in omega (arith, ints, at.f_on.is)
      | inr behind ↦ omega (arith, ints, from_frame next more (past size p) behind.j behind.index)
    ]

pub index_from_below : (size : Size) (more : List Size) (p : At) (i : ℕ) → index_from size more p ≡ Some i → i < count_from size more
index_from_below size [] p i e = index_below size p i e
index_from_below size (next ∷ more) p i e =
    elim (split_from size next more p i e) [
      | inl here ↦ let below = index_below size p i here in omega (arith, below)
      | inr behind ↦ let below = index_from_below next more (past size p) behind.j behind.index in omega (arith, below, behind.is)
    ]

-- a place before the first frame has no index
pub none_before : (size : Size) (more : List Size) (p : At) → p.f <ℤ pos 0 → index_from size more p ≡ None
none_before size more p before = by (index_from size more p) refl
  where
    by : (o : Option ℕ) → index_from size more p ≡ o → o ≡ None
    by None e = refl
    by (Some i) e = absurd (omega (arith, ints, before, from_frame size more p i e))

same_past : (size : Size) (p q : At) → past size p ≡ past size q → p ≡ q
same_past size p q e = λ k. record { x = (e k).x; y = (e k).y; f = back p.f q.f (λ j. (e j).f) k }
  where
    back : (a b : ℤ) → a -ℤ pos (size.f + 1) ≡ b -ℤ pos (size.f + 1) → a ≡ b
    back a b is = omega (arith, ints, is)

pub one_place_from : (size : Size) (more : List Size) (p q : At) (i : ℕ) → index_from size more p ≡ Some i → index_from size more q ≡ Some i → p ≡ q
one_place_from size [] p q i ep eq = one_place size p q i ep eq
one_place_from size (next ∷ more) p q i ep eq =
    elim (split_from size next more p i ep) [
      | inl p_here ↦
          elim (split_from size next more q i eq) [
            | inl q_here ↦ one_place size p q i p_here q_here
            | inr q_behind ↦ absurd (omega (arith, index_below size p i p_here, q_behind.is))
          ]
      | inr p_behind ↦
          elim (split_from size next more q i eq) [
            | inl q_here ↦ absurd (omega (arith, index_below size q i q_here, p_behind.is))
            | inr q_behind ↦
                same_past size p q (one_place_from next more (past size p) (past size q) p_behind.j p_behind.index
                (q_behind.index ∙ ap Some (let same : q_behind.j ≡ p_behind.j = omega (arith, p_behind.is, q_behind.is) in same)))
          ]
    ]

-- a place inside the first part has its index there
pub index_front : (size : Size) (more : List Size) (p : At) (i : ℕ) → index_in size p ≡ Some i → index_from size more p ≡ Some i
index_front size [] p i e = e
index_front size (next ∷ more) p i e = ap (λ o. or_later o (cell_count size) (index_from next more (past size p))) e

-- outside it, a place has the index of the next part
pub index_back : (size next : Size) (more : List Size) (p : At) → index_in size p ≡ None → index_from size (next ∷ more) p ≡ or_later None (cell_count size) (index_from next more (past size p))
index_back size next more p e = ap (λ o. or_later o (cell_count size) (index_from next more (past size p))) e

-- one part of a small size
pub one_part : (size : Size) → IsSmall size → AreParts size []
one_part size small = record { few = omega arith; first = small.axes; others = tt; cells = small.cells }
