-- Of marks either each can be one of the pictures' or there is one first bad one.
use Rattle.std.proofs.Common.{◌≡◌, ℕ, zero, suc, ◌+◌, ◌<◌, ◌⊎◌, inl, inr, Bool, true, false, Bor, List, [], length, get_or, refl, ap, sym, ◌∙◌, subst, arith}
use Rattle.std.proofs.Common.{eq-eqb, eqb-true}
use Rattle.std.specs.Prelude.{Option, Some, None, IsSome, nat_eq, option_copied}
use mathlib.Core.Bool.{false≢true}
use Rattle.cells.specs.declared.place.At.{At}
use Rattle.cells.specs.declared.place.Size.{Size}
use Rattle.cells.specs.Cells.{Cells, IsOnePart, IsVolume, cell_at}
use Rattle.cells.specs.Parts.{count_from}
use Rattle.cells.specs.Places.{cell_count, place_of}
use Rattle.cells.proofs.CellLaws.{cell_is}
use Rattle.cells.proofs.Raster.{place_at}
use Rattle.photo_merge.specs.Marks.{AreMerging, HasMark, IsFirstBad}

-- the cell at a place of the marks is at its index
pub mark_cell : (marks : Cells) → IsVolume marks → (i : ℕ) → i < cell_count marks.size → cell_at marks (place_of marks.size i) ≡ Some (get_or marks.cells i [])
mark_cell marks volume i lt = cell_is marks volume (place_of marks.size i) i (place_at marks.size i volume.small.axes.w.0 volume.small.axes.h.0 lt)

-- what is found at the place of an index is the cell there
pub cell_found : (marks : Cells) (size : Size) (p : At) (i : ℕ) (o : Option (Bor (List ℕ))) → IsVolume marks → size ≡ marks.size → i < cell_count size → p ≡ place_of size i → option_copied o ≡ cell_at marks p
    → option_copied o ≡ Some (get_or marks.cells i [])
cell_found marks size p i o volume size_is lt place copied =
    let below : i < cell_count marks.size = subst (λ s. i < cell_count s) size_is lt in
    copied ∙ ap (cell_at marks) (place ∙ ap (λ s. place_of s i) size_is) ∙ mark_cell marks volume i below

-- so one is found there, and it is that one
pub found : (o : Option (Bor (List ℕ))) (cell : List ℕ) → option_copied o ≡ Some cell → IsSome o
found None cell is = let none : None ≡ Some cell = is in absurd (cc)
found (Some x) cell is = refl

pub found_is : (o : Option (Bor (List ℕ))) (x : Bor (List ℕ)) (cell : List ℕ) → o ≡ Some x → option_copied o ≡ Some cell → x.now ≡ cell
found_is o x cell at is = let both : Some x.now ≡ Some cell = sym (ap option_copied at) ∙ is in cc

-- one cell more can be a mark
pub one_more : (count : ℕ) (marks : Cells) (i : ℕ) → ((j : ℕ) → j < i → HasMark count marks j) → HasMark count marks i → (j : ℕ) → j < i + 1 → HasMark count marks j
one_more count marks i all its j lt = by (nat_eq j i) refl
  where
    by : (t : Bool) → nat_eq j i ≡ t → HasMark count marks j
    by true e = subst (HasMark count marks) (sym (eqb-true j i e)) its
    by false e = all j (below (λ same. false≢true (sym e ∙ eq-eqb j i same)))
      where
        below : (j ≡ i → ⊥) → j < i
        below other = omega (arith, lt, other)

pub marks_length : (marks : Cells) → IsVolume marks → IsOnePart marks → length marks.cells ≡ cell_count marks.size
marks_length marks volume one = volume.count ∙ ap (count_from marks.size) one

pub bad_or_merging : (count : ℕ) (marks : Cells) (index : ℕ) → IsFirstBad count marks index → AreMerging count marks → ⊥
bad_or_merging count marks index first all = first.bad (all index first.inside)

pub bad_once : (count : ℕ) (marks : Cells) (one other : ℕ) → IsFirstBad count marks one → IsFirstBad count marks other → one ≡ other
bad_once count marks one other a b = by (three one other)
  where
    three : (x y : ℕ) → (x < y) ⊎ ((x ≡ y) ⊎ (y < x))
    three zero zero = inr (inl refl)
    three zero (suc y) = inl (omega arith)
    three (suc x) zero = inr (inr (omega arith))
    three (suc x) (suc y) = elim (three x y) [ inl lt ↦ inl (omega arith) | inr r ↦ elim r [ inl e ↦ inr (inl (ap suc e)) | inr gt ↦ inr (inr (omega arith)) ] ]

    by : (one < other) ⊎ ((one ≡ other) ⊎ (other < one)) → one ≡ other
    by (inl lt) = absurd (a.bad (b.before one lt))
    by (inr (inl same)) = same
    by (inr (inr lt)) = absurd (b.bad (a.before other lt))
