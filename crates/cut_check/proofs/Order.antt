-- The order of pairs: those of earlier cells have smaller numbers, and so a walk over the cells finds the first.
use Rattle.std.proofs.Common.{◌≡◌, ℕ, ◌+◌, ◌<◌, refl, sym, ◌∙◌, subst, arith, ⊎_elim, ◌⊎◌, inl, inr, Bool, true, false}
use Rattle.std.proofs.lemmas.Bool.{cases_lt, cases_order}
use mathlib.Core.Bool.{false≢true}
use Rattle.cells.specs.declared.place.Size.{Size}
use Rattle.cells.specs.declared.place.Axis.{Axis}
use Rattle.cells.specs.declared.place.Axis.TheVariants.{X, Y, F}
use Rattle.cells.specs.Distances.{distance}
use Rattle.cells.specs.Places.{cell_count, raster_index}
use Rattle.boxes.specs.declared.counts.Counts.{Counts}
use Rattle.boxes.specs.Pairs.{IsPair, has_next, pair_number}
use Rattle.boxes.proofs.Indices.{counts_below, index_below, same_at}
use Rattle.boxes.proofs.PairNumbers.{earlier, number_below}
use Rattle.cut_check.specs.declared.record.CutRecord.{CutRecord}
use Rattle.cut_check.specs.Records.{BoundsAll, IsBoundedPair, IsFirstUnbounded, Setting}
use Rattle.cut_check.specs.Steps.{EachAxis, EachBefore, HoldsAlong, HoldsBefore, IsAt, IsFirstAxis}

-- a fact of three counts is one of the same three
moved : (Holds : ℕ → ℕ → ℕ → Type 0) (x y f a b c : ℕ) → x ≡ a → y ≡ b → f ≡ c → Holds a b c → Holds x y f
moved Holds x y f a b c ex ey ef holds =
    subst (λ x. Holds x y f) (sym ex) (subst (λ y. Holds a y f) (sym ey) (subst (λ f. Holds a b f) (sym ef) holds))

-- one cell more
pub before_more : (size : Size) (i : ℕ) (at : Counts) (Holds : ℕ → ℕ → ℕ → Type 0) → IsAt size i at → EachBefore size i Holds → Holds at.x at.y at.f → EachBefore size (i + 1) Holds
before_more size i at Holds is each here x y f are lt = ⊎_elim
    (λ before. each x y f are before)
    (λ from.
    let same = same_at size i x y f at.x at.y at.f (record { column = are.column; row = are.row; index = omega arith }) is in
    moved Holds x y f at.x at.y at.f same.x_same same.y_same same.f_same here)
    (cases_lt (raster_index size x y f) i)

-- what holds of the axes before one holds of an axis whose pair has a smaller number
smaller_holds : (size : Size) (axis other : Axis) (x y f : ℕ) (Holds : Axis → Type 0) → HoldsBefore Holds axis → pair_number size other x y f < pair_number size axis x y f → Holds other
smaller_holds size X X x y f Holds before lt = absurd (omega arith)
smaller_holds size X Y x y f Holds before lt = absurd (omega arith)
smaller_holds size X F x y f Holds before lt = absurd (omega arith)
smaller_holds size Y X x y f Holds before lt = before
smaller_holds size Y Y x y f Holds before lt = absurd (omega arith)
smaller_holds size Y F x y f Holds before lt = absurd (omega arith)
smaller_holds size F X x y f Holds before lt = before.0
smaller_holds size F Y x y f Holds before lt = before.1
smaller_holds size F F x y f Holds before lt = absurd (omega arith)

module _ (s : Setting) (cut : CutRecord) where
  abbrev Bounded : ℕ → ℕ → ℕ → Type 0
  Bounded x y f = EachAxis (HoldsAlong (distance s.sample) s.map cut x y f)

  -- what holds of each cell's pairs holds of each number
  pub each_pair : EachBefore cut.placement.rect.size (cell_count cut.placement.rect.size) Bounded → BoundsAll s cut
  each_pair all number lt axis x y f inside next is = all x y f inside (index_below cut.placement.rect.size x y f inside) axis next

  module _ (i : ℕ) (at : Counts) (axis : Axis) (here : IsAt cut.placement.rect.size i at) (below : i < cell_count cut.placement.rect.size)
      (all : EachBefore cut.placement.rect.size i Bounded)
      (first : IsFirstAxis (HoldsAlong (distance s.sample) s.map cut at.x at.y at.f) axis) where
    abbrev size : Size
    size = cut.placement.rect.size

    pair : IsPair size axis at.x at.y at.f
    pair = record { counts = counts_below size i at.x at.y at.f here below; next = by (has_next size axis at.x at.y at.f) refl }
      where
        by : (b : Bool) → has_next size axis at.x at.y at.f ≡ b → b ≡ true
        by true is = refl
        by false is = absurd (first.here (λ has. absurd (false≢true (sym is ∙ has))))

    before : (number : ℕ) → number < pair_number size axis at.x at.y at.f → IsBoundedPair s cut number
    before number lt other x y f inside has is = by (cases_order (raster_index size x y f) (raster_index size at.x at.y at.f)) has
      where
        by : (raster_index size x y f ≡ raster_index size at.x at.y at.f) ⊎ ((raster_index size x y f < raster_index size at.x at.y at.f) ⊎ (raster_index size at.x at.y at.f < raster_index size x y f))
            → HoldsAlong (distance s.sample) s.map cut x y f other
        by (inr (inl less)) = all x y f inside (omega (arith, here.index)) other
        by (inr (inr more)) = absurd (omega (arith, is, earlier size axis other at.x at.y at.f x y f pair more))
        by (inl same) =
            let counts = same_at size i x y f at.x at.y at.f (record { column = inside.column; row = inside.row; index = omega (arith, here.index) }) here in
            let smaller : pair_number size other at.x at.y at.f < pair_number size axis at.x at.y at.f =
            subst (λ n. n < pair_number size axis at.x at.y at.f) (sym is ∙ (λ k. pair_number size other (counts.x_same k) (counts.y_same k) (counts.f_same k))) lt in
            moved (λ x y f. HoldsAlong (distance s.sample) s.map cut x y f other) x y f at.x at.y at.f counts.x_same counts.y_same counts.f_same
            (smaller_holds size axis other at.x at.y at.f (HoldsAlong (distance s.sample) s.map cut at.x at.y at.f) first.before smaller)

    -- the first axis of the first cell with a pair past its bounds is that of the first such pair
    pub first_pair : IsFirstUnbounded s cut (pair_number size axis at.x at.y at.f)
    first_pair = record {
      below = number_below size axis at.x at.y at.f pair;
      before = before;
      here = λ bounded. first.here (λ has. bounded axis at.x at.y at.f pair.counts has refl);
    }
