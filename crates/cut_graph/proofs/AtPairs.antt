-- Lists with a value for each pair, as they grow.
use Rattle.std.proofs.Common.{◌≡◌, ℕ, ◌+◌, ◌<◌, List, [], ◌∷◌, ◌++◌, length, sym, ap, ◌∙◌, subst, arith, ⊎_elim}
use Rattle.std.proofs.lemmas.Bool.{cases_lt}
use Rattle.cells.specs.declared.place.Size.{Size}
use Rattle.cells.specs.declared.place.Axis.{Axis}
use Rattle.boxes.proofs.PairNumbers.{SamePair, number_apart}
use Rattle.boxes.specs.Pairs.{pair_number, IsPair}
use Rattle.cut_graph.specs.declared.numbering.Numbering.{Numbering}
use Rattle.cut_graph.specs.Building.{AreSeamNodes, Gives, IsSeamNode, are_filled}
use Rattle.cut_graph.specs.Numberings.{AtPairs, IsNumbering}
use Rattle.cut_graph.proofs.Numbers.{get-end, get-left, length-end, numbering_none}

pub at_none : (size : Size) (IsGood : Axis → ℕ → ℕ → ℕ → ℕ → Type 0) (values : List ℕ) → values ≡ [] → AtPairs size IsGood values
at_none size IsGood values none = subst (AtPairs size IsGood) (sym none) (record { each = λ axis x y f is lt. absurd (omega arith) })

-- what holds of a pair holds of the same pair
of_same : (IsGood : Axis → ℕ → ℕ → ℕ → ℕ → Type 0) (axis other : Axis) (x y f a b c v : ℕ) → SamePair axis x y f other a b c → IsGood other a b c v → IsGood axis x y f v
of_same IsGood axis other x y f a b c v same good =
    subst (λ axis. IsGood axis x y f v) (sym same.axis_same) (subst (λ x. IsGood other x y f v) (sym same.x_same)
    (subst (λ y. IsGood other a y f v) (sym same.y_same) (subst (λ f. IsGood other a b f v) (sym same.f_same) good)))

-- the value of one pair more
pub at_more : (size : Size) (IsGood : Axis → ℕ → ℕ → ℕ → ℕ → Type 0) (axis : Axis) (x y f v : ℕ) (values : List ℕ) → IsPair size axis x y f → length values ≡ pair_number size axis x y f
    → IsGood axis x y f v → AtPairs size IsGood values → AtPairs size IsGood (values ++ v ∷ [])
at_more size IsGood axis x y f v values is count good at = record {
  each = λ other a b c is' lt.
      ⊎_elim (λ before. subst (IsGood other a b c) (sym (get-left values v (pair_number size other a b c) before)) (at.each other a b c is' before))
      (λ ge. let last : pair_number size other a b c ≡ length values = omega (arith, length-end values v) in
      subst (IsGood other a b c) (sym (get-end values v (pair_number size other a b c) last))
      (of_same IsGood other axis a b c x y f v (number_apart size other axis a b c x y f is' is (last ∙ count)) good))
      (cases_lt (pair_number size other a b c) (length values));
}

-- no node yet
pub no_seams : (cells : List ℕ) (size : Size) (first : ℕ) (seams : Numbering) → 0 < first → seams.nodes.items ≡ [] → seams.next ≡ first → AreSeamNodes cells size first 0 seams
no_seams cells size first seams some none next = record {
  count = ap length none;
  numbering = subst (λ n. IsNumbering first n seams.nodes.items) (sym next) (numbering_none first seams.nodes.items some none);
  each = at_none size (λ axis x y f. IsSeamNode first (are_filled cells size axis x y f)) seams.nodes.items none;
}

-- the nodes of one pair more
pub more_seams : (cells : List ℕ) (size : Size) (first : ℕ) (axis : Axis) (x y f : ℕ) (was now : Numbering) → IsPair size axis x y f
    → AreSeamNodes cells size first (pair_number size axis x y f) was → Gives (IsSeamNode first (are_filled cells size axis x y f)) first was now
    → AreSeamNodes cells size first (pair_number size axis x y f + 1) now
more_seams cells size first axis x y f was now is seams gives = record {
  count = ap length gives.items ∙ length-end was.nodes.items gives.node ∙ ap (λ n. n + 1) seams.count;
  numbering = gives.numbering;
  each = subst (AtPairs size IsGood) (sym gives.items) (at_more size IsGood axis x y f gives.node was.nodes.items is seams.count gives.one seams.each);
}
  where
    IsGood : Axis → ℕ → ℕ → ℕ → ℕ → Type 0
    IsGood axis x y f = IsSeamNode first (are_filled cells size axis x y f)
