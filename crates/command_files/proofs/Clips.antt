-- A clip that is written frame by frame.
use Rattle.std.proofs.Common.{◌≡◌, ℕ, zero, suc, ◌<◌, ◌+◌, ◌-◌, inl, inr, List, [], ◌++◌, length, take, sym, ap, ◌∙◌, subst, arith, append_assoc}
use Rattle.std.proofs.Math.Seq.{take-append_seam}
use Rattle.std.proofs.lemmas.List.{take-append-drop, append-nil}
use Rattle.std.specs.Prelude.{drop}
use Rattle.std.specs.FinMap.{insert}
use Rattle.shelf_traits.specs.Files.{Files, ShelfState, Changes, Appends, AppendsPart}
use Rattle.shelf_traits.specs.Written.{HoldsText, HoldsPart}
use Rattle.shelf_traits.proofs.FileLaws.{told_weaker}
use Rattle.shelf_traits.proofs.WrittenLaws.{shelf_added, shelf_added_part}
use Rattle.y4m_clip.specs.Spaces.{joined_to}

-- the last lists of several, from one on
abbrev from : ℕ → ℕ → (ℕ → List ℕ) → List ℕ
from zero i part = []
from (suc n) i part = part i ++ from n (i + 1) part

one_more : (i : ℕ) (part : ℕ → List ℕ) → joined_to (i + 1) part ≡ joined_to i part ++ part i
one_more i part = let one : i + 1 ≡ suc i = omega arith in ap (λ m. joined_to m part) one

behind : (n i : ℕ) (part : ℕ → List ℕ) → joined_to (i + n) part ≡ joined_to i part ++ from n i part
behind zero i part = let none : i + 0 ≡ i = omega arith in ap (λ m. joined_to m part) none ∙ sym (append-nil (joined_to i part))
behind (suc n) i part =
    let next : i + suc n ≡ (i + 1) + n = omega arith in
    ap (λ m. joined_to m part) next ∙ behind n (i + 1) part ∙ ap (λ t. t ++ from n (i + 1) part) (one_more i part) ∙ append_assoc (joined_to i part) (part i) (from n (i + 1) part)

-- the first piece alone
part_of_first : (name line more : List ℕ) (x y : Files) → HoldsPart name line x y → HoldsPart name (line ++ more) x y
part_of_first name line more x y (inl same) = inl same
part_of_first name line more x y (inr (n, is)) =
    let kept : List ℕ = take n line in
    let whole : kept ++ (drop n line ++ more) ≡ line ++ more = sym (append_assoc kept (drop n line) more) ∙ ap (λ t. t ++ more) (take-append-drop n line) in
    inr (length kept, is ∙ ap (insert x name) (sym (take-append_seam kept (drop n line ++ more)) ∙ ap (take (length kept)) whole))

pub line_in_part : (name line more : List ℕ) (a b : ShelfState) → Changes a b (HoldsPart name line) → Changes a b (HoldsPart name (line ++ more))
line_in_part name line more a b part = told_weaker (HoldsPart name line) (HoldsPart name (line ++ more)) a.files b.files (part_of_first name line more) part

module _ (name line : List ℕ) (frame : ℕ → List ℕ) (a b c : ShelfState) (n i : ℕ) (lt : i < n) (so_far : Changes a b (HoldsText name (line ++ joined_to i frame))) where
  -- one frame more
  pub frame_added : Changes b c (Appends name (frame i)) → Changes a c (HoldsText name (line ++ joined_to (i + 1) frame))
  frame_added step = subst (λ text. Changes a c (HoldsText name text)) (append_assoc line (joined_to i frame) (frame i) ∙ ap (λ t. line ++ t) (sym (one_more i frame)))
      (shelf_added name (line ++ joined_to i frame) (frame i) a b c so_far step)

  -- or a part of one
  pub frame_in_part : Changes b c (AppendsPart name (frame i)) → Changes a c (HoldsPart name (line ++ joined_to n frame))
  frame_in_part step =
      let m : ℕ = n - (i + 1) in
      let left : (i + 1) + m ≡ n = omega (arith, lt) in
      subst (λ text. Changes a c (HoldsPart name text))
      (ap (λ t. t ++ from m (i + 1) frame) (append_assoc line (joined_to i frame) (frame i) ∙ ap (λ t. line ++ t) (sym (one_more i frame)))
      ∙ append_assoc line (joined_to (i + 1) frame) (from m (i + 1) frame) ∙ ap (λ t. line ++ t) (sym (behind m (i + 1) frame) ∙ ap (λ k. joined_to k frame) left))
      (shelf_added_part name (line ++ joined_to i frame) (frame i) (from m (i + 1) frame) a b c so_far step)
