use Rattle.std.proofs.Common.{◌≡◌, ℕ, zero, suc, ◌<◌, ◌+◌, List, ◌++◌, sym, subst, arith, append_assoc}
use Rattle.std.proofs.lemmas.List.{append-nil}
use Rattle.shelf_traits.specs.Files.{Files, Appends}
use Rattle.shelf_traits.specs.Written.{HoldsText}
use Rattle.shelf_traits.proofs.WrittenLaws.{added}
use Rattle.y4m_clip.specs.Spaces.{joined_to}
use Rattle.y4m_clip.proofs.law.frames_follow.Goals as goal

follow : (name line : List ℕ) (n : ℕ) (frame : ℕ → List ℕ) (was : Files) (now : ℕ → Files) → HoldsText name line was (now 0) → ((f : ℕ) → f < n → Appends name (frame f) (now f) (now (f + 1)))
    → HoldsText name (line ++ joined_to n frame) was (now n)
follow name line zero frame was now begun each = subst (λ t. HoldsText name t was (now 0)) (sym (append-nil line)) begun
follow name line (suc n) frame was now begun each =
    let before : HoldsText name (line ++ joined_to n frame) was (now n) = follow name line n frame was now begun (λ f lt. each f (omega arith)) in
    let one : n + 1 ≡ suc n = omega arith in
    subst (λ t. HoldsText name t was (now (suc n))) (append_assoc line (joined_to n frame) (frame n))
    (subst (λ m. HoldsText name ((line ++ joined_to n frame) ++ frame n) was (now m)) one
    (added name (line ++ joined_to n frame) (frame n) was (now n) (now (n + 1)) before (each n (omega arith))))

pub returns : goal.returns
returns c = follow
