-- A text that is given in pieces: what was given up to a piece, and where the giving stops.
use Rattle.std.proofs.Common.{◌≡◌, ℕ, zero, suc, ◌+◌, ◌≤◌, ◌<◌, inl, inr, List, [], ◌∷◌, ◌++◌, length, get_or, take, drop, refl, sym, ap, ◌∙◌, subst, arith, append_assoc, add-one}
use Rattle.std.specs.Prelude.{Result, Ok, Err, IsErr}
use Rattle.std.proofs.lemmas.List.{append-nil, take_all}
use Rattle.std.proofs.Math.Seq.{take-length}
use Rattle.shelf_traits.specs.declared.fault.WriteFault.{WriteFault}
use Rattle.shelf_traits.specs.Files.{SinkState, Told, IsPrefixAdded}
use Rattle.shelf_traits.specs.Written.{Says}
use Rattle.shelf_traits.proofs.FileLaws.{told_weaker, rose_later}
use Rattle.shelf_traits.proofs.WrittenLaws.{told_nothing, told_more, says_whole, says_stopped}
use Rattle.synth_report.specs.Telling.{joined_texts, TellsText}

-- a piece that was said is there whole or in part
in_part : (piece : List ℕ) (a b : SinkState) → Says a b piece → Told a.bytes b.bytes (λ before after. IsPrefixAdded before piece after)
in_part piece a b (inl whole) =
    told_weaker (λ before after. after ≡ before ++ piece) (λ before after. IsPrefixAdded before piece after) a.bytes b.bytes
    (λ before after is. (length piece, is ∙ ap (λ bytes. before ++ bytes) (sym (take-length piece)))) whole
in_part piece a b (inr part) = part.1

module _ {A : Type 0} (text : A → List ℕ) where
  -- a piece and what comes before and after it
  around : (pieces : List A) (i : ℕ) (d : A) → i < length pieces → (joined_texts text (take i pieces) ++ text (get_or pieces i d)) ++ joined_texts text (drop (suc i) pieces) ≡ joined_texts text pieces
  around [] i d lt = absurd (omega arith)
  around (p ∷ pieces) zero d lt = refl
  around (p ∷ pieces) (suc i) d lt =
      ap (λ first. first ++ joined_texts text (drop (suc i) pieces)) (append_assoc (text p) _ _) ∙ append_assoc (text p) _ _ ∙ ap (λ rest. text p ++ rest) (around pieces i d (omega arith))

  up_to : (pieces : List A) (i : ℕ) (d : A) → i < length pieces → joined_texts text (take (suc i) pieces) ≡ joined_texts text (take i pieces) ++ text (get_or pieces i d)
  up_to [] i d lt = absurd (omega arith)
  up_to (p ∷ pieces) zero d lt = append-nil (text p)
  up_to (p ∷ pieces) (suc i) d lt = ap (λ rest. text p ++ rest) (up_to pieces i d (omega arith)) ∙ sym (append_assoc (text p) _ _)

  -- the first i pieces were given
  pub record SoFar (pieces : List A) (i : ℕ) (was now : SinkState) : Type 0 where
    pub told : Told was.bytes now.bytes (λ before after. after ≡ before ++ joined_texts text (take i pieces))
    pub counted : was.faults ≤ now.faults

  pub none_told : (pieces : List A) (a : SinkState) → SoFar pieces 0 a a
  none_told pieces a = record { told = told_nothing a; counted = omega arith }

  pub one_told : (pieces : List A) (i : ℕ) (d : A) (a b c : SinkState) → i < length pieces → SoFar pieces i a b → TellsText (text (get_or pieces i d)) b c (Ok tt) → SoFar pieces (i + 1) a c
  one_told pieces i d a b c lt so_far step =
      let more : joined_texts text (take (i + 1) pieces) ≡ joined_texts text (take i pieces) ++ text (get_or pieces i d) = ap (λ k. joined_texts text (take k pieces)) (add-one i) ∙ up_to pieces i d lt in
      record {
        told = subst (λ whole. Told a.bytes c.bytes (λ before after. after ≡ before ++ whole)) (sym more) (told_more _ _ a b c so_far.told step.told);
        counted = omega (arith, so_far.counted, step.counted);
      }

  pub stopped : (pieces : List A) (i : ℕ) (d : A) (a b c : SinkState) (fault : WriteFault) (r : Result (Unit {0}) WriteFault) → IsErr r → i < length pieces → SoFar pieces i a b
      → TellsText (text (get_or pieces i d)) b c (Err fault) → TellsText (joined_texts text pieces) a c r
  stopped pieces i d a b c fault (Ok u) err lt so_far step = absurd (cc)
  stopped pieces i d a b c fault (Err e) err lt so_far step = record {
    told = tt;
    says = subst (Says a c) (around pieces i d lt)
        (says_stopped (joined_texts text (take i pieces)) (text (get_or pieces i d)) (joined_texts text (drop (suc i) pieces)) a b c so_far.told so_far.counted (in_part (text (get_or pieces i d)) b c step.says) step.failed);
    failed = rose_later a.faults b.faults c.faults so_far.counted step.failed;
    counted = omega (arith, so_far.counted, step.counted);
  }

  pub all_told : (pieces : List A) (i : ℕ) (a b : SinkState) → length pieces ≤ i → SoFar pieces i a b → TellsText (joined_texts text pieces) a b (Ok tt)
  all_told pieces i a b end so_far =
      let whole = subst (λ ps. Told a.bytes b.bytes (λ before after. after ≡ before ++ joined_texts text ps)) (take_all i pieces end) so_far.told in
      record { told = whole; says = says_whole (joined_texts text pieces) a b whole; failed = tt; counted = so_far.counted }
