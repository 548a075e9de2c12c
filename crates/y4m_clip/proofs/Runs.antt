-- Runs of the scanner: in two parts, and with one byte more.
use Rattle.std.proofs.Common.{◌≡◌, ℕ, ◌<◌, ◌+◌, List, [], ◌∷◌, ◌++◌, length, take, get_or, refl, ap, ◌∙◌}
use Rattle.std.specs.Prelude.{Option, Some, None, option_and_then}
use Rattle.std.proofs.lemmas.List.{take_more}
use Rattle.y4m_clip.specs.declared.scan.LineScan.{LineScan}
use Rattle.y4m_clip.specs.Scanning.{line_step, line_run}

-- a run in two parts
pub run-append : (scan : LineScan) (a b : List ℕ) → line_run scan (a ++ b) ≡ option_and_then (λ next. line_run next b) (line_run scan a)
run-append scan [] b = refl
run-append scan (x ∷ a) b = then (λ next. run-append next a b) (line_step scan x)
  where
    then : ((next : LineScan) → line_run next (a ++ b) ≡ option_and_then (λ last. line_run last b) (line_run next a)) → (o : Option LineScan)
        → option_and_then (λ next. line_run next (a ++ b)) o ≡ option_and_then (λ next. line_run next b) (option_and_then (λ next. line_run next a) o)
    then each None = refl
    then each (Some next) = each next

pub run_then : (s t : LineScan) (o : Option LineScan) (a b : List ℕ) → line_run s a ≡ Some t → line_run t b ≡ o → line_run s (a ++ b) ≡ o
run_then s t o a b first second = run-append s a b ∙ ap (option_and_then (λ next. line_run next b)) first ∙ second

-- one more byte
pub run_more : (s t : LineScan) (o : Option LineScan) (bytes : List ℕ) (i : ℕ) → i < length bytes → line_run s (take i bytes) ≡ Some t
    → line_step t (get_or bytes i 0) ≡ o → line_run s (take (i + 1) bytes) ≡ o
run_more s t o bytes i below so_far step =
    ap (line_run s) (take_more bytes i 0 below) ∙ run_then s t o (take i bytes) (get_or bytes i 0 ∷ []) so_far (one (line_step t (get_or bytes i 0)) ∙ step)
  where
    one : (p : Option LineScan) → option_and_then (λ (next : LineScan). Some next) p ≡ p
    one None = refl
    one (Some next) = refl
