-- Runs of the scanner: in two parts, their fronts, and with numbers as far as a u64 goes.
use Rattle.std.proofs.Common.{◌≡◌, ℕ, zero, suc, ◌≤◌, ◌<◌, ◌+◌, ◌*◌, ◌-◌, List, [], ◌∷◌, ◌++◌, length, take, get_or, refl, sym, ap, ◌∙◌, arith, Bool, true, false, cond}
use Rattle.std.specs.Prelude.{Option, Some, None, option_and_then, option_map, ◌==◌}
use Rattle.std.proofs.lemmas.List.{take_more}
use Rattle.std.proofs.lemmas.Bool.{ne_eqb}
use Rattle.std.proofs.lemmas.Bool.Decides.{nat_tests}
use Rattle.netpbm_p6.specs.declared.scan.ByteKind.{ByteKind}
use Rattle.netpbm_p6.specs.declared.scan.ByteKind.TheVariants.{Blank, LineEnd, Hash, Digit, Other}
use Rattle.netpbm_p6.specs.declared.scan.Numbers.{Numbers}
use Rattle.netpbm_p6.specs.declared.scan.Numbers.TheVariants.{Nothing, Width, Both}
use Rattle.netpbm_p6.specs.declared.scan.Scan.{Scan}
use Rattle.netpbm_p6.specs.declared.scan.Scan.TheVariants.{Start, Letter, Magic, Between, Comment, Digits, Whole}
use Rattle.shelf_traits.specs.Decimals.{IsDigit, capped}
use Rattle.netpbm_p6.specs.Scanning.{kind_of, opened, separated, commented, completed, ended, number_end, after_digit, step_of, run_of, IsOpenScan, HasPositiveNumbers}

-- a number as it is
abbrev pub exact : ℕ → ℕ
exact n = n

some_same : {A : Type 0} (x y : A) → Some x ≡ Some y → x ≡ y
some_same x y e = cc

-- a run in two parts
pub run-append : (keep : ℕ → ℕ) (scan : Scan) (a b : List ℕ) → run_of keep scan (a ++ b) ≡ option_and_then (λ next. run_of keep next b) (run_of keep scan a)
run-append keep scan [] b = refl
run-append keep scan (x ∷ a) b = then (λ next. run-append keep next a b) (step_of keep scan x)
  where
    then : ((next : Scan) → run_of keep next (a ++ b) ≡ option_and_then (λ last. run_of keep last b) (run_of keep next a)) → (o : Option Scan)
        → option_and_then (λ next. run_of keep next (a ++ b)) o ≡ option_and_then (λ next. run_of keep next b) (option_and_then (λ next. run_of keep next a) o)
    then each None = refl
    then each (Some next) = each next

pub run_then : (keep : ℕ → ℕ) (s t : Scan) (o : Option Scan) (a b : List ℕ) → run_of keep s a ≡ Some t → run_of keep t b ≡ o → run_of keep s (a ++ b) ≡ o
run_then keep s t o a b first second = run-append keep s a b ∙ ap (option_and_then (λ next. run_of keep next b)) first ∙ second

pub run_broken : (keep : ℕ → ℕ) (s : Scan) (a b : List ℕ) → run_of keep s a ≡ None → run_of keep s (a ++ b) ≡ None
run_broken keep s a b broken = run-append keep s a b ∙ ap (option_and_then (λ next. run_of keep next b)) broken

-- the front of a run is one
pub run_front : (keep : ℕ → ℕ) (s u : Scan) (a b : List ℕ) → run_of keep s (a ++ b) ≡ Some u → (t : Scan) × (run_of keep s a ≡ Some t)
run_front keep s u a b whole = tested (run_of keep s a) refl
  where
    tested : (o : Option Scan) → run_of keep s a ≡ o → (t : Scan) × (run_of keep s a ≡ Some t)
    tested None e = let none : None ≡ Some u = sym (run_broken keep s a b e) ∙ whole in cc
    tested (Some t) e = (t, e)

-- one more byte
pub run_more : (keep : ℕ → ℕ) (s t : Scan) (o : Option Scan) (bytes : List ℕ) (i : ℕ) → i < length bytes → run_of keep s (take i bytes) ≡ Some t
    → step_of keep t (get_or bytes i 0) ≡ o → run_of keep s (take (i + 1) bytes) ≡ o
run_more keep s t o bytes i below so_far step =
    ap (run_of keep s) (take_more bytes i 0 below) ∙ run_then keep s t o (take i bytes) (get_or bytes i 0 ∷ []) so_far (one (step_of keep t (get_or bytes i 0)) ∙ step)
  where
    one : (p : Option Scan) → option_and_then (λ (next : Scan). Some next) p ≡ p
    one None = refl
    one (Some next) = refl

-- nothing follows a whole header
pub run_over : (keep : ℕ → ℕ) (s : Scan) (w h m : ℕ) (a : List ℕ) (x : ℕ) (b : List ℕ) → run_of keep s a ≡ Some (Whole w h m) → run_of keep s (a ++ x ∷ b) ≡ None
run_over keep s w h m a x b whole = run_then keep s (Whole w h m) None a (x ∷ b) whole refl

-- what is no whole header is open
pub still_open : (s : Scan) → HasPositiveNumbers s → ((w h m : ℕ) → s ≡ Whole w h m → ⊥) → IsOpenScan s
still_open Start sound other = tt
still_open Letter sound other = tt
still_open Magic sound other = tt
still_open (Between numbers) sound other = sound
still_open (Comment numbers) sound other = sound
still_open (Digits numbers n) sound other = sound
still_open (Whole w h m) sound other = other w h m refl

-- Numbers as far as a u64 goes.

abbrev pub capped_numbers : Numbers → Numbers
capped_numbers Nothing = Nothing
capped_numbers (Width w) = Width (capped w)
capped_numbers (Both w h) = Both (capped w) (capped h)

abbrev pub capped_scan : Scan → Scan
capped_scan Start = Start
capped_scan Letter = Letter
capped_scan Magic = Magic
capped_scan (Between numbers) = Between (capped_numbers numbers)
capped_scan (Comment numbers) = Comment (capped_numbers numbers)
capped_scan (Digits numbers n) = Digits (capped_numbers numbers) (capped n)
capped_scan (Whole w h m) = Whole (capped w) (capped h) (capped m)

pub digit_bounds : (b : ℕ) → kind_of b ≡ Digit → IsDigit b
digit_bounds b is = grind (arith, nat_tests)

pub test_positive : (n : ℕ) → 1 ≤ n → (n == 0) ≡ false
test_positive n some = ne_eqb n 0 (λ e. absurd (omega arith))

opened_capped : (numbers : Numbers) (kind : ByteKind) → opened (capped_numbers numbers) kind ≡ option_map capped_scan (opened numbers kind)
opened_capped numbers Blank = refl
opened_capped numbers LineEnd = refl
opened_capped numbers Hash = refl
opened_capped numbers Digit = refl
opened_capped numbers Other = refl

separated_capped : (numbers : Numbers) (b : ℕ) (kind : ByteKind) → kind_of b ≡ kind → separated (capped_numbers numbers) b kind ≡ option_map capped_scan (separated numbers b kind)
separated_capped numbers b Blank is = refl
separated_capped numbers b LineEnd is = refl
separated_capped numbers b Hash is = refl
separated_capped numbers b Other is = refl
separated_capped numbers b Digit is =
    let bounds = digit_bounds b is in
    let small : b - 48 ≡ capped (b - 48) = omega (arith, bounds.0, bounds.1) in
    ap (λ n. Some (Digits (capped_numbers numbers) n)) small

commented_capped : (numbers : Numbers) (kind : ByteKind) → commented (capped_numbers numbers) kind ≡ option_map capped_scan (commented numbers kind)
commented_capped numbers Blank = refl
commented_capped numbers LineEnd = refl
commented_capped numbers Hash = refl
commented_capped numbers Digit = refl
commented_capped numbers Other = refl

completed_capped : (w h n : ℕ) (kind : ByteKind) → completed (capped w) (capped h) (capped n) kind ≡ option_map capped_scan (completed w h n kind)
completed_capped w h n Blank = refl
completed_capped w h n LineEnd = refl
completed_capped w h n Hash = refl
completed_capped w h n Digit = refl
completed_capped w h n Other = refl

ended_capped : (numbers : Numbers) (n : ℕ) (kind : ByteKind) → ended (capped_numbers numbers) (capped n) kind ≡ option_map capped_scan (ended numbers n kind)
ended_capped Nothing n kind = opened_capped (Width n) kind
ended_capped (Width w) n kind = opened_capped (Both w n) kind
ended_capped (Both w h) n kind = completed_capped w h n kind

numbered_capped : (numbers : Numbers) (n : ℕ) (kind : ByteKind) → number_end (capped_numbers numbers) (capped n) kind ≡ option_map capped_scan (number_end numbers n kind)
numbered_capped numbers zero kind = refl
numbered_capped numbers (suc n) kind =
    let some : 1 ≤ capped (suc n) = omega arith in
    ap (λ t. cond t None (ended (capped_numbers numbers) (capped (suc n)) kind)) (test_positive (capped (suc n)) some) ∙ ended_capped numbers (suc n) kind
    ∙ sym (ap (λ t. option_map capped_scan (cond t None (ended numbers (suc n) kind))) (test_positive (suc n) (omega arith)))

counted_capped : (numbers : Numbers) (n b : ℕ) (kind : ByteKind) → after_digit capped (capped_numbers numbers) (capped n) b kind ≡ option_map capped_scan (after_digit exact numbers n b kind)
counted_capped numbers n b Digit =
    let same : capped (10 * capped n + (b - 48)) ≡ capped (10 * n + (b - 48)) = omega arith in
    ap (λ m. Some (Digits (capped_numbers numbers) m)) same
counted_capped numbers n b Blank = numbered_capped numbers n Blank
counted_capped numbers n b LineEnd = numbered_capped numbers n LineEnd
counted_capped numbers n b Hash = numbered_capped numbers n Hash
counted_capped numbers n b Other = numbered_capped numbers n Other

tested_capped : (t : Bool) (s : Scan) → capped_scan s ≡ s → cond t (Some s) None ≡ option_map capped_scan (cond t (Some s) None)
tested_capped true s e = ap Some (sym e)
tested_capped false s e = refl

pub step_capped : (s : Scan) (b : ℕ) → step_of capped (capped_scan s) b ≡ option_map capped_scan (step_of exact s b)
step_capped Start b = tested_capped (b == 80) Letter refl
step_capped Letter b = tested_capped (b == 54) Magic refl
step_capped Magic b = opened_capped Nothing (kind_of b)
step_capped (Between numbers) b = separated_capped numbers b (kind_of b) refl
step_capped (Comment numbers) b = commented_capped numbers (kind_of b)
step_capped (Digits numbers n) b = counted_capped numbers n b (kind_of b)
step_capped (Whole w h m) b = refl

-- the reader's run follows the exact one
pub run_capped : (s : Scan) (bytes : List ℕ) → run_of capped (capped_scan s) bytes ≡ option_map capped_scan (run_of exact s bytes)
run_capped s [] = refl
run_capped s (b ∷ bytes) = ap (option_and_then (λ next. run_of capped next bytes)) (step_capped s b) ∙ then (λ next. run_capped next bytes) (step_of exact s b)
  where
    then : ((next : Scan) → run_of capped (capped_scan next) bytes ≡ option_map capped_scan (run_of exact next bytes)) → (o : Option Scan)
        → option_and_then (λ next. run_of capped next bytes) (option_map capped_scan o) ≡ option_map capped_scan (option_and_then (λ next. run_of exact next bytes) o)
    then each None = refl
    then each (Some next) = each next

-- so what the reader came to stands for one exact state
pub run_exact : (t : Scan) (bytes : List ℕ) → run_of capped Start bytes ≡ Some t → (s : Scan) × (run_of exact Start bytes ≡ Some s) × (t ≡ capped_scan s)
run_exact t bytes run = tested (run_of exact Start bytes) refl
  where
    tested : (o : Option Scan) → run_of exact Start bytes ≡ o → (s : Scan) × (run_of exact Start bytes ≡ Some s) × (t ≡ capped_scan s)
    tested None e = let none : Some t ≡ None = sym run ∙ run_capped Start bytes ∙ ap (option_map capped_scan) e in cc
    tested (Some s) e = (s, e, some_same t (capped_scan s) (sym run ∙ run_capped Start bytes ∙ ap (option_map capped_scan) e))

pub run_to_capped : (s : Scan) (bytes : List ℕ) → run_of exact Start bytes ≡ Some s → run_of capped Start bytes ≡ Some (capped_scan s)
run_to_capped s bytes run = run_capped Start bytes ∙ ap (option_map capped_scan) run
