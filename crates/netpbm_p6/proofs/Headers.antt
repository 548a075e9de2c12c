-- The scanner and the grammar agree: what it takes are the fronts of headers, and where it ends is a whole one. So no header is the front of another.
use Rattle.std.proofs.Common.{◌≡◌, ℕ, ◌≤◌, ◌+◌, ◌*◌, List, [], ◌∷◌, ◌++◌, length, take, drop, refl, sym, ap, ◌∙◌, subst, arith, cond, ⊎_elim}
use Rattle.std.specs.Prelude.{Some, None, option_and_then}
use Rattle.std.proofs.lemmas.Bool.{cases_lt}
use Rattle.std.proofs.lemmas.List.{append-nil, take-append-le, take-append-drop}
use Rattle.std.proofs.Math.Seq.{take-append_seam}
use Rattle.netpbm_p6.specs.declared.scan.Numbers.{Numbers}
use Rattle.netpbm_p6.specs.declared.scan.Numbers.TheVariants.{Nothing, Width, Both}
use Rattle.netpbm_p6.specs.declared.scan.Scan.{Scan}
use Rattle.netpbm_p6.specs.declared.scan.Scan.TheVariants.{Start, Letter, Magic, Between, Comment, Digits, Whole}
use Rattle.netpbm_p6.specs.Header.{IsHeader, IsPrefix, IsProperPrefix}
use Rattle.shelf_traits.specs.Decimals.{capped}
use Rattle.netpbm_p6.specs.Scanning.{run_of, IsOpenScan}
use Rattle.netpbm_p6.proofs.Runs.{exact, run_then, run_front, run_over, test_positive, capped_scan, run_exact, run_to_capped}
use Rattle.netpbm_p6.proofs.Accepts.{header_run}
use Rattle.netpbm_p6.proofs.Shapes.{shape_of}

-- a way to complete the header from each place: the blank and the numbers after a number
abbrev tail_of : Numbers → List ℕ
tail_of Nothing = 32 ∷ 49 ∷ 32 ∷ 49 ∷ 32 ∷ []
tail_of (Width w) = 32 ∷ 49 ∷ 32 ∷ []
tail_of (Both w h) = 32 ∷ []

abbrev finish : Scan → List ℕ
finish Start = 80 ∷ 54 ∷ 32 ∷ 49 ∷ tail_of Nothing
finish Letter = 54 ∷ 32 ∷ 49 ∷ tail_of Nothing
finish Magic = 32 ∷ 49 ∷ tail_of Nothing
finish (Between numbers) = 49 ∷ tail_of numbers
finish (Comment numbers) = 10 ∷ 49 ∷ tail_of numbers
finish (Digits numbers n) = 49 ∷ tail_of numbers
finish (Whole w h m) = []

-- some whole header is reached
abbrev Completes : Scan → List ℕ → Type 0
Completes s rest = (w : ℕ) × (h : ℕ) × (m : ℕ) × (run_of exact s rest ≡ Some (Whole w h m))

-- after a digit the number is at least 1 at the end
tail_completes : (numbers : Numbers) (n : ℕ) → 1 ≤ n → Completes (Digits numbers n) (tail_of numbers)
tail_completes Nothing n some = (n, 1, 1, ap (λ t. option_and_then (λ next. run_of exact next (49 ∷ 32 ∷ 49 ∷ 32 ∷ [])) (cond t None (Some (Between (Width n))))) (test_positive n some))
tail_completes (Width w) n some = (w, n, 1, ap (λ t. option_and_then (λ next. run_of exact next (49 ∷ 32 ∷ [])) (cond t None (Some (Between (Both w n))))) (test_positive n some))
tail_completes (Both w h) n some = (w, h, n, ap (λ t. option_and_then (λ next. run_of exact next []) (cond t None (Some (Whole w h n)))) (test_positive n some))

finishes : (s : Scan) → Completes s (finish s)
finishes Start = (1, 1, 1, refl)
finishes Letter = (1, 1, 1, refl)
finishes Magic = (1, 1, 1, refl)
finishes (Between numbers) = tail_completes numbers 1 (omega arith)
finishes (Comment numbers) = tail_completes numbers 1 (omega arith)
finishes (Digits numbers n) = tail_completes numbers (10 * n + 1) (omega arith)
finishes (Whole w h m) = (w, h, m, refl)

-- what the scanner takes is the front of a header
pub prefix_of_run : (s : Scan) (text : List ℕ) → run_of exact Start text ≡ Some s → IsPrefix text
prefix_of_run s text run =
    let ends = finishes s in
    record {
      rest = finish s;
      width = ends.0;
      height = ends.1;
      maxval = ends.2;
      header = shape_of (Whole ends.0 ends.1 ends.2) (text ++ finish s) (run_then exact Start s (Some (Whole ends.0 ends.1 ends.2)) text (finish s) run ends.3);
    }

pub run_of_prefix : (text : List ℕ) → IsPrefix text → (s : Scan) × (run_of exact Start text ≡ Some s)
run_of_prefix text prefix = run_front exact Start (Whole prefix.width prefix.height prefix.maxval) text prefix.rest (header_run (text ++ prefix.rest) prefix.width prefix.height prefix.maxval prefix.header)

some_same : {A : Type 0} (x y : A) → Some x ≡ Some y → x ≡ y
some_same x y e = cc

none_some : {A : Type 0} {P : Type 0} (x : A) → None ≡ Some x → P
none_some x e = cc

-- The same for the reader's runs, whose numbers go as far as a u64.

pub open_proper : (s : Scan) (text : List ℕ) → run_of capped Start text ≡ Some s → IsOpenScan s → IsProperPrefix text
open_proper s text run is_open =
    let e = run_exact s text run in
    record {
      starts = prefix_of_run e.0 text e.1;
      proper = λ w h m header.
          let whole : s ≡ Whole (capped w) (capped h) (capped m) = e.2 ∙ ap capped_scan (some_same e.0 (Whole w h m) (sym e.1 ∙ header_run text w h m header)) in
          subst IsOpenScan whole is_open;
    }

pub run_is_prefix : (s : Scan) (text : List ℕ) → run_of capped Start text ≡ Some s → IsPrefix text
run_is_prefix s text run = let e = run_exact s text run in prefix_of_run e.0 text e.1

pub broken_none : (text : List ℕ) → run_of capped Start text ≡ None → IsPrefix text → ⊥
broken_none text broken prefix =
    let s = run_of_prefix text prefix in
    none_some (capped_scan s.0) (sym broken ∙ run_to_capped s.0 text s.1)

-- what was read where the reader's run ends
pub record WholeHeader (text : List ℕ) (width height maxval : ℕ) : Type 0 where
  pub w : ℕ
  pub h : ℕ
  pub m : ℕ
  pub header : IsHeader text w h m
  pub width_is : width ≡ capped w
  pub height_is : height ≡ capped h
  pub maxval_is : maxval ≡ capped m

whole_of : (s : Scan) (text : List ℕ) (width height maxval : ℕ) → run_of exact Start text ≡ Some s → Whole width height maxval ≡ capped_scan s → WholeHeader text width height maxval
whole_of (Whole w h m) text width height maxval run is = record {
  w = w;
  h = h;
  m = m;
  header = shape_of (Whole w h m) text run;
  width_is = cc;
  height_is = cc;
  maxval_is = cc;
}
whole_of Start text width height maxval run is = cc
whole_of Letter text width height maxval run is = cc
whole_of Magic text width height maxval run is = cc
whole_of (Between numbers) text width height maxval run is = cc
whole_of (Comment numbers) text width height maxval run is = cc
whole_of (Digits numbers n) text width height maxval run is = cc

pub whole_header : (text : List ℕ) (width height maxval : ℕ) → run_of capped Start text ≡ Some (Whole width height maxval) → WholeHeader text width height maxval
whole_header text width height maxval run =
    let e = run_exact (Whole width height maxval) text run in
    whole_of e.0 text width height maxval e.1 e.2

-- No header is the front of another.

longer : (a b : List ℕ) (w h m : ℕ) (s : Scan) → run_of exact Start a ≡ Some (Whole w h m) → run_of exact Start (a ++ b) ≡ Some s → b ≡ []
longer a [] w h m s first second = refl
longer a (x ∷ b) w h m s first second = none_some s (sym (run_over exact Start w h m a x b first) ∙ second)

shorter_same : (a b x y : List ℕ) (w h m : ℕ) (s : Scan) → length a ≤ length b → run_of exact Start a ≡ Some (Whole w h m) → run_of exact Start b ≡ Some s → a ++ x ≡ b ++ y → a ≡ b
shorter_same a b x y w h m s le first second joins =
    let front : take (length a) b ≡ a = sym (take-append-le (length a) b y le) ∙ ap (take (length a)) (sym joins) ∙ take-append_seam a x in
    let split : a ++ drop (length a) b ≡ b = ap (λ t. t ++ drop (length a) b) (sym front) ∙ take-append-drop (length a) b in
    let none : drop (length a) b ≡ [] = longer a (drop (length a) b) w h m s first (ap (run_of exact Start) split ∙ second) in
    sym (append-nil a) ∙ ap (λ t. a ++ t) (sym none) ∙ split

pub same_header : (a b x y : List ℕ) (w h m w' h' m' : ℕ) → IsHeader a w h m → IsHeader b w' h' m' → a ++ x ≡ b ++ y → a ≡ b
same_header a b x y w h m w' h' m' first second joins =
    ⊎_elim (λ less. shorter_same a b x y w h m (Whole w' h' m') (omega arith) (header_run a w h m first) (header_run b w' h' m' second) joins)
    (λ more. sym (shorter_same b a y x w' h' m' (Whole w h m) more (header_run b w' h' m' second) (header_run a w h m first) (sym joins)))
    (cases_lt (length a) (length b))

pub same_numbers : (a b : List ℕ) (w h m w' h' m' : ℕ) → IsHeader a w h m → IsHeader b w' h' m' → a ≡ b → (w ≡ w') × (h ≡ h') × (m ≡ m')
same_numbers a b w h m w' h' m' first second same =
    let e : Whole w h m ≡ Whole w' h' m' = some_same (Whole w h m) (Whole w' h' m') (sym (header_run a w h m first) ∙ ap (run_of exact Start) same ∙ header_run b w' h' m' second) in
    (cc, cc, cc)
