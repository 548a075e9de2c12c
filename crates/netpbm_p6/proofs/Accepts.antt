-- The scanner takes each header of the grammar, and comes to its three numbers.
use Rattle.std.proofs.Common.{◌≡◌, ◌≢◌, ℕ, ◌≤◌, ◌+◌, ◌*◌, ◌-◌, ◌⊎◌, inl, inr, List, [], ◌∷◌, ◌++◌, length, refl, sym, ap, ◌∙◌, arith, cond, zero-add}
use Rattle.std.specs.Prelude.{Some, None, option_and_then}
use Rattle.std.specs.List.{AllByRecursion, concat}
use Rattle.std.proofs.lemmas.List.Elements.{recursion_from_All}
use Rattle.std.proofs.lemmas.Bool.Decides.{nat_tests}
use Rattle.netpbm_p6.specs.declared.scan.ByteKind.{ByteKind}
use Rattle.netpbm_p6.specs.declared.scan.ByteKind.TheVariants.{Blank, LineEnd, Hash, Digit, Other}
use Rattle.netpbm_p6.specs.declared.scan.Numbers.{Numbers}
use Rattle.netpbm_p6.specs.declared.scan.Numbers.TheVariants.{Nothing, Width, Both}
use Rattle.netpbm_p6.specs.declared.scan.Scan.{Scan}
use Rattle.netpbm_p6.specs.declared.scan.Scan.TheVariants.{Start, Magic, Between, Comment, Digits, Whole}
use Rattle.shelf_traits.specs.Decimals.{IsDigit, value_behind}
use Rattle.netpbm_p6.specs.Header.{IsWhite, EndsLine, IsItem, IsSeparator, digits_number, IsNumber, IsGroup, IsHeader}
use Rattle.netpbm_p6.specs.Scanning.{kind_of, opened, separated, commented, ended, number_end, after_digit, step_of, run_of}
use Rattle.netpbm_p6.proofs.Runs.{exact, run_then, test_positive}

-- The kinds of bytes.

pub white_kind : (b : ℕ) → IsWhite b → (kind_of b ≡ Blank) ⊎ (kind_of b ≡ LineEnd)
white_kind b (inl is) = inl (ap kind_of is)
white_kind b (inr (inl is)) = inl (ap kind_of is)
white_kind b (inr (inr (inl is))) = inr (ap kind_of is)
white_kind b (inr (inr (inr is))) = inr (ap kind_of is)

pub line_end_kind : (b : ℕ) → EndsLine b → kind_of b ≡ LineEnd
line_end_kind b (inl is) = ap kind_of is
line_end_kind b (inr is) = ap kind_of is

pub digit_kind : (b : ℕ) → IsDigit b → kind_of b ≡ Digit
digit_kind b digit = let low = digit.0 in let high = digit.1 in grind (arith, nat_tests)

pub line_end_bounds : (b : ℕ) → kind_of b ≡ LineEnd → EndsLine b
line_end_bounds b is = grind (arith, nat_tests)

-- a byte of a comment is not its end
in_comment : (numbers : Numbers) (b : ℕ) → b ≢ 13 → b ≢ 10 → commented numbers (kind_of b) ≡ Some (Comment numbers)
in_comment numbers b not_return not_feed = by_kind (kind_of b) refl
  where
    not_both : EndsLine b → ⊥
    not_both (inl is) = not_return is
    not_both (inr is) = not_feed is

    by_kind : (kind : ByteKind) → kind_of b ≡ kind → commented numbers kind ≡ Some (Comment numbers)
    by_kind Blank is = refl
    by_kind LineEnd is = absurd (not_both (line_end_bounds b is))
    by_kind Hash is = refl
    by_kind Digit is = refl
    by_kind Other is = refl

-- a separator may begin after this place, with these numbers read
pub record Opens (scan : Scan) (numbers : Numbers) : Type 0 where
  pub blank : (b : ℕ) → kind_of b ≡ Blank → step_of exact scan b ≡ Some (Between numbers)
  pub line_end : (b : ℕ) → kind_of b ≡ LineEnd → step_of exact scan b ≡ Some (Between numbers)
  pub hash : (b : ℕ) → kind_of b ≡ Hash → step_of exact scan b ≡ Some (Comment numbers)

opens_magic : Opens Magic Nothing
opens_magic = record { blank = λ b. ap (opened Nothing); line_end = λ b. ap (opened Nothing); hash = λ b. ap (opened Nothing) }

opens_between : (numbers : Numbers) → Opens (Between numbers) numbers
opens_between numbers = record { blank = λ b. ap (separated numbers b); line_end = λ b. ap (separated numbers b); hash = λ b. ap (separated numbers b) }

numbered_is : (numbers : Numbers) (n : ℕ) (kind : ByteKind) → 1 ≤ n → number_end numbers n kind ≡ ended numbers n kind
numbered_is numbers n kind some = ap (λ t. cond t None (ended numbers n kind)) (test_positive n some)

opens_width : (n : ℕ) → 1 ≤ n → Opens (Digits Nothing n) (Width n)
opens_width n some = record {
  blank = λ b is. ap (after_digit exact Nothing n b) is ∙ numbered_is Nothing n Blank some;
  line_end = λ b is. ap (after_digit exact Nothing n b) is ∙ numbered_is Nothing n LineEnd some;
  hash = λ b is. ap (after_digit exact Nothing n b) is ∙ numbered_is Nothing n Hash some;
}

opens_height : (w n : ℕ) → 1 ≤ n → Opens (Digits (Width w) n) (Both w n)
opens_height w n some = record {
  blank = λ b is. ap (after_digit exact (Width w) n b) is ∙ numbered_is (Width w) n Blank some;
  line_end = λ b is. ap (after_digit exact (Width w) n b) is ∙ numbered_is (Width w) n LineEnd some;
  hash = λ b is. ap (after_digit exact (Width w) n b) is ∙ numbered_is (Width w) n Hash some;
}

-- Items and separators.

run_one : (s t : Scan) (b : ℕ) → step_of exact s b ≡ Some t → run_of exact s (b ∷ []) ≡ Some t
run_one s t b step = ap (option_and_then (λ (next : Scan). Some next)) step

words_run : (numbers : Numbers) (words : List ℕ) → AllByRecursion (λ b. (b ≢ 13) × (b ≢ 10)) words → run_of exact (Comment numbers) words ≡ Some (Comment numbers)
words_run numbers [] each = refl
words_run numbers (b ∷ words) each =
    ap (option_and_then (λ next. run_of exact next words)) (in_comment numbers b each.0.0 each.0.1) ∙ words_run numbers words each.1

white_run : (s : Scan) (numbers : Numbers) (b : ℕ) → Opens s numbers → (kind_of b ≡ Blank) ⊎ (kind_of b ≡ LineEnd) → run_of exact s (b ∷ []) ≡ Some (Between numbers)
white_run s numbers b opens (inl is) = run_one s (Between numbers) b (opens.blank b is)
white_run s numbers b opens (inr is) = run_one s (Between numbers) b (opens.line_end b is)

item_run : (s : Scan) (numbers : Numbers) (text : List ℕ) → Opens s numbers → IsItem text → run_of exact s text ≡ Some (Between numbers)
item_run s numbers text opens (inl white) = ap (run_of exact s) white.2 ∙ white_run s numbers white.0 opens (white_kind white.0 white.1)
item_run s numbers text opens (inr comment) =
    let hashed : run_of exact s (35 ∷ []) ≡ Some (Comment numbers) = run_one s (Comment numbers) 35 (opens.hash 35 refl) in
    let words = words_run numbers comment.words (recursion_from_All (λ b. (b ≢ 13) × (b ≢ 10)) comment.words comment.within) in
    let end = run_one (Comment numbers) (Between numbers) comment.end (ap (commented numbers) (line_end_kind comment.end comment.ends)) in
    ap (run_of exact s) comment.is
    ∙ run_then exact s (Comment numbers) (Some (Between numbers)) (35 ∷ []) (comment.words ++ comment.end ∷ []) hashed
    (run_then exact (Comment numbers) (Comment numbers) (Some (Between numbers)) comment.words (comment.end ∷ []) words end)

items_run : (numbers : Numbers) (items : List (List ℕ)) → AllByRecursion IsItem items → run_of exact (Between numbers) (concat items) ≡ Some (Between numbers)
items_run numbers [] each = refl
items_run numbers (item ∷ items) each =
    run_then exact (Between numbers) (Between numbers) (Some (Between numbers)) item (concat items) (item_run (Between numbers) numbers item (opens_between numbers) each.0) (items_run numbers items each.1)

separator_run : (s : Scan) (numbers : Numbers) (text : List ℕ) → Opens s numbers → IsSeparator text → run_of exact s text ≡ Some (Between numbers)
separator_run s numbers text opens separator = ap (run_of exact s) separator.is ∙ some separator.items separator.some separator.each
  where
    some : (items : List (List ℕ)) → 1 ≤ length items → AllByRecursion IsItem items → run_of exact s (concat items) ≡ Some (Between numbers)
    some [] least each = absurd (omega arith)
    some (item ∷ items) least each =
        run_then exact s (Between numbers) (Some (Between numbers)) item (concat items) (item_run s numbers item opens each.0) (items_run numbers items each.1)

-- Numbers.

digits_run : (numbers : Numbers) (n : ℕ) (digits : List ℕ) → AllByRecursion IsDigit digits → run_of exact (Digits numbers n) digits ≡ Some (Digits numbers (value_behind n digits))
digits_run numbers n [] each = refl
digits_run numbers n (b ∷ digits) each =
    ap (option_and_then (λ next. run_of exact next digits)) (ap (after_digit exact numbers n b) (digit_kind b each.0)) ∙ digits_run numbers (10 * n + (b - 48)) digits each.1

number_run : (numbers : Numbers) (text : List ℕ) (n : ℕ) → IsNumber text n → run_of exact (Between numbers) text ≡ Some (Digits numbers n)
number_run numbers text n number = some text number.some (recursion_from_All IsDigit text number.digits) ∙ ap (λ m. Some (Digits numbers m)) number.value
  where
    some : (digits : List ℕ) → 1 ≤ length digits → AllByRecursion IsDigit digits → run_of exact (Between numbers) digits ≡ Some (Digits numbers (digits_number digits))
    some [] least each = absurd (omega arith)
    some (b ∷ digits) least each =
        ap (option_and_then (λ next. run_of exact next digits)) (ap (separated numbers b) (digit_kind b each.0))
        ∙ digits_run numbers (b - 48) digits each.1 ∙ ap (λ m. Some (Digits numbers (value_behind m digits))) (sym (zero-add (b - 48)))

group_run : (s : Scan) (numbers : Numbers) (text : List ℕ) (n : ℕ) → Opens s numbers → IsGroup text n → run_of exact s text ≡ Some (Digits numbers n)
group_run s numbers text n opens group =
    ap (run_of exact s) group.is
    ∙ run_then exact s (Between numbers) (Some (Digits numbers n)) group.separator group.number (separator_run s numbers group.separator opens group.separates) (number_run numbers group.number n group.counts)

-- The whole header.

last_run : (w h n b : ℕ) → 1 ≤ n → (kind_of b ≡ Blank) ⊎ (kind_of b ≡ LineEnd) → run_of exact (Digits (Both w h) n) (b ∷ []) ≡ Some (Whole w h n)
last_run w h n b some (inl is) = run_one (Digits (Both w h) n) (Whole w h n) b (ap (after_digit exact (Both w h) n b) is ∙ numbered_is (Both w h) n Blank some)
last_run w h n b some (inr is) = run_one (Digits (Both w h) n) (Whole w h n) b (ap (after_digit exact (Both w h) n b) is ∙ numbered_is (Both w h) n LineEnd some)

pub header_run : (text : List ℕ) (w h m : ℕ) → IsHeader text w h m → run_of exact Start text ≡ Some (Whole w h m)
header_run text w h m header =
    let magic : run_of exact Start (80 ∷ 54 ∷ []) ≡ Some Magic = refl in
    let first = run_then exact Start Magic (Some (Digits Nothing w)) (80 ∷ 54 ∷ []) header.first magic (group_run Magic Nothing header.first w opens_magic header.gives_width) in
    let second = run_then exact Start (Digits Nothing w) (Some (Digits (Width w) h)) (80 ∷ 54 ∷ [] ++ header.first) header.second first
    (group_run (Digits Nothing w) (Width w) header.second h (opens_width w header.gives_width.counts.positive) header.gives_height) in
    let third = run_then exact Start (Digits (Width w) h) (Some (Digits (Both w h) m)) (80 ∷ 54 ∷ [] ++ header.first ++ header.second) header.third second
    (group_run (Digits (Width w) h) (Both w h) header.third m (opens_height w h header.gives_height.counts.positive) header.gives_maxval) in
    ap (run_of exact Start) header.is
    ∙ run_then exact Start (Digits (Both w h) m) (Some (Whole w h m)) (80 ∷ 54 ∷ [] ++ header.first ++ header.second ++ header.third) (header.white ∷ []) third
    (last_run w h m header.white header.gives_maxval.counts.positive (white_kind header.white header.is_white))
