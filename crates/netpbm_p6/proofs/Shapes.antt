-- What the scanner took is the front of a header of the grammar, at each place that it can come to.
use Rattle.std.proofs.Common.{◌≡◌, ◌≢◌, ℕ, ◌≤◌, ◌+◌, ◌*◌, ◌-◌, inl, inr, List, [], ◌∷◌, ◌++◌, length, refl, sym, ap, ◌∙◌, subst, arith, Bool, true, false, cond, zero-add, append_assoc}
use Rattle.std.specs.Prelude.{Option, Some, None, option_and_then, IfSome, ◌==◌}
use Rattle.std.specs.List.{AllByRecursion, concat}
use Rattle.std.proofs.lemmas.List.{append-nil}
use Rattle.std.proofs.lemmas.List.Elements.{All-from_recursion}
use Rattle.std.proofs.lemmas.List.Folds.{concat-append}
use Rattle.std.proofs.lemmas.Bool.{eqb-true, eqb-false}
use Rattle.std.proofs.lemmas.Bool.Decides.{nat_tests}
use Rattle.netpbm_p6.specs.declared.scan.ByteKind.{ByteKind}
use Rattle.netpbm_p6.specs.declared.scan.ByteKind.TheVariants.{Blank, LineEnd, Hash, Digit, Other}
use Rattle.netpbm_p6.specs.declared.scan.Numbers.{Numbers}
use Rattle.netpbm_p6.specs.declared.scan.Numbers.TheVariants.{Nothing, Width, Both}
use Rattle.netpbm_p6.specs.declared.scan.Scan.{Scan}
use Rattle.netpbm_p6.specs.declared.scan.Scan.TheVariants.{Start, Letter, Magic, Between, Comment, Digits, Whole}
use Rattle.shelf_traits.specs.Decimals.{IsDigit, value_behind}
use Rattle.netpbm_p6.specs.Header.{IsWhite, EndsLine, IsItem, IsSeparator, digits_number, IsGroup, IsHeader}
use Rattle.netpbm_p6.specs.Scanning.{kind_of, opened, separated, commented, completed, ended, number_end, after_digit, step_of, run_of}
use Rattle.netpbm_p6.proofs.Runs.{exact, digit_bounds}
use Rattle.netpbm_p6.proofs.Accepts.{line_end_bounds}

-- The front of a text up to some number.

-- the magic and the groups of these numbers
pub record HasWidth (text : List ℕ) (w : ℕ) : Type 0 where
  pub first : List ℕ
  pub gives_width : IsGroup first w
  pub is : text ≡ 80 ∷ 54 ∷ first

pub record HasBoth (text : List ℕ) (w h : ℕ) : Type 0 where
  pub first : List ℕ
  pub second : List ℕ
  pub gives_width : IsGroup first w
  pub gives_height : IsGroup second h
  pub is : text ≡ 80 ∷ 54 ∷ first ++ second

abbrev pub HasGroups : Numbers → List ℕ → Type 0
HasGroups Nothing text = text ≡ 80 ∷ 54 ∷ []
HasGroups (Width w) text = HasWidth text w
HasGroups (Both w h) text = HasBoth text w h

pub record InSeparator (numbers : Numbers) (text : List ℕ) : Type 0 where
  pub front : List ℕ
  pub separator : List ℕ
  pub groups : HasGroups numbers front
  pub separates : IsSeparator separator
  pub is : text ≡ front ++ separator

pub record InComment (numbers : Numbers) (text : List ℕ) : Type 0 where
  pub front : List ℕ
  pub items : List (List ℕ)
  pub words : List ℕ
  pub groups : HasGroups numbers front
  pub each : AllByRecursion IsItem items
  pub within : AllByRecursion (λ b. (b ≢ 13) × (b ≢ 10)) words
  pub is : text ≡ front ++ (concat items ++ (35 ∷ words))

pub record InNumber (numbers : Numbers) (n : ℕ) (text : List ℕ) : Type 0 where
  pub front : List ℕ
  pub separator : List ℕ
  pub digits : List ℕ
  pub groups : HasGroups numbers front
  pub separates : IsSeparator separator
  pub some : 1 ≤ length digits
  pub each : AllByRecursion IsDigit digits
  pub value : digits_number digits ≡ n
  pub is : text ≡ front ++ (separator ++ digits)

-- what was read, at each place
abbrev pub HasShape : Scan → List ℕ → Type 0
HasShape Start text = text ≡ []
HasShape Letter text = text ≡ 80 ∷ []
HasShape Magic text = text ≡ 80 ∷ 54 ∷ []
HasShape (Between numbers) text = InSeparator numbers text
HasShape (Comment numbers) text = InComment numbers text
HasShape (Digits numbers n) text = InNumber numbers n text
HasShape (Whole w h m) text = IsHeader text w h m

-- One element more at the end.

pub AllByRecursion-push : (P : ℕ → Type 0) (xs : List ℕ) (x : ℕ) → AllByRecursion P xs → P x → AllByRecursion P (xs ++ x ∷ [])
AllByRecursion-push P [] x each last = (last, tt)
AllByRecursion-push P (y ∷ xs) x each last = (each.0, AllByRecursion-push P xs x each.1 last)

items_push : (items : List (List ℕ)) (item : List ℕ) → AllByRecursion IsItem items → IsItem item → AllByRecursion IsItem (items ++ item ∷ [])
items_push [] item each last = (last, tt)
items_push (first ∷ items) item each last = (each.0, items_push items item each.1 last)

pub length-push : {X : Type 0} (xs : List X) (x : X) → 1 ≤ length (xs ++ x ∷ [])
length-push [] x = omega arith
length-push (y ∷ xs) x = omega arith

concat-push : (items : List (List ℕ)) (item : List ℕ) → concat (items ++ item ∷ []) ≡ concat items ++ item
concat-push items item = concat-append items (item ∷ []) ∙ ap (λ last. concat items ++ last) (append-nil item)

pub value-push : (n : ℕ) (digits : List ℕ) (b : ℕ) → value_behind n (digits ++ b ∷ []) ≡ 10 * value_behind n digits + (b - 48)
value-push n [] b = refl
value-push n (digit ∷ digits) b = value-push (10 * n + (digit - 48)) digits b

-- a separator with one more item
separator_push : (separator item : List ℕ) → IsSeparator separator → IsItem item → IsSeparator (separator ++ item)
separator_push separator item is last = record {
  items = is.items ++ item ∷ [];
  some = length-push is.items item;
  each = items_push is.items item is.each last;
  is = ap (λ text. text ++ item) is.is ∙ sym (concat-push is.items item);
}

pub one_item : (item : List ℕ) → IsItem item → IsSeparator item
one_item item is = record { items = item ∷ []; some = omega arith; each = (is, tt); is = sym (append-nil item) }

-- The kinds of bytes.

blank_white : (b : ℕ) → kind_of b ≡ Blank → IsWhite b
blank_white b is = grind (arith, nat_tests)

line_end_white : (b : ℕ) → kind_of b ≡ LineEnd → IsWhite b
line_end_white b is = ends (line_end_bounds b is)
  where
    ends : EndsLine b → IsWhite b
    ends (inl e) = inr (inr (inl e))
    ends (inr e) = inr (inr (inr e))

hash_is : (b : ℕ) → kind_of b ≡ Hash → b ≡ 35
hash_is b is = grind (arith, nat_tests)

not_line_end : (b : ℕ) (kind : ByteKind) → kind_of b ≡ kind → (kind ≡ LineEnd → ⊥) → (b ≢ 13) × (b ≢ 10)
not_line_end b kind is other = (λ e. other (sym is ∙ ap kind_of e), λ e. other (sym is ∙ ap kind_of e))

pub white_item : (b : ℕ) → IsWhite b → IsItem (b ∷ [])
white_item b white = inl (b, white, refl)

-- One byte more.

-- after a text with these groups
opened_shape : (numbers : Numbers) (front : List ℕ) (b : ℕ) (kind : ByteKind) → kind_of b ≡ kind → HasGroups numbers front → IfSome (opened numbers kind) (λ next. HasShape next (front ++ b ∷ []))
opened_shape numbers front b Blank is groups = record { front = front; separator = b ∷ []; groups = groups; separates = one_item (b ∷ []) (white_item b (blank_white b is)); is = refl }
opened_shape numbers front b LineEnd is groups = record { front = front; separator = b ∷ []; groups = groups; separates = one_item (b ∷ []) (white_item b (line_end_white b is)); is = refl }
opened_shape numbers front b Hash is groups = record { front = front; items = []; words = []; groups = groups; each = tt; within = tt; is = ap (λ c. front ++ c ∷ []) (hash_is b is) }
opened_shape numbers front b Digit is groups = tt
opened_shape numbers front b Other is groups = tt

more_white : (numbers : Numbers) (text : List ℕ) (b : ℕ) → IsWhite b → InSeparator numbers text → InSeparator numbers (text ++ b ∷ [])
more_white numbers text b white at = record {
  front = at.front;
  separator = at.separator ++ b ∷ [];
  groups = at.groups;
  separates = separator_push at.separator (b ∷ []) at.separates (white_item b white);
  is = ap (λ t. t ++ b ∷ []) at.is ∙ append_assoc at.front at.separator (b ∷ []);
}

separated_shape : (numbers : Numbers) (text : List ℕ) (b : ℕ) (kind : ByteKind) → kind_of b ≡ kind → InSeparator numbers text → IfSome (separated numbers b kind) (λ next. HasShape next (text ++ b ∷ []))
separated_shape numbers text b Blank is at = more_white numbers text b (blank_white b is) at
separated_shape numbers text b LineEnd is at = more_white numbers text b (line_end_white b is) at
separated_shape numbers text b Hash is at = record {
  front = at.front;
  items = at.separates.items;
  words = [];
  groups = at.groups;
  each = at.separates.each;
  within = tt;
  is = ap (λ t. t ++ b ∷ []) at.is ∙ append_assoc at.front at.separator (b ∷ [])
      ∙ ap (λ t. at.front ++ (t ++ b ∷ [])) at.separates.is ∙ ap (λ c. at.front ++ (concat at.separates.items ++ c ∷ [])) (hash_is b is);
}
separated_shape numbers text b Digit is at = record {
  front = at.front;
  separator = at.separator;
  digits = b ∷ [];
  groups = at.groups;
  separates = at.separates;
  some = omega arith;
  each = (digit_bounds b is, tt);
  value = zero-add (b - 48);
  is = ap (λ t. t ++ b ∷ []) at.is ∙ append_assoc at.front at.separator (b ∷ []);
}
separated_shape numbers text b Other is at = tt

-- a comment's text with one more byte
comment_push : (front : List ℕ) (items : List (List ℕ)) (words : List ℕ) (b : ℕ) → (front ++ (concat items ++ (35 ∷ words))) ++ b ∷ [] ≡ front ++ (concat items ++ (35 ∷ words ++ b ∷ []))
comment_push front items words b = append_assoc front _ _ ∙ ap (λ t. front ++ t) (append_assoc (concat items) (35 ∷ words) (b ∷ []))

more_words : (numbers : Numbers) (text : List ℕ) (b : ℕ) → (b ≢ 13) × (b ≢ 10) → InComment numbers text → InComment numbers (text ++ b ∷ [])
more_words numbers text b within at = record {
  front = at.front;
  items = at.items;
  words = at.words ++ b ∷ [];
  groups = at.groups;
  each = at.each;
  within = AllByRecursion-push (λ c. (c ≢ 13) × (c ≢ 10)) at.words b at.within within;
  is = ap (λ t. t ++ b ∷ []) at.is ∙ comment_push at.front at.items at.words b;
}

-- the comment's end
comment_ended : (numbers : Numbers) (text : List ℕ) (b : ℕ) → EndsLine b → InComment numbers text → InSeparator numbers (text ++ b ∷ [])
comment_ended numbers text b ends at = record {
  front = at.front;
  separator = concat at.items ++ (35 ∷ at.words ++ b ∷ []);
  groups = at.groups;
  separates = record {
    items = at.items ++ (35 ∷ at.words ++ b ∷ []) ∷ [];
    some = length-push at.items (35 ∷ at.words ++ b ∷ []);
    each = items_push at.items (35 ∷ at.words ++ b ∷ []) at.each
        (inr record { words = at.words; end = b; within = All-from_recursion (λ c. (c ≢ 13) × (c ≢ 10)) at.words at.within; ends = ends; is = refl });
    is = sym (concat-push at.items (35 ∷ at.words ++ b ∷ []));
  };
  is = ap (λ t. t ++ b ∷ []) at.is ∙ comment_push at.front at.items at.words b;
}

commented_shape : (numbers : Numbers) (text : List ℕ) (b : ℕ) (kind : ByteKind) → kind_of b ≡ kind → InComment numbers text → IfSome (commented numbers kind) (λ next. HasShape next (text ++ b ∷ []))
commented_shape numbers text b LineEnd is at = comment_ended numbers text b (line_end_bounds b is) at
commented_shape numbers text b Blank is at = more_words numbers text b (not_line_end b Blank is (λ e. cc)) at
commented_shape numbers text b Hash is at = more_words numbers text b (not_line_end b Hash is (λ e. cc)) at
commented_shape numbers text b Digit is at = more_words numbers text b (not_line_end b Digit is (λ e. cc)) at
commented_shape numbers text b Other is at = more_words numbers text b (not_line_end b Other is (λ e. cc)) at

-- the group that a number of at least 1 makes
last_group : (numbers : Numbers) (n : ℕ) (text : List ℕ) → 1 ≤ n → (at : InNumber numbers n text) → IsGroup (at.separator ++ at.digits) n
last_group numbers n text positive at = record {
  separator = at.separator;
  number = at.digits;
  separates = at.separates;
  counts = record { some = at.some; digits = All-from_recursion IsDigit at.digits at.each; value = at.value; positive = positive };
  is = refl;
}

ended_shape : (numbers : Numbers) (n : ℕ) (text : List ℕ) (b : ℕ) (kind : ByteKind) → kind_of b ≡ kind → 1 ≤ n → InNumber numbers n text → IfSome (ended numbers n kind) (λ next. HasShape next (text ++ b ∷ []))
ended_shape Nothing n text b kind is positive at =
    opened_shape (Width n) text b kind is (record {
      first = at.separator ++ at.digits;
      gives_width = last_group Nothing n text positive at;
      is = at.is ∙ ap (λ front. front ++ (at.separator ++ at.digits)) at.groups;
    })
ended_shape (Width w) n text b kind is positive at =
    opened_shape (Both w n) text b kind is (record {
      first = at.groups.first;
      second = at.separator ++ at.digits;
      gives_width = at.groups.gives_width;
      gives_height = last_group (Width w) n text positive at;
      is = at.is ∙ ap (λ front. front ++ (at.separator ++ at.digits)) at.groups.is;
    })
ended_shape (Both w h) n text b kind is positive at = completed_shape kind is
  where
    whole : IsWhite b → IsHeader (text ++ b ∷ []) w h n
    whole white = record {
      first = at.groups.first;
      second = at.groups.second;
      third = at.separator ++ at.digits;
      white = b;
      gives_width = at.groups.gives_width;
      gives_height = at.groups.gives_height;
      gives_maxval = last_group (Both w h) n text positive at;
      is_white = white;
      is = ap (λ t. t ++ b ∷ []) (at.is ∙ ap (λ front. front ++ (at.separator ++ at.digits)) at.groups.is);
    }

    completed_shape : (kind' : ByteKind) → kind_of b ≡ kind' → IfSome (completed w h n kind') (λ next. HasShape next (text ++ b ∷ []))
    completed_shape Blank is' = whole (blank_white b is')
    completed_shape LineEnd is' = whole (line_end_white b is')
    completed_shape Hash is' = tt
    completed_shape Digit is' = tt
    completed_shape Other is' = tt

numbered_shape : (numbers : Numbers) (n : ℕ) (text : List ℕ) (b : ℕ) (kind : ByteKind) → kind_of b ≡ kind → InNumber numbers n text → IfSome (number_end numbers n kind) (λ next. HasShape next (text ++ b ∷ []))
numbered_shape numbers n text b kind is at = tested (n == 0) refl
  where
    tested : (t : Bool) → (n == 0) ≡ t → IfSome (cond t None (ended numbers n kind)) (λ next. HasShape next (text ++ b ∷ []))
    tested true e = tt
    tested false e = let positive : 1 ≤ n = omega (arith, eqb-false n 0 e) in ended_shape numbers n text b kind is positive at

counted_shape : (numbers : Numbers) (n : ℕ) (text : List ℕ) (b : ℕ) (kind : ByteKind) → kind_of b ≡ kind → InNumber numbers n text → IfSome (after_digit exact numbers n b kind) (λ next. HasShape next (text ++ b ∷ []))
counted_shape numbers n text b Digit is at = record {
  front = at.front;
  separator = at.separator;
  digits = at.digits ++ b ∷ [];
  groups = at.groups;
  separates = at.separates;
  some = length-push at.digits b;
  each = AllByRecursion-push IsDigit at.digits b at.each (digit_bounds b is);
  value = value-push 0 at.digits b ∙ ap (λ m. 10 * m + (b - 48)) at.value;
  is = ap (λ t. t ++ b ∷ []) at.is ∙ append_assoc at.front _ _ ∙ ap (λ t. at.front ++ t) (append_assoc at.separator at.digits (b ∷ []));
}
counted_shape numbers n text b Blank is at = numbered_shape numbers n text b Blank is at
counted_shape numbers n text b LineEnd is at = numbered_shape numbers n text b LineEnd is at
counted_shape numbers n text b Hash is at = numbered_shape numbers n text b Hash is at
counted_shape numbers n text b Other is at = numbered_shape numbers n text b Other is at

first_shape : (b c : ℕ) (s : Scan) (text : List ℕ) → (b ≡ c → HasShape s (text ++ b ∷ [])) → IfSome (cond (b == c) (Some s) None) (λ next. HasShape next (text ++ b ∷ []))
first_shape b c s text shape = tested (b == c) refl
  where
    tested : (t : Bool) → (b == c) ≡ t → IfSome (cond t (Some s) None) (λ next. HasShape next (text ++ b ∷ []))
    tested true e = shape (eqb-true b c e)
    tested false e = tt

step_shape : (s : Scan) (text : List ℕ) (b : ℕ) → HasShape s text → IfSome (step_of exact s b) (λ next. HasShape next (text ++ b ∷ []))
step_shape Start text b shape = first_shape b 80 Letter text (λ e. ap (λ t. t ++ b ∷ []) shape ∙ ap (λ c. c ∷ []) e)
step_shape Letter text b shape = first_shape b 54 Magic text (λ e. ap (λ t. t ++ b ∷ []) shape ∙ ap (λ c. 80 ∷ c ∷ []) e)
step_shape Magic text b shape = opened_shape Nothing text b (kind_of b) refl shape
step_shape (Between numbers) text b shape = separated_shape numbers text b (kind_of b) refl shape
step_shape (Comment numbers) text b shape = commented_shape numbers text b (kind_of b) refl shape
step_shape (Digits numbers n) text b shape = counted_shape numbers n text b (kind_of b) refl shape
step_shape (Whole w h m) text b shape = tt

-- and each byte more
pub run_shape : (s : Scan) (text bytes whole : List ℕ) → text ++ bytes ≡ whole → HasShape s text → IfSome (run_of exact s bytes) (λ next. HasShape next whole)
run_shape s text [] whole joins shape = subst (HasShape s) (sym (append-nil text) ∙ joins) shape
run_shape s text (b ∷ bytes) whole joins shape =
    then (λ next. run_shape next (text ++ b ∷ []) bytes whole (append_assoc text (b ∷ []) bytes ∙ joins)) (step_of exact s b) (step_shape s text b shape)
  where
    then : ((next : Scan) → HasShape next (text ++ b ∷ []) → IfSome (run_of exact next bytes) (λ last. HasShape last whole)) → (o : Option Scan)
        → IfSome o (λ next. HasShape next (text ++ b ∷ [])) → IfSome (option_and_then (λ next. run_of exact next bytes) o) (λ last. HasShape last whole)
    then each None first = tt
    then each (Some next) first = each next first

-- what the scanner came to from the start
pub shape_of : (s : Scan) (bytes : List ℕ) → run_of exact Start bytes ≡ Some s → HasShape s bytes
shape_of s bytes run = subst (λ o. IfSome o (λ next. HasShape next bytes)) run (run_shape Start [] bytes bytes refl refl)
