-- The scanner and the grammar of stream lines agree: each place of the scanner has the texts that complete a line there, and a step goes to the
-- texts after a byte.
use Rattle.std.proofs.Common.{◌≡◌, ℕ, zero, suc, ◌⊎◌, inl, inr, List, [], ◌∷◌, ◌++◌, refl, sym, ap, ◌∙◌, subst, arith, Bool, true, false, cond}
use Rattle.std.specs.Prelude.{Some, None, option_and_then, ◌==◌, nat_le, nat_lt, ◌&&◌, ◌||◌, replicate}
use Rattle.std.specs.List.{AllByRecursion, list_any}
use Rattle.std.proofs.lemmas.Bool.{eqb-true, eqb-false}
use Rattle.std.proofs.lemmas.Bool.Decides.{nat_tests}
use Rattle.y4m_clip.specs.declared.scan.LineKind.TheVariants.{Ink}
use Rattle.y4m_clip.specs.declared.scan.Letters.{Letters}
use Rattle.y4m_clip.specs.declared.scan.LineScan.{LineScan}
use Rattle.y4m_clip.specs.declared.scan.LineScan.TheVariants.{Magic, Gap, Value, Number, Whole}
use Rattle.shelf_traits.specs.Decimals.{IsDigit}
use Rattle.y4m_clip.specs.StreamLine.{IsInk, is_axis, MayHaveValue, IsTagValue, has_stood, Continues}
use Rattle.y4m_clip.specs.Scanning.{line_kind, no_letters, with_letter, may_follow, line_ended, tag_entered, in_gap, in_value, in_number, line_step, line_run}

-- which letters have come
abbrev pub flags_of : List ℕ → Letters
flags_of letters = record {
  w = has_stood letters 87;
  h = has_stood letters 72;
  f = has_stood letters 70;
  i = has_stood letters 73;
  a = has_stood letters 65;
  c = has_stood letters 67;
}

-- the rest of a stream line, by the letters that have come
abbrev pub Goes : Letters → List (List ℕ) → List ℕ → Type 0
Goes s [] text = (s.w && s.h ≡ true) × (n : ℕ) × (text ≡ replicate n 32 ++ 10 ∷ [])
Goes s ([] ∷ tags) text = ⊥
Goes s ((letter ∷ value) ∷ tags) text =
    IsInk letter × (may_follow s letter ≡ true) × IsTagValue letter value
    × (n : ℕ) × (rest : List ℕ) × (text ≡ replicate (suc n) 32 ++ letter ∷ value ++ rest)
    × Goes (with_letter s letter) tags rest

pub goes_of : (letters : List ℕ) (tags : List (List ℕ)) (text : List ℕ) → Continues letters tags text → Goes (flags_of letters) tags text
goes_of letters [] text is = is
goes_of letters ([] ∷ tags) text is = is
goes_of letters ((letter ∷ value) ∷ tags) text is = (is.0, is.1, is.2, is.3, is.4, is.5, goes_of (letter ∷ letters) tags is.4 is.6)

pub continues_of : (letters : List ℕ) (tags : List (List ℕ)) (text : List ℕ) → Goes (flags_of letters) tags text → Continues letters tags text
continues_of letters [] text is = is
continues_of letters ([] ∷ tags) text is = is
continues_of letters ((letter ∷ value) ∷ tags) text is = (is.0, is.1, is.2, is.3, is.4, is.5, continues_of (letter ∷ letters) tags is.4 is.6)

-- the rest of a tag, and then the rest of the line
pub record InTag (s : Letters) (P : List ℕ → Type 0) (text : List ℕ) : Type 0 where
  pub value : List ℕ
  pub later : List ℕ
  pub tags : List (List ℕ)
  pub holds : P value
  pub is : text ≡ value ++ later
  pub goes : Goes s tags later

-- digits, of which some isn't 0 unless one has been
pub record IsRest (positive : Bool) (value : List ℕ) : Type 0 where
  pub digits : AllByRecursion IsDigit value
  pub some : positive || list_any (nat_lt 48) value ≡ true

-- what completes a line at each place of the scanner
abbrev pub Completes : LineScan → List ℕ → Type 0
Completes Magic text = (tags : List (List ℕ)) × Goes no_letters tags text
Completes (Gap s) text = (tags : List (List ℕ)) × Goes s tags (32 ∷ text)
Completes (Value s) text = InTag s (AllByRecursion IsInk) text
Completes (Number s positive) text = InTag s (IsRest positive) text
Completes Whole text = text ≡ []

-- a step with a byte, after which the text completes the line
pub record Onward (s : LineScan) (b : ℕ) (text : List ℕ) : Type 0 where
  pub next : LineScan
  pub step : line_step s b ≡ Some next
  pub completes : Completes next text

-- Bytes.

pub ink_kind : (b : ℕ) → IsInk b → line_kind b ≡ Ink
ink_kind b ink = let no_blank = ink.0 in let no_end = ink.1 in grind (arith, nat_tests)

pub digit_ink : (b : ℕ) → IsDigit b → IsInk b
digit_ink b digit = let low = digit.0 in (λ e. absurd (omega arith), λ e. absurd (omega arith))

digit_test : (b : ℕ) → IsDigit b → nat_le 48 b && nat_le b 57 ≡ true
digit_test b digit = let low = digit.0 in let high = digit.1 in grind (arith, nat_tests)

pub test_digit : (b : ℕ) → nat_le 48 b && nat_le b 57 ≡ true → IsDigit b
test_digit b test = grind (arith, nat_tests)

pub kinds : (b : ℕ) → (b ≡ 32) ⊎ (b ≡ 10) ⊎ IsInk b
kinds b = tested (b == 32) (b == 10) refl refl
  where
    tested : (p q : Bool) → (b == 32) ≡ p → (b == 10) ≡ q → (b ≡ 32) ⊎ (b ≡ 10) ⊎ IsInk b
    tested true q e f = inl (eqb-true b 32 e)
    tested false true e f = inr (inl (eqb-true b 10 f))
    tested false false e f = inr (inr (eqb-false b 32 e, eqb-false b 10 f))

or_false : (p : Bool) → p || false ≡ true → p ≡ true
or_false true e = refl
or_false false e = e

or_later : (p q r : Bool) → p || (q || r) ≡ true → (p || q) || r ≡ true
or_later true q r e = refl
or_later false q r e = e

pub or_sooner : (p q r : Bool) → (p || q) || r ≡ true → p || (q || r) ≡ true
or_sooner true q r e = refl
or_sooner false q r e = e

-- Onward.

end_step : (s : Letters) → s.w && s.h ≡ true → line_ended s ≡ Some Whole
end_step s both = ap (λ t. cond t (Some Whole) None) both

-- a rest begins with LF, where it is the last one, or with a blank
begins : (s : Letters) (tags : List (List ℕ)) (b : ℕ) (text : List ℕ) → Goes s tags (b ∷ text) → ((b ≡ 10) × (text ≡ []) × (s.w && s.h ≡ true)) ⊎ (b ≡ 32)
begins s [] b text (both, zero, is) = inl (cc, cc, both)
begins s [] b text (both, suc n, is) = inr cc
begins s ([] ∷ tags) b text goes = absurd goes
begins s ((letter ∷ value) ∷ tags) b text goes = let is : b ∷ text ≡ 32 ∷ (replicate goes.3 32 ++ letter ∷ value ++ goes.4) = goes.5 in inr cc

-- the byte after a blank
enters : (s : Letters) (b : ℕ) (value later : List ℕ) (tags : List (List ℕ)) → may_follow s b ≡ true → IsTagValue b value → Goes (with_letter s b) tags later
    → (next : LineScan) × (tag_entered s b ≡ Some next) × Completes next (value ++ later)
enters s b value later tags may valued goes = tested (is_axis b) refl valued
  where
    tested : (t : Bool) → is_axis b ≡ t → MayHaveValue t value → (next : LineScan) × (tag_entered s b ≡ Some next) × Completes next (value ++ later)
    tested true e is = (
      Number (with_letter s b) false,
      ap (λ t. cond t (cond (is_axis b) (Some (Number (with_letter s b) false)) (Some (Value (with_letter s b)))) None) may
          ∙ ap (λ t. cond t (Some (Number (with_letter s b) false)) (Some (Value (with_letter s b)))) e,
      record { value = value; later = later; tags = tags; holds = record { digits = is.digits; some = is.positive }; is = refl; goes = goes },
    )
    tested false e is = (
      Value (with_letter s b),
      ap (λ t. cond t (cond (is_axis b) (Some (Number (with_letter s b) false)) (Some (Value (with_letter s b)))) None) may
          ∙ ap (λ t. cond t (Some (Number (with_letter s b) false)) (Some (Value (with_letter s b)))) e,
      record { value = value; later = later; tags = tags; holds = is; is = refl; goes = goes },
    )

gap_onward : (s : Letters) (tags : List (List ℕ)) (b : ℕ) (text : List ℕ) → Goes s tags (32 ∷ b ∷ text) → Onward (Gap s) b text
gap_onward s [] b text (both, zero, is) = absurd cc
gap_onward s [] b text (both, suc zero, is) =
    let end : b ≡ 10 = cc in record { next = Whole; step = ap (λ c. in_gap s c (line_kind c)) end ∙ end_step s both; completes = cc }
gap_onward s [] b text (both, suc (suc n), is) =
    let blank : b ≡ 32 = cc in
    let rest : text ≡ replicate n 32 ++ 10 ∷ [] = cc in
    record { next = Gap s; step = ap (λ c. in_gap s c (line_kind c)) blank; completes = ([], (both, suc n, ap (λ t. 32 ∷ t) rest)) }
gap_onward s ([] ∷ tags) b text goes = absurd goes
gap_onward s ((letter ∷ value) ∷ tags) b text (ink, may, valued, zero, rest, is, goes) =
    let same : b ≡ letter = cc in
    let after : text ≡ value ++ rest = cc in
    let on = enters s letter value rest tags may valued goes in
    record {
      next = on.0;
      step = ap (λ c. in_gap s c (line_kind c)) same ∙ ap (in_gap s letter) (ink_kind letter ink) ∙ on.1;
      completes = subst (Completes on.0) (sym after) on.2;
    }
gap_onward s ((letter ∷ value) ∷ tags) b text (ink, may, valued, suc n, rest, is, goes) =
    let blank : b ≡ 32 = cc in
    let after : text ≡ replicate n 32 ++ letter ∷ value ++ rest = cc in
    record {
      next = Gap s;
      step = ap (λ c. in_gap s c (line_kind c)) blank;
      completes = ((letter ∷ value) ∷ tags, (ink, may, valued, n, rest, ap (λ t. 32 ∷ t) after, goes));
    }

value_onward : (s : Letters) (b : ℕ) (text value later : List ℕ) (tags : List (List ℕ)) → AllByRecursion IsInk value → b ∷ text ≡ value ++ later → Goes s tags later → Onward (Value s) b text
value_onward s b text [] later tags each is goes = by (begins s tags b text here)
  where
    here : Goes s tags (b ∷ text)
    here = subst (Goes s tags) (sym is) goes

    by : ((b ≡ 10) × (text ≡ []) × (s.w && s.h ≡ true)) ⊎ (b ≡ 32) → Onward (Value s) b text
    by (inl end) = record { next = Whole; step = ap (λ c. in_value s (line_kind c)) end.0 ∙ end_step s end.2; completes = end.1 }
    by (inr blank) = record { next = Gap s; step = ap (λ c. in_value s (line_kind c)) blank; completes = (tags, subst (λ c. Goes s tags (c ∷ text)) blank here) }
value_onward s b text (v ∷ value) later tags each is goes =
    let same : b ≡ v = cc in
    let after : text ≡ value ++ later = cc in
    record {
      next = Value s;
      step = ap (λ c. in_value s (line_kind c)) same ∙ ap (in_value s) (ink_kind v each.0);
      completes = record { value = value; later = later; tags = tags; holds = each.1; is = after; goes = goes };
    }

number_onward : (s : Letters) (positive : Bool) (b : ℕ) (text value later : List ℕ) (tags : List (List ℕ)) → IsRest positive value → b ∷ text ≡ value ++ later → Goes s tags later
    → Onward (Number s positive) b text
number_onward s positive b text [] later tags rest is goes = by (begins s tags b text here)
  where
    here : Goes s tags (b ∷ text)
    here = subst (Goes s tags) (sym is) goes

    some : positive ≡ true
    some = or_false positive rest.some

    by : ((b ≡ 10) × (text ≡ []) × (s.w && s.h ≡ true)) ⊎ (b ≡ 32) → Onward (Number s positive) b text
    by (inl end) = record {
      next = Whole;
      step = ap (λ c. in_number s positive c (line_kind c)) end.0 ∙ ap (λ t. cond t (line_ended s) None) some ∙ end_step s end.2;
      completes = end.1;
    }
    by (inr blank) = record {
      next = Gap s;
      step = ap (λ c. in_number s positive c (line_kind c)) blank ∙ ap (λ t. cond t (Some (Gap s)) None) some;
      completes = (tags, subst (λ c. Goes s tags (c ∷ text)) blank here);
    }
number_onward s positive b text (v ∷ value) later tags rest is goes =
    let same : b ≡ v = cc in
    let after : text ≡ value ++ later = cc in
    record {
      next = Number s (positive || nat_lt 48 v);
      step = ap (λ c. in_number s positive c (line_kind c)) same ∙ ap (in_number s positive v) (ink_kind v (digit_ink v rest.digits.0))
          ∙ ap (λ t. cond t (Some (Number s (positive || nat_lt 48 v))) None) (digit_test v rest.digits.0);
      completes = record {
        value = value;
        later = later;
        tags = tags;
        holds = record { digits = rest.digits.1; some = or_later positive (nat_lt 48 v) (list_any (nat_lt 48) value) rest.some };
        is = after;
        goes = goes;
      };
    }

magic_onward : (tags : List (List ℕ)) (b : ℕ) (text : List ℕ) → Goes no_letters tags (b ∷ text) → Onward Magic b text
magic_onward tags b text goes = by (begins no_letters tags b text goes)
  where
    by : ((b ≡ 10) × (text ≡ []) × (false ≡ true)) ⊎ (b ≡ 32) → Onward Magic b text
    by (inl end) = let none = end.2 in absurd cc
    by (inr blank) = record {
      next = Gap no_letters;
      step = ap (λ c. cond (c == 32) (Some (Gap no_letters)) None) blank;
      completes = (tags, subst (λ c. Goes no_letters tags (c ∷ text)) blank goes);
    }

pub onward : (s : LineScan) (b : ℕ) (text : List ℕ) → Completes s (b ∷ text) → Onward s b text
onward Magic b text at = magic_onward at.0 b text at.1
onward (Gap s) b text at = gap_onward s at.0 b text at.1
onward (Value s) b text at = value_onward s b text at.value at.later at.tags at.holds at.is at.goes
onward (Number s positive) b text at = number_onward s positive b text at.value at.later at.tags at.holds at.is at.goes
onward Whole b text at = absurd cc

-- a text that completes the line leads the scanner on, and the rest completes it there
pub completes_run : (s : LineScan) (text rest : List ℕ) → Completes s (text ++ rest) → (next : LineScan) × (line_run s text ≡ Some next) × Completes next rest
completes_run s [] rest at = (s, refl, at)
completes_run s (b ∷ text) rest at =
    let on = onward s b (text ++ rest) at in
    let more = completes_run on.next text rest on.completes in
    (more.0, ap (option_and_then (λ next. line_run next text)) on.step ∙ more.1, more.2)

-- a rest is not empty, nor a blank alone
pub some_rest : (s : Letters) (tags : List (List ℕ)) (text : List ℕ) → Goes s tags text → text ≡ [] → ⊥
some_rest s [] text (both, zero, is) e = cc
some_rest s [] text (both, suc n, is) e = cc
some_rest s ([] ∷ tags) text goes e = goes
some_rest s ((letter ∷ value) ∷ tags) text goes e = let is : text ≡ 32 ∷ (replicate goes.3 32 ++ letter ∷ value ++ goes.4) = goes.5 in cc

no_blank_alone : (s : Letters) (tags : List (List ℕ)) → Goes s tags (32 ∷ []) → ⊥
no_blank_alone s [] (both, zero, is) = cc
no_blank_alone s [] (both, suc zero, is) = cc
no_blank_alone s [] (both, suc (suc n), is) = cc
no_blank_alone s ([] ∷ tags) goes = goes
no_blank_alone s ((letter ∷ value) ∷ tags) (ink, may, valued, zero, rest, is, goes) = cc
no_blank_alone s ((letter ∷ value) ∷ tags) (ink, may, valued, suc n, rest, is, goes) = cc

nothing_left : (value later : List ℕ) → [] ≡ value ++ later → later ≡ []
nothing_left [] later is = sym is
nothing_left (v ∷ value) later is = cc

-- nothing is left after the whole line alone
pub only_whole : (s : LineScan) → Completes s [] → s ≡ Whole
only_whole Magic at = absurd (some_rest no_letters at.0 [] at.1 refl)
only_whole (Gap s) at = absurd (no_blank_alone s at.0 at.1)
only_whole (Value s) at = absurd (some_rest s at.tags at.later at.goes (nothing_left at.value at.later at.is))
only_whole (Number s positive) at = absurd (some_rest s at.tags at.later at.goes (nothing_left at.value at.later at.is))
only_whole Whole at = refl
