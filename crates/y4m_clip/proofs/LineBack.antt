-- Back along the scanner's steps: what completes a line after a byte completes it before with the byte, and each place can be completed.
use Rattle.std.proofs.Common.{◌≡◌, ℕ, suc, ◌⊎◌, inl, inr, List, [], ◌∷◌, ◌++◌, refl, sym, ap, ◌∙◌, subst, arith, Bool, true, false, cond}
use Rattle.std.specs.Prelude.{Option, Some, None, option_and_then, ◌==◌, nat_le, nat_lt, ◌&&◌, ◌||◌, not}
use Rattle.std.specs.List.{AllByRecursion, list_any}
use Rattle.y4m_clip.specs.declared.scan.Letters.{Letters}
use Rattle.y4m_clip.specs.declared.scan.LineScan.{LineScan}
use Rattle.y4m_clip.specs.declared.scan.LineScan.TheVariants.{Magic, Gap, Value, Number, Whole}
use Rattle.y4m_clip.specs.StreamLine.{IsInk, is_axis, IsCount, MayHaveValue, IsTagValue}
use Rattle.y4m_clip.specs.Scanning.{line_kind, no_letters, with_letter, may_follow, line_ended, tag_entered, in_gap, in_value, in_number, line_step, line_run}
use Rattle.y4m_clip.proofs.Lines.{Goes, InTag, IsRest, Completes, ink_kind, kinds, test_digit, or_sooner}

some_same : {A : Type 0} (x y : A) → Some x ≡ Some y → x ≡ y
some_same x y e = cc

-- a choice that gives something was made
if_some : (t : Bool) (o : Option LineScan) (next : LineScan) → cond t o None ≡ Some next → (t ≡ true) × (o ≡ Some next)
if_some true o next e = (refl, e)
if_some false o next e = cc

end_back : (s : Letters) (next : LineScan) → line_ended s ≡ Some next → (s.w && s.h ≡ true) × (Whole ≡ next)
end_back s next step = let both = if_some (s.w && s.h) (Some Whole) next step in (both.0, some_same Whole next both.1)

more_blank : (s : Letters) (tags : List (List ℕ)) (text : List ℕ) → Goes s tags (32 ∷ text) → Goes s tags (32 ∷ 32 ∷ text)
more_blank s [] text (both, n, is) = (both, suc n, ap (λ t. 32 ∷ t) is)
more_blank s ([] ∷ tags) text goes = goes
more_blank s ((letter ∷ value) ∷ tags) text (ink, may, valued, n, rest, is, goes) = (ink, may, valued, suc n, rest, ap (λ t. 32 ∷ t) is, goes)

-- LF alone is the rest of a line after W and H
last_end : (s : Letters) (b : ℕ) (text : List ℕ) (next : LineScan) → b ≡ 10 → line_ended s ≡ Some next → Completes next text → Goes s [] (b ∷ text)
last_end s b text next is step at =
    let both = end_back s next step in
    let none : text ≡ [] = subst (λ n. Completes n text) (sym both.1) at in
    (both.0, 0, (λ i. is i ∷ none i))

enter_back : (s : Letters) (b : ℕ) (text : List ℕ) (next : LineScan) → IsInk b → tag_entered s b ≡ Some next → Completes next text → (tags : List (List ℕ)) × Goes s tags (32 ∷ b ∷ text)
enter_back s b text next ink step at =
    let may = if_some (may_follow s b) (cond (is_axis b) (Some (Number (with_letter s b) false)) (Some (Value (with_letter s b)))) next step in
    tested (is_axis b) refl may.0 may.1
  where
    tested : (t : Bool) → is_axis b ≡ t → may_follow s b ≡ true → cond (is_axis b) (Some (Number (with_letter s b) false)) (Some (Value (with_letter s b))) ≡ Some next
        → (tags : List (List ℕ)) × Goes s tags (32 ∷ b ∷ text)
    tested true e may chosen =
        let same : Number (with_letter s b) false ≡ next
        = some_same (Number (with_letter s b) false) next (sym (ap (λ t. cond t (Some (Number (with_letter s b) false)) (Some (Value (with_letter s b)))) e) ∙ chosen) in
        let in_tag : InTag (with_letter s b) (IsRest false) text = subst (λ n. Completes n text) (sym same) at in
        let count : IsCount in_tag.value = record { digits = in_tag.holds.digits; positive = in_tag.holds.some } in
        let valued : IsTagValue b in_tag.value = subst (λ t. MayHaveValue t in_tag.value) (sym e) count in
        ((b ∷ in_tag.value) ∷ in_tag.tags, (ink, may, valued, 0, in_tag.later, ap (λ t. 32 ∷ b ∷ t) in_tag.is, in_tag.goes))
    tested false e may chosen =
        let same : Value (with_letter s b) ≡ next
        = some_same (Value (with_letter s b)) next (sym (ap (λ t. cond t (Some (Number (with_letter s b) false)) (Some (Value (with_letter s b)))) e) ∙ chosen) in
        let in_tag : InTag (with_letter s b) (AllByRecursion IsInk) text = subst (λ n. Completes n text) (sym same) at in
        let valued : IsTagValue b in_tag.value = subst (λ t. MayHaveValue t in_tag.value) (sym e) in_tag.holds in
        ((b ∷ in_tag.value) ∷ in_tag.tags, (ink, may, valued, 0, in_tag.later, ap (λ t. 32 ∷ b ∷ t) in_tag.is, in_tag.goes))

gap_back : (s : Letters) (b : ℕ) (text : List ℕ) (next : LineScan) → in_gap s b (line_kind b) ≡ Some next → Completes next text → Completes (Gap s) (b ∷ text)
gap_back s b text next step at = by (kinds b)
  where
    by : (b ≡ 32) ⊎ (b ≡ 10) ⊎ IsInk b → Completes (Gap s) (b ∷ text)
    by (inl blank) =
        let same : Gap s ≡ next = some_same (Gap s) next (sym (ap (λ c. in_gap s c (line_kind c)) blank) ∙ step) in
        let gap : Completes (Gap s) text = subst (λ n. Completes n text) (sym same) at in
        (gap.0, subst (λ c. Goes s gap.0 (32 ∷ c ∷ text)) (sym blank) (more_blank s gap.0 text gap.1))
    by (inr (inl end)) =
        let goes = last_end s b text next end (sym (ap (λ c. in_gap s c (line_kind c)) end) ∙ step) at in
        ([], (goes.0, suc goes.1, ap (λ t. 32 ∷ t) goes.2))
    by (inr (inr ink)) = enter_back s b text next ink (sym (ap (in_gap s b) (ink_kind b ink)) ∙ step) at

value_back : (s : Letters) (b : ℕ) (text : List ℕ) (next : LineScan) → in_value s (line_kind b) ≡ Some next → Completes next text → Completes (Value s) (b ∷ text)
value_back s b text next step at = by (kinds b)
  where
    by : (b ≡ 32) ⊎ (b ≡ 10) ⊎ IsInk b → Completes (Value s) (b ∷ text)
    by (inl blank) =
        let same : Gap s ≡ next = some_same (Gap s) next (sym (ap (λ c. in_value s (line_kind c)) blank) ∙ step) in
        let gap : Completes (Gap s) text = subst (λ n. Completes n text) (sym same) at in
        record { value = []; later = b ∷ text; tags = gap.0; holds = tt; is = refl; goes = subst (λ c. Goes s gap.0 (c ∷ text)) (sym blank) gap.1 }
    by (inr (inl end)) = record {
      value = [];
      later = b ∷ text;
      tags = [];
      holds = tt;
      is = refl;
      goes = last_end s b text next end (sym (ap (λ c. in_value s (line_kind c)) end) ∙ step) at;
    }
    by (inr (inr ink)) =
        let same : Value s ≡ next = some_same (Value s) next (sym (ap (in_value s) (ink_kind b ink)) ∙ step) in
        let more : InTag s (AllByRecursion IsInk) text = subst (λ n. Completes n text) (sym same) at in
        record { value = b ∷ more.value; later = more.later; tags = more.tags; holds = (ink, more.holds); is = ap (λ t. b ∷ t) more.is; goes = more.goes }

number_back : (s : Letters) (positive : Bool) (b : ℕ) (text : List ℕ) (next : LineScan) → in_number s positive b (line_kind b) ≡ Some next → Completes next text → Completes (Number s positive) (b ∷ text)
number_back s positive b text next step at = by (kinds b)
  where
    rest_of : positive ≡ true → IsRest positive []
    rest_of some = record { digits = tt; some = ap (λ t. t || false) some }

    by : (b ≡ 32) ⊎ (b ≡ 10) ⊎ IsInk b → Completes (Number s positive) (b ∷ text)
    by (inl blank) =
        let chosen = if_some positive (Some (Gap s)) next (sym (ap (λ c. in_number s positive c (line_kind c)) blank) ∙ step) in
        let gap : Completes (Gap s) text = subst (λ n. Completes n text) (sym (some_same (Gap s) next chosen.1)) at in
        record { value = []; later = b ∷ text; tags = gap.0; holds = rest_of chosen.0; is = refl; goes = subst (λ c. Goes s gap.0 (c ∷ text)) (sym blank) gap.1 }
    by (inr (inl end)) =
        let chosen = if_some positive (line_ended s) next (sym (ap (λ c. in_number s positive c (line_kind c)) end) ∙ step) in
        record { value = []; later = b ∷ text; tags = []; holds = rest_of chosen.0; is = refl; goes = last_end s b text next end chosen.1 at }
    by (inr (inr ink)) =
        let chosen = if_some (nat_le 48 b && nat_le b 57) (Some (Number s (positive || nat_lt 48 b))) next (sym (ap (in_number s positive b) (ink_kind b ink)) ∙ step) in
        let more : InTag s (IsRest (positive || nat_lt 48 b)) text = subst (λ n. Completes n text) (sym (some_same (Number s (positive || nat_lt 48 b)) next chosen.1)) at in
        record {
          value = b ∷ more.value;
          later = more.later;
          tags = more.tags;
          holds = record { digits = (test_digit b chosen.0, more.holds.digits); some = or_sooner positive (nat_lt 48 b) (list_any (nat_lt 48) more.value) more.holds.some };
          is = ap (λ t. b ∷ t) more.is;
          goes = more.goes;
        }

magic_back : (b : ℕ) (text : List ℕ) (next : LineScan) → line_step Magic b ≡ Some next → Completes next text → Completes Magic (b ∷ text)
magic_back b text next step at = by (kinds b)
  where
    by : (b ≡ 32) ⊎ (b ≡ 10) ⊎ IsInk b → Completes Magic (b ∷ text)
    by (inl blank) =
        let same : Gap no_letters ≡ next = some_same (Gap no_letters) next (sym (ap (line_step Magic) blank) ∙ step) in
        let gap : Completes (Gap no_letters) text = subst (λ n. Completes n text) (sym same) at in
        (gap.0, subst (λ c. Goes no_letters gap.0 (c ∷ text)) (sym blank) gap.1)
    by (inr (inl end)) = let none : None ≡ Some next = sym (ap (line_step Magic) end) ∙ step in absurd cc
    by (inr (inr ink)) = let chosen = if_some (b == 32) (Some (Gap no_letters)) next step in absurd (ink.0 (eqb_same b 32 chosen.0))
      where
        eqb_same : (x y : ℕ) → (x == y) ≡ true → x ≡ y
        eqb_same x y e = grind (arith)

pub back : (s : LineScan) (b : ℕ) (text : List ℕ) (next : LineScan) → line_step s b ≡ Some next → Completes next text → Completes s (b ∷ text)
back Magic b text next step at = magic_back b text next step at
back (Gap s) b text next step at = gap_back s b text next step at
back (Value s) b text next step at = value_back s b text next step at
back (Number s positive) b text next step at = number_back s positive b text next step at
back Whole b text next step at = let none : None ≡ Some next = step in absurd cc

-- what the scanner came through, and a text that completes the line after it, complete the line
pub run_completes : (s : LineScan) (text rest : List ℕ) (next : LineScan) → line_run s text ≡ Some next → Completes next rest → Completes s (text ++ rest)
run_completes s [] rest next run at = subst (λ n. Completes n rest) (sym (some_same s next run)) at
run_completes s (b ∷ text) rest next run at = stepped (line_step s b) refl run (λ n more. run_completes n text rest next more at)
  where
    stepped : (o : Option LineScan) → line_step s b ≡ o → option_and_then (λ n. line_run n text) o ≡ Some next
        → ((n : LineScan) → line_run n text ≡ Some next → Completes n (text ++ rest)) → Completes s (b ∷ (text ++ rest))
    stepped None e more each = let none : None ≡ Some next = more in absurd cc
    stepped (Some n) e more each = back s b (text ++ rest) n e (each n more)

-- Each place can be completed.

one : IsCount (49 ∷ [])
one = record { digits = ((omega arith, omega arith), tt); positive = refl }

-- after W
with_height : (s : Letters) → s.w ≡ true → (tags : List (List ℕ)) × (rest : List ℕ) × Goes s tags (32 ∷ rest)
with_height s wide = tested s.h refl
  where
    tested : (t : Bool) → s.h ≡ t → (tags : List (List ℕ)) × (rest : List ℕ) × Goes s tags (32 ∷ rest)
    tested true high = ([], 10 ∷ [], ((λ i. wide i && high i), 1, refl))
    tested false low = (
      (72 ∷ 49 ∷ []) ∷ [],
      72 ∷ 49 ∷ 10 ∷ [],
      (
        ((λ e. absurd (omega arith)), (λ e. absurd (omega arith))),
        ap (λ t. not (false || t || false || false || false || false)) low,
        one,
        0,
        10 ∷ [],
        refl,
        (ap (λ t. t && true) wide, 0, refl),
      ),
    )

pub lasts : (s : Letters) → (tags : List (List ℕ)) × (rest : List ℕ) × Goes s tags (32 ∷ rest)
lasts s = tested s.w refl
  where
    tested : (t : Bool) → s.w ≡ t → (tags : List (List ℕ)) × (rest : List ℕ) × Goes s tags (32 ∷ rest)
    tested true wide = with_height s wide
    tested false narrow =
        let more = with_height (with_letter s 87) refl in (
          (87 ∷ 49 ∷ []) ∷ more.0,
          87 ∷ 49 ∷ 32 ∷ more.1,
          (
            ((λ e. absurd (omega arith)), (λ e. absurd (omega arith))),
            ap (λ t. not (t || false || false || false || false || false)) narrow,
            one,
            0,
            32 ∷ more.1,
            refl,
            more.2,
          ),
        )

pub finishes : (s : LineScan) → (rest : List ℕ) × Completes s rest
finishes Magic = let last = lasts no_letters in (32 ∷ last.1, (last.0, last.2))
finishes (Gap s) = let last = lasts s in (last.1, (last.0, last.2))
finishes (Value s) = let last = lasts s in (32 ∷ last.1, record { value = []; later = 32 ∷ last.1; tags = last.0; holds = tt; is = refl; goes = last.2 })
finishes (Number s positive) =
    let last = lasts s in
    (49 ∷ 32 ∷ last.1, record { value = 49 ∷ []; later = 32 ∷ last.1; tags = last.0; holds = record { digits = one.digits; some = any positive }; is = refl; goes = last.2 })
  where
    any : (p : Bool) → p || true ≡ true
    any true = refl
    any false = refl
finishes Whole = ([], refl)
