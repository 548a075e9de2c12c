-- The tags of a stream line are its words.
use Rattle.std.proofs.Common.{◌≡◌, ℕ, zero, suc, ◌≤◌, ◌+◌, ◌-◌, List, [], ◌∷◌, ◌++◌, length, take, drop, refl, sym, ap, ◌∙◌, subst, arith, append_assoc, Bool, true, false}
use Rattle.std.specs.Prelude.{replicate}
use Rattle.std.specs.List.{AllByRecursion}
use Rattle.std.proofs.lemmas.List.{append-nil, length-take-le, drop-take, take-append-drop}
use Rattle.shelf_traits.specs.Decimals.{IsDigit}
use Rattle.y4m_clip.specs.StreamLine.{IsInk, is_axis, MayHaveValue, IsStreamLine, Continues}
use Rattle.y4m_clip.specs.Reading.{IsLineOf, AreTags, gathered_on, gathered, HasShortLine, HasLine}
use Rattle.y4m_clip.proofs.Lines.{ink_kind, digit_ink}

blanks_gathered : (n : ℕ) (text : List ℕ) → gathered [] (replicate n 32 ++ text) ≡ gathered [] text
blanks_gathered zero text = refl
blanks_gathered (suc n) text = blanks_gathered n text

ink_gathered : (word value rest : List ℕ) → AllByRecursion IsInk value → gathered word (value ++ rest) ≡ gathered (word ++ value) rest
ink_gathered word [] rest each = ap (λ w. gathered w rest) (sym (append-nil word))
ink_gathered word (b ∷ value) rest each =
    ap (λ kind. gathered_on kind word b (λ next. gathered next (value ++ rest))) (ink_kind b each.0)
    ∙ ink_gathered (word ++ b ∷ []) value rest each.1 ∙ ap (λ w. gathered w rest) (append_assoc word (b ∷ []) value)

digits_ink : (value : List ℕ) → AllByRecursion IsDigit value → AllByRecursion IsInk value
digits_ink [] each = tt
digits_ink (b ∷ value) each = (digit_ink b each.0, digits_ink value each.1)

value_ink : (axis : Bool) (value : List ℕ) → MayHaveValue axis value → AllByRecursion IsInk value
value_ink true value is = digits_ink value is.digits
value_ink false value is = is

-- a word ends where a rest begins
word_ends : (letters : List ℕ) (tags : List (List ℕ)) (rest : List ℕ) (b : ℕ) (word : List ℕ) → Continues letters tags rest → gathered (b ∷ word) rest ≡ (b ∷ word) ∷ gathered [] rest
word_ends letters [] rest b word (both, zero, is) = subst (λ t. gathered (b ∷ word) t ≡ (b ∷ word) ∷ gathered [] t) (sym is) refl
word_ends letters [] rest b word (both, suc n, is) = subst (λ t. gathered (b ∷ word) t ≡ (b ∷ word) ∷ gathered [] t) (sym is) refl
word_ends letters ([] ∷ tags) rest b word goes = absurd goes
word_ends letters ((letter ∷ value) ∷ tags) rest b word goes = subst (λ t. gathered (b ∷ word) t ≡ (b ∷ word) ∷ gathered [] t) (sym goes.5) refl

pub tags_gathered : (letters : List ℕ) (tags : List (List ℕ)) (rest : List ℕ) → Continues letters tags rest → gathered [] rest ≡ tags
tags_gathered letters [] rest (both, n, is) = ap (gathered []) is ∙ blanks_gathered n (10 ∷ [])
tags_gathered letters ([] ∷ tags) rest goes = absurd goes
tags_gathered letters ((letter ∷ value) ∷ tags) rest (ink, may, valued, n, later, is, goes) =
    ap (gathered []) (is ∙ append_assoc (replicate (suc n) 32) (letter ∷ value) later) ∙ blanks_gathered (suc n) ((letter ∷ value) ++ later)
    ∙ ink_gathered [] (letter ∷ value) later (ink, value_ink (is_axis letter) value valued)
    ∙ word_ends (letter ∷ letters) tags later letter value goes
    ∙ ap (λ more. (letter ∷ value) ∷ more) (tags_gathered (letter ∷ letters) tags later goes)

-- the line that was found, with its tags
pub has_line : (bytes buffer : List ℕ) (n : ℕ) (tags : List (List ℕ)) → n ≤ length buffer → 10 ≤ n → HasShortLine bytes n → take n buffer ≡ take n bytes
    → tags ≡ gathered [] (take (n - 9) (drop 9 buffer)) → HasLine bytes (record { tags = tags; length = n })
has_line bytes buffer n tags room least found front are =
    let ends = found.0 in
    let line = ends.line.1 in
    let parts : n ≡ 9 + (n - 9) = omega arith in
    let rest : take (n - 9) (drop 9 buffer) ≡ line.rest
    = sym (drop-take 9 (n - 9) buffer) ∙ ap (λ m. drop 9 (take m buffer)) (sym parts) ∙ ap (drop 9) (front ∙ line.is) in
    let short : length (take n bytes) ≡ n = length-take-le n bytes ends.inside in
    record {
      short = record {
        lined = record { line = take n bytes; rest = drop n bytes; tags = ends.line.0; is_line = line; is = sym (take-append-drop n bytes) };
        short = omega (arith, found.1);
      };
      tags_are = are ∙ ap (gathered []) rest ∙ tags_gathered [] ends.line.0 line.rest line.continues;
      length_is = sym short;
    }

-- the tags that were gathered are those of the line
pub are_tags : (buffer : List ℕ) (n : ℕ) (tags : List (List ℕ)) → 10 ≤ n → IsLineOf (take n buffer) → tags ≡ gathered [] (take (n - 9) (drop 9 buffer)) → AreTags tags
are_tags buffer n tags least line are =
    let parts : n ≡ 9 + (n - 9) = omega arith in
    let rest : take (n - 9) (drop 9 buffer) ≡ line.1.rest
    = sym (drop-take 9 (n - 9) buffer) ∙ ap (λ m. drop 9 (take m buffer)) (sym parts) ∙ ap (drop 9) line.1.is in
    (take n buffer, subst (IsStreamLine (take n buffer)) (sym (are ∙ ap (gathered []) rest ∙ tags_gathered [] line.0 line.1.rest line.1.continues)) line.1)
