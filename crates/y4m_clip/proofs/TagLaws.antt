-- Laws of the tags of a stream line.
use Rattle.std.proofs.Common.{◌≡◌, ℕ, suc, ◌≤◌, ◌<◌, ◌+◌, ◌-◌, ◌*◌, List, [], ◌∷◌, ◌++◌, length, refl, sym, ap, ◌∙◌, subst, arith, Bool, true, false, cond}
use Rattle.std.specs.Prelude.{Some, unwrap_or, ◌==◌, ◌&&◌, ◌||◌, nat_lt, replicate, codes}
use Rattle.std.specs.List.{list_any}
use Rattle.std.proofs.lemmas.Bool.{eqb-true, ltb-true}
use Rattle.std.proofs.lemmas.List.{length-append}
use Rattle.y4m_clip.specs.StreamLine.{is_axis, IsCount, MayHaveValue, has_stood, has_axes, Continues, IsStreamLine}
use Rattle.shelf_traits.specs.Decimals.{value_behind}
use Rattle.y4m_clip.specs.Clips.{tag_value, tag_number, carried, spaced}

-- A number of a tag is at least 1.

behind_some : (n : ℕ) (value : List ℕ) → 1 ≤ n → 1 ≤ value_behind n value
behind_some n [] some = some
behind_some n (digit ∷ value) some = behind_some (10 * n + (digit - 48)) value (omega arith)

count_positive : (n : ℕ) (value : List ℕ) → list_any (nat_lt 48) value ≡ true → 1 ≤ value_behind n value
count_positive n [] any = cc
count_positive n (digit ∷ value) any = tested (nat_lt 48 digit) refl any (count_positive (10 * n + (digit - 48)) value)
  where
    tested : (t : Bool) → nat_lt 48 digit ≡ t → t || list_any (nat_lt 48) value ≡ true → (list_any (nat_lt 48) value ≡ true → 1 ≤ value_behind (10 * n + (digit - 48)) value) → 1 ≤ value_behind (10 * n + (digit - 48)) value
    tested true e found later = let more : 48 < digit = ltb-true 48 digit e in behind_some (10 * n + (digit - 48)) value (omega arith)
    tested false e found later = later found

axis_value : (letter : ℕ) (value : List ℕ) → is_axis letter ≡ true → MayHaveValue (is_axis letter) value → IsCount value
axis_value letter value axis is = subst (λ t. MayHaveValue t value) axis is

axis_stands : (axis : ℕ) → is_axis axis ≡ true → ((letters : List ℕ) → has_axes letters ≡ true → has_stood letters axis ≡ true)
    → (letters : List ℕ) (tags : List (List ℕ)) (text : List ℕ) → Continues letters tags text → has_stood letters axis ≡ false → 1 ≤ tag_number axis tags
axis_stands axis is both letters [] text goes none = let e = both letters goes.0 in cc
axis_stands axis is both letters ([] ∷ tags) text goes none = absurd goes
axis_stands axis is both letters ((letter ∷ value) ∷ tags) text goes none = tested (letter == axis) refl (axis_stands axis is both (letter ∷ letters) tags goes.4 goes.6)
  where
    tested : (t : Bool) → (letter == axis) ≡ t → (has_stood (letter ∷ letters) axis ≡ false → 1 ≤ tag_number axis tags) → 1 ≤ tag_number axis ((letter ∷ value) ∷ tags)
    tested true e later =
        let count = axis_value letter value (ap is_axis (eqb-true letter axis e) ∙ is) goes.2 in
        subst (λ o. 1 ≤ value_behind 0 (unwrap_or o [])) (sym (ap (λ t. cond t (Some value) (tag_value axis tags)) e)) (count_positive 0 value count.positive)
    tested false e later =
        subst (λ o. 1 ≤ value_behind 0 (unwrap_or o [])) (sym (ap (λ t. cond t (Some value) (tag_value axis tags)) e)) (later (ap (λ t. t || has_stood letters axis) e ∙ none))

and_first : (p q : Bool) → p && q ≡ true → p ≡ true
and_first true q e = refl
and_first false q e = e

and_second : (p q : Bool) → p && q ≡ true → q ≡ true
and_second true q e = e
and_second false q e = cc

pub width_positive : (text : List ℕ) (tags : List (List ℕ)) → IsStreamLine text tags → 1 ≤ tag_number 87 tags
width_positive text tags line = axis_stands 87 refl (λ letters both. and_first (has_stood letters 87) (has_stood letters 72) both) [] tags line.rest line.continues refl

pub height_positive : (text : List ℕ) (tags : List (List ℕ)) → IsStreamLine text tags → 1 ≤ tag_number 72 tags
height_positive text tags line = axis_stands 72 refl (λ letters both. and_second (has_stood letters 87) (has_stood letters 72) both) [] tags line.rest line.continues refl

-- The carried tags are no longer than the line.

carried_fits : (letters : List ℕ) (tags : List (List ℕ)) (text : List ℕ) → Continues letters tags text → length (spaced (carried tags)) ≤ length text
carried_fits letters [] text goes = omega arith
carried_fits letters ([] ∷ tags) text goes = absurd goes
carried_fits letters ((letter ∷ value) ∷ tags) text (ink, may, valued, n, rest, is, goes) = tested (is_axis letter) (carried_fits (letter ∷ letters) tags rest goes)
  where
    long : length text ≡ suc (length {A = ℕ} (replicate n 32)) + suc (length value) + length rest
    long = ap length is ∙ length-append (replicate (suc n) 32 ++ letter ∷ value) rest ∙ ap (λ m. m + length rest) (length-append (replicate (suc n) 32) (letter ∷ value))

    tested : (t : Bool) → length (spaced (carried tags)) ≤ length rest → length (spaced (cond t (carried tags) ((letter ∷ value) ∷ carried tags))) ≤ length text
    tested true less = omega (arith, long)
    tested false less = omega (arith, long, length-append (32 ∷ letter ∷ value) (spaced (carried tags)))

pub tags_fit_line : (text : List ℕ) (tags : List (List ℕ)) → IsStreamLine text tags → length (spaced (carried tags)) ≤ length text
tags_fit_line text tags line = omega (arith, carried_fits [] tags line.rest line.continues, ap length line.is, length-append (codes "YUV4MPEG2") line.rest)
