-- The writer's stream line of a form and a size is a stream line, with the form's tags after W and H.
use mathlib.Core.Bool.{false≢true}
use Rattle.std.proofs.Common.{◌≡◌, ℕ, ◌≤◌, ◌<◌, ◌+◌, ◌*◌, ◌-◌, ◌/◌, ◌%◌, ◌^◌, List, [], ◌∷◌, ◌++◌, length, refl, sym, ap, ◌∙◌, arith, append_assoc, decimal, Bool, true, false, cond}
use Rattle.std.specs.Prelude.{◌==◌, ◌&&◌, ◌||◌, not, nat_lt, codes}
use Rattle.std.specs.List.{AllByRecursion, list_any}
use Rattle.std.proofs.lemmas.Bool.{ltb-false}
use Rattle.std.proofs.lemmas.List.{length-append}
use Rattle.std.proofs.lemmas.Fmt.{decimal_by_steps, length-decimal-le}
use Rattle.limits.specs.declared.bounds.TheConstants.{GREATEST_AXIS, MOST_LINE_BYTES, MOST_TAG_BYTES}
use Rattle.cells.specs.declared.place.Size.{Size}
use Rattle.cells.specs.Places.{HasAxes}
use Rattle.y4m_clip.specs.declared.form.ClipForm.{ClipForm}
use Rattle.y4m_clip.specs.declared.form.SpaceKind.{SpaceKind}
use Rattle.y4m_clip.specs.declared.form.SpaceKind.TheVariants.{Mono, C444, C422, C411, C420}
use Rattle.shelf_traits.specs.Decimals.{IsDigit, value_behind}
use Rattle.y4m_clip.specs.StreamLine.{IsCount, is_axis, has_stood, again, may_stand, has_axes, Continues, IsStreamLine}
use Rattle.y4m_clip.specs.Spaces.{cell_width, cell_height}
use Rattle.y4m_clip.specs.Clips.{pixels_w, pixels_h, cells_w, cells_h, carried, spaced, IsWhole}
use Rattle.y4m_clip.specs.Writing.{IsForm, line_form}
use Rattle.y4m_clip.proofs.Numbers.{value-push}
use Rattle.y4m_clip.proofs.FramesLaws.{all-push}

-- Numbers in decimal.

record WritesNumber (n : ℕ) (text : List ℕ) : Type 0 where
  digits : AllByRecursion IsDigit text
  value : value_behind 0 text ≡ n

decimal_writes : (n : ℕ) → n < 2 ^ 64 → WritesNumber n (decimal n)
decimal_writes n small = decimal_by_steps WritesNumber one more n small
  where
    one : (n' : ℕ) → n' < 10 → WritesNumber n' ((48 + n') ∷ [])
    one n' below = record { digits = ((omega arith, omega arith), tt); value = omega arith }

    more : (n' : ℕ) (text : List ℕ) → 10 ≤ n' → WritesNumber (n' / 10) text → WritesNumber n' (text ++ ((48 + n' % 10) ∷ []))
    more n' text least writes = record {
      digits = all-push IsDigit text (48 + n' % 10) writes.digits (omega arith, omega arith);
      value = value-push 0 text (48 + n' % 10) ∙ ap (λ v. 10 * v + (48 + n' % 10 - 48)) writes.value ∙ omega arith;
    }

-- digits of which none is above 0
no_value : (text : List ℕ) → list_any (nat_lt 48) text ≡ false → value_behind 0 text ≡ 0
no_value [] e = refl
no_value (b ∷ text) e = tested (nat_lt 48 b) refl e (no_value text)
  where
    tested : (t : Bool) → nat_lt 48 b ≡ t → t || list_any (nat_lt 48) text ≡ false → (list_any (nat_lt 48) text ≡ false → value_behind 0 text ≡ 0) → value_behind (10 * 0 + (b - 48)) text ≡ 0
    tested true f e' more = cc
    tested false f e' more =
        let least : b ≤ 48 = ltb-false 48 b f in
        let none : 10 * 0 + (b - 48) ≡ 0 = omega arith in
        ap (λ n. value_behind n text) none ∙ more e'

decimal_count : (n : ℕ) → 1 ≤ n → n < 2 ^ 64 → IsCount (decimal n)
decimal_count n some small = record { digits = (decimal_writes n small).digits; positive = tested (list_any (nat_lt 48) (decimal n)) refl }
  where
    tested : (t : Bool) → list_any (nat_lt 48) (decimal n) ≡ t → t ≡ true
    tested true e = refl
    tested false e = absurd (omega (arith, (decimal_writes n small).value, no_value (decimal n) e))

pub decimal_value : (n : ℕ) → n < 2 ^ 64 → value_behind 0 (decimal n) ≡ n
decimal_value n small = (decimal_writes n small).value

-- Widths and heights.

pub record IsSide (cell n : ℕ) : Type 0 where
  pub some : 1 ≤ cell * n
  pub small : cell * n ≤ 16384
  pub whole : cell * n % cell ≡ 0
  pub cells : cell * n / cell ≡ n

pub width_side : (kind : SpaceKind) (n : ℕ) → 1 ≤ n → n ≤ GREATEST_AXIS → IsSide (cell_width kind) n
width_side Mono n some few = record { some = omega arith; small = omega arith; whole = omega arith; cells = omega arith }
width_side C444 n some few = record { some = omega arith; small = omega arith; whole = omega arith; cells = omega arith }
width_side C422 n some few = record { some = omega arith; small = omega arith; whole = omega arith; cells = omega arith }
width_side C411 n some few = record { some = omega arith; small = omega arith; whole = omega arith; cells = omega arith }
width_side C420 n some few = record { some = omega arith; small = omega arith; whole = omega arith; cells = omega arith }

pub height_side : (kind : SpaceKind) (n : ℕ) → 1 ≤ n → n ≤ GREATEST_AXIS → IsSide (cell_height kind) n
height_side Mono n some few = record { some = omega arith; small = omega arith; whole = omega arith; cells = omega arith }
height_side C444 n some few = record { some = omega arith; small = omega arith; whole = omega arith; cells = omega arith }
height_side C422 n some few = record { some = omega arith; small = omega arith; whole = omega arith; cells = omega arith }
height_side C411 n some few = record { some = omega arith; small = omega arith; whole = omega arith; cells = omega arith }
height_side C420 n some few = record { some = omega arith; small = omega arith; whole = omega arith; cells = omega arith }

-- The line.

abbrev pub line_tags : ClipForm → Size → List (List ℕ)
line_tags form size = (87 ∷ decimal (cell_width form.space * size.w)) ∷ (72 ∷ decimal (cell_height form.space * size.h)) ∷ form.tags

line_text : (a b s : List ℕ) → codes "YUV4MPEG2 W" ++ a ++ codes " H" ++ b ++ s ++ codes "\n" ≡ codes "YUV4MPEG2" ++ (32 ∷ 87 ∷ (a ++ (32 ∷ 72 ∷ (b ++ (s ++ codes "\n")))))
line_text a b s = simp append_assoc

pub line_stands : (form : ClipForm) (size : Size) → IsForm form → HasAxes size → IsStreamLine (line_form form size) (line_tags form size)
line_stands form size is axes =
    let wide = width_side form.space size.w axes.w.0 axes.w.1 in
    let high = height_side form.space size.h axes.h.0 axes.h.1 in
    let a = decimal (cell_width form.space * size.w) in
    let b = decimal (cell_height form.space * size.h) in
    let last = spaced form.tags ++ codes "\n" in
    record {
      rest = 32 ∷ 87 ∷ (a ++ (32 ∷ 72 ∷ (b ++ last)));
      is = line_text a b (spaced form.tags);
      continues = (
        (λ e. omega arith, λ e. omega arith),
        refl,
        decimal_count (cell_width form.space * size.w) wide.some (omega (arith, wide.small)),
        0,
        32 ∷ 72 ∷ (b ++ last),
        refl,
        ((λ e. omega arith, λ e. omega arith), refl, decimal_count (cell_height form.space * size.h) high.some (omega (arith, high.small)), 0, last, refl, is.stand),
      );
    }

-- Tags after W and H are carried.

axes_shut : (letters : List ℕ) (letter : ℕ) → has_axes letters ≡ true → is_axis letter ≡ true → may_stand letters letter ≡ false
axes_shut letters letter both axis = tested (letter == 87) (letter == 72) (has_stood letters 87) (has_stood letters 72) both axis
  where
    tested : (p q a b : Bool) → a && b ≡ true → p || q ≡ true
        → not (p && a || q && b || again letters letter 70 || again letters letter 73 || again letters letter 65 || again letters letter 67) ≡ false
    tested p q false b e f = absurd (false≢true e)
    tested p q true false e f = absurd (false≢true e)
    tested true q true true e f = refl
    tested false true true true e f = refl
    tested false false true true e f = absurd (false≢true f)

pub carried_same : (letters : List ℕ) (tags : List (List ℕ)) (text : List ℕ) → has_axes letters ≡ true → Continues letters tags text → carried tags ≡ tags
carried_same letters [] text both goes = refl
carried_same letters ([] ∷ tags) text both goes = absurd goes
carried_same letters ((letter ∷ value) ∷ tags) text both (ink, may, valued, n, rest, is, goes) = tested (is_axis letter) refl (λ more. carried_same (letter ∷ letters) tags rest more goes)
  where
    stay : (p q a b : Bool) → a && b ≡ true → (p || a) && (q || b) ≡ true
    stay p q false b e = absurd (false≢true e)
    stay p q true false e = absurd (false≢true e)
    stay true true true true e = refl
    stay true false true true e = refl
    stay false true true true e = refl
    stay false false true true e = refl

    tested : (t : Bool) → is_axis letter ≡ t → (has_axes (letter ∷ letters) ≡ true → carried tags ≡ tags) → cond t (carried tags) ((letter ∷ value) ∷ carried tags) ≡ (letter ∷ value) ∷ tags
    tested true axis more = absurd (false≢true (sym (axes_shut letters letter both axis) ∙ may))
    tested false axis more = ap (λ t. (letter ∷ value) ∷ t) (more (stay (letter == 87) (letter == 72) (has_stood letters 87) (has_stood letters 72) both))

-- What the line says.

pub record Says (form : ClipForm) (size : Size) : Type 0 where
  pub whole : IsWhole (line_tags form size) form.space
  pub w : cells_w (line_tags form size) form.space ≡ size.w
  pub h : cells_h (line_tags form size) form.space ≡ size.h
  pub tags : form.tags ≡ carried (line_tags form size)
  pub short : length (line_form form size) ≤ MOST_LINE_BYTES

length-line : (a b s : List ℕ) → length a ≤ 5 → length b ≤ 5 → length s ≤ MOST_TAG_BYTES → length (codes "YUV4MPEG2 W" ++ a ++ codes " H" ++ b ++ s ++ codes "\n") ≤ MOST_LINE_BYTES
length-line a b s la lb ls =
    omega (
      arith,
      la,
      lb,
      ls,
      length-append (codes "YUV4MPEG2 W") a,
      length-append (codes "YUV4MPEG2 W" ++ a) (codes " H"),
      length-append (codes "YUV4MPEG2 W" ++ a ++ codes " H") b,
      length-append (codes "YUV4MPEG2 W" ++ a ++ codes " H" ++ b) s,
      length-append (codes "YUV4MPEG2 W" ++ a ++ codes " H" ++ b ++ s) (codes "\n"),
    )

pub line_says : (form : ClipForm) (size : Size) → IsForm form → HasAxes size → Says form size
line_says form size is axes =
    let wide = width_side form.space size.w axes.w.0 axes.w.1 in
    let high = height_side form.space size.h axes.h.0 axes.h.1 in
    let w : pixels_w (line_tags form size) ≡ cell_width form.space * size.w = decimal_value (cell_width form.space * size.w) (omega (arith, wide.small)) in
    let h : pixels_h (line_tags form size) ≡ cell_height form.space * size.h = decimal_value (cell_height form.space * size.h) (omega (arith, high.small)) in
    record {
      whole = (ap (λ n. n % cell_width form.space) w ∙ wide.whole, ap (λ n. n % cell_height form.space) h ∙ high.whole);
      w = ap (λ n. n / cell_width form.space) w ∙ wide.cells;
      h = ap (λ n. n / cell_height form.space) h ∙ high.cells;
      tags = sym (carried_same (codes "HW") form.tags (spaced form.tags ++ codes "\n") refl is.stand);
      short = length-line (decimal (cell_width form.space * size.w)) (decimal (cell_height form.space * size.h)) (spaced form.tags)
          (length-decimal-le 5 (cell_width form.space * size.w) (omega arith) (omega (arith, wide.small)) (omega (arith, wide.small)))
          (length-decimal-le 5 (cell_height form.space * size.h) (omega arith) (omega (arith, high.small)) (omega (arith, high.small))) is.fits;
    }
