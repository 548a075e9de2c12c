-- The carried tags of a stream line make a form that can be written.
use Rattle.std.proofs.Common.{◌≡◌, ℕ, ◌≤◌, List, [], ◌∷◌, ◌++◌, length, refl, sym, ap, ◌∙◌, subst, append_assoc, Bool, true, false, cond}
use Rattle.std.specs.Prelude.{◌==◌, ◌&&◌, ◌||◌, not, Some, codes}
use Rattle.std.proofs.lemmas.Bool.{eqb-true}
use Rattle.limits.specs.declared.bounds.TheConstants.{MOST_TAG_BYTES}
use Rattle.y4m_clip.specs.declared.form.ClipForm.{ClipForm}
use Rattle.y4m_clip.specs.declared.form.SpaceKind.{SpaceKind}
use Rattle.y4m_clip.specs.StreamLine.{is_axis, has_stood, again, may_stand, has_axes, Continues, IsStreamLine}
use Rattle.y4m_clip.specs.Spaces.{GivesSpace, GivesInterlace}
use Rattle.y4m_clip.specs.Clips.{tag_value, carried, spaced, HasSpaceKind}
use Rattle.y4m_clip.specs.Writing.{IsForm}

-- Tests.

or_less : (a b a' b' : Bool) → (a' ≡ true → a ≡ true) → (b' ≡ true → b ≡ true) → a' || b' ≡ true → a || b ≡ true
or_less true b a' b' first second e = refl
or_less false b true b' first second e = let h = first refl in cc
or_less false b false b' first second e = second e

not_less : (p q : Bool) → (q ≡ true → p ≡ true) → not p ≡ true → not q ≡ true
not_less p false less e = refl
not_less true true less e = e
not_less false true less e = let h = less refl in cc

later_or : (p q : Bool) → q ≡ true → p || q ≡ true
later_or true q e = refl
later_or false q e = e

-- every letter but W and H that is in the second list is in the first
abbrev StandsLess : List ℕ → List ℕ → Type 0
StandsLess letters fewer = (l : ℕ) → is_axis l ≡ false → has_stood fewer l ≡ true → has_stood letters l ≡ true

again_less : (letters fewer : List ℕ) (letter once : ℕ) → StandsLess letters fewer → is_axis letter ≡ false → again fewer letter once ≡ true → again letters letter once ≡ true
again_less letters fewer letter once less axis = tested (letter == once) refl
  where
    tested : (t : Bool) → (letter == once) ≡ t → t && has_stood fewer once ≡ true → t && has_stood letters once ≡ true
    tested true e stood = less once (ap is_axis (sym (eqb-true letter once e)) ∙ axis) stood
    tested false e stood = stood

may_stand_less : (letters fewer : List ℕ) (letter : ℕ) → StandsLess letters fewer → is_axis letter ≡ false → may_stand letters letter ≡ true → may_stand fewer letter ≡ true
may_stand_less letters fewer letter less axis =
    let one = λ (once : ℕ). again_less letters fewer letter once less axis in
    not_less _ _ (or_less _ _ _ _ (or_less _ _ _ _ (or_less _ _ _ _ (or_less _ _ _ _ (or_less _ _ _ _ (one 87) (one 72)) (one 70)) (one 73)) (one 65)) (one 67))

stands_less_after : (letters fewer : List ℕ) (letter : ℕ) → StandsLess letters fewer → StandsLess (letter ∷ letters) (letter ∷ fewer)
stands_less_after letters fewer letter less l axis = tested (letter == l)
  where
    tested : (t : Bool) → t || has_stood fewer l ≡ true → t || has_stood letters l ≡ true
    tested true stood = refl
    tested false stood = less l axis stood

axes_stay : (letter : ℕ) (letters : List ℕ) → has_axes letters ≡ true → has_axes (letter ∷ letters) ≡ true
axes_stay letter letters both = stay (letter == 87) (letter == 72) (has_stood letters 87) (has_stood letters 72) both
  where
    stay : (p q a b : Bool) → a && b ≡ true → (p || a) && (q || b) ≡ true
    stay p q false b e = cc
    stay p q true false e = cc
    stay true true true true e = refl
    stay true false true true e = refl
    stay false true true true e = refl
    stay false false true true e = refl

-- Tags that come after W and H.

pub carried_stand : (letters fewer : List ℕ) (tags : List (List ℕ)) (text : List ℕ) → Continues letters tags text → StandsLess letters fewer → has_axes fewer ≡ true
    → Continues fewer (carried tags) (spaced (carried tags) ++ codes "\n")
carried_stand letters fewer [] text goes less both = (both, 0, refl)
carried_stand letters fewer ([] ∷ tags) text goes less both = absurd goes
carried_stand letters fewer ((letter ∷ value) ∷ tags) text (ink, may, valued, n, rest, is, goes) less both = tested (is_axis letter) refl (λ f h both'. carried_stand (letter ∷ letters) f tags rest goes h both')
  where
    tested : (t : Bool) → is_axis letter ≡ t
        → ((f : List ℕ) → StandsLess (letter ∷ letters) f → has_axes f ≡ true → Continues f (carried tags) (spaced (carried tags) ++ codes "\n"))
        → Continues fewer (cond t (carried tags) ((letter ∷ value) ∷ carried tags)) (spaced (cond t (carried tags) ((letter ∷ value) ∷ carried tags)) ++ codes "\n")
    tested true axis more = more fewer (λ l other stood. later_or (letter == l) (has_stood letters l) (less l other stood)) both
    tested false axis more = (
      ink,
      may_stand_less letters fewer letter less axis may,
      valued,
      0,
      spaced (carried tags) ++ codes "\n",
      append_assoc (32 ∷ letter ∷ value) (spaced (carried tags)) (codes "\n"),
      more (letter ∷ fewer) (stands_less_after letters fewer letter less) (axes_stay letter fewer both),
    )

carried_value : (letter : ℕ) (tags : List (List ℕ)) → is_axis letter ≡ false → tag_value letter (carried tags) ≡ tag_value letter tags
carried_value letter [] other = refl
carried_value letter ([] ∷ tags) other = carried_value letter tags other
carried_value letter ((l ∷ value) ∷ tags) other = tested (is_axis l) refl (l == letter) refl (carried_value letter tags other)
  where
    tested : (t : Bool) → is_axis l ≡ t → (s : Bool) → (l == letter) ≡ s → tag_value letter (carried tags) ≡ tag_value letter tags
        → tag_value letter (cond t (carried tags) ((l ∷ value) ∷ carried tags)) ≡ cond s (Some value) (tag_value letter tags)
    tested true axis true same more = let e = sym (ap is_axis (eqb-true l letter same)) ∙ axis in cc
    tested true axis false same more = more
    tested false axis true same more = ap (λ s. cond s (Some value) (tag_value letter (carried tags))) same
    tested false axis false same more = ap (λ s. cond s (Some value) (tag_value letter (carried tags))) same ∙ more

pub carried_kind : (tags : List (List ℕ)) (kind : SpaceKind) → HasSpaceKind tags kind → HasSpaceKind (carried tags) kind
carried_kind tags kind is = record {
  space = subst (λ o. GivesSpace o kind) (sym (carried_value 67 tags refl)) is.space;
  interlace = subst GivesInterlace (sym (carried_value 73 tags refl)) is.interlace;
}

-- the form that a reader makes of a stream line
pub form_of_line : (form : ClipForm) (text : List ℕ) (tags : List (List ℕ)) → IsStreamLine text tags → form.tags ≡ carried tags → HasSpaceKind tags form.space → length (spaced (carried tags)) ≤ MOST_TAG_BYTES → IsForm form
form_of_line form text tags line same is fits = record {
  stand = subst (λ t. Continues (codes "HW") t (spaced t ++ codes "\n")) (sym same) (carried_stand [] (codes "HW") tags line.rest line.continues none refl);
  is_kind = subst (λ t. HasSpaceKind t form.space) (sym same) (carried_kind tags form.space is);
  fits = subst (λ t. length (spaced t) ≤ MOST_TAG_BYTES) (sym same) fits;
}
  where
    none : StandsLess [] (codes "HW")
    none l other stood = tested (72 == l) refl (87 == l) refl stood
      where
        tested : (p : Bool) → (72 == l) ≡ p → (q : Bool) → (87 == l) ≡ q → p || (q || false) ≡ true → false ≡ true
        tested true e q f stands = sym (ap is_axis (eqb-true 72 l e) ∙ other)
        tested false e true f stands = sym (ap is_axis (eqb-true 87 l f) ∙ other)
        tested false e false f stands = stands
