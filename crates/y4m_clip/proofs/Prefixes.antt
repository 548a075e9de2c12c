-- Prefixes of stream lines, by the scanner.
use Rattle.std.proofs.Common.{◌≡◌, ℕ, zero, suc, ◌≤◌, ◌<◌, ◌+◌, ◌-◌, List, [], ◌∷◌, ◌++◌, length, take, drop, get_or, refl, sym, ap, ◌∙◌, subst, arith, append_assoc}
use Rattle.std.specs.Prelude.{Some, None, codes}
use Rattle.std.proofs.lemmas.List.{append-nil, length-append, take-append-drop, get_or-take, length-take-le, length-drop, take_all}
use Rattle.std.proofs.Math.Seq.{take-append-add}
use Rattle.y4m_clip.specs.declared.scan.LineScan.{LineScan}
use Rattle.y4m_clip.specs.declared.scan.LineScan.TheVariants.{Magic, Whole}
use Rattle.y4m_clip.specs.StreamLine.{IsStreamLine, IsLinePrefix, IsProperLinePrefix}
use Rattle.y4m_clip.specs.Scanning.{no_letters, line_run, RunsInLine, BreaksInLine, EndsInLine}
use Rattle.y4m_clip.specs.Reading.{Matches, GoesWrong, EndsAfter}
use Rattle.y4m_clip.proofs.Lines.{Goes, Completes, goes_of, continues_of, completes_run, only_whole}
use Rattle.y4m_clip.proofs.LineBack.{run_completes, finishes}

abbrev pub magic : List ℕ
magic = codes "YUV4MPEG2"

-- what completes a line after the magic, and back
pub line_of : (text : List ℕ) → (at : Completes Magic text) → IsStreamLine (magic ++ text) at.0
line_of text at = record { rest = text; is = refl; continues = continues_of [] at.0 text at.1 }

pub of_line : (text : List ℕ) (tags : List (List ℕ)) → IsStreamLine (magic ++ text) tags → Completes Magic text
of_line text tags line = (tags, subst (Goes no_letters tags) (sym (ap (drop 9) line.is)) (goes_of [] tags line.rest line.continues))

some_same : {A : Type 0} (x y : A) → Some x ≡ Some y → x ≡ y
some_same x y e = cc

pub run_prefix : (s : LineScan) (text : List ℕ) → line_run Magic text ≡ Some s → IsLinePrefix (magic ++ text)
run_prefix s text run =
    let end = finishes s in
    let at = run_completes Magic text end.0 s run end.1 in
    record { rest = end.0; tags = at.0; line = line_of (text ++ end.0) at }

pub broken_none : (text : List ℕ) → line_run Magic text ≡ None → IsLinePrefix (magic ++ text) → ⊥
broken_none text broken prefix =
    let on = completes_run Magic text prefix.rest (of_line (text ++ prefix.rest) prefix.tags prefix.line) in
    let none : None ≡ Some on.0 = sym broken ∙ on.1 in
    cc

pub whole_line : (text : List ℕ) → line_run Magic text ≡ Some Whole → (tags : List (List ℕ)) × IsStreamLine (magic ++ text) tags
whole_line text run =
    let at = run_completes Magic text [] Whole run refl in
    let whole : Completes Magic text = subst (Completes Magic) (append-nil text) at in
    (whole.0, line_of text whole)

-- the scanner comes to the end of each line
pub line_runs : (text : List ℕ) (tags : List (List ℕ)) → IsStreamLine (magic ++ text) tags → line_run Magic text ≡ Some Whole
line_runs text tags line =
    let on = completes_run Magic text [] (subst (Completes Magic) (sym (append-nil text)) (of_line text tags line)) in
    on.1 ∙ ap Some (only_whole on.0 on.2)

pub open_proper : (text : List ℕ) → RunsInLine text → IsProperLinePrefix (magic ++ text)
open_proper text runs = record {
  starts = run_prefix runs.0 text runs.1;
  proper = λ tags line. runs.2 (some_same runs.0 Whole (sym runs.1 ∙ line_runs text tags line));
}

-- In the magic.

pub short_proper : (text more : List ℕ) → text ++ more ≡ magic → 1 ≤ length more → IsProperLinePrefix text
short_proper text more is some =
    let front = finishes Magic in
    record {
      starts = record { rest = more ++ front.0; tags = front.1.0; line = subst (λ t. IsStreamLine t front.1.0) (ap (λ t. t ++ front.0) (sym is) ∙ append_assoc text more front.0) (line_of front.0 front.1) };
      proper = λ tags line. let long = ap length line.is in omega (arith, length-append text more, ap length is, length-append magic line.rest);
    }

-- an item of the first of two lists
pub front-index : (a b : List ℕ) (i : ℕ) → i < length a → get_or (a ++ b) i 0 ≡ get_or a i 0
front-index [] b i below = absurd (omega arith)
front-index (x ∷ a) b zero below = refl
front-index (x ∷ a) b (suc i) below = front-index a b i (omega arith)

-- a byte that isn't the one of the magic
wrong_byte : (text : List ℕ) (n : ℕ) → Matches text magic n → n < 9 → n < length text → IsLinePrefix (take (n + 1) text) → ⊥
wrong_byte text n matches early inside prefix =
    matches.here inside early
    (sym (get_or-take (n + 1) text n 0 (omega arith)) ∙ sym (front-index (take (n + 1) text) prefix.rest n (omega (arith, length-take-le (n + 1) text (omega arith))))
    ∙ ap (λ t. get_or t n 0) prefix.line.is ∙ front-index magic prefix.line.rest n early)

-- What the scanner makes of a file's front.

pub magic_broken : (text : List ℕ) (n : ℕ) → Matches text magic n → n < 9 → n < length text → GoesWrong text n
magic_broken text n matches early inside = record {
  inside = inside;
  before = short_proper (take n text) (drop n magic) (ap (λ t. t ++ drop n magic) matches.same ∙ take-append-drop n magic) (omega (arith, length-drop n magic));
  here = wrong_byte text n matches early inside;
}

pub magic_open : (text : List ℕ) (n : ℕ) → Matches text magic n → n < 9 → length text ≤ n → IsProperLinePrefix text
magic_open text n matches early ends =
    let whole : take n text ≡ text = take_all n text ends in
    subst IsProperLinePrefix whole (short_proper (take n text) (drop n magic) (ap (λ t. t ++ drop n magic) matches.same ∙ take-append-drop n magic) (omega (arith, length-drop n magic)))

pub with_magic : (text : List ℕ) (n : ℕ) → Matches text magic n → 9 ≤ n → magic ++ drop 9 text ≡ text
with_magic text n matches late =
    let nine : n ≡ 9 = omega (arith, matches.within) in
    ap (λ t. t ++ drop 9 text) (sym (ap (λ m. take m text) (sym nine) ∙ matches.same ∙ ap (λ m. take m magic) nine)) ∙ take-append-drop 9 text

-- the rest of a slice is the rest of its list
pub whole_rest : (text : List ℕ) → take (length text - 9) (drop 9 text) ≡ drop 9 text
whole_rest text = take_all (length text - 9) (drop 9 text) (omega (arith, length-drop 9 text))

pub line_open : (text : List ℕ) → magic ++ drop 9 text ≡ text → RunsInLine (drop 9 text) → IsProperLinePrefix text
line_open text is runs = subst IsProperLinePrefix is (open_proper (drop 9 text) runs)

front : (text : List ℕ) (n : ℕ) → magic ++ drop 9 text ≡ text → magic ++ take n (drop 9 text) ≡ take (9 + n) text
front text n is = sym (take-append-add magic (drop 9 text) n) ∙ ap (take (9 + n)) is

long : (text : List ℕ) → magic ++ drop 9 text ≡ text → 9 + length (drop 9 text) ≡ length text
long text is = sym (length-append magic (drop 9 text)) ∙ ap length is

pub line_broken : (text : List ℕ) (i : ℕ) → magic ++ drop 9 text ≡ text → BreaksInLine (drop 9 text) i → GoesWrong text (9 + i)
line_broken text i is breaks = record {
  inside = omega (arith, long text is, breaks.inside);
  before = subst IsProperLinePrefix (front text i is) (open_proper (take i (drop 9 text)) breaks.before);
  here = λ prefix.
      let next : 9 + i + 1 ≡ 9 + (i + 1) = omega arith in
      broken_none (take (i + 1) (drop 9 text)) breaks.here (subst IsLinePrefix (ap (λ n. take n text) next ∙ sym (front text (i + 1) is)) prefix);
}

pub line_ended : (text : List ℕ) (n : ℕ) → magic ++ drop 9 text ≡ text → EndsInLine (drop 9 text) n → EndsAfter text (9 + n)
line_ended text n is ends =
    let whole = whole_line (take n (drop 9 text)) ends.run in
    let last : 9 + (n - 1) ≡ 9 + n - 1 = omega (arith, ends.some) in
    record {
      some = omega arith;
      inside = omega (arith, long text is, ends.inside);
      before = subst IsProperLinePrefix (front text (n - 1) is ∙ ap (λ m. take m text) last) (open_proper (take (n - 1) (drop 9 text)) ends.before);
      line = (whole.0, subst (λ t. IsStreamLine t whole.0) (front text n is) whole.1);
    }
