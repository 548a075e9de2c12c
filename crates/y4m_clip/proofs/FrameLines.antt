-- What the scanner makes of the front of a frame.
use Rattle.std.proofs.Common.{◌≡◌, ◌≢◌, ℕ, zero, suc, ◌≤◌, ◌<◌, ◌+◌, inl, inr, List, [], ◌∷◌, ◌++◌, length, take, drop, get_or, min, refl, sym, ap, ◌∙◌, subst, arith, Bool, true, false, cond}
use Rattle.std.specs.Prelude.{Some, nat_lt, codes, Ok, Err}
use Rattle.std.specs.List.{AllByRecursion}
use Rattle.std.proofs.lemmas.List.{append-nil, length-append, take-append-drop, length-take-le, length-drop, take-take, take_all, take_more, get_or-take}
use Rattle.std.proofs.lemmas.Bool.{ltb-true, ltb-false}
use Rattle.std.proofs.Math.Seq.{take-append-add, take-append_seam}
use Rattle.limits.specs.declared.bounds.TheConstants.{MOST_LINE_BYTES}
use Rattle.y4m_clip.specs.Clips.{IsFrameLine, IsOpenFrameLine, IsFrameLinePrefix}
use Rattle.y4m_clip.specs.Reading.{Matches}
use Rattle.shelf_traits.specs.declared.fault.ReadError.TheVariants.{Bad, Limit}
use Rattle.shelf_traits.specs.declared.fault.FormFault.TheVariants.{Form}
use Rattle.shelf_traits.specs.declared.fault.What.TheVariants.{Header}
use Rattle.shelf_traits.specs.Files.{ShelfState, Reads, content_of, Changes}
use Rattle.y4m_clip.specs.declared.frame.FrameScan.{FrameScan}
use Rattle.y4m_clip.specs.declared.frame.FrameScan.TheVariants.{Nothing, Open, Wrong, Whole}
use Rattle.y4m_clip.specs.Frames.{IsFirstEnd, IsEarly, WrongInFrame, IsFrameScanned, frame_judged, IsFrameFound, FindsFrameAs}
use Rattle.shelf_traits.proofs.Sees.{Sees, sees_weaker}
use Rattle.y4m_clip.proofs.Prefixes.{front-index}

abbrev pub word : List ℕ
word = codes "FRAME"

-- each prefix of a frame line goes with the word as far as both go
fronts : (text : List ℕ) → IsFrameLinePrefix text → (rest : List ℕ) × (more : List ℕ) × (text ++ rest ≡ word ++ more)
fronts text (inl (inl start)) = (start.0, [], start.1)
fronts text (inl (inr start)) = ([], 32 ∷ start.0, append-nil text ∙ start.2)
fronts text (inr (inl line)) = ([], 10 ∷ [], append-nil text ∙ line)
fronts text (inr (inr line)) = ([], 32 ∷ (line.0 ++ 10 ∷ []), append-nil text ∙ line.2)

-- the front of the word
open_front : (text : List ℕ) (n : ℕ) → Matches text word n → IsOpenFrameLine (take n text)
open_front text n matches = inl (drop n word, ap (λ t. t ++ drop n word) matches.same ∙ take-append-drop n word)

pub wrong_early : (text : List ℕ) (n : ℕ) → Matches text word n → n < 5 → n < length text → WrongInFrame text n
wrong_early text n matches early inside = record {
  inside = inside;
  before = open_front text n matches;
  here = λ prefix.
      let front = fronts (take (n + 1) text) prefix in
      matches.here inside early
      (sym (get_or-take (n + 1) text n 0 (omega arith)) ∙ sym (front-index (take (n + 1) text) front.0 n (omega (arith, length-take-le (n + 1) text (omega arith))))
      ∙ ap (λ t. get_or t n 0) front.2 ∙ front-index word front.1 n early);
}

pub open_short : (text : List ℕ) (n : ℕ) → Matches text word n → length text ≤ n → IsOpenFrameLine text
open_short text n matches ends = subst IsOpenFrameLine (take_all n text ends) (open_front text n matches)

-- the word, and the byte after it
pub with_byte : (text : List ℕ) (n : ℕ) → Matches text word n → 5 ≤ n → 5 < length text → take 6 text ≡ word ++ get_or text 5 0 ∷ []
with_byte text n matches late inside =
    let five : n ≡ 5 = omega (arith, matches.within) in
    take_more text 5 0 inside ∙ ap (λ t. t ++ get_or text 5 0 ∷ []) (ap (λ m. take m text) (sym five) ∙ matches.same ∙ ap (λ m. take m word) five)

pub line_words : (text : List ℕ) (i : ℕ) → take 6 text ≡ word ++ get_or text 5 0 ∷ [] → get_or text 5 0 ≡ 32 → IsFirstEnd (drop 6 text) i → IsFrameLine (take (7 + i) text)
line_words text i is blank end =
    let spaced : take 6 text ≡ codes "FRAME " = is ∙ ap (λ b. word ++ b ∷ []) blank in
    let whole : text ≡ codes "FRAME " ++ drop 6 text = sym (take-append-drop 6 text) ∙ ap (λ t. t ++ drop 6 text) spaced in
    let count : 7 + i ≡ 6 + (i + 1) = omega arith in
    inr (
      take i (drop 6 text),
      end.before,
      ap (λ n. take n text) count ∙ ap (take (6 + (i + 1))) whole ∙ take-append-add (codes "FRAME ") (drop 6 text) (i + 1) ∙ ap (λ t. codes "FRAME " ++ t) end.ends,
    )

-- What is read of a file from a place on tells the answer of its frame line.

-- a line that goes on after the most bytes of one is open before
open_before : (text : List ℕ) → length text ≡ MOST_LINE_BYTES + 1 → IsOpenFrameLine text → IsOpenFrameLine (take MOST_LINE_BYTES text)
open_before text long (inl start) = absurd (omega (arith, long, length-append text start.0, ap length start.1))
open_before text long (inr start) =
    inr (take 4090 start.0, AllByRecursion-take 4090 start.0 start.1, ap (take MOST_LINE_BYTES) start.2 ∙ take-append-add (codes "FRAME ") start.0 4090)
  where
    AllByRecursion-take : (n : ℕ) (xs : List ℕ) → AllByRecursion (λ b. b ≢ 10) xs → AllByRecursion (λ b. b ≢ 10) (take n xs)
    AllByRecursion-take zero xs each = tt
    AllByRecursion-take (suc n) [] each = tt
    AllByRecursion-take (suc n) (x ∷ xs) each = (each.0, AllByRecursion-take n xs each.1)

line_before : (text : List ℕ) → length text ≡ MOST_LINE_BYTES + 1 → IsFrameLine text → IsOpenFrameLine (take MOST_LINE_BYTES text)
line_before text long (inl line) = absurd (omega (arith, long, ap length line))
line_before text long (inr line) =
    let count : length (codes "FRAME " ++ line.0) ≡ MOST_LINE_BYTES = omega (arith, long, ap length line.2, length-append (codes "FRAME " ++ line.0) (10 ∷ [])) in
    inr (line.0, line.1, ap (take MOST_LINE_BYTES) line.2 ∙ ap (λ n. take n (codes "FRAME " ++ line.0 ++ 10 ∷ [])) (sym count) ∙ take-append_seam (codes "FRAME " ++ line.0) (10 ∷ []))

open_found : (rest : List ℕ) (at count : ℕ) (past : Bool) → count ≡ min (MOST_LINE_BYTES + 1) (length rest) → nat_lt MOST_LINE_BYTES count ≡ past → 1 ≤ length (take count rest) → IsOpenFrameLine (take count rest)
    → IsFrameFound rest at (cond past (Err (Limit Header (MOST_LINE_BYTES + 1) MOST_LINE_BYTES)) (Err (Bad (Form (at + count)))))
open_found rest at count true is e some start =
    let more : MOST_LINE_BYTES < count = ltb-true MOST_LINE_BYTES count e in
    let all : count ≡ MOST_LINE_BYTES + 1 = omega arith in
    let room : length (take count rest) ≡ MOST_LINE_BYTES + 1 = length-take-le count rest (omega arith) ∙ all in
    (record { longer = omega arith; starts = subst IsOpenFrameLine (take-take MOST_LINE_BYTES count rest (omega arith)) (open_before (take count rest) room start) }, refl, refl)
open_found rest at count false is e some start =
    let few : count ≤ MOST_LINE_BYTES = ltb-false MOST_LINE_BYTES count e in
    let room : length (take count rest) ≡ count = length-take-le count rest (omega arith) in
    (count, refl, record { early = few; inside = omega arith; before = start; here = inl (omega arith, omega arith) })

whole_found : (rest : List ℕ) (at count n : ℕ) (past : Bool) → count ≡ min (MOST_LINE_BYTES + 1) (length rest) → nat_lt MOST_LINE_BYTES n ≡ past → n ≤ length (take count rest) → IsFrameLine (take n (take count rest))
    → IsFrameFound rest at (cond past (Err (Limit Header (MOST_LINE_BYTES + 1) MOST_LINE_BYTES)) (Ok (Some n)))
whole_found rest at count n true is e inside line =
    let more : MOST_LINE_BYTES < n = ltb-true MOST_LINE_BYTES n e in
    let room : length (take count rest) ≡ count = length-take-le count rest (omega arith) in
    let all : n ≡ MOST_LINE_BYTES + 1 = omega arith in
    let same : take n (take count rest) ≡ take n rest = take-take n count rest (omega arith) in
    let long : length (take n rest) ≡ MOST_LINE_BYTES + 1 = length-take-le n rest (omega arith) ∙ all in
    (record { longer = omega arith; starts = subst IsOpenFrameLine (take-take MOST_LINE_BYTES n rest (omega arith)) (line_before (take n rest) long (subst IsFrameLine same line)) }, refl, refl)
whole_found rest at count n false is e inside line =
    let room : length (take count rest) ≡ count = length-take-le count rest (omega arith) in
    record { inside = omega arith; is_line = subst IsFrameLine (take-take n count rest (omega arith)) line; short = ltb-false MOST_LINE_BYTES n e }

wrong_found : (rest : List ℕ) (at count i : ℕ) → count ≡ min (MOST_LINE_BYTES + 1) (length rest) → i ≤ 5 → WrongInFrame (take count rest) i → IsFrameFound rest at (Err (Bad (Form (at + i))))
wrong_found rest at count i is early wrong =
    let room : length (take count rest) ≡ count = length-take-le count rest (omega arith) in
    let less : i < count = omega (arith, wrong.inside) in (
      i,
      refl,
      record {
        early = omega arith;
        inside = omega arith;
        before = subst IsOpenFrameLine (take-take i count rest (omega arith)) wrong.before;
        here = inr (omega arith, λ prefix. wrong.here (subst IsFrameLinePrefix (sym (take-take (i + 1) count rest (omega arith))) prefix));
      },
    )

no_bytes : (bytes : List ℕ) → length bytes ≡ 0 → bytes ≡ []
no_bytes [] none = refl
no_bytes (b ∷ bytes) none = absurd (omega arith)

pub frame_found : (bytes buffer : List ℕ) (at count : ℕ) (scan : FrameScan) → length buffer ≡ MOST_LINE_BYTES + 1 → Reads bytes at buffer count → IsFrameScanned (take count buffer) scan → IsEarly scan
    → IsFrameFound (drop at bytes) at (frame_judged at count scan)
frame_found bytes buffer at count scan room reads is early = by scan (subst (λ t. IsFrameScanned t scan) reads.read is) early
  where
    all : count ≡ min (MOST_LINE_BYTES + 1) (length (drop at bytes))
    all = omega (arith, reads.count, length-drop at bytes)

    by : (s : FrameScan) → IsFrameScanned (take count (drop at bytes)) s → IsEarly s → IsFrameFound (drop at bytes) at (frame_judged at count s)
    by Nothing none early' = no_bytes (drop at bytes) (omega (arith, ap length none, length-take-le count (drop at bytes) (omega (arith, all)), all))
    by Open start early' = open_found (drop at bytes) at count (nat_lt MOST_LINE_BYTES count) all refl start.0 start.1
    by (Wrong i) wrong early' = wrong_found (drop at bytes) at count i all early' wrong
    by (Whole n) whole early' = whole_found (drop at bytes) at count n (nat_lt MOST_LINE_BYTES n) all refl whole.0 whole.1

-- as the shelf tells it
pub finds_frame_as : (name buffer : List ℕ) (at count : ℕ) (scan : FrameScan) (a b : ShelfState) → length buffer ≡ MOST_LINE_BYTES + 1 → Changes a b (λ was now. Reads (content_of was name) at buffer count)
    → IsFrameScanned (take count buffer) scan → IsEarly scan → FindsFrameAs name at a b (frame_judged at count scan)
finds_frame_as name buffer at count scan a b room reads is early =
    by scan
    (sees_weaker (λ files. Reads (content_of files name) at buffer count) (λ files. IsFrameFound (drop at (content_of files name)) at (frame_judged at count scan)) a b
    (λ files read. frame_found (content_of files name) buffer at count scan room read is early) reads)
  where
    limit_or_form : (past : Bool) → Sees a b (λ files. IsFrameFound (drop at (content_of files name)) at (cond past (Err (Limit Header (MOST_LINE_BYTES + 1) MOST_LINE_BYTES)) (Err (Bad (Form (at + count))))))
        → FindsFrameAs name at a b (cond past (Err (Limit Header (MOST_LINE_BYTES + 1) MOST_LINE_BYTES)) (Err (Bad (Form (at + count)))))
    limit_or_form true seen = seen
    limit_or_form false seen = seen

    limit_or_length : (n : ℕ) (past : Bool) → Sees a b (λ files. IsFrameFound (drop at (content_of files name)) at (cond past (Err (Limit Header (MOST_LINE_BYTES + 1) MOST_LINE_BYTES)) (Ok (Some n))))
        → FindsFrameAs name at a b (cond past (Err (Limit Header (MOST_LINE_BYTES + 1) MOST_LINE_BYTES)) (Ok (Some n)))
    limit_or_length n true seen = seen
    limit_or_length n false seen = seen

    by : (s : FrameScan) → Sees a b (λ files. IsFrameFound (drop at (content_of files name)) at (frame_judged at count s)) → FindsFrameAs name at a b (frame_judged at count s)
    by Nothing seen = seen
    by Open seen = limit_or_form (nat_lt MOST_LINE_BYTES count) seen
    by (Wrong i) seen = seen
    by (Whole n) seen = limit_or_length n (nat_lt MOST_LINE_BYTES n) seen
