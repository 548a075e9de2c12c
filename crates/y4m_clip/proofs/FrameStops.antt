-- A frame breaks at one place at most, and not where a whole frame is.
use Rattle.std.proofs.Common.{◌≡◌, ◌≢◌, ℕ, zero, suc, ◌≤◌, ◌<◌, ◌+◌, ◌⊎◌, inl, inr, List, [], ◌∷◌, ◌++◌, length, take, drop, get_or, refl, sym, ap, ◌∙◌, subst, arith, append_assoc, ⊎_elim}
use Rattle.std.specs.Prelude.{codes}
use Rattle.std.specs.List.{AllByRecursion}
use Rattle.std.proofs.lemmas.Bool.{cases_lt, cases_eq}
use Rattle.std.proofs.lemmas.List.{length-append, take-append-drop, take-append-le, length-take-le, take-take, take_all, take_more}
use Rattle.std.proofs.Math.Seq.{take-append_seam}
use Rattle.limits.specs.declared.bounds.TheConstants.{MOST_LINE_BYTES}
use Rattle.y4m_clip.specs.declared.form.SpaceKind.{SpaceKind}
use Rattle.y4m_clip.specs.Clips.{IsFrameLine, IsOpenFrameLine, IsFrameLinePrefix, Frame, IsFrame, frame_text, plane_bytes}
use Rattle.y4m_clip.specs.Refusals.{FrameLineBreaks, PlanesBreak, FrameLineTooLong}
use Rattle.y4m_clip.proofs.FramesLaws.{all-push}
use Rattle.y4m_clip.proofs.OneClip.{same_frame_line, same_back}

-- Open frame lines have no LF, and so no whole line at their front.

abbrev NoEnd : List ℕ → Type 0
NoEnd text = AllByRecursion (λ b. b ≢ 10) text

no_end_left : (a b : List ℕ) → NoEnd (a ++ b) → NoEnd a
no_end_left [] b each = tt
no_end_left (x ∷ a) b each = (each.0, no_end_left a b each.1)

no_end_right : (a b : List ℕ) → NoEnd (a ++ b) → NoEnd b
no_end_right [] b each = each
no_end_right (x ∷ a) b each = no_end_right a b each.1

frame_word : NoEnd (codes "FRAME")
frame_word = (λ e. omega arith, (λ e. omega arith, (λ e. omega arith, (λ e. omega arith, (λ e. omega arith, tt)))))

open_no_end : (text : List ℕ) → IsOpenFrameLine text → NoEnd text
open_no_end text (inl start) = no_end_left text start.0 (subst NoEnd (sym start.1) frame_word)
open_no_end text (inr start) =
    subst NoEnd (sym start.2) (λ e. omega arith, (λ e. omega arith, (λ e. omega arith, (λ e. omega arith, (λ e. omega arith, (λ e. omega arith, start.1))))))

line_ends : (line : List ℕ) → IsFrameLine line → NoEnd line → ⊥
line_ends line (inl is) each = let all : NoEnd (codes "FRAME" ++ 10 ∷ []) = subst NoEnd is each in (no_end_right (codes "FRAME") (10 ∷ []) all).0 refl
line_ends line (inr is) each = (no_end_right (codes "FRAME " ++ is.0) (10 ∷ []) (subst NoEnd is.2 each)).0 refl

-- a text with a whole line at its front isn't open
no_line_open : (line more : List ℕ) → IsFrameLine line → IsOpenFrameLine (line ++ more) → ⊥
no_line_open line more is start = line_ends line is (no_end_left line more (open_no_end (line ++ more) start))

-- Fronts of lines.

no_end_take : (n : ℕ) (text : List ℕ) → NoEnd text → NoEnd (take n text)
no_end_take zero text each = tt
no_end_take (suc n) [] each = tt
no_end_take (suc n) (b ∷ text) each = (each.0, no_end_take n text each.1)

-- a front of FRAME, a blank and words
words_front : (n : ℕ) (words : List ℕ) → NoEnd words → IsOpenFrameLine (take n (codes "FRAME " ++ words))
words_front zero words each = inl (codes "FRAME", refl)
words_front (suc zero) words each = inl (codes "RAME", refl)
words_front (suc (suc zero)) words each = inl (codes "AME", refl)
words_front (suc (suc (suc zero))) words each = inl (codes "ME", refl)
words_front (suc (suc (suc (suc zero)))) words each = inl (codes "E", refl)
words_front (suc (suc (suc (suc (suc zero))))) words each = inl ([], refl)
words_front (suc (suc (suc (suc (suc (suc n)))))) words each = inr (take n words, no_end_take n words each, refl)

open_shorter : (n : ℕ) (text : List ℕ) → IsOpenFrameLine text → IsOpenFrameLine (take n text)
open_shorter n text (inl start) =
    inl (drop n text ++ start.0, sym (append_assoc (take n text) (drop n text) start.0) ∙ ap (λ t. t ++ start.0) (take-append-drop n text) ∙ start.1)
open_shorter n text (inr start) = subst (λ t. IsOpenFrameLine (take n t)) (sym start.2) (words_front n start.0 start.1)

-- the bytes before the last one of a line are open
line_shorter : (n : ℕ) (line : List ℕ) → IsFrameLine line → n < length line → IsOpenFrameLine (take n line)
line_shorter n line (inl is) less =
    subst IsOpenFrameLine (ap (take n) (sym is)) (subst IsOpenFrameLine (sym (take-append-le n (codes "FRAME") (10 ∷ []) (omega (arith, ap length is)))) (open_shorter n (codes "FRAME") (inl ([], refl))))
line_shorter n line (inr is) less =
    subst IsOpenFrameLine (ap (take n) (sym is.2))
    (subst IsOpenFrameLine (sym (take-append-le n (codes "FRAME " ++ is.0) (10 ∷ []) (omega (arith, ap length is.2, length-append (codes "FRAME " ++ is.0) (10 ∷ [])))))
    (open_shorter n (codes "FRAME " ++ is.0) (inr (is.0, is.1, refl))))

line_front : (n : ℕ) (line : List ℕ) → IsFrameLine line → n ≤ length line → IsFrameLinePrefix (take n line)
line_front n line is le = split (cases_lt n (length line))
  where
    split : (n < length line) ⊎ (length line ≤ n) → IsFrameLinePrefix (take n line)
    split (inl less) = inl (line_shorter n line is less)
    split (inr more) = inr (subst IsFrameLine (sym (take_all n line more)) is)

-- after FRAME and a blank any byte may come
open_more : (b : ℕ) (text : List ℕ) → IsOpenFrameLine text → 6 ≤ length text → IsFrameLinePrefix (text ++ b ∷ [])
open_more b text (inl start) long = absurd (omega (arith, ap length start.1, length-append text start.0))
open_more b text (inr start) long = split (cases_eq b 10)
  where
    joined : text ++ b ∷ [] ≡ codes "FRAME " ++ (start.0 ++ b ∷ [])
    joined = ap (λ t. t ++ b ∷ []) start.2 ∙ append_assoc (codes "FRAME ") start.0 (b ∷ [])

    split : (b ≡ 10) ⊎ (b ≢ 10) → IsFrameLinePrefix (text ++ b ∷ [])
    split (inl same) = inr (inr (start.0, start.1, joined ∙ ap (λ c. codes "FRAME " ++ (start.0 ++ c ∷ [])) same ∙ sym (append_assoc (codes "FRAME ") start.0 (10 ∷ []))))
    split (inr other) = inl (inr (start.0 ++ b ∷ [], all-push (λ c. c ≢ 10) start.0 b start.1 other, joined))

-- What breaks.

-- what is no front of a line is none with more bytes
break_first : (rest : List ℕ) (i n : ℕ) → FrameLineBreaks rest i → IsOpenFrameLine (take n rest) → n ≤ length rest → i < n → ⊥
break_first rest i n breaks start inside less = wrong breaks.here
  where
    wrong : ((1 ≤ i) × (length rest ≡ i)) ⊎ ((i < length rest) × (IsFrameLinePrefix (take (i + 1) rest) → ⊥)) → ⊥
    wrong (inl ends) = omega (arith, ends.1)
    wrong (inr goes) = goes.1 (inl (subst IsOpenFrameLine (take-take (i + 1) n rest (omega arith)) (open_shorter (i + 1) (take n rest) start)))

pub one_line_break : (rest : List ℕ) (i j : ℕ) → FrameLineBreaks rest i → FrameLineBreaks rest j → i ≡ j
one_line_break rest i j a b =
    ⊎_elim (λ less. absurd (break_first rest i j a b.before b.inside less))
    (λ ge. ⊎_elim (λ more. absurd (break_first rest j i b a.before a.inside more)) (λ le. omega arith) (cases_lt j i)) (cases_lt i j)

-- there is a whole line, and so no line breaks
pub line_unbroken : (rest line part : List ℕ) (i : ℕ) → rest ≡ line ++ part → IsFrameLine line → FrameLineBreaks rest i → ⊥
line_unbroken rest line part i is whole breaks = split (cases_lt i (length line))
  where
    long : length rest ≡ length line + length part
    long = ap length is ∙ length-append line part

    front : (n : ℕ) → n ≤ length line → take n rest ≡ take n line
    front n le = ap (take n) is ∙ take-append-le n line part le

    wrong : i < length line → ((1 ≤ i) × (length rest ≡ i)) ⊎ ((i < length rest) × (IsFrameLinePrefix (take (i + 1) rest) → ⊥)) → ⊥
    wrong less (inl ends) = omega (arith, ends.1, long)
    wrong less (inr goes) = goes.1 (subst IsFrameLinePrefix (sym (front (i + 1) (omega arith))) (line_front (i + 1) line whole (omega arith)))

    split : (i < length line) ⊎ (length line ≤ i) → ⊥
    split (inl less) = wrong less breaks.here
    split (inr past) =
        let same : take (length line) (take i rest) ≡ line = take-take (length line) i rest past ∙ front (length line) (omega arith) ∙ take_all (length line) line (omega arith) in
        let joins : line ++ drop (length line) (take i rest) ≡ take i rest = ap (λ t. t ++ drop (length line) (take i rest)) (sym same) ∙ take-append-drop (length line) (take i rest) in
        no_line_open line (drop (length line) (take i rest)) whole (subst IsOpenFrameLine (sym joins) breaks.before)

-- nor is it too long, where there is a whole line within the bound
pub line_not_long : (rest line part : List ℕ) → rest ≡ line ++ part → IsFrameLine line → length line ≤ MOST_LINE_BYTES → FrameLineTooLong rest → ⊥
line_not_long rest line part is whole short long =
    let same : take (length line) (take MOST_LINE_BYTES rest) ≡ line
    = take-take (length line) MOST_LINE_BYTES rest short ∙ ap (take (length line)) is ∙ take-append_seam line part in
    let joins : line ++ drop (length line) (take MOST_LINE_BYTES rest) ≡ take MOST_LINE_BYTES rest = ap (λ t. t ++ drop (length line) (take MOST_LINE_BYTES rest)) (sym same) ∙ take-append-drop (length line) (take MOST_LINE_BYTES rest) in
    no_line_open line (drop (length line) (take MOST_LINE_BYTES rest)) whole (subst IsOpenFrameLine (sym joins) long.starts)

-- what breaks within the bound isn't too long
pub break_not_long : (rest : List ℕ) (i : ℕ) → FrameLineBreaks rest i → FrameLineTooLong rest → ⊥
break_not_long rest i breaks long = split (cases_lt i MOST_LINE_BYTES)
  where
    last : i ≡ MOST_LINE_BYTES → ((1 ≤ i) × (length rest ≡ i)) ⊎ ((i < length rest) × (IsFrameLinePrefix (take (i + 1) rest) → ⊥)) → ⊥
    last at (inl ends) = omega (arith, ends.1, long.longer)
    last at (inr goes) =
        goes.1
        (subst IsFrameLinePrefix (sym (ap (λ n. take (n + 1) rest) at ∙ take_more rest MOST_LINE_BYTES 0 long.longer))
        (open_more (get_or rest MOST_LINE_BYTES 0) (take MOST_LINE_BYTES rest) long.starts (omega (arith, length-take-le MOST_LINE_BYTES rest (omega (arith, long.longer))))))

    split : (i < MOST_LINE_BYTES) ⊎ (MOST_LINE_BYTES ≤ i) → ⊥
    split (inl less) = break_first rest i MOST_LINE_BYTES breaks long.starts (omega (arith, long.longer)) less
    split (inr more) = last (omega (arith, breaks.early)) breaks.here

-- planes that break off are no whole ones
pub planes_unbroken : (kind : SpaceKind) (w h : ℕ) (rest more : List ℕ) (frame : Frame) (i : ℕ) → rest ≡ frame_text frame ++ more → IsFrame kind w h frame → PlanesBreak (plane_bytes kind w h) rest i → ⊥
planes_unbroken kind w h rest more frame i is whole breaks =
    let joins : breaks.line ++ breaks.part ≡ frame.line ++ (frame.planes ++ more) = sym breaks.is ∙ is ∙ append_assoc frame.line frame.planes more in
    let line : breaks.line ≡ frame.line = same_frame_line breaks.line frame.line breaks.part (frame.planes ++ more) breaks.is_line whole.is_line joins in
    let part : breaks.part ≡ frame.planes ++ more = same_back breaks.line frame.line breaks.part (frame.planes ++ more) line joins in
    omega (arith, breaks.short, ap length part, length-append frame.planes more, whole.whole)
