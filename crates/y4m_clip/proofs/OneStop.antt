-- The frames of a text stop at one place, and for one reason.
use Rattle.std.proofs.Common.{◌≡◌, ℕ, zero, suc, ◌≤◌, ◌<◌, ◌+◌, ◌-◌, ◌*◌, ◌⊎◌, inl, inr, List, [], ◌∷◌, ◌++◌, length, take, drop, eqb, cond, refl, sym, ap, ◌∙◌, subst, arith, append_assoc, ⊎_elim}
use Rattle.std.specs.List.{AllByRecursion}
use Rattle.std.proofs.lemmas.Bool.{cases_lt}
use Rattle.std.proofs.lemmas.List.{length-append, length-drop, append-nil}
use Rattle.limits.specs.declared.bounds.TheConstants.{GREATEST_AXIS}
use Rattle.shelf_traits.specs.declared.fault.ReadError.{ReadError}
use Rattle.shelf_traits.specs.declared.fault.ReadError.TheVariants.{Bad, Limit}
use Rattle.shelf_traits.specs.declared.fault.FormFault.TheVariants.{Form, NoFrames}
use Rattle.shelf_traits.specs.declared.fault.What.TheVariants.{Axis, Cells as CellsLimit}
use Rattle.y4m_clip.specs.declared.form.SpaceKind.{SpaceKind}
use Rattle.y4m_clip.specs.Clips.{IsFrameLinePrefix, Frame, IsFrame, IsShortFrame, frame_text, frames_text, plane_bytes, most_frames}
use Rattle.y4m_clip.specs.Refusals.{Framed, FrameLineBreaks, PlanesBreak, FrameLineTooLong}
use Rattle.y4m_clip.specs.Reading.{line_limit}
use Rattle.y4m_clip.proofs.OneClip.{same_frame_line, same_front, same_back, some_line, no_frame}
use Rattle.y4m_clip.proofs.FrameStops.{one_line_break, line_unbroken, line_not_long, break_not_long, planes_unbroken}

-- Frames before two rests of one text.

rest_of : (kind : SpaceKind) (w h : ℕ) (f g : Frame) (x y : List ℕ) → IsFrame kind w h f → IsFrame kind w h g → frame_text f ++ x ≡ frame_text g ++ y → x ≡ y
rest_of kind w h f g x y a b joins =
    let parts : f.line ++ (f.planes ++ x) ≡ g.line ++ (g.planes ++ y) = sym (append_assoc f.line f.planes x) ∙ joins ∙ append_assoc g.line g.planes y in
    let line : f.line ≡ g.line = same_frame_line f.line g.line (f.planes ++ x) (g.planes ++ y) a.is_line b.is_line parts in
    let behind : f.planes ++ x ≡ g.planes ++ y = same_back f.line g.line (f.planes ++ x) (g.planes ++ y) line parts in
    same_back f.planes g.planes x y (same_front f.planes g.planes x y (a.whole ∙ sym b.whole) behind) behind

peel : (kind : SpaceKind) (w h : ℕ) (fewer more : List Frame) (x y : List ℕ) → AllByRecursion (IsFrame kind w h) more → AllByRecursion (IsFrame kind w h) fewer
    → frames_text more ++ x ≡ frames_text fewer ++ y → length fewer ≤ length more → y ≡ frames_text (drop (length fewer) more) ++ x
peel kind w h [] more x y a b joins le = sym joins
peel kind w h (g ∷ gs) [] x y a b joins le = absurd (omega arith)
peel kind w h (g ∷ gs) (f ∷ fs) x y a b joins le =
    peel kind w h gs fs x y a.1 b.1
    (rest_of kind w h f g (frames_text fs ++ x) (frames_text gs ++ y) a.0 b.0
    (sym (append_assoc (frame_text f) (frames_text fs) x) ∙ joins ∙ append_assoc (frame_text g) (frames_text gs) y)) (omega arith)

all-drop : {A : Type 0} (P : A → Type 0) (n : ℕ) (xs : List A) → AllByRecursion P xs → AllByRecursion P (drop n xs)
all-drop P zero xs each = each
all-drop P (suc n) [] each = tt
all-drop P (suc n) (x ∷ xs) each = all-drop P n xs each.1

-- a rest begins with a whole short frame
record HasNext (kind : SpaceKind) (w h : ℕ) (rest : List ℕ) : Type 0 where
  frame : Frame
  more : List ℕ
  is_frame : IsFrame kind w h frame
  short : IsShortFrame frame
  is : rest ≡ frame_text frame ++ more

next_of : (kind : SpaceKind) (w h : ℕ) (frames : List Frame) (x rest : List ℕ) → AllByRecursion (IsFrame kind w h) frames → AllByRecursion IsShortFrame frames → rest ≡ frames_text frames ++ x → 1 ≤ length frames → HasNext kind w h rest
next_of kind w h [] x rest each short is some = absurd (omega arith)
next_of kind w h (frame ∷ frames) x rest each short is some = record { frame = frame; more = frames_text frames ++ x; is_frame = each.0; short = short.0; is = is ∙ append_assoc (frame_text frame) (frames_text frames) x }

no_text : (frames : List Frame) (x : List ℕ) → length frames ≡ 0 → frames_text frames ++ x ≡ x
no_text [] x none = refl
no_text (frame ∷ frames) x none = absurd (omega arith)

-- where frames end: at their greatest number, or where no whole short frame follows
record Ends (kind : SpaceKind) (w h bound : ℕ) (rest : List ℕ) (count : ℕ) : Type 0 where
  few : count ≤ bound
  stops : count < bound → HasNext kind w h rest → ⊥

record SameEnd (rest rest' : List ℕ) (count count' : ℕ) : Type 0 where
  rest_is : rest ≡ rest'
  count_is : count ≡ count'

ends_before : (kind : SpaceKind) (w h bound : ℕ) (text rest rest' : List ℕ) (count count' : ℕ) → Framed kind w h text rest count → Framed kind w h text rest' count' → Ends kind w h bound rest count → count' ≤ bound → count < count' → ⊥
ends_before kind w h bound text rest rest' count count' a b ends few less =
    let le : length a.frames ≤ length b.frames = omega (arith, a.count_is, b.count_is) in
    let is : rest ≡ frames_text (drop (length a.frames) b.frames) ++ rest' = peel kind w h a.frames b.frames rest' rest b.each a.each (sym b.is ∙ a.is) le in
    ends.stops (omega arith)
    (next_of kind w h (drop (length a.frames) b.frames) rest' rest (all-drop (IsFrame kind w h) (length a.frames) b.frames b.each) (all-drop IsShortFrame (length a.frames) b.frames b.short) is
    (omega (arith, length-drop (length a.frames) b.frames, a.count_is, b.count_is)))

one_end : (kind : SpaceKind) (w h bound : ℕ) (text rest rest' : List ℕ) (count count' : ℕ) → Framed kind w h text rest count → Framed kind w h text rest' count' → Ends kind w h bound rest count → Ends kind w h bound rest' count' → SameEnd rest rest' count count'
one_end kind w h bound text rest rest' count count' a b ends ends' = record { rest_is = rests; count_is = counts }
  where
    counts : count ≡ count'
    counts =
        ⊎_elim (λ less. absurd (ends_before kind w h bound text rest rest' count count' a b ends ends'.few less))
        (λ ge. ⊎_elim (λ more. absurd (ends_before kind w h bound text rest' rest count' count b a ends' ends.few more)) (λ le. omega arith) (cases_lt count' count)) (cases_lt count count')

    rests : rest ≡ rest'
    rests =
        peel kind w h a.frames b.frames rest' rest b.each a.each (sym b.is ∙ a.is) (omega (arith, a.count_is, b.count_is, counts))
        ∙ no_text (drop (length a.frames) b.frames) rest' (omega (arith, length-drop (length a.frames) b.frames, a.count_is, b.count_is, counts))

-- Why they stop.

-- the refusal of a byte after the greatest number of frames
abbrev past : ℕ → ℕ → ℕ → ℕ → ReadError
past w h most count = cond (eqb (most_frames w h most) GREATEST_AXIS) (Limit Axis (GREATEST_AXIS + 1) GREATEST_AXIS) (Limit CellsLimit (w * h * (count + 1)) most)

abbrev pub Stop : SpaceKind → ℕ → ℕ → ℕ → ℕ → List ℕ → ℕ → ReadError → Type 0
Stop kind w h most total rest count e =
    ((count < most_frames w h most) × (i : ℕ) × (FrameLineBreaks rest i ⊎ PlanesBreak (plane_bytes kind w h) rest i) × (e ≡ Bad (Form (total - length rest + i))))
    ⊎ ((count < most_frames w h most) × FrameLineTooLong rest × (e ≡ line_limit))
    ⊎ ((count ≡ most_frames w h most) × (1 ≤ length rest) × (e ≡ past w h most count))
    ⊎ ((count ≡ 0) × (rest ≡ []) × (e ≡ Bad NoFrames))

nothing_breaks : (want i : ℕ) (rest : List ℕ) → rest ≡ [] → FrameLineBreaks rest i ⊎ PlanesBreak want rest i → ⊥
nothing_breaks want i rest none (inl breaks) = wrong breaks.here
  where
    wrong : ((1 ≤ i) × (length rest ≡ i)) ⊎ ((i < length rest) × (IsFrameLinePrefix (take (i + 1) rest) → ⊥)) → ⊥
    wrong (inl ends) = omega (arith, ends.0, ends.1, ap length none)
    wrong (inr goes) = omega (arith, goes.0, ap length none)
nothing_breaks want i rest none (inr breaks) = omega (arith, ap length none, ap length breaks.is, length-append breaks.line breaks.part, some_line breaks.line breaks.is_line)

stop_ends : (kind : SpaceKind) (w h most total : ℕ) (rest : List ℕ) (count : ℕ) (e : ReadError) → Stop kind w h most total rest count e → Ends kind w h (most_frames w h most) rest count
stop_ends kind w h most total rest count e (inl (less, i, inl breaks, is)) = record {
  few = omega arith;
  stops = λ lt next. line_unbroken rest next.frame.line (next.frame.planes ++ next.more) i (next.is ∙ append_assoc next.frame.line next.frame.planes next.more) next.is_frame.is_line breaks;
}
stop_ends kind w h most total rest count e (inl (less, i, inr breaks, is)) = record { few = omega arith; stops = λ lt next. planes_unbroken kind w h rest next.more next.frame i next.is next.is_frame breaks }
stop_ends kind w h most total rest count e (inr (inl (less, long, is))) = record {
  few = omega arith;
  stops = λ lt next. line_not_long rest next.frame.line (next.frame.planes ++ next.more) (next.is ∙ append_assoc next.frame.line next.frame.planes next.more) next.is_frame.is_line next.short long;
}
stop_ends kind w h most total rest count e (inr (inr (inl (all, some, is)))) = record { few = omega arith; stops = λ lt next. omega arith }
stop_ends kind w h most total rest count e (inr (inr (inr (none, empty, is)))) = record {
  few = omega arith;
  stops = λ lt next. no_frame kind w h next.frame next.more next.is_frame (sym empty ∙ next.is);
}

same_break : (want i j : ℕ) (rest : List ℕ) → FrameLineBreaks rest i ⊎ PlanesBreak want rest i → FrameLineBreaks rest j ⊎ PlanesBreak want rest j → i ≡ j
same_break want i j rest (inl a) (inl b) = one_line_break rest i j a b
same_break want i j rest (inl a) (inr b) = absurd (line_unbroken rest b.line b.part i b.is b.is_line a)
same_break want i j rest (inr a) (inl b) = absurd (line_unbroken rest a.line a.part j a.is a.is_line b)
same_break want i j rest (inr a) (inr b) = sym a.place ∙ b.place

no_break_long : (want i : ℕ) (rest : List ℕ) → FrameLineBreaks rest i ⊎ PlanesBreak want rest i → FrameLineTooLong rest → ⊥
no_break_long want i rest (inl a) long = break_not_long rest i a long
no_break_long want i rest (inr a) long = line_not_long rest a.line a.part a.is a.is_line a.short_line long

same_stop : (kind : SpaceKind) (w h most total : ℕ) (rest : List ℕ) (count : ℕ) (e e' : ReadError) → Stop kind w h most total rest count e → Stop kind w h most total rest count e' → e ≡ e'
same_stop kind w h most total rest count e e' (inl a) (inl b) = a.3 ∙ ap (λ i. Bad (Form (total - length rest + i))) (same_break (plane_bytes kind w h) a.1 b.1 rest a.2 b.2) ∙ sym b.3
same_stop kind w h most total rest count e e' (inl a) (inr (inl b)) = absurd (no_break_long (plane_bytes kind w h) a.1 rest a.2 b.1)
same_stop kind w h most total rest count e e' (inl a) (inr (inr (inl b))) = absurd (omega (arith, a.0, b.0))
same_stop kind w h most total rest count e e' (inl a) (inr (inr (inr b))) = absurd (nothing_breaks (plane_bytes kind w h) a.1 rest b.1 a.2)
same_stop kind w h most total rest count e e' (inr (inl a)) (inl b) = absurd (no_break_long (plane_bytes kind w h) b.1 rest b.2 a.1)
same_stop kind w h most total rest count e e' (inr (inl a)) (inr (inl b)) = a.2 ∙ sym b.2
same_stop kind w h most total rest count e e' (inr (inl a)) (inr (inr (inl b))) = absurd (omega (arith, a.0, b.0))
same_stop kind w h most total rest count e e' (inr (inl a)) (inr (inr (inr b))) = absurd (omega (arith, a.1.longer, ap length b.1))
same_stop kind w h most total rest count e e' (inr (inr (inl a))) (inl b) = absurd (omega (arith, a.0, b.0))
same_stop kind w h most total rest count e e' (inr (inr (inl a))) (inr (inl b)) = absurd (omega (arith, a.0, b.0))
same_stop kind w h most total rest count e e' (inr (inr (inl a))) (inr (inr (inl b))) = a.2 ∙ sym b.2
same_stop kind w h most total rest count e e' (inr (inr (inl a))) (inr (inr (inr b))) = absurd (omega (arith, a.1, ap length b.1))
same_stop kind w h most total rest count e e' (inr (inr (inr a))) (inl b) = absurd (nothing_breaks (plane_bytes kind w h) b.1 rest a.1 b.2)
same_stop kind w h most total rest count e e' (inr (inr (inr a))) (inr (inl b)) = absurd (omega (arith, b.1.longer, ap length a.1))
same_stop kind w h most total rest count e e' (inr (inr (inr a))) (inr (inr (inl b))) = absurd (omega (arith, b.1, ap length a.1))
same_stop kind w h most total rest count e e' (inr (inr (inr a))) (inr (inr (inr b))) = a.2 ∙ sym b.2

-- frames that stop for a reason
pub record Stops (kind : SpaceKind) (w h most total : ℕ) (text : List ℕ) (e : ReadError) : Type 0 where
  pub rest : List ℕ
  pub count : ℕ
  pub framed : Framed kind w h text rest count
  pub stop : Stop kind w h most total rest count e

pub one_stop : (kind : SpaceKind) (w h most total : ℕ) (text : List ℕ) (e e' : ReadError) → Stops kind w h most total text e → Stops kind w h most total text e' → e ≡ e'
one_stop kind w h most total text e e' a b =
    let same = one_end kind w h (most_frames w h most) text a.rest b.rest a.count b.count a.framed b.framed
    (stop_ends kind w h most total a.rest a.count e a.stop) (stop_ends kind w h most total b.rest b.count e' b.stop) in
    same_stop kind w h most total b.rest b.count e e'
    (subst (λ n. Stop kind w h most total b.rest n e) same.count_is (subst (λ t. Stop kind w h most total t a.count e) same.rest_is a.stop)) b.stop

-- frames that were read whole don't stop
pub none_stops : (kind : SpaceKind) (w h most total : ℕ) (text : List ℕ) (frames : List Frame) (e : ReadError) → AllByRecursion (IsFrame kind w h) frames → AllByRecursion IsShortFrame frames → text ≡ frames_text frames
    → 1 ≤ length frames → length frames ≤ most_frames w h most → Stops kind w h most total text e → ⊥
none_stops kind w h most total text frames e each short is some few stops = wrong stops.stop
  where
    whole : Framed kind w h text [] (length frames)
    whole = record { frames = frames; count_is = refl; each = each; short = short; is = is ∙ sym (append-nil (frames_text frames)) }

    same : SameEnd [] stops.rest (length frames) stops.count
    same =
        one_end kind w h (most_frames w h most) text [] stops.rest (length frames) stops.count whole stops.framed
        (record { few = few; stops = λ lt next. no_frame kind w h next.frame next.more next.is_frame next.is })
        (stop_ends kind w h most total stops.rest stops.count e stops.stop)

    wrong : Stop kind w h most total stops.rest stops.count e → ⊥
    wrong (inl a) = nothing_breaks (plane_bytes kind w h) a.1 stops.rest (sym same.rest_is) a.2
    wrong (inr (inl a)) = omega (arith, a.1.longer, ap length same.rest_is)
    wrong (inr (inr (inl a))) = omega (arith, a.1, ap length same.rest_is)
    wrong (inr (inr (inr a))) = omega (arith, a.0, same.count_is)
