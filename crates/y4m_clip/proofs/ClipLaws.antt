-- From the parts of a file, as the reader finds them, to the clip or the refusal of the grammar.
use Rattle.std.proofs.Common.{◌≡◌, ℕ, ◌≤◌, ◌<◌, ◌+◌, ◌-◌, ◌*◌, ◌⊎◌, inr, List, [], ◌++◌, length, drop, sym, ap, ◌∙◌, subst, arith}
use Rattle.std.specs.Prelude.{Ok, Err}
use Rattle.std.proofs.lemmas.List.{length-append, append-nil}
use Rattle.std.proofs.Math.Seq.{drop-append_seam}
use Rattle.limits.specs.declared.bounds.TheConstants.{GREATEST_AXIS, MOST_LINE_BYTES}
use Rattle.cells.specs.Cells.{volume_of}
use Rattle.shelf_traits.specs.Files.{ShelfState, OnlyReads, content_of}
use Rattle.shelf_traits.specs.declared.fault.ReadError.{ReadError}
use Rattle.shelf_traits.specs.declared.fault.ReadError.TheVariants.{ReadFault, Bad, Limit, NoMemory}
use Rattle.shelf_traits.specs.declared.fault.FormFault.TheVariants.{Form, Depth, Space, Cell, NoFrames, Sample, Trailing}
use Rattle.shelf_traits.specs.declared.fault.What.TheVariants.{Axis, Cells as CellsLimit, Header, Frames, Output, Loop, Records, Parts}
use Rattle.y4m_clip.specs.declared.head.Front.{Front}
use Rattle.y4m_clip.specs.declared.line.Line.{Line}
use Rattle.y4m_clip.specs.declared.form.Clip.{Clip}
use Rattle.y4m_clip.specs.declared.frames.Filled.{Filled}
use Rattle.y4m_clip.specs.Spaces.{samples_of}
use Rattle.y4m_clip.specs.Clips.{frames_text, plane_bytes, most_frames}
use Rattle.y4m_clip.specs.Refusals.{Framed, FrameLineBreaks, PlanesBreak, FrameLineTooLong, width_of, height_of, bound_of, RefusesClip, IsReadClip, ReadsClipAs}
use Rattle.y4m_clip.specs.Reading.{HasLine}
use Rattle.y4m_clip.specs.Heads.{HasFront}
use Rattle.y4m_clip.specs.Frames.{FramesSeen, After, PassesFrames, FramesAs, IsFilledSoFar, frames_size}
use Rattle.shelf_traits.proofs.Sees.{Sees, sees_weaker, sees_then, fault_later}
use Rattle.y4m_clip.proofs.FrontLaws.{FrontSeen, front_seen}

pub fronts_seen : (name : List ℕ) (line : Line) (most : ℕ) (front : Front) (a b : ShelfState) → Sees a b (λ files. HasLine (content_of files name) line) → HasFront line most front → Sees a b (λ files. FrontSeen (content_of files name) most front)
fronts_seen name line most front a b seen is =
    sees_weaker (λ files. HasLine (content_of files name) line) (λ files. FrontSeen (content_of files name) most front) a b (λ files has. front_seen (content_of files name) line most front has is) seen

-- the frames in the grammar's terms
record Moved {bytes : List ℕ} {most : ℕ} {front : Front} (seen : FrontSeen bytes most front) (count at : ℕ) (cells : List ℕ) : Type 0 where
  frames : FramesSeen seen.fronted.sized.kind (width_of seen.fronted) (height_of seen.fronted) (length seen.fronted.sized.lined.line) bytes count at cells
  rest : seen.fronted.sized.lined.rest ≡ drop (length seen.fronted.sized.lined.line) bytes
  place : at ≡ length bytes - length (drop at bytes)
  bound : most_frames front.w front.h most ≡ bound_of seen.fronted

moved : (bytes : List ℕ) (most : ℕ) (front : Front) (count at : ℕ) (cells : List ℕ) → (seen : FrontSeen bytes most front) → FramesSeen front.form.space front.w front.h front.start bytes count at cells → Moved seen count at cells
moved bytes most front count at cells seen frames =
    let lined = seen.fronted.sized.lined in
    let there : FramesSeen seen.fronted.sized.kind (width_of seen.fronted) (height_of seen.fronted) (length lined.line) bytes count at cells
    = subst (λ kind. FramesSeen kind (width_of seen.fronted) (height_of seen.fronted) (length lined.line) bytes count at cells) seen.kind_is
    (subst (λ w. FramesSeen front.form.space w (height_of seen.fronted) (length lined.line) bytes count at cells) seen.w_is
    (subst (λ h. FramesSeen front.form.space front.w h (length lined.line) bytes count at cells) seen.h_is
    (subst (λ start. FramesSeen front.form.space front.w front.h start bytes count at cells) seen.start_is frames))) in
    let rest : lined.rest ≡ drop (length lined.line) bytes = sym (ap (drop (length lined.line)) lined.is ∙ drop-append_seam lined.line lined.rest) in
    record {
      frames = there;
      rest = rest;
      place = omega (arith, there.place, ap length there.is, ap length rest, length-append (frames_text there.frames) (drop at bytes), ap length lined.is, length-append lined.line lined.rest);
      bound = λ i. most_frames (seen.w_is i) (seen.h_is i) most;
    }

framed : (bytes : List ℕ) (most : ℕ) (front : Front) (count at : ℕ) (cells : List ℕ) → (seen : FrontSeen bytes most front) → Moved seen count at cells
    → Framed seen.fronted.sized.kind (width_of seen.fronted) (height_of seen.fronted) seen.fronted.sized.lined.rest (drop at bytes) count
framed bytes most front count at cells seen there = record {
  frames = there.frames.frames;
  count_is = there.frames.count_is;
  each = there.frames.each;
  short = there.frames.short;
  is = there.rest ∙ there.frames.is;
}

-- a frame that breaks
form_refused : (bytes : List ℕ) (most : ℕ) (front : Front) (place : ℕ) → FrontSeen bytes most front
    → After front.form.space front.w front.h front.start bytes (λ count at rest. (count < most_frames front.w front.h most) × (i : ℕ) × (place ≡ at + i) × (FrameLineBreaks rest i ⊎ PlanesBreak (plane_bytes front.form.space front.w front.h) rest i))
    → RefusesClip most bytes (Bad (Form place))
form_refused bytes most front place seen after =
    let there = moved bytes most front after.count after.at after.cells seen after.seen in
    let want : plane_bytes front.form.space front.w front.h ≡ plane_bytes seen.fronted.sized.kind (width_of seen.fronted) (height_of seen.fronted)
    = λ j. plane_bytes (seen.kind_is j) (seen.w_is j) (seen.h_is j) in
    inr record {
      front = seen.fronted;
      rest = drop after.at bytes;
      count = after.count;
      framed = framed bytes most front after.count after.at after.cells seen there;
      holds = (
        subst (λ n. after.count < n) there.bound after.holds.0,
        (
          after.holds.1,
          after.holds.2 ∙ ap (λ n. n + after.holds.1) there.place,
          subst (λ n. FrameLineBreaks (drop after.at bytes) after.holds.1 ⊎ PlanesBreak n (drop after.at bytes) after.holds.1) want after.holds.3,
        ),
      );
    }

header_refused : (bytes : List ℕ) (most : ℕ) (front : Front) (number bound : ℕ) → FrontSeen bytes most front
    → After front.form.space front.w front.h front.start bytes (λ count at rest. (count < most_frames front.w front.h most) × FrameLineTooLong rest × (number ≡ MOST_LINE_BYTES + 1) × (bound ≡ MOST_LINE_BYTES))
    → RefusesClip most bytes (Limit Header number bound)
header_refused bytes most front number bound seen after =
    let there = moved bytes most front after.count after.at after.cells seen after.seen in
    inr (inr (
      record {
        front = seen.fronted;
        rest = drop after.at bytes;
        count = after.count;
        framed = framed bytes most front after.count after.at after.cells seen there;
        holds = (subst (λ n. after.count < n) there.bound after.holds.0, after.holds.1);
      },
      after.holds.2,
      after.holds.3,
    ))

axis_refused : (bytes : List ℕ) (most : ℕ) (front : Front) (number bound : ℕ) → FrontSeen bytes most front
    → After front.form.space front.w front.h front.start bytes (λ count at rest. (count ≡ most_frames front.w front.h most) × (1 ≤ length rest) × PassesFrames front.w front.h most count (Limit Axis number bound))
    → RefusesClip most bytes (Limit Axis number bound)
axis_refused bytes most front number bound seen after =
    let there = moved bytes most front after.count after.at after.cells seen after.seen in (
      inr (
        record {
          front = seen.fronted;
          rest = drop after.at bytes;
          count = after.count;
          framed = framed bytes most front after.count after.at after.cells seen there;
          holds = (after.holds.0 ∙ there.bound, after.holds.1, sym (after.holds.0 ∙ there.bound) ∙ after.holds.2.0);
        },
        after.holds.2.1,
      ),
      after.holds.2.2,
    )

cells_refused : (bytes : List ℕ) (most : ℕ) (front : Front) (number bound : ℕ) → FrontSeen bytes most front
    → After front.form.space front.w front.h front.start bytes (λ count at rest. (count ≡ most_frames front.w front.h most) × (1 ≤ length rest) × PassesFrames front.w front.h most count (Limit CellsLimit number bound))
    → RefusesClip most bytes (Limit CellsLimit number bound)
cells_refused bytes most front number bound seen after =
    let there = moved bytes most front after.count after.at after.cells seen after.seen in (
      inr record {
        front = seen.fronted;
        rest = drop after.at bytes;
        count = after.count;
        framed = framed bytes most front after.count after.at after.cells seen there;
        holds = (
          after.holds.0 ∙ there.bound,
          after.holds.1,
          subst (λ n. n < GREATEST_AXIS) (after.holds.0 ∙ there.bound) after.holds.2.0,
          after.holds.2.1 ∙ (λ i. seen.w_is i * seen.h_is i * (after.count + 1)),
        );
      },
      after.holds.2.2,
    )

none_refused : (bytes : List ℕ) (most : ℕ) (front : Front) → FrontSeen bytes most front → drop front.start bytes ≡ [] → RefusesClip most bytes (Bad NoFrames)
none_refused bytes most front seen none =
    let lined = seen.fronted.sized.lined in
    (seen.fronted, sym (ap (drop (length lined.line)) lined.is ∙ drop-append_seam lined.line lined.rest) ∙ ap (λ n. drop n bytes) (sym seen.start_is) ∙ none)

pub frames_as : {names : List (List ℕ)} (name : List ℕ) (front : Front) (most : ℕ) (e : ReadError) (a b c : ShelfState) → OnlyReads names a b → OnlyReads names b c → Sees a b (λ files. FrontSeen (content_of files name) most front)
    → FramesAs front.form.space front.w front.h front.start most name b c (Err e) → ReadsClipAs most name a c (Err e)
frames_as name front most ReadFault a b c first second seen frames = fault_later name a b c first frames
frames_as name front most NoMemory a b c first second seen frames = tt
frames_as name front most (Bad (Form place)) a b c first second seen frames =
    sees_then (λ files. FrontSeen (content_of files name) most front) _ (λ files. RefusesClip most (content_of files name) (Bad (Form place))) a b c (λ files is after. form_refused (content_of files name) most front place is after) first second seen frames
frames_as name front most (Bad NoFrames) a b c first second seen frames =
    sees_then (λ files. FrontSeen (content_of files name) most front) (λ files. drop front.start (content_of files name) ≡ []) (λ files. RefusesClip most (content_of files name) (Bad NoFrames)) a b c (λ files is none. none_refused (content_of files name) most front is none) first second seen frames
frames_as name front most (Limit Header number bound) a b c first second seen frames =
    sees_then (λ files. FrontSeen (content_of files name) most front) _ (λ files. RefusesClip most (content_of files name) (Limit Header number bound)) a b c (λ files is after. header_refused (content_of files name) most front number bound is after) first second seen frames
frames_as name front most (Limit Axis number bound) a b c first second seen frames =
    sees_then (λ files. FrontSeen (content_of files name) most front) _ (λ files. RefusesClip most (content_of files name) (Limit Axis number bound)) a b c (λ files is after. axis_refused (content_of files name) most front number bound is after) first second seen frames
frames_as name front most (Limit CellsLimit number bound) a b c first second seen frames =
    sees_then (λ files. FrontSeen (content_of files name) most front) _ (λ files. RefusesClip most (content_of files name) (Limit CellsLimit number bound)) a b c (λ files is after. cells_refused (content_of files name) most front number bound is after) first second seen frames
frames_as name front most (Bad Depth) a b c first second seen frames = absurd frames
frames_as name front most (Bad Space) a b c first second seen frames = absurd frames
frames_as name front most (Bad Cell) a b c first second seen frames = absurd frames
frames_as name front most (Bad (Sample place)) a b c first second seen frames = absurd frames
frames_as name front most (Bad (Trailing place)) a b c first second seen frames = absurd frames
frames_as name front most (Limit Frames number bound) a b c first second seen frames = absurd frames
frames_as name front most (Limit Output number bound) a b c first second seen frames = absurd frames
frames_as name front most (Limit Loop number bound) a b c first second seen frames = absurd frames
frames_as name front most (Limit Records number bound) a b c first second seen frames = absurd frames
frames_as name front most (Limit Parts number bound) a b c first second seen frames = absurd frames

-- the clip of whole frames
is_read : (bytes : List ℕ) (most : ℕ) (front : Front) (filled : Filled) (clip : Clip) (at : ℕ) → FrontSeen bytes most front → FramesSeen front.form.space front.w front.h front.start bytes filled.count at filled.bytes.items → drop at bytes ≡ []
    → 1 ≤ filled.count → filled.count ≤ most_frames front.w front.h most → clip.form ≡ front.form → clip.volume ≡ volume_of (frames_size front filled) (samples_of front.form.space) filled.bytes.items
    → IsReadClip most bytes clip
is_read bytes most front filled clip at seen frames ends some few form volume =
    let there = moved bytes most front filled.count at filled.bytes.items seen frames in
    let sized = seen.fronted.sized in
    record {
      stands = record {
        sized = sized;
        frames = there.frames.frames;
        some = subst (λ n. 1 ≤ n) (sym there.frames.count_is) some;
        each = there.frames.each;
        is = there.rest ∙ there.frames.is ∙ ap (λ t. frames_text there.frames.frames ++ t) ends ∙ append-nil (frames_text there.frames.frames);
        space = (λ i. (form i).space) ∙ seen.kind_is;
        tags = (λ i. (form i).tags) ∙ seen.tags_are;
        volume = volume ∙ (λ i. volume_of (record { w = seen.w_is i; h = seen.h_is i; f = sym there.frames.count_is i }) (samples_of (seen.kind_is i)) (there.frames.cells_are i));
      };
      fits = seen.fronted.fits;
      short = there.frames.short;
      few = subst (λ n. n ≤ bound_of seen.fronted) (sym there.frames.count_is) (subst (λ n. filled.count ≤ n) there.bound few);
    }

pub read_as : {names : List (List ℕ)} (name : List ℕ) (most : ℕ) (front : Front) (filled : Filled) (clip : Clip) (a b c : ShelfState) → OnlyReads names a b → OnlyReads names b c → Sees a b (λ files. FrontSeen (content_of files name) most front)
    → FramesAs front.form.space front.w front.h front.start most name b c (Ok filled) → IsFilledSoFar front most filled → clip.form ≡ front.form → clip.volume ≡ volume_of (frames_size front filled) (samples_of front.form.space) filled.bytes.items
    → ReadsClipAs most name a c (Ok clip)
read_as name most front filled clip a b c first second seen frames is form volume =
    sees_then (λ files. FrontSeen (content_of files name) most front)
    (λ files. (at : ℕ) × FramesSeen front.form.space front.w front.h front.start (content_of files name) filled.count at filled.bytes.items × (drop at (content_of files name) ≡ []))
    (λ files. IsReadClip most (content_of files name) clip) a b c
    (λ files fronted ended. is_read (content_of files name) most front filled clip ended.0 fronted ended.1 ended.2 is.some is.few form volume) first second seen frames
