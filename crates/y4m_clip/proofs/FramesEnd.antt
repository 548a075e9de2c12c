-- What all frames of a file leave the reader with.
use Rattle.std.proofs.Common.{◌≡◌, ℕ, zero, suc, ◌≤◌, ◌<◌, ◌+◌, ◌-◌, ◌*◌, ◌/◌, ◌⊎◌, List, [], ◌∷◌, ◌++◌, length, drop, refl, sym, ap, ◌∙◌, subst, arith, Bool, true, false, cond}
use Rattle.std.specs.Prelude.{Some, Result, Ok, Err, IfOk, Vec, ◌==◌}
use Rattle.std.specs.declared.alloc.Global.{Global}
use Rattle.std.proofs.lemmas.List.{length-append, length-drop, nil_from_length}
use Rattle.std.proofs.Math.Nat.{mul-suc, add-div_left}
use Rattle.std.proofs.lemmas.Bool.{eqb-true, eqb-false}
use Rattle.limits.specs.declared.bounds.TheConstants.{GREATEST_AXIS, MOST_LINE_BYTES}
use Rattle.shelf_traits.specs.Files.{Changes, ShelfState, OnlyReads, Reads, content_of}
use Rattle.shelf_traits.specs.declared.fault.ReadError.{ReadError}
use Rattle.shelf_traits.specs.declared.fault.ReadError.TheVariants.{ReadFault, Bad, Limit, NoMemory}
use Rattle.shelf_traits.specs.declared.fault.FormFault.TheVariants.{Form, Depth, Space, Cell, NoFrames, Sample, Trailing}
use Rattle.shelf_traits.specs.declared.fault.What.TheVariants.{Axis, Cells as CellsLimit, Header, Frames, Output, Loop, Records, Parts}
use Rattle.y4m_clip.specs.declared.form.SpaceKind.{SpaceKind}
use Rattle.y4m_clip.specs.declared.frames.Filled.{Filled}
use Rattle.y4m_clip.specs.declared.head.Front.{Front}
use Rattle.y4m_clip.specs.Spaces.{samples_of}
use Rattle.y4m_clip.specs.Clips.{Frame, frames_text, frame_cells, plane_bytes, most_frames}
use Rattle.y4m_clip.specs.Refusals.{FrameLineBreaks, PlanesBreak, FrameLineTooLong}
use Rattle.y4m_clip.specs.Frames.{HasFrame, ReadsFrameAs, FramesSeen, PassesFrames, FramesAs, finished, IsFilledSoFar}
use Rattle.shelf_traits.proofs.Sees.{Sees, sees_then, sees_weaker, sees_all, fault_later}
use Rattle.y4m_clip.proofs.FramesLaws.{nothing_seen, one_more}
use Rattle.y4m_clip.proofs.Joined.{length-frame_cells}

pub seen_none : {names : List (List ℕ)} (kind : SpaceKind) (w h start : ℕ) (name cells : List ℕ) (a b : ShelfState) → cells ≡ [] → OnlyReads names a b → Sees a b (λ files. FramesSeen kind w h start (content_of files name) 0 start cells)
seen_none kind w h start name cells a b none reads =
    sees_all (λ files. FramesSeen kind w h start (content_of files name) 0 start cells) a b (λ files. subst (FramesSeen kind w h start (content_of files name) 0 start) (sym none) (nothing_seen kind w h start (content_of files name))) reads

pub seen_more : {names : List (List ℕ)} (kind : SpaceKind) (w h start : ℕ) (name : List ℕ) (count at next : ℕ) (cells cells' planes : List ℕ) (a b c : ShelfState) → OnlyReads names a b → OnlyReads names b c
    → Sees a b (λ files. FramesSeen kind w h start (content_of files name) count at cells) → ReadsFrameAs kind w h name at planes b c (Ok (Some next)) → cells' ≡ cells ++ frame_cells kind w h planes
    → Sees a c (λ files. FramesSeen kind w h start (content_of files name) (count + 1) next cells')
seen_more kind w h start name count at next cells cells' planes a b c first second seen frame grown =
    sees_then (λ files. FramesSeen kind w h start (content_of files name) count at cells) (λ files. HasFrame kind w h (content_of files name) at next planes)
    (λ files. FramesSeen kind w h start (content_of files name) (count + 1) next cells') a b c
    (λ files so_far has. one_more kind w h start (content_of files name) count at next cells cells' planes so_far has grown) first second seen frame

pub whole_more : (kind : SpaceKind) (w h count : ℕ) (cells cells' planes : List ℕ) → length cells ≡ samples_of kind * w * h * count → cells' ≡ cells ++ frame_cells kind w h planes → length cells' ≡ samples_of kind * w * h * (count + 1)
whole_more kind w h count cells cells' planes whole grown =
    let k : ℕ = samples_of kind * w * h in
    let more : k * (count + 1) ≡ k * count + k = grind arith in
    omega (arith, whole, ap length grown, length-append cells (frame_cells kind w h planes), length-frame_cells kind w h planes, more)

pub frame_refused : {names : List (List ℕ)} (kind : SpaceKind) (w h start most : ℕ) (name : List ℕ) (count at : ℕ) (cells planes : List ℕ) (e : ReadError) (a b c : ShelfState) → OnlyReads names a b → OnlyReads names b c → count < most_frames w h most
    → length planes ≡ plane_bytes kind w h → Sees a b (λ files. FramesSeen kind w h start (content_of files name) count at cells) → ReadsFrameAs kind w h name at planes b c (Err e) → FramesAs kind w h start most name a c (Err e)
frame_refused kind w h start most name count at cells planes ReadFault a b c first second few whole seen frame = fault_later name a b c first frame
frame_refused kind w h start most name count at cells planes NoMemory a b c first second few whole seen frame = tt
frame_refused kind w h start most name count at cells planes (Bad (Form place)) a b c first second few whole seen frame =
    sees_then (λ files. FramesSeen kind w h start (content_of files name) count at cells)
    (λ files. (i : ℕ) × (place ≡ at + i) × (FrameLineBreaks (drop at (content_of files name)) i ⊎ PlanesBreak (length planes) (drop at (content_of files name)) i)) _ a b c
    (λ files so_far breaks. record { count = count; at = at; cells = cells; seen = so_far; holds = (few, breaks.0, breaks.1, subst (λ n. FrameLineBreaks (drop at (content_of files name)) breaks.0 ⊎ PlanesBreak n (drop at (content_of files name)) breaks.0) whole breaks.2) })
    first second seen frame
frame_refused kind w h start most name count at cells planes (Limit Header number bound) a b c first second few whole seen frame =
    sees_then (λ files. FramesSeen kind w h start (content_of files name) count at cells) (λ files. FrameLineTooLong (drop at (content_of files name)) × (number ≡ MOST_LINE_BYTES + 1) × (bound ≡ MOST_LINE_BYTES)) _ a b c
    (λ files so_far long. record { count = count; at = at; cells = cells; seen = so_far; holds = (few, long.0, long.1, long.2) }) first second seen frame
frame_refused kind w h start most name count at cells planes (Bad Depth) a b c first second few whole seen frame = absurd frame
frame_refused kind w h start most name count at cells planes (Bad Space) a b c first second few whole seen frame = absurd frame
frame_refused kind w h start most name count at cells planes (Bad Cell) a b c first second few whole seen frame = absurd frame
frame_refused kind w h start most name count at cells planes (Bad NoFrames) a b c first second few whole seen frame = absurd frame
frame_refused kind w h start most name count at cells planes (Bad (Sample place)) a b c first second few whole seen frame = absurd frame
frame_refused kind w h start most name count at cells planes (Bad (Trailing place)) a b c first second few whole seen frame = absurd frame
frame_refused kind w h start most name count at cells planes (Limit Axis number bound) a b c first second few whole seen frame = absurd frame
frame_refused kind w h start most name count at cells planes (Limit CellsLimit number bound) a b c first second few whole seen frame = absurd frame
frame_refused kind w h start most name count at cells planes (Limit Frames number bound) a b c first second few whole seen frame = absurd frame
frame_refused kind w h start most name count at cells planes (Limit Output number bound) a b c first second few whole seen frame = absurd frame
frame_refused kind w h start most name count at cells planes (Limit Loop number bound) a b c first second few whole seen frame = absurd frame
frame_refused kind w h start most name count at cells planes (Limit Records number bound) a b c first second few whole seen frame = absurd frame
frame_refused kind w h start most name count at cells planes (Limit Parts number bound) a b c first second few whole seen frame = absurd frame

no_frames : (frames : List Frame) → length frames ≡ 0 → frames ≡ []
no_frames [] none = refl
no_frames (frame ∷ frames) none = absurd (omega arith)

-- the file ends after so many frames
pub frames_end : {names : List (List ℕ)} (kind : SpaceKind) (w h start most : ℕ) (name : List ℕ) (count at : ℕ) (cells : List ℕ) (bytes : Vec ℕ Global) (r : Result Filled ReadError) (a b c : ShelfState) → OnlyReads names a b → OnlyReads names b c
    → r ≡ finished bytes count → bytes.items ≡ cells → Sees a b (λ files. FramesSeen kind w h start (content_of files name) count at cells) → Sees b c (λ files. drop at (content_of files name) ≡ [])
    → FramesAs kind w h start most name a c r
frames_end kind w h start most name count at cells bytes r a b c first second is same seen ends = subst (FramesAs kind w h start most name a c) (sym is) (tested (count == 0) refl)
  where
    tested : (t : Bool) → (count == 0) ≡ t → FramesAs kind w h start most name a c (cond t (Err (Bad NoFrames)) (Ok (record { bytes = bytes; count = count })))
    tested true e =
        sees_then (λ files. FramesSeen kind w h start (content_of files name) count at cells) (λ files. drop at (content_of files name) ≡ []) (λ files. drop start (content_of files name) ≡ []) a b c
        (λ files so_far rest. so_far.is ∙ ap (λ fs. frames_text fs ++ drop at (content_of files name)) (no_frames so_far.frames (so_far.count_is ∙ eqb-true count 0 e)) ∙ rest) first second seen ends
    tested false e =
        sees_then (λ files. FramesSeen kind w h start (content_of files name) count at cells) (λ files. drop at (content_of files name) ≡ []) _ a b c
        (λ files so_far rest. (at, subst (FramesSeen kind w h start (content_of files name) count at) (sym same) so_far, rest)) first second seen ends

-- whether a byte follows, by how many were read
pub byte_stands : (name into : List ℕ) (at n : ℕ) (a b : ShelfState) → Changes a b (λ was now. Reads (content_of was name) at into n) → 0 < n → Sees a b (λ files. 1 ≤ length (drop at (content_of files name)))
byte_stands name into at n a b reads some =
    sees_weaker (λ files. Reads (content_of files name) at into n) (λ files. 1 ≤ length (drop at (content_of files name))) a b (λ files read. omega (arith, read.count, length-drop at (content_of files name), some)) reads

pub no_byte_stands : (name into : List ℕ) (at n : ℕ) (a b : ShelfState) → length into ≡ 1 → Changes a b (λ was now. Reads (content_of was name) at into n) → n ≤ 0 → Sees a b (λ files. drop at (content_of files name) ≡ [])
no_byte_stands name into at n a b one reads none =
    sees_weaker (λ files. Reads (content_of files name) at into n) (λ files. drop at (content_of files name) ≡ []) a b
    (λ files read. nil_from_length (drop at (content_of files name)) (omega (arith, read.count, length-drop at (content_of files name), one, none))) reads

pub frames_full : {names : List (List ℕ)} (kind : SpaceKind) (w h start most : ℕ) (name : List ℕ) (count at : ℕ) (bytes : Vec ℕ Global) (a b c : ShelfState) → OnlyReads names a b → OnlyReads names b c
    → Sees a b (λ files. FramesSeen kind w h start (content_of files name) count at bytes.items) → Sees b c (λ files. drop at (content_of files name) ≡ [])
    → FramesAs kind w h start most name a c (Ok (record { bytes = bytes; count = count }))
frames_full kind w h start most name count at bytes a b c first second seen ends =
    sees_then (λ files. FramesSeen kind w h start (content_of files name) count at bytes.items) (λ files. drop at (content_of files name) ≡ []) _ a b c (λ files so_far rest. (at, so_far, rest)) first second seen ends

pub frames_past : {names : List (List ℕ)} (kind : SpaceKind) (w h start most : ℕ) (name : List ℕ) (count at : ℕ) (cells : List ℕ) (e : ReadError) (a b c : ShelfState) → OnlyReads names a b → OnlyReads names b c → count ≡ most_frames w h most
    → Sees a b (λ files. FramesSeen kind w h start (content_of files name) count at cells) → Sees b c (λ files. 1 ≤ length (drop at (content_of files name))) → PassesFrames w h most count e
    → FramesAs kind w h start most name a c (Err e)
frames_past kind w h start most name count at cells (Limit Axis number bound) a b c first second all seen more passes =
    sees_then (λ files. FramesSeen kind w h start (content_of files name) count at cells) (λ files. 1 ≤ length (drop at (content_of files name))) _ a b c
    (λ files so_far some. record { count = count; at = at; cells = cells; seen = so_far; holds = (all, some, passes) }) first second seen more
frames_past kind w h start most name count at cells (Limit CellsLimit number bound) a b c first second all seen more passes =
    sees_then (λ files. FramesSeen kind w h start (content_of files name) count at cells) (λ files. 1 ≤ length (drop at (content_of files name))) _ a b c
    (λ files so_far some. record { count = count; at = at; cells = cells; seen = so_far; holds = (all, some, passes) }) first second seen more
frames_past kind w h start most name count at cells ReadFault a b c first second all seen more passes = absurd passes
frames_past kind w h start most name count at cells NoMemory a b c first second all seen more passes = absurd passes
frames_past kind w h start most name count at cells (Bad why) a b c first second all seen more passes = absurd passes
frames_past kind w h start most name count at cells (Limit Header number bound) a b c first second all seen more passes = absurd passes
frames_past kind w h start most name count at cells (Limit Frames number bound) a b c first second all seen more passes = absurd passes
frames_past kind w h start most name count at cells (Limit Output number bound) a b c first second all seen more passes = absurd passes
frames_past kind w h start most name count at cells (Limit Loop number bound) a b c first second all seen more passes = absurd passes
frames_past kind w h start most name count at cells (Limit Records number bound) a b c first second all seen more passes = absurd passes
frames_past kind w h start most name count at cells (Limit Parts number bound) a b c first second all seen more passes = absurd passes

positive : (w h : ℕ) → 1 ≤ w → 1 ≤ h → 1 ≤ w * h
positive w zero some least = absurd (omega arith)
positive w (suc h) some least = omega (arith, mul-suc h w)

-- there may be one frame at least
pub some_frames : (w h most : ℕ) → 1 ≤ w → 1 ≤ h → w * h ≤ most → 1 ≤ most_frames w h most
some_frames w h most some least fits =
    let n = positive w h some least in
    let split : w * h + (most - w * h) ≡ most = omega arith in
    let more : most / (w * h) ≡ (most - w * h) / (w * h) + 1 = ap (λ m. m / (w * h)) (sym split) ∙ add-div_left (most - w * h) {k = w * h} n in
    omega arith

pub most_few : (w h most : ℕ) → most_frames w h most ≤ GREATEST_AXIS
most_few w h most = omega arith

-- the cells of the frames are as many as they have to be
pub filled_end : (front : Front) (most count : ℕ) (bytes : Vec ℕ Global) (r : Result Filled ReadError) → r ≡ finished bytes count → count ≤ most_frames front.w front.h most
    → length bytes.items ≡ samples_of front.form.space * front.w * front.h * count → IfOk r (IsFilledSoFar front most)
filled_end front most count bytes r is few whole = subst (λ t. IfOk t (IsFilledSoFar front most)) (sym is) (tested (count == 0) refl)
  where
    tested : (t : Bool) → (count == 0) ≡ t → IfOk (cond t (Err (Bad NoFrames)) (Ok (record { bytes = bytes; count = count }))) (IsFilledSoFar front most)
    tested true e = tt
    tested false e = record { some = omega (arith, eqb-false count 0 e); few = few; whole = whole }
