-- One frame of a file.
use Rattle.std.proofs.Common.{◌≡◌, ℕ, ◌<◌, ◌+◌, ◌-◌, inl, inr, List, ◌++◌, length, take, drop, refl, sym, ap, ◌∙◌, subst, arith, append_assoc}
use Rattle.std.specs.Prelude.{Some, Ok, Err}
use Rattle.std.proofs.lemmas.List.{length-append, take-append-drop, length-take-le, length-drop, drop-drop}
use Rattle.shelf_traits.specs.Files.{ShelfState, OnlyReads, content_of}
use Rattle.shelf_traits.specs.declared.fault.ReadError.{ReadError}
use Rattle.shelf_traits.specs.declared.fault.ReadError.TheVariants.{ReadFault, Bad, Limit, NoMemory}
use Rattle.shelf_traits.specs.declared.fault.FormFault.TheVariants.{Form, Depth, Space, Cell, NoFrames, Sample, Trailing}
use Rattle.shelf_traits.specs.declared.fault.What.TheVariants.{Axis, Cells as CellsLimit, Header, Frames, Output, Loop, Records, Parts}
use Rattle.y4m_clip.specs.declared.form.SpaceKind.{SpaceKind}
use Rattle.y4m_clip.specs.Clips.{plane_bytes}
use Rattle.y4m_clip.specs.Refusals.{PlanesBreak}
use Rattle.y4m_clip.specs.Frames.{HasFrameLine, IsFrameFound, FindsFrameAs, HasPlanes, FillsPlanesAs, HasFrame, ReadsFrameAs}
use Rattle.shelf_traits.proofs.Sees.{sees_weaker, sees_then, fault_later}

-- a frame line that is refused
pub line_refused : (kind : SpaceKind) (w h : ℕ) (name : List ℕ) (at : ℕ) (planes : List ℕ) (e : ReadError) (a b : ShelfState) → FindsFrameAs name at a b (Err e) → ReadsFrameAs kind w h name at planes a b (Err e)
line_refused kind w h name at planes ReadFault a b finds = finds
line_refused kind w h name at planes NoMemory a b finds = tt
line_refused kind w h name at planes (Bad (Form place)) a b finds =
    sees_weaker (λ files. IsFrameFound (drop at (content_of files name)) at (Err (Bad (Form place)))) _ a b (λ files found. (found.0, found.1, inl found.2)) finds
line_refused kind w h name at planes (Bad Depth) a b finds = finds
line_refused kind w h name at planes (Bad Space) a b finds = finds
line_refused kind w h name at planes (Bad Cell) a b finds = finds
line_refused kind w h name at planes (Bad NoFrames) a b finds = finds
line_refused kind w h name at planes (Bad (Sample place)) a b finds = finds
line_refused kind w h name at planes (Bad (Trailing place)) a b finds = finds
line_refused kind w h name at planes (Limit Header number bound) a b finds = finds
line_refused kind w h name at planes (Limit Axis number bound) a b finds = finds
line_refused kind w h name at planes (Limit CellsLimit number bound) a b finds = finds
line_refused kind w h name at planes (Limit Frames number bound) a b finds = finds
line_refused kind w h name at planes (Limit Output number bound) a b finds = finds
line_refused kind w h name at planes (Limit Loop number bound) a b finds = finds
line_refused kind w h name at planes (Limit Records number bound) a b finds = finds
line_refused kind w h name at planes (Limit Parts number bound) a b finds = finds

planes_break : (bytes planes : List ℕ) (at n place : ℕ) → HasFrameLine (drop at bytes) n → (length (drop (at + n) bytes) < length planes) × (place ≡ at + n + length (drop (at + n) bytes))
    → (i : ℕ) × (place ≡ at + i) × PlanesBreak (length planes) (drop at bytes) i
planes_break bytes planes at n place line short =
    let part : drop n (drop at bytes) ≡ drop (at + n) bytes = drop-drop n at bytes in
    let rest : length (drop n (drop at bytes)) ≡ length (drop at bytes) - n = length-drop n (drop at bytes) in
    let same : length (drop n (drop at bytes)) ≡ length (drop (at + n) bytes) = ap length part in (
      length (drop at bytes),
      omega (arith, short.1, line.inside, rest, same),
      record {
        line = take n (drop at bytes);
        part = drop n (drop at bytes);
        is_line = line.is_line;
        short_line = omega (arith, length-take-le n (drop at bytes) line.inside, line.short);
        is = sym (take-append-drop n (drop at bytes));
        short = omega (arith, same, short.0);
        place = refl;
      },
    )

-- planes that aren't whole
pub planes_refused : {names : List (List ℕ)} (kind : SpaceKind) (w h : ℕ) (name : List ℕ) (at n : ℕ) (planes : List ℕ) (e : ReadError) (a b c : ShelfState) → OnlyReads names a b → OnlyReads names b c → FindsFrameAs name at a b (Ok (Some n))
    → FillsPlanesAs name (at + n) planes b c (Err e) → ReadsFrameAs kind w h name at planes a c (Err e)
planes_refused kind w h name at n planes ReadFault a b c first second line fills = fault_later name a b c first fills
planes_refused kind w h name at n planes NoMemory a b c first second line fills = tt
planes_refused kind w h name at n planes (Bad (Form place)) a b c first second line fills =
    sees_then (λ files. HasFrameLine (drop at (content_of files name)) n) (λ files. (length (drop (at + n) (content_of files name)) < length planes) × (place ≡ at + n + length (drop (at + n) (content_of files name)))) _ a b c
    (λ files has short. let breaks = planes_break (content_of files name) planes at n place has short in (breaks.0, breaks.1, inr breaks.2)) first second line fills
planes_refused kind w h name at n planes (Bad Depth) a b c first second line fills = fills
planes_refused kind w h name at n planes (Bad Space) a b c first second line fills = fills
planes_refused kind w h name at n planes (Bad Cell) a b c first second line fills = fills
planes_refused kind w h name at n planes (Bad NoFrames) a b c first second line fills = fills
planes_refused kind w h name at n planes (Bad (Sample place)) a b c first second line fills = fills
planes_refused kind w h name at n planes (Bad (Trailing place)) a b c first second line fills = fills
planes_refused kind w h name at n planes (Limit what number bound) a b c first second line fills = absurd fills

has_frame : (kind : SpaceKind) (w h : ℕ) (bytes planes : List ℕ) (at n : ℕ) → length planes ≡ plane_bytes kind w h → HasFrameLine (drop at bytes) n → HasPlanes (drop (at + n) bytes) planes
    → HasFrame kind w h bytes at (at + n + length planes) planes
has_frame kind w h bytes planes at n whole line has =
    let part : drop n (drop at bytes) ≡ drop (at + n) bytes = drop-drop n at bytes in
    let count : length (take n (drop at bytes)) ≡ n = length-take-le n (drop at bytes) line.inside in
    record {
      frame = record { line = take n (drop at bytes); planes = planes };
      planes_are = refl;
      is_frame = record { is_line = line.is_line; whole = whole };
      short = omega (arith, count, line.short);
      place = omega (arith, count, length-append (take n (drop at bytes)) planes);
      is = sym (take-append-drop n (drop at bytes)) ∙ ap (λ t. take n (drop at bytes) ++ t)
          (part ∙ sym (take-append-drop (length planes) (drop (at + n) bytes)) ∙ (λ i. sym has.is i ++ drop-drop (length planes) (at + n) bytes i))
          ∙ sym (append_assoc (take n (drop at bytes)) planes (drop (at + n + length planes) bytes));
    }

pub frame_read : {names : List (List ℕ)} (kind : SpaceKind) (w h : ℕ) (name : List ℕ) (at n next : ℕ) (planes : List ℕ) (a b c : ShelfState) → length planes ≡ plane_bytes kind w h → next ≡ at + n + length planes → OnlyReads names a b → OnlyReads names b c
    → FindsFrameAs name at a b (Ok (Some n)) → FillsPlanesAs name (at + n) planes b c (Ok tt) → ReadsFrameAs kind w h name at planes a c (Ok (Some next))
frame_read kind w h name at n next planes a b c whole is first second line fills =
    sees_then (λ files. HasFrameLine (drop at (content_of files name)) n) (λ files. HasPlanes (drop (at + n) (content_of files name)) planes) (λ files. HasFrame kind w h (content_of files name) at next planes) a b c
    (λ files has filled. subst (λ m. HasFrame kind w h (content_of files name) at m planes) (sym is) (has_frame kind w h (content_of files name) planes at n whole has filled)) first second line fills
