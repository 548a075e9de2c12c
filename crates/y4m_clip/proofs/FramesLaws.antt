-- Frames one after another.
use Rattle.std.proofs.Common.{◌≡◌, ℕ, ◌≤◌, ◌+◌, ◌*◌, List, [], ◌∷◌, ◌++◌, length, drop, refl, sym, ap, ◌∙◌, arith, append_assoc}
use Rattle.std.specs.List.{AllByRecursion, flat_map}
use Rattle.std.proofs.lemmas.List.{length-append, append-nil}
use Rattle.std.proofs.lemmas.List.Concat.{flat_map-append}
use Rattle.limits.specs.declared.bounds.TheConstants.{MOST_CELLS}
use Rattle.y4m_clip.specs.declared.form.SpaceKind.{SpaceKind}
use Rattle.y4m_clip.specs.declared.form.SpaceKind.TheVariants.{Mono, C444, C422, C411, C420}
use Rattle.y4m_clip.specs.Spaces.{samples_of}
use Rattle.y4m_clip.specs.Clips.{Frame, IsFrame, IsShortFrame, frame_text, frames_text, frame_cells}
use Rattle.y4m_clip.specs.Frames.{HasFrame, FramesSeen}

pub samples_few : (kind : SpaceKind) → samples_of kind ≤ 6
samples_few Mono = omega arith
samples_few C444 = omega arith
samples_few C422 = omega arith
samples_few C411 = omega arith
samples_few C420 = omega arith

pub want_small : (kind : SpaceKind) (n : ℕ) → n ≤ MOST_CELLS → samples_of kind * n ≤ 201326592
want_small Mono n few = omega arith
want_small C444 n few = omega arith
want_small C422 n few = omega arith
want_small C411 n few = omega arith
want_small C420 n few = omega arith

pub all-push : {A : Type 0} (P : A → Type 0) (xs : List A) (x : A) → AllByRecursion P xs → P x → AllByRecursion P (xs ++ x ∷ [])
all-push P [] x each last = (last, tt)
all-push P (y ∷ xs) x each last = (each.0, all-push P xs x each.1 last)

pub text-push : (frames : List Frame) (frame : Frame) → frames_text (frames ++ frame ∷ []) ≡ frames_text frames ++ frame_text frame
text-push frames frame = flat_map-append frame_text frames (frame ∷ []) ∙ ap (λ t. frames_text frames ++ t) (append-nil (frame_text frame))

pub nothing_seen : (kind : SpaceKind) (w h start : ℕ) (bytes : List ℕ) → FramesSeen kind w h start bytes 0 start []
nothing_seen kind w h start bytes = record { frames = []; count_is = refl; each = tt; short = tt; place = omega arith; is = refl; cells_are = refl }

pub one_more : (kind : SpaceKind) (w h start : ℕ) (bytes : List ℕ) (count at next : ℕ) (cells cells' planes : List ℕ) → FramesSeen kind w h start bytes count at cells → HasFrame kind w h bytes at next planes
    → cells' ≡ cells ++ frame_cells kind w h planes → FramesSeen kind w h start bytes (count + 1) next cells'
one_more kind w h start bytes count at next cells cells' planes seen has grown =
    let cells_of : Frame → List ℕ = λ frame. frame_cells kind w h frame.planes in
    record {
      frames = seen.frames ++ has.frame ∷ [];
      count_is = length-append seen.frames (has.frame ∷ []) ∙ ap (λ n. n + 1) seen.count_is;
      each = all-push (IsFrame kind w h) seen.frames has.frame seen.each has.is_frame;
      short = all-push IsShortFrame seen.frames has.frame seen.short has.short;
      place = omega (arith, has.place, seen.place, ap length (text-push seen.frames has.frame), length-append (frames_text seen.frames) (frame_text has.frame));
      is = seen.is ∙ ap (λ t. frames_text seen.frames ++ t) has.is ∙ sym (append_assoc (frames_text seen.frames) (frame_text has.frame) (drop next bytes))
          ∙ ap (λ t. t ++ drop next bytes) (sym (text-push seen.frames has.frame));
      cells_are = grown ∙ (λ i. seen.cells_are i ++ frame_cells kind w h (sym has.planes_are i))
          ∙ sym (flat_map-append cells_of seen.frames (has.frame ∷ []) ∙ ap (λ t. flat_map cells_of seen.frames ++ t) (append-nil (cells_of has.frame)));
    }
