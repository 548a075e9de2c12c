-- The writer's form of a clip stands for that clip.
use Rattle.std.proofs.Common.{◌≡◌, ℕ, zero, suc, ◌≤◌, ◌<◌, ◌+◌, ◌*◌, ◌/◌, inl, List, [], ◌∷◌, ◌++◌, length, refl, sym, ap, ◌∙◌, subst, arith}
use Rattle.std.specs.Prelude.{codes}
use Rattle.std.specs.List.{AllByRecursion, flat_map}
use Rattle.std.proofs.Math.Nat.{mul-le-mul_left}
use Rattle.std.proofs.lemmas.Nat.{le-div}
use Rattle.std.proofs.lemmas.List.{length-append, append-nil}
use Rattle.std.proofs.lemmas.List.Concat.{flat_map-append}
use Rattle.limits.specs.declared.bounds.TheConstants.{GREATEST_AXIS, MOST_TAG_BYTES}
use Rattle.cells.specs.Places.{cell_count}
use Rattle.cells.specs.Parts.{count_from}
use Rattle.cells.specs.Cells.{Cells, IsOnePart, IsVolume, cells_of, volume_of, bytes_of}
use Rattle.cells.proofs.Rows.{cells_of-concat}
use Rattle.y4m_clip.specs.declared.form.ClipForm.{ClipForm}
use Rattle.y4m_clip.specs.declared.form.SpaceKind.{SpaceKind}
use Rattle.y4m_clip.specs.Spaces.{joined_to}
use Rattle.y4m_clip.specs.Clips.{Sized, Frame, IsFrame, IsShortFrame, cells_w, cells_h, frames_text, frame_cells, most_frames, spaced, IsClipOf}
use Rattle.y4m_clip.specs.Refusals.{IsReadClip}
use Rattle.y4m_clip.specs.Writing.{IsClip, line_form, planes_of, frame_form, clip_form}
use Rattle.y4m_clip.proofs.FramesLaws.{all-push, text-push}
use Rattle.y4m_clip.proofs.Laying.{same_joined}
use Rattle.y4m_clip.proofs.LineAgain.{line_tags, line_stands, line_says}
use Rattle.y4m_clip.proofs.PlanesAgain.{cells_of_frame, length-planes, bytes_again}

-- The frames.

abbrev written_frame : SpaceKind → Cells → ℕ → Frame
written_frame kind v f = record { line = codes "FRAME\n"; planes = planes_of kind v f }

abbrev written_frames : SpaceKind → Cells → ℕ → List Frame
written_frames kind v zero = []
written_frames kind v (suc n) = written_frames kind v n ++ written_frame kind v n ∷ []

count_frames : (kind : SpaceKind) (v : Cells) (n : ℕ) → length (written_frames kind v n) ≡ n
count_frames kind v zero = refl
count_frames kind v (suc n) = length-append (written_frames kind v n) (written_frame kind v n ∷ []) ∙ ap (λ m. m + 1) (count_frames kind v n) ∙ omega arith

all_frames : (P : Frame → Type 0) (kind : SpaceKind) (v : Cells) (n : ℕ) → ((i : ℕ) → i < n → P (written_frame kind v i)) → AllByRecursion P (written_frames kind v n)
all_frames P kind v zero each = tt
all_frames P kind v (suc n) each = all-push P (written_frames kind v n) (written_frame kind v n) (all_frames P kind v n (λ i lt. each i (omega arith))) (each n (omega arith))

text_frames : (kind : SpaceKind) (v : Cells) (n : ℕ) → joined_to n (frame_form kind v) ≡ frames_text (written_frames kind v n)
text_frames kind v zero = refl
text_frames kind v (suc n) = ap (λ t. t ++ frame_form kind v n) (text_frames kind v n) ∙ sym (text-push (written_frames kind v n) (written_frame kind v n))

cells_frames : (kind : SpaceKind) (v : Cells) (w h n : ℕ) → flat_map (λ frame. frame_cells kind w h frame.planes) (written_frames kind v n) ≡ joined_to n (λ f. frame_cells kind w h (planes_of kind v f))
cells_frames kind v w h zero = refl
cells_frames kind v w h (suc n) =
    let part : Frame → List ℕ = λ frame. frame_cells kind w h frame.planes in
    flat_map-append part (written_frames kind v n) (written_frame kind v n ∷ [])
    ∙ (λ i. cells_frames kind v w h n i ++ append-nil (part (written_frame kind v n)) i)

-- The volume.

same_volume : (a b : Cells) → a.size ≡ b.size → a.more ≡ b.more → a.k ≡ b.k → a.cells ≡ b.cells → a ≡ b
same_volume a b size more k cells = λ i. record { size = size i; more = more i; k = k i; cells = cells i }

volume_again : (v : Cells) → IsVolume v → IsOnePart v → v ≡ volume_of v.size v.k (bytes_of v)
volume_again v is one =
    sym (same_volume (volume_of v.size v.k (bytes_of v)) v refl (sym one) refl
    (ap (λ n. cells_of v.k n (bytes_of v)) (sym (is.count ∙ ap (count_from v.size) one)) ∙ cells_of-concat v.k v.cells is.cells))

cells_written : (form : ClipForm) (v : Cells) → IsClip form v → bytes_of v ≡ flat_map (λ frame. frame_cells form.space v.size.w v.size.h frame.planes) (written_frames form.space v v.size.f)
cells_written form v is =
    sym (cells_frames form.space v v.size.w v.size.h v.size.f ∙ same_joined v.size.f _ _ (cells_of_frame form.space v is.volume_is is.samples) ∙ bytes_again v is.volume_is is.one)

-- The clip.

sized_line : (form : ClipForm) (v : Cells) → IsClip form v → Sized (clip_form form v)
sized_line form v is = record {
  lined = record {
    line = line_form form v.size;
    rest = joined_to v.size.f (frame_form form.space v);
    tags = line_tags form v.size;
    is_line = line_stands form v.size is.form_is is.volume_is.small.axes;
    is = refl;
  };
  kind = form.space;
  is_kind = record { space = is.form_is.is_kind.space; interlace = is.form_is.is_kind.interlace };
  whole = (line_says form v.size is.form_is is.volume_is.small.axes).whole;
}

pub read_again : (form : ClipForm) (v : Cells) → IsClip form v → IsClipOf (clip_form form v) (record { form = form; volume = v })
unfolding sized_line
read_again form v is =
    let says = line_says form v.size is.form_is is.volume_is.small.axes in
    let axes = is.volume_is.small.axes in
    let frames = written_frames form.space v v.size.f in
    let count = count_frames form.space v v.size.f in
    record {
      sized = sized_line form v is;
      frames = frames;
      some = omega (arith, count, axes.f);
      each = all_frames (IsFrame form.space (cells_w (line_tags form v.size) form.space) (cells_h (line_tags form v.size) form.space)) form.space v v.size.f
          (λ f lf. subst (λ w. IsFrame form.space w (cells_h (line_tags form v.size) form.space) (written_frame form.space v f)) (sym says.w)
          (subst (λ h. IsFrame form.space v.size.w h (written_frame form.space v f)) (sym says.h)
          (record { is_line = inl refl; whole = length-planes form.space v is.volume_is is.samples f lf })));
      is = text_frames form.space v v.size.f;
      space = refl;
      tags = says.tags;
      volume = volume_again v is.volume_is is.one
          ∙ (λ i. volume_of (record { w = sym says.w i; h = sym says.h i; f = sym count i }) (is.samples i)
          ((cells_written form v is ∙ (λ j. flat_map (λ (frame : Frame). frame_cells form.space (sym says.w j) (sym says.h j) frame.planes) frames)) i));
    }

-- Within the limits.

pub written_is_read : (most : ℕ) (form : ClipForm) (v : Cells) → IsClip form v → cell_count v.size ≤ most → IsReadClip most (clip_form form v) (record { form = form; volume = v })
unfolding sized_line read_again
written_is_read most form v is few =
    let says = line_says form v.size is.form_is is.volume_is.small.axes in
    let axes = is.volume_is.small.axes in
    let w = v.size.w in
    let h = v.size.h in
    let f = v.size.f in
    let count = count_frames form.space v f in
    let turned : w * (h * f) ≡ f * (w * h) = grind arith in
    let some : w * 1 ≤ w * h = mul-le-mul_left w axes.h.0 in
    let one : w * h * 1 ≤ w * h * f = mul-le-mul_left (w * h) axes.f.0 in
    let same : w * h * f ≡ f * (w * h) = grind arith in
    let fits : f ≤ most / (w * h) = le-div f most (w * h) (omega arith) (omega arith) in
    record {
      stands = read_again form v is;
      fits = record {
        line_fits = says.short;
        tags_fit = subst (λ tags. length (spaced tags) ≤ MOST_TAG_BYTES) says.tags is.form_is.fits;
        width_fits = subst (λ n. n ≤ GREATEST_AXIS) (sym says.w) axes.w.1;
        height_fits = subst (λ n. n ≤ GREATEST_AXIS) (sym says.h) axes.h.1;
        cells_fit = subst (λ n. n ≤ most) (λ i. sym says.w i * sym says.h i) (omega arith);
      };
      short = all_frames IsShortFrame form.space v f (λ i lt. omega arith);
      few = subst (λ n. n ≤ most_frames (cells_w (line_tags form v.size) form.space) (cells_h (line_tags form v.size) form.space) most) (sym count)
          (subst (λ n. f ≤ n) (λ i. most_frames (sym says.w i) (sym says.h i) most) (omega (arith, axes.f, fits)));
    }
