-- From the tags of a line, as the reader takes them, to the front of the grammar or its refusal.
use Rattle.std.proofs.Common.{◌≡◌, ℕ, ◌≤◌, ◌<◌, ◌*◌, ◌/◌, ◌%◌, ◌⊎◌, inl, inr, List, length, refl, sym, ap, ◌∙◌, subst, arith}
use Rattle.std.specs.Prelude.{Err}
use Rattle.limits.specs.declared.bounds.TheConstants.{GREATEST_AXIS, MOST_CELLS, MOST_LINE_BYTES, MOST_TAG_BYTES}
use Rattle.shelf_traits.specs.Files.{ShelfState, content_of}
use Rattle.shelf_traits.specs.declared.fault.ReadError.{ReadError}
use Rattle.shelf_traits.specs.declared.fault.ReadError.TheVariants.{ReadFault, Bad, Limit, NoMemory}
use Rattle.shelf_traits.specs.declared.fault.FormFault.TheVariants.{Form, Depth, Space, Cell, NoFrames, Sample, Trailing}
use Rattle.shelf_traits.specs.declared.fault.What.TheVariants.{Axis, Cells as CellsLimit, Header, Frames, Output, Loop, Records, Parts}
use Rattle.y4m_clip.specs.declared.form.SpaceKind.{SpaceKind}
use Rattle.y4m_clip.specs.declared.form.SpaceKind.TheVariants.{Mono, C444, C422, C411, C420}
use Rattle.y4m_clip.specs.declared.line.Line.{Line}
use Rattle.y4m_clip.specs.declared.head.Front.{Front}
use Rattle.y4m_clip.specs.Spaces.{cell_width, cell_height}
use Rattle.shelf_traits.specs.Decimals.{capped}
use Rattle.y4m_clip.specs.Clips.{pixels_w, pixels_h, cells_w, cells_h, carried, spaced, HasSpaceKind, IsWhole, Fronted}
use Rattle.y4m_clip.specs.Refusals.{ShortLined, ShortSized, width_of, height_of, RefusesClip, ReadsClipAs}
use Rattle.y4m_clip.specs.Reading.{AreTags, HasLine}
use Rattle.y4m_clip.specs.Heads.{IsCellNumber, carried_number, HasFront, SizeRefused, TagsRefused, FrontAs}
use Rattle.y4m_clip.specs.Frames.{IsSoundFront}
use Rattle.shelf_traits.proofs.Sees.{Sees, sees_weaker}
use Rattle.y4m_clip.proofs.FormLaws.{form_of_line}
use Rattle.y4m_clip.proofs.TagLaws.{tags_fit_line, width_positive, height_positive}

-- Numbers of cells as far as a u64 of pixels goes.

small_w : (kind : SpaceKind) (p : ℕ) → capped p / cell_width kind ≤ GREATEST_AXIS → capped p / cell_width kind ≡ p / cell_width kind
small_w Mono p few = omega arith
small_w C444 p few = omega arith
small_w C422 p few = omega arith
small_w C411 p few = omega arith
small_w C420 p few = omega arith

small_h : (kind : SpaceKind) (p : ℕ) → capped p / cell_height kind ≤ GREATEST_AXIS → capped p / cell_height kind ≡ p / cell_height kind
small_h Mono p few = omega arith
small_h C444 p few = omega arith
small_h C422 p few = omega arith
small_h C411 p few = omega arith
small_h C420 p few = omega arith

great_w : (kind : SpaceKind) (p : ℕ) → GREATEST_AXIS < capped p / cell_width kind → GREATEST_AXIS < p / cell_width kind
great_w Mono p many = omega arith
great_w C444 p many = omega arith
great_w C422 p many = omega arith
great_w C411 p many = omega arith
great_w C420 p many = omega arith

great_h : (kind : SpaceKind) (p : ℕ) → GREATEST_AXIS < capped p / cell_height kind → GREATEST_AXIS < p / cell_height kind
great_h Mono p many = omega arith
great_h C444 p many = omega arith
great_h C422 p many = omega arith
great_h C411 p many = omega arith
great_h C420 p many = omega arith

pub same_w : (kind : SpaceKind) (p w : ℕ) → IsCellNumber p (cell_width kind) w → w ≤ GREATEST_AXIS → w ≡ p / cell_width kind
same_w kind p w is few = is.number_is ∙ small_w kind p (subst (λ n. n ≤ GREATEST_AXIS) is.number_is few)

pub same_h : (kind : SpaceKind) (p h : ℕ) → IsCellNumber p (cell_height kind) h → h ≤ GREATEST_AXIS → h ≡ p / cell_height kind
same_h kind p h is few = is.number_is ∙ small_h kind p (subst (λ n. n ≤ GREATEST_AXIS) is.number_is few)

-- The carried tags of a short line.

carried_small : (bytes : List ℕ) → (short : ShortLined bytes) → length (spaced (carried short.lined.tags)) ≤ MOST_LINE_BYTES
carried_small bytes short = omega (arith, tags_fit_line short.lined.line short.lined.tags short.lined.is_line, short.short)

pub tags_fit : (bytes : List ℕ) → (short : ShortLined bytes) → carried_number short.lined.tags ≤ MOST_TAG_BYTES → length (spaced (carried short.lined.tags)) ≤ MOST_TAG_BYTES
tags_fit bytes short fits = omega (arith, carried_small bytes short, fits)

-- The sized line.

abbrev pub sized_of : (bytes : List ℕ) → (short : ShortLined bytes) → (kind : SpaceKind) → HasSpaceKind short.lined.tags kind → IsWhole short.lined.tags kind → ShortSized bytes
sized_of bytes short kind is whole = record { sized = record { lined = short.lined; kind = kind; is_kind = is; whole = whole }; short = short.short }

size_refused : (bytes : List ℕ) (most : ℕ) (e : ReadError) → (short : ShortLined bytes) → SizeRefused short.lined.tags most e → RefusesClip most bytes e
size_refused bytes most (Limit Axis number bound) short refused = (
  inl record {
    short = sized_of bytes short refused.kind refused.cells.is_kind (refused.cells.width.whole, refused.cells.height.whole);
    tags_fit = tags_fit bytes short refused.tags_fit;
    passes = by refused.exceeds.0;
  },
  refused.exceeds.1,
)
  where
    by : ((GREATEST_AXIS < refused.w) × (number ≡ refused.w)) ⊎ ((refused.w ≤ GREATEST_AXIS) × (GREATEST_AXIS < refused.h) × (number ≡ refused.h))
        → ((GREATEST_AXIS < cells_w short.lined.tags refused.kind) × (number ≡ capped (pixels_w short.lined.tags) / cell_width refused.kind))
        ⊎ ((cells_w short.lined.tags refused.kind ≤ GREATEST_AXIS) × (GREATEST_AXIS < cells_h short.lined.tags refused.kind) × (number ≡ capped (pixels_h short.lined.tags) / cell_height refused.kind))
    by (inl wide) = inl (great_w refused.kind (pixels_w short.lined.tags) (subst (λ n. GREATEST_AXIS < n) refused.cells.width.number_is wide.0), wide.1 ∙ refused.cells.width.number_is)
    by (inr high) = inr (
      subst (λ n. n ≤ GREATEST_AXIS) (same_w refused.kind (pixels_w short.lined.tags) refused.w refused.cells.width high.0) high.0,
      great_h refused.kind (pixels_h short.lined.tags) (subst (λ n. GREATEST_AXIS < n) refused.cells.height.number_is high.1),
      high.2 ∙ refused.cells.height.number_is,
    )
size_refused bytes most (Limit CellsLimit number bound) short refused =
    let w = same_w refused.kind (pixels_w short.lined.tags) refused.w refused.cells.width refused.exceeds.0 in
    let h = same_h refused.kind (pixels_h short.lined.tags) refused.h refused.cells.height refused.exceeds.1 in (
      inl record {
        short = sized_of bytes short refused.kind refused.cells.is_kind (refused.cells.width.whole, refused.cells.height.whole);
        tags_fit = tags_fit bytes short refused.tags_fit;
        width_fits = subst (λ n. n ≤ GREATEST_AXIS) w refused.exceeds.0;
        height_fits = subst (λ n. n ≤ GREATEST_AXIS) h refused.exceeds.1;
        passes = refused.exceeds.2;
        number_is = refused.exceeds.3 ∙ (λ i. w i * h i);
      },
      refused.exceeds.4,
    )
size_refused bytes most (Limit Header number bound) short refused = absurd refused.exceeds
size_refused bytes most (Limit Frames number bound) short refused = absurd refused.exceeds
size_refused bytes most (Limit Output number bound) short refused = absurd refused.exceeds
size_refused bytes most (Limit Loop number bound) short refused = absurd refused.exceeds
size_refused bytes most (Limit Records number bound) short refused = absurd refused.exceeds
size_refused bytes most (Limit Parts number bound) short refused = absurd refused.exceeds
size_refused bytes most (Bad why) short refused = absurd refused.exceeds
size_refused bytes most ReadFault short refused = absurd refused.exceeds
size_refused bytes most NoMemory short refused = absurd refused.exceeds

tags_refused : (bytes : List ℕ) (most number bound : ℕ) → (short : ShortLined bytes) → TagsRefused short.lined.tags number bound → RefusesClip most bytes (Limit Header number bound)
tags_refused bytes most number bound short refused = inr (inl (
  record {
    short = sized_of bytes short refused.kind refused.is_kind refused.whole;
    longer = refused.longer;
    number_is = omega (arith, refused.number_is, carried_small bytes short);
  },
  refused.bound_is,
))

-- the refusal of a line's tags is one of the file
front_refuses : (bytes : List ℕ) (line : Line) (most : ℕ) (e : ReadError) → HasLine bytes line → FrontAs line most (Err e) → (e ≡ NoMemory → ⊥) → RefusesClip most bytes e
front_refuses bytes line most (Bad Space) has refuses some = (has.short, subst (λ tags. (kind : SpaceKind) → HasSpaceKind tags kind → ⊥) has.tags_are refuses)
front_refuses bytes line most (Bad Cell) has refuses some =
    (record { lined = has.short; kind = refuses.0; is_kind = subst (λ tags. HasSpaceKind tags refuses.0) has.tags_are refuses.1 }, subst (λ tags. IsWhole tags refuses.0 → ⊥) has.tags_are refuses.2)
front_refuses bytes line most (Limit Header number bound) has refuses some = tags_refused bytes most number bound has.short (subst (λ tags. TagsRefused tags number bound) has.tags_are refuses)
front_refuses bytes line most (Limit Axis number bound) has refuses some = size_refused bytes most (Limit Axis number bound) has.short (subst (λ tags. SizeRefused tags most (Limit Axis number bound)) has.tags_are refuses)
front_refuses bytes line most (Limit CellsLimit number bound) has refuses some = size_refused bytes most (Limit CellsLimit number bound) has.short (subst (λ tags. SizeRefused tags most (Limit CellsLimit number bound)) has.tags_are refuses)
front_refuses bytes line most (Limit Frames number bound) has refuses some = absurd refuses
front_refuses bytes line most (Limit Output number bound) has refuses some = absurd refuses
front_refuses bytes line most (Limit Loop number bound) has refuses some = absurd refuses
front_refuses bytes line most (Limit Records number bound) has refuses some = absurd refuses
front_refuses bytes line most (Limit Parts number bound) has refuses some = absurd refuses
front_refuses bytes line most (Bad (Form place)) has refuses some = absurd refuses
front_refuses bytes line most (Bad Depth) has refuses some = absurd refuses
front_refuses bytes line most (Bad NoFrames) has refuses some = absurd refuses
front_refuses bytes line most (Bad (Sample place)) has refuses some = absurd refuses
front_refuses bytes line most (Bad (Trailing place)) has refuses some = absurd refuses
front_refuses bytes line most ReadFault has refuses some = absurd refuses
front_refuses bytes line most NoMemory has refuses some = absurd (some refl)

pub front_as : (name : List ℕ) (line : Line) (most : ℕ) (e : ReadError) (a b : ShelfState) → Sees a b (λ files. HasLine (content_of files name) line) → FrontAs line most (Err e) → ReadsClipAs most name a b (Err e)
front_as name line most ReadFault a b seen refuses = absurd refuses
front_as name line most NoMemory a b seen refuses = tt
front_as name line most (Bad why) a b seen refuses =
    sees_weaker (λ files. HasLine (content_of files name) line) (λ files. RefusesClip most (content_of files name) (Bad why)) a b (λ files has. front_refuses (content_of files name) line most (Bad why) has refuses (λ e. cc)) seen
front_as name line most (Limit what number bound) a b seen refuses =
    sees_weaker (λ files. HasLine (content_of files name) line) (λ files. RefusesClip most (content_of files name) (Limit what number bound)) a b
    (λ files has. front_refuses (content_of files name) line most (Limit what number bound) has refuses (λ e. cc)) seen

-- The front within its limits.

pub record FrontSeen (bytes : List ℕ) (most : ℕ) (front : Front) : Type 0 where
  pub fronted : Fronted bytes most
  pub kind_is : front.form.space ≡ fronted.sized.kind
  pub w_is : front.w ≡ width_of fronted
  pub h_is : front.h ≡ height_of fronted
  pub tags_are : front.form.tags ≡ carried fronted.sized.lined.tags
  pub start_is : front.start ≡ length fronted.sized.lined.line

pub front_seen : (bytes : List ℕ) (line : Line) (most : ℕ) (front : Front) → HasLine bytes line → HasFront line most front → FrontSeen bytes most front
front_seen bytes line most front has is =
    let kind = front.form.space in
    let short = has.short in
    let w : front.w ≡ cells_w short.lined.tags kind
    = is.size.width_is ∙ same_w kind (pixels_w line.tags) is.w is.cells.width is.size.width ∙ ap (λ tags. cells_w tags kind) has.tags_are in
    let h : front.h ≡ cells_h short.lined.tags kind
    = is.size.height_is ∙ same_h kind (pixels_h line.tags) is.h is.cells.height is.size.height ∙ ap (λ tags. cells_h tags kind) has.tags_are in
    record {
      fronted = record {
        sized = record {
          lined = short.lined;
          kind = kind;
          is_kind = subst (λ tags. HasSpaceKind tags kind) has.tags_are is.cells.is_kind;
          whole = subst (λ tags. IsWhole tags kind) has.tags_are (is.cells.width.whole, is.cells.height.whole);
        };
        fits = record {
          line_fits = short.short;
          tags_fit = tags_fit bytes short (subst (λ tags. carried_number tags ≤ MOST_TAG_BYTES) has.tags_are is.tags_fit);
          width_fits = subst (λ n. n ≤ GREATEST_AXIS) (sym is.size.width_is ∙ w) is.size.width;
          height_fits = subst (λ n. n ≤ GREATEST_AXIS) (sym is.size.height_is ∙ h) is.size.height;
          cells_fit = subst (λ n. n ≤ most) (λ i. (sym is.size.width_is ∙ w) i * (sym is.size.height_is ∙ h) i) is.size.cells;
        };
      };
      kind_is = refl;
      w_is = w;
      h_is = h;
      tags_are = is.tags_are ∙ ap carried has.tags_are;
      start_is = is.start_is ∙ has.length_is;
    }

some_w : (kind : SpaceKind) (p : ℕ) → 1 ≤ p → p % cell_width kind ≡ 0 → 1 ≤ capped p / cell_width kind
some_w Mono p some whole = omega arith
some_w C444 p some whole = omega arith
some_w C422 p some whole = omega arith
some_w C411 p some whole = omega arith
some_w C420 p some whole = omega arith

some_h : (kind : SpaceKind) (p : ℕ) → 1 ≤ p → p % cell_height kind ≡ 0 → 1 ≤ capped p / cell_height kind
some_h Mono p some whole = omega arith
some_h C444 p some whole = omega arith
some_h C422 p some whole = omega arith
some_h C411 p some whole = omega arith
some_h C420 p some whole = omega arith

-- a front that was made of a line can be read on
pub sound_front : (line : Line) (most : ℕ) (front : Front) → most ≤ MOST_CELLS → line.length ≤ MOST_LINE_BYTES → AreTags line.tags → HasFront line most front → IsSoundFront front most
sound_front line most front few short tags is = record {
  w_some = subst (λ n. 1 ≤ n) (sym (is.size.width_is ∙ is.cells.width.number_is)) (some_w front.form.space (pixels_w line.tags) (width_positive tags.0 line.tags tags.1) is.cells.width.whole);
  h_some = subst (λ n. 1 ≤ n) (sym (is.size.height_is ∙ is.cells.height.number_is)) (some_h front.form.space (pixels_h line.tags) (height_positive tags.0 line.tags tags.1) is.cells.height.whole);
  w_fits = subst (λ n. n ≤ GREATEST_AXIS) (sym is.size.width_is) is.size.width;
  h_fits = subst (λ n. n ≤ GREATEST_AXIS) (sym is.size.height_is) is.size.height;
  cells = subst (λ n. n ≤ most) (λ i. sym is.size.width_is i * sym is.size.height_is i) is.size.cells;
  start = subst (λ n. n ≤ MOST_LINE_BYTES) (sym is.start_is) short;
  most_fits = few;
  form = form_of_line front.form tags.0 line.tags tags.1 is.tags_are is.cells.is_kind (omega (arith, is.tags_fit));
}
