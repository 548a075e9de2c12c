-- One sample, whatever its form: what bytes stand for one, which are refused, which forms go
-- together, and the text of an output of the same form. To be trusted: contracts cite these words.
-- (Own.)
use Rattle.std.specs.Prelude.{◌≡◌, ◌≤◌, ◌==◌, ℕ, Bool, true, false, List, [], ◌∷◌, All, Result, Ok, Err}
use Rattle.std.specs.List.{AllByRecursion}
use Rattle.cells.specs.Cells.{Cells, bytes_of, sizes_of}
use Rattle.shelf_traits.specs.Files.{ShelfState, Changes, content_of}
use Rattle.shelf_traits.specs.declared.fault.ReadError.{ReadError}
use Rattle.netpbm_p6.specs.Pictures.{IsPicture, IsRead, IsSound, Refuses, p6_form}
use Rattle.y4m_clip.specs.declared.form.ClipForm.{ClipForm}
use Rattle.y4m_clip.specs.declared.form.SpaceKind.{SpaceKind}
use Rattle.y4m_clip.specs.declared.form.SpaceKind.TheVariants.{Mono, C444, C422, C411, C420}
use Rattle.y4m_clip.specs.Refusals.{IsReadClip, IsSoundClip, RefusesClip}
use Rattle.y4m_clip.specs.Spaces.{samples_of}
use Rattle.y4m_clip.specs.Writing.{IsClip, IsForm, clip_form}
use Rattle.sample_files.specs.declared.form.Form.{Form}
use Rattle.sample_files.specs.declared.form.Form.TheVariants.{Picture, Clip}
use Rattle.sample_files.specs.declared.sample.Sample.{Sample}
use Rattle.limits.specs.declared.bounds.TheConstants.{MOST_SAMPLE_CELLS}
use Rattle.command.specs.Faults.{FailsToRead}

-- What bytes stand for.

-- the bytes stand for these cells in this form, within its limits; a clip has at most so many cells
abbrev pub StandsWithin : ℕ → List ℕ → Form → Cells → Type 0
StandsWithin most bytes (Picture maxval) cells =
    IsRead bytes (record { maxval = maxval; volume = cells })
StandsWithin most bytes (Clip form) cells =
    IsReadClip most bytes (record { form = form; volume = cells })

abbrev pub IsSampleWithin : ℕ → List ℕ → Sample → Type 0
IsSampleWithin most bytes sample = StandsWithin most bytes sample.form sample.volume

-- the same, within the limits of a sample
abbrev pub StandsAs : List ℕ → Form → Cells → Type 0
StandsAs bytes form cells = StandsWithin MOST_SAMPLE_CELLS bytes form cells

abbrev pub IsSampleOf : List ℕ → Sample → Type 0
IsSampleOf bytes sample = StandsAs bytes sample.form sample.volume

-- one colour kind
abbrev pub same_space : SpaceKind → SpaceKind → Bool
same_space Mono Mono = true
same_space C444 C444 = true
same_space C422 C422 = true
same_space C411 C411 = true
same_space C420 C420 = true
same_space one other = false

-- a further sample of the other form goes with a first one of this form: both are pictures with one
-- maxval, or both are clips of one colour kind
abbrev pub goes_with : Form → Form → Bool
goes_with (Picture maxval) (Picture other) = maxval == other
goes_with (Clip form) (Clip other) = same_space form.space other.space
goes_with form other = false

-- each cell is one pixel, which a turn moves as a whole
abbrev pub has_pixel_cells : SpaceKind → Bool
has_pixel_cells Mono = true
has_pixel_cells C444 = true
has_pixel_cells C422 = false
has_pixel_cells C411 = false
has_pixel_cells C420 = false

-- the cells of a sample in this form can be turned
abbrev pub can_turn : Form → Bool
can_turn (Picture maxval) = true
can_turn (Clip form) = has_pixel_cells form.space

-- Their refusals.

-- the first byte is `Y`: the bytes are read as a clip; others, and none at all, as a picture
abbrev pub begins_clip : List ℕ → Bool
begins_clip [] = false
begins_clip (b ∷ bytes) = b == 89

-- the refusal of bytes that are read as a clip, of at most so many cells, or as a picture
abbrev pub RefusesAs : Bool → ℕ → List ℕ → ReadError → Type 0
RefusesAs true most bytes error = RefusesClip most bytes error
RefusesAs false most bytes error = Refuses bytes error

-- the refusal of bytes that stand for no sample within these limits
abbrev pub RefusesWithin : ℕ → List ℕ → ReadError → Type 0
RefusesWithin most bytes error = RefusesAs (begins_clip bytes) most bytes error

abbrev pub RefusesSample : List ℕ → ReadError → Type 0
RefusesSample bytes error = RefusesWithin MOST_SAMPLE_CELLS bytes error

-- what a reader of a sample answers
abbrev pub SampleReadsWithin : ℕ → List ℕ → ShelfState → ShelfState → Result Sample ReadError
    → Type 0
SampleReadsWithin most name was now (Ok sample) =
    Changes was now (λ before after. IsSampleWithin most (content_of before name) sample)
SampleReadsWithin most name was now (Err error) =
    FailsToRead (RefusesWithin most) name was now error

abbrev pub SampleReadsAs : List ℕ → ShelfState → ShelfState → Result Sample ReadError → Type 0
SampleReadsAs name was now (Ok sample) =
    Changes was now (λ before after. IsSampleOf (content_of before name) sample)
SampleReadsAs name was now (Err error) = FailsToRead RefusesSample name was now error

-- Where pictures alone may be asked for.

-- a form of pictures
abbrev pub IsPictureForm : Form → Type 0
IsPictureForm (Picture maxval) = Unit {0}
IsPictureForm (Clip form) = ⊥

-- the bytes stand for these cells in this form: as a picture where pictures alone are asked for
-- (true), and otherwise as a sample
abbrev pub StandsIn : Bool → List ℕ → Form → Cells → Type 0
StandsIn false bytes form cells = StandsAs bytes form cells
StandsIn true bytes (Picture maxval) cells =
    IsRead bytes (record { maxval = maxval; volume = cells })
StandsIn true bytes (Clip form) cells = ⊥

abbrev pub IsSampleIn : Bool → List ℕ → Sample → Type 0
IsSampleIn pictures bytes sample = StandsIn pictures bytes sample.form sample.volume

-- the refusal of bytes that stand for none
abbrev pub RefusesIn : Bool → List ℕ → ReadError → Type 0
RefusesIn false bytes error = RefusesSample bytes error
RefusesIn true bytes error = Refuses bytes error

-- What is read.

-- what every sample that is read is, whether or not the shelf tells its files
abbrev pub IsSoundWithin : ℕ → Form → Cells → Type 0
IsSoundWithin most (Picture maxval) cells = IsSound (record { maxval = maxval; volume = cells })
IsSoundWithin most (Clip form) cells =
    IsSoundClip most (record { form = form; volume = cells })

abbrev pub IsSoundSampleWithin : ℕ → Sample → Type 0
IsSoundSampleWithin most sample = IsSoundWithin most sample.form sample.volume

abbrev pub IsSoundIn : Form → Cells → Type 0
IsSoundIn form cells = IsSoundWithin MOST_SAMPLE_CELLS form cells

abbrev pub IsSoundSample : Sample → Type 0
IsSoundSample sample = IsSoundIn sample.form sample.volume

-- pictures: one frame each, three samples a cell, and no byte above maxval
pub record ArePictures (maxval : ℕ) (cells : Cells) : Type 0 where
  pub positive : 1 ≤ maxval
  pub fits : maxval ≤ 255
  pub colours : cells.k ≡ 3
  pub frames : AllByRecursion (λ size. size.f ≡ 1) (sizes_of cells)
  pub samples : All (λ b. b ≤ maxval) (bytes_of cells)

-- clips: as many samples a cell as their colour kind has, and a form that can be written
pub record AreClips (form : ClipForm) (cells : Cells) : Type 0 where
  pub is_form : IsForm form
  pub samples : cells.k ≡ samples_of form.space

-- what the cells of samples are that go with one of this form, of all parts together
abbrev pub AreSoundIn : Form → Cells → Type 0
AreSoundIn (Picture maxval) cells = ArePictures maxval cells
AreSoundIn (Clip form) cells = AreClips form cells

-- What is written.

-- the cells can be written in this form
abbrev pub CanStandIn : Form → Cells → Type 0
CanStandIn (Picture maxval) cells = IsPicture maxval cells
CanStandIn (Clip form) cells = IsClip form cells

-- the one spelling that the writer gives to cells in this form
abbrev pub form_text : Form → Cells → List ℕ
form_text (Picture maxval) cells = p6_form maxval cells
form_text (Clip form) cells = clip_form form cells
