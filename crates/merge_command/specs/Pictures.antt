-- Several pictures of one size and one maxval: which files stand for them, and which are refused,
-- in the order of their numbers. They are read as several files are of which pictures alone are
-- asked for, of one size and without turns. To be trusted: contracts cite these words. (Own.)
use Rattle.std.specs.Prelude.{◌≤◌, ◌++◌, ℕ, true, false, List, Result, Ok, Err}
use Rattle.limits.specs.declared.bounds.TheConstants.{MOST_SAMPLE_CELLS}
use Rattle.cells.specs.Cells.{count_of}
use Rattle.shelf_traits.specs.Files.{ShelfState, Changes, content_of}
use Rattle.synth_report.specs.declared.fault.Fault.{Fault}
use Rattle.command.specs.Commands.{NamedFile}
use Rattle.command.specs.Stages.{Stages}
use Rattle.command.specs.Stages.Stages.{read}
use Rattle.photo_merge.specs.Merges.{AreOneSize}
use Rattle.sample_files.specs.declared.form.Form.TheVariants.{Picture}
use Rattle.sample_files.specs.declared.several.Asked.{Asked}
use Rattle.sample_files.specs.declared.several.Samples.{Samples}
use Rattle.sample_files.specs.Samples.{ArePictures}
use Rattle.sample_files.specs.Several.{RefusesSeveral, SeveralReadAs, StandForSeveral, contents, sample_files}
use Rattle.merge_command.specs.declared.pictures.Pictures.{Pictures}

-- what is asked of the pictures of a run
abbrev pub of_pictures : Asked
of_pictures = record { pictures = true; one_size = true; turns = false }

-- pictures are samples in the form of a picture with their maxval
abbrev pub as_samples : Pictures → Samples
as_samples pictures = record { form = Picture pictures.maxval; volume = pictures.volume }

-- the files stand, in order, for pictures of one maxval and one size: the parts of the volume. All
-- have no more cells together than one sample may have
abbrev pub StandForPictures : List ℕ → List (List ℕ) → Pictures → Type 0
StandForPictures first more pictures = StandForSeveral of_pictures first more (as_samples pictures)

-- the pictures are refused for this fault once n of them are read, and for nothing that is tried
-- before: by the reader of a picture; or one of them hasn't the maxval or the size of those before
-- it; or it has, and all so far have too many cells together
abbrev pub RefusesPictures : ℕ → List ℕ → List (List ℕ) → Fault → Type 0
RefusesPictures n first more fault = RefusesSeveral of_pictures n first more fault

-- the pictures are read, and the stages go on with them
abbrev pub read_pictures : {others : List NamedFile} → (first : List ℕ) (more : List (List ℕ))
    → (Pictures → Stages others) → Stages (sample_files first more ++ others)
read_pictures first more next =
    read (sample_files first more)
    (λ files pictures. StandForPictures (content_of files first) (contents files more) pictures)
    (λ n files fault. RefusesPictures n (content_of files first) (contents files more) fault) next

-- what a reader of them answers
abbrev pub ArePicturesRead : List ℕ → List (List ℕ) → ShelfState → ShelfState
    → Result Pictures Fault → Type 0
ArePicturesRead first more was now (Ok pictures) =
    Changes was now (λ before after.
    StandForPictures (content_of before first) (contents before more) pictures)
ArePicturesRead first more was now (Err fault) =
    SeveralReadAs of_pictures first more was now (Err fault)

-- what all pictures that are read are, whether or not the shelf tells its files
pub record AreSoundPictures (pictures : Pictures) : Type 0 where
  pub each : ArePictures pictures.maxval pictures.volume
  pub one_size : AreOneSize pictures.volume
  pub fits : count_of pictures.volume ≤ MOST_SAMPLE_CELLS
