-- A file is read by its first byte, and what is seen of it then holds of it at the entry.
use Rattle.std.proofs.Common.{◌≡◌, ℕ, List, ◌++◌, Bool, true, false, sym, ap, ◌∙◌, subst}
use Rattle.std.specs.Prelude.{Result, Ok, Err}
use Rattle.shelf_traits.specs.Files.{ShelfState, InFile, OnlyReads, content_of}
use Rattle.shelf_traits.specs.declared.fault.ReadError.{ReadError}
use Rattle.shelf_traits.specs.declared.fault.ReadError.TheVariants as error
use Rattle.shelf_traits.proofs.Sees.{fault_later, sees_later, sees_then}
use Rattle.netpbm_p6.specs.declared.picture.Picture.{Picture as PictureRead}
use Rattle.netpbm_p6.specs.Pictures.{IsPictureOf}
use Rattle.y4m_clip.specs.declared.form.Clip.{Clip as ClipRead}
use Rattle.y4m_clip.specs.Clips.{IsClipOf}
use Rattle.sample_files.specs.declared.sample.Sample.{Sample}
use Rattle.sample_files.specs.Samples.{IsSampleWithin, RefusesAs, RefusesWithin, SampleReadsWithin, begins_clip}
use Rattle.sample_files.specs.Steps.{ReadsInForm}

-- a picture begins with `P`
pub picture_begins : (bytes : List ℕ) (picture : PictureRead) → IsPictureOf bytes picture → begins_clip bytes ≡ false
picture_begins bytes picture is =
    let h = is.headed in
    let text = h.is_header in
    ap begins_clip (h.is ∙ ap (λ t. t ++ h.raster) text.is)

-- and a clip with `Y`
pub clip_begins : (bytes : List ℕ) (clip : ClipRead) → IsClipOf bytes clip → begins_clip bytes ≡ true
clip_begins bytes clip is =
    let l = is.sized.lined in
    ap begins_clip (l.is ∙ ap (λ t. t ++ l.rest) l.is_line.is)

module _ {names : List (List ℕ)} (most : ℕ) (name : List ℕ) (a b c : ShelfState) (clip : Bool) (reads : OnlyReads names a b) (then_reads : OnlyReads names b c) (begins : InFile name a b (λ bytes. begins_clip bytes ≡ clip)) where
  refused : (error : ReadError) → InFile name b c (λ bytes. RefusesAs clip most bytes error) → InFile name a c (λ bytes. RefusesWithin most bytes error)
  refused error left = sees_then (λ files. begins_clip (content_of files name) ≡ clip) (λ files. RefusesAs clip most (content_of files name) error) (λ files. RefusesWithin most (content_of files name) error) a b c
      (λ files is r. subst (λ t. RefusesAs t most (content_of files name) error) (sym is) r) reads then_reads begins left

  pub read_by_first : (answer : Result Sample ReadError) → ReadsInForm clip most name b c answer → SampleReadsWithin most name a c answer
  read_by_first (Ok sample) read = sees_later (λ files. IsSampleWithin most (content_of files name) sample) a b c reads read
  read_by_first (Err error.ReadFault) left = fault_later name a b c reads left
  read_by_first (Err error.NoMemory) left = tt
  read_by_first (Err (error.Bad why)) left = refused (error.Bad why) left
  read_by_first (Err (error.Limit what number bound)) left = refused (error.Limit what number bound) left
