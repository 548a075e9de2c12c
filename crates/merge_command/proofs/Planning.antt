-- The stages of `merge`: each has one answer, and what is planned goes by them.
use Rattle.std.proofs.Common.{◌≡◌, ℕ, ◌+◌, inl, inr, List, [], ◌∷◌, length, refl, ap, sym, ◌∙◌, subst}
use Rattle.std.specs.Prelude.{Err}
use Rattle.shelf_traits.specs.Files.{Files, InFile, OnlyReads, OnlyReadsFile, ShelfState, content_of}
use Rattle.shelf_traits.proofs.Sees.{Sees}
use Rattle.netpbm_p6.specs.declared.picture.Picture.{Picture}
use Rattle.netpbm_p6.specs.Pictures.{IsRead, Refuses}
use Rattle.map_canvas.specs.Canvases.{CanvasState}
use Rattle.photo_merge.specs.MergeLaws.{picture_count}
use Rattle.photo_merge.proofs.BadMarks.{bad_once, bad_or_merging}
use Rattle.job_words.specs.declared.merge.MergeJob.{MergeJob}
use Rattle.synth_report.specs.declared.fault.FileOf.TheVariants as part
use Rattle.synth_report.specs.declared.fault.Fault.{Fault}
use Rattle.synth_report.specs.declared.fault.Fault.TheVariants.{Unlike, Mark}
use Rattle.command.specs.Commands.{named, names_in}
use Rattle.command.specs.Faults.{IsNotRead}
use Rattle.command.specs.Outcomes.{IsPlanned, NotMade}
use Rattle.command.specs.Stages.{read_file}
use Rattle.command.proofs.Staging.{AreOne, IsOneQuestion, IsOneReader, bound_is_one, file_is_one}
use Rattle.command.proofs.Planning.{StandsBefore, begin, file_read, limit_passed, not_passed, part_not_read, pass_on, plan_made, read_on, reads_on}
use Rattle.sample_files.specs.Several.{contents, sample_files}
use Rattle.sample_files.proofs.Commands.{samples_not_read}
use Rattle.sample_files.proofs.OnePicture.{picture_is_one}
use Rattle.merge_command.specs.declared.pictures.Pictures.{Pictures}
use Rattle.merge_command.specs.declared.plan.Merged.{Merged}
use Rattle.merge_command.specs.Pictures.{ArePicturesRead, RefusesPictures, StandForPictures, of_pictures}
use Rattle.merge_command.specs.MergeCommand.{AreSized, HasBadMark, IsMergeOver, IsMergeSummary, IsSet, MarkPictures, MarksUnlike, MayRefuseMerge, RefusesMarked, merge_command, merge_files, merge_over, merge_stages, merge_summary, merged_of}
use Rattle.merge_command.proofs.PictureLaws.{one_value, refused_once, unrefused}

-- Each stage has one answer.

pictures_are_one : (first : List ℕ) (more : List (List ℕ)) (files : Files)
    → IsOneReader (λ files pictures. StandForPictures (content_of files first) (contents files more) pictures) (λ n files fault. RefusesPictures n (content_of files first) (contents files more) fault) files
pictures_are_one first more files = record {
  one_value = one_value (content_of files first) (contents files more);
  not_both = unrefused (content_of files first) (contents files more);
  one_refusal = refused_once (content_of files first) (contents files more);
}

module _ (pictures : Pictures) (marks : Picture) where
  sized_is_one : IsOneQuestion (AreSized pictures marks) (MarksUnlike pictures marks)
  sized_is_one = record { not_both = λ fault sized r. r.unlike sized; one_refusal = λ first second a b. a.is ∙ sym b.is }

  marking_is_one : IsOneQuestion (MarkPictures pictures marks) (HasBadMark pictures marks)
  marking_is_one = record {
    not_both = λ fault are r. bad_or_merging (picture_count pictures.volume) marks.volume r.index r.first are;
    one_refusal = λ first second a b. a.is ∙ ap Mark (bad_once (picture_count pictures.volume) marks.volume a.index b.index a.first b.first) ∙ sym b.is;
  }

pub are_one : (job : MergeJob) (files : Files) → AreOne (merge_stages job) files
are_one job files = (
  pictures_are_one job.sample job.more files,
  λ pictures stand. (
    file_is_one picture_is_one part.Marks job.marks files,
    λ marks is_marks. (sized_is_one pictures marks, λ sized. (marking_is_one pictures marks, λ are. (bound_is_one _ _ _, λ within first second a b. refl))),
  ),
)

-- What is planned: the code has the files under the names that it sees.

module _ (job : MergeJob) (a b : ShelfState) {more : List (List ℕ)} (same : more ≡ job.more) (reads : OnlyReads (names_in (sample_files job.sample more)) a b) where
  begun : StandsBefore (merge_command job) a a 0 (merge_stages job)
  begun = begin (merge_stages job) (merge_command job).writes (MayRefuseMerge (length job.more + 1)) IsMergeSummary (are_one job) a

  to_pictures : OnlyReads (names_in (sample_files job.sample job.more)) a b
  to_pictures = subst (λ names. OnlyReads (names_in (sample_files job.sample names)) a b) same reads

  pub pictures_only : OnlyReads (names_in (merge_command job).reads) a b
  pictures_only = reads_on (sample_files job.sample job.more) begun to_pictures

  pub pictures_not_read : (fault : Fault) → ArePicturesRead job.sample more a b (Err fault) → NotMade (merge_command job) a b fault
  pictures_not_read fault left =
      samples_not_read of_pictures job.sample job.more begun to_pictures (λ its may. inl may) fault (subst (λ names. ArePicturesRead job.sample names a b (Err fault)) same left)

  module _ (pictures : Pictures) (stand : Sees a b (λ files. StandForPictures (content_of files job.sample) (contents files more) pictures)) (d : ShelfState) (to_marks : OnlyReadsFile job.marks b d) where
    before_marks : StandsBefore (merge_command job) a b (0 + length (sample_files job.sample job.more)) (read_file part.Marks job.marks IsRead Refuses (merge_over job pictures))
    before_marks = read_on (sample_files job.sample job.more) begun to_pictures pictures
        (subst (λ names. Sees a b (λ files. StandForPictures (content_of files job.sample) (contents files names) pictures)) same stand)

    pub marks_only : OnlyReads (names_in (merge_command job).reads) a d
    marks_only = reads_on (named part.Marks job.marks ∷ []) before_marks to_marks

    pub marks_not_read : (fault : Fault) → IsNotRead Refuses part.Marks job.marks b d fault → NotMade (merge_command job) a d fault
    marks_not_read = part_not_read Refuses before_marks to_marks (λ why. inr tt) (λ what number bound. inr tt)

    module _ (marks : Picture) (is_marks : InFile job.marks b d (λ bytes. IsRead bytes marks)) where
      over : StandsBefore (merge_command job) a d ((0 + length (sample_files job.sample job.more)) + 1) (merge_over job pictures marks)
      over = file_read before_marks to_marks marks is_marks

      pub not_set : (fault : Fault) → RefusesMarked pictures marks fault → NotMade (merge_command job) a d fault
      not_set fault (inl p) = subst (NotMade (merge_command job) a d) (sym p.is) (not_passed over (Unlike part.Marks) (subst (MarksUnlike pictures marks) p.is p) (inr tt))
      not_set fault (inr (inl p)) = subst (NotMade (merge_command job) a d) (sym p.1.is) (not_passed (pass_on over p.0) (Mark p.1.index) (subst (HasBadMark pictures marks) p.1.is p.1) (inr tt))
      not_set fault (inr (inr p)) = limit_passed (pass_on (pass_on over p.0) p.1) fault _ _ _ p.2.1 p.2 (inr tt)

      pub merge_made : IsSet pictures marks → (canvas : CanvasState) → IsMergeOver pictures marks canvas → (made : Merged) → made ≡ merged_of pictures canvas → IsPlanned (merge_command job) (merge_files job made) (merge_summary made) a d
      merge_made set canvas is made made_is =
          let planned = plan_made (pass_on (pass_on (pass_on over set.size) set.marks_are) set.within) canvas is refl (_, _, _, refl) in
          subst (λ m. IsPlanned (merge_command job) (merge_files job m) (merge_summary m) a d) (sym made_is) planned
