-- Out file, map file and report are a function of the pictures and the marks.
use Rattle.std.proofs.Common.{◌≡◌, ℕ, List, ap, sym, ◌∙◌, subst}
use Rattle.cells.specs.Cells.{sizes_of}
use Rattle.shelf_traits.specs.Files.{Files, content_of}
use Rattle.netpbm_p6.specs.declared.picture.Picture.{Picture}
use Rattle.netpbm_p6.specs.Pictures.{IsRead, p6_form}
use Rattle.map_canvas.specs.Maps.{SourceMap, picture_of}
use Rattle.source_map.specs.MapFiles.{cell_map_form}
use Rattle.source_map.specs.declared.head.Version.TheVariants.{Two}
use Rattle.photo_merge.specs.Merges.{IsMerge}
use Rattle.photo_merge.proofs.Leading.{one_merge as one_map_of}
use Rattle.job_words.specs.declared.merge.MergeJob.{MergeJob}
use Rattle.job_words.specs.MergeWords.{IsMergeJob}
use Rattle.synth_report.specs.declared.summary.Summary.{Summary}
use Rattle.command.specs.Outcomes.{WritesAll}
use Rattle.sample_files.specs.Several.{contents}
use Rattle.merge_command.specs.declared.pictures.Pictures.{Pictures}
use Rattle.merge_command.specs.MergeCommand.{merge_command}
use Rattle.merge_command.specs.MergeHeadlines.{HaveSameInput, HaveSameMerge, IsMergedRun, IsOneMergeReport, told_of_merge}
use Rattle.merge_command.specs.Pictures.{StandForPictures}
use Rattle.merge_command.proofs.PictureLaws.{one_value, same_picture}
use Rattle.merge_command.proofs.MergeRuns.{merge_told, merged_run}

module _ (job : MergeJob) (before after earlier later : Files) (same : HaveSameInput job earlier before) (run : IsMergedRun job before after) (other : IsMergedRun job earlier later) where
  abbrev pictures : Pictures
  pictures = run.input.pictures

  one_input : other.input.pictures ≡ pictures
  one_input =
      one_value (content_of before job.sample) (contents before job.more) other.input.pictures pictures
      (subst (λ bytes. StandForPictures bytes (contents before job.more) other.input.pictures) same.first
      (subst (λ more. StandForPictures (content_of earlier job.sample) more other.input.pictures) same.further other.input.read))
      run.input.read

  one_marking : other.input.marks ≡ run.input.marks
  one_marking = same_picture (content_of before job.marks) other.input.marks run.input.marks (subst (λ bytes. IsRead bytes other.input.marks) same.marks other.input.marks_read) run.input.marks_read

  one_map : other.output.map ≡ run.output.map
  one_map =
      one_map_of pictures.volume run.input.marks.volume other.output.map run.output.map run.input.one_volume
      (subst (λ (p : Pictures). IsMerge p.volume run.input.marks.volume other.output.map) one_input
      (subst (λ (marks : Picture). IsMerge other.input.pictures.volume marks.volume other.output.map) one_marking other.output.merge))
      run.output.merge

  abbrev out_spelled : Pictures → SourceMap → List ℕ
  out_spelled p m = p6_form p.maxval (picture_of m p.volume)

  abbrev map_spelled : Pictures → SourceMap → List ℕ
  map_spelled p m = cell_map_form m (sizes_of p.volume) Two

  pub same_output : HaveSameMerge job later after
  same_output = record {
    out = other.output.out_file ∙ ap (p6_form other.input.pictures.maxval) other.output.of_map ∙ (λ i. out_spelled (one_input i) (one_map i))
        ∙ ap (p6_form pictures.maxval) (sym run.output.of_map) ∙ sym run.output.out_file;
    map = other.output.map_file ∙ (λ i. map_spelled (one_input i) (one_map i)) ∙ sym run.output.map_file;
  }

  pub same_told : told_of_merge other.input.pictures other.output.map ≡ told_of_merge pictures run.output.map
  same_told = λ i. told_of_merge (one_input i) (one_map i)

-- another run of the words from files with the same pictures and marks leaves what is written
pub one_merge : (job : MergeJob) → IsMergeJob job → (summary : Summary) (before after : Files) → WritesAll (merge_command job) summary before after
    → (earlier later : Files) → HaveSameInput job earlier before → IsMergedRun job earlier later → HaveSameMerge job later after
one_merge job lawful summary before after wrote earlier later same other = same_output job before after earlier later same (merged_run job lawful summary before after wrote) other

-- and tells the same
pub one_merge_report : (job : MergeJob) → IsMergeJob job → (summary : Summary) (before after : Files) → WritesAll (merge_command job) summary before after → IsOneMergeReport job summary before after
one_merge_report job lawful summary before after wrote =
    let told = merge_told job lawful summary before after wrote in
    record {
      told = told;
      one = λ other earlier later same its. its.summary_is ∙ same_told job before after earlier later same told.run its.run ∙ sym told.summary_is;
    }
