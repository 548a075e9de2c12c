-- `merge` has one answer to files, and its headline.
use Rattle.std.proofs.Common.{◌≡◌, ◌≢◌, ℕ, ◌+◌, List, [], ◌∷◌, length, ap, sym, ◌∙◌, subst, arith, length-append}
use Rattle.std.proofs.lemmas.List.{get_or-append-add}
use Rattle.std.specs.Prelude.{get_or, Ok}
use Rattle.std.specs.FinMap.{get, insert}
use Rattle.cells.specs.Cells.{sizes_of}
use Rattle.cells.specs.Places.{cell_count}
use Rattle.shelf_traits.specs.Files.{Files, content_of}
use Rattle.shelf_traits.specs.Written.{written}
use Rattle.shelf_traits.proofs.FileLaws.{content_beside, content_inserted, get_beside}
use Rattle.netpbm_p6.specs.declared.picture.Picture.{Picture}
use Rattle.netpbm_p6.specs.Pictures.{IsRead, p6_form}
use Rattle.netpbm_p6.proofs.ReadAgain.{written_is_read}
use Rattle.map_canvas.specs.Canvases.{CanvasState}
use Rattle.map_canvas.proofs.Pictures.{full_picture}
use Rattle.source_map.specs.MapFiles.{cell_map_form, map_read}
use Rattle.source_map.specs.declared.head.Version.TheVariants.{Two}
use Rattle.source_map.specs.declared.map_file.MapFile.TheVariants.{Cells as CellMap}
use Rattle.source_map.proofs.MapsAgain.{read_again}
use Rattle.photo_merge.specs.MergeLaws.{IsMerged}
use Rattle.photo_merge.proofs.Leading.{merges_are_merged}
use Rattle.job_words.specs.declared.merge.MergeJob.{MergeJob}
use Rattle.job_words.specs.MergeWords.{IsMergeJob, merge_names}
use Rattle.synth_report.specs.declared.summary.Summary.{Summary}
use Rattle.command.specs.Commands.{HasOneAnswer}
use Rattle.command.specs.Outcomes.{WritesAll}
use Rattle.command.specs.Writing.{pieces, texts_in}
use Rattle.command.proofs.Staging.{one_answer}
use Rattle.sample_files.specs.Several.{contents}
use Rattle.merge_command.specs.declared.pictures.Pictures.{Pictures}
use Rattle.merge_command.specs.MergeCommand.{ArePicturesIn, IsMade, IsMergeOver, IsMergeSummary, IsSet, MayRefuseMerge, merge_command, merge_files, merge_stages, merge_summary, merged_of}
use Rattle.merge_command.specs.MergeHeadlines.{IsMergeInput, IsMergeOutput, IsMergedRun, IsToldOfMerge}
use Rattle.merge_command.proofs.Planning.{are_one}
use Rattle.merge_command.specs.Pictures.{AreSoundPictures}
use Rattle.merge_command.proofs.PictureLaws.{one_value, pictures_are_sound, same_picture}
use Rattle.merge_command.proofs.Ready.{map_ready, picture_ready}

pub merge_has_one_answer : (job : MergeJob) → HasOneAnswer (merge_command job)
merge_has_one_answer job = one_answer (merge_stages job) (merge_command job).writes (MayRefuseMerge (length job.more + 1)) IsMergeSummary (are_one job)

-- The two files that are written.

module _ (job : MergeJob) (lawful : IsMergeJob job) where
  names_apart : job.out ≢ job.map
  names_apart =
      let written_names : List (List ℕ) = job.marks ∷ job.out ∷ job.map ∷ [] in
      let k : ℕ = length (job.sample ∷ job.more) in
      let at : (n : ℕ) → get_or (merge_names job) (k + n) [] ≡ get_or written_names n [] = λ n. get_or-append-add (job.sample ∷ job.more) written_names n [] in
      let differ = lawful.names.apart (k + 1) (k + 2) [] (omega arith) (omega (arith, length-append job.more written_names)) in
      λ same. differ (at 1 ∙ same ∙ sym (at 2))

  module _ (before after : Files) (out_text map_text : List ℕ) (whole : after ≡ insert (insert before job.out out_text) job.map map_text) where
    abbrev with_out : Files
    with_out = insert before job.out out_text

    others_stay : (name : List ℕ) → name ≢ job.out → name ≢ job.map → get after name ≡ get before name
    others_stay name not_out not_map = ap (λ files. get files name) whole ∙ get_beside with_out job.map map_text name not_map ∙ get_beside before job.out out_text name not_out

    out_holds : content_of after job.out ≡ out_text
    out_holds = ap (λ files. content_of files job.out) whole ∙ content_beside with_out job.map map_text job.out names_apart ∙ content_inserted before job.out out_text

    map_holds : content_of after job.map ≡ map_text
    map_holds = ap (λ files. content_of files job.map) whole ∙ content_inserted with_out job.map map_text

-- What is written is the run of the headline.

module _ (job : MergeJob) (lawful : IsMergeJob job) (before after : Files) (pictures : Pictures) (read : ArePicturesIn before job pictures) (marks : Picture) (marks_read : IsRead (content_of before job.marks) marks) (set : IsSet pictures marks)
    (canvas : CanvasState) (over : IsMergeOver pictures marks canvas) (wrote : after ≡ written (pieces (merge_command job).writes (texts_in (merge_files job (merged_of pictures canvas)))) before) where
  abbrev out_text : List ℕ
  out_text = p6_form pictures.maxval canvas.picture

  abbrev map_text : List ℕ
  map_text = cell_map_form canvas.map (sizes_of pictures.volume) Two

  whole : after ≡ insert (insert before job.out out_text) job.map map_text
  whole = wrote

  is : IsMerged pictures.volume marks.volume canvas.map
  is = merges_are_merged pictures.volume marks.volume canvas.map over.merge

  sound : AreSoundPictures pictures
  sound = pictures_are_sound (content_of before job.sample) (contents before job.more) pictures read

  made : IsMade (merged_of pictures canvas)
  made = record { volume = over.volume; sound = sound; within = set.within; size = is.size; full = over.full; canvas = over.is_canvas; stands = over.stands }

  out_again : IsRead out_text (record { maxval = pictures.maxval; volume = canvas.picture })
  out_again =
      let size : cell_count canvas.picture.size ≡ cell_count pictures.volume.size = ap cell_count (over.is_canvas.size ∙ is.size) in
      written_is_read pictures.maxval canvas.picture (picture_ready (merged_of pictures canvas) made) (omega (arith, size, set.within))

  map_again : map_read map_text ≡ Ok (CellMap canvas.map (sizes_of pictures.volume) Two)
  map_again = read_again (CellMap canvas.map (sizes_of pictures.volume) Two) (over.is_canvas.map, map_ready (merged_of pictures canvas) made)

  out_is : content_of after job.out ≡ out_text
  out_is = out_holds job lawful before after out_text map_text whole

  map_is : content_of after job.map ≡ map_text
  map_is = map_holds job lawful before after out_text map_text whole

  abbrev input : IsMergeInput job before
  input = record {
    pictures = pictures;
    read = read;
    only = λ other stand. one_value (content_of before job.sample) (contents before job.more) other pictures stand read;
    one_volume = over.volume;
    one_size = sound.one_size;
    marks = marks;
    marks_read = marks_read;
    only_marks = λ other stands. same_picture (content_of before job.marks) other marks stands marks_read;
    set = set;
  }

  abbrev output : IsMergeOutput job pictures marks.volume after
  output = record {
    map = canvas.map;
    asked = is.size;
    is_map = over.is_canvas.map;
    full = over.full;
    over = over.stands.over;
    merge = over.merge;
    own = is.own;
    each = is.each;
    map_file = map_is;
    picture = canvas.picture;
    volume = over.is_canvas.picture;
    one = over.is_canvas.part;
    size = over.is_canvas.size ∙ is.size;
    of_map = full_picture canvas pictures.volume over.is_canvas over.stands over.full;
    cells = over.stands.bytes;
    out_file = out_is;
    out_again = subst (λ bytes. IsRead bytes (record { maxval = pictures.maxval; volume = canvas.picture })) (sym out_is) out_again;
    map_again = ap map_read map_is ∙ map_again;
  }

  told : (summary : Summary) → summary ≡ merge_summary (merged_of pictures canvas) → IsToldOfMerge job summary before after
  told summary summary_is = record {
    run = record { input = input; output = output; others = others_stay job lawful before after out_text map_text whole };
    summary_is = summary_is;
  }

-- what is reported is that of such a run
pub merge_told : (job : MergeJob) → IsMergeJob job → (summary : Summary) (before after : Files) → WritesAll (merge_command job) summary before after → IsToldOfMerge job summary before after
merge_told job lawful summary before after (texts, (pictures, read, (marks, marks_read, (size, (marks_are, (within, (canvas, over, texts_are, summary_is)))))), wrote) =
    told job lawful before after pictures read marks marks_read (record { size = size; marks_are = marks_are; within = within }) canvas over
    (wrote ∙ ap (λ ts. written (pieces (merge_command job).writes ts) before) texts_are) summary summary_is

pub merged_run : (job : MergeJob) → IsMergeJob job → (summary : Summary) (before after : Files) → WritesAll (merge_command job) summary before after → IsMergedRun job before after
merged_run job lawful summary before after wrote = (merge_told job lawful summary before after wrote).run
