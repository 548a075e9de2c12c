-- Each command has one answer, no status is another's, and the headlines.
use Rattle.std.proofs.Common.{◌≡◌, ℕ, inl, inr, List, [], ap, sym, ◌∙◌, subst}
use Rattle.std.specs.Prelude.{Result, Ok}
use Rattle.shelf_traits.specs.Files.{Files, ShelfState, SinkState, Changes, content_of}
use Rattle.shelf_traits.proofs.FileLaws.{told_weaker}
use Rattle.job_words.specs.declared.job.Job.{Job}
use Rattle.job_words.specs.declared.check.CheckJob.{CheckJob}
use Rattle.job_words.specs.declared.trial.TrialJob.{TrialJob}
use Rattle.job_words.specs.declared.job.Job.TheVariants.{Grow, Quilt, Loop, Check, Trial, Upgrade, Tile, Merge, Transfer}
use Rattle.job_words.specs.Jobs.{IsJob, job_of}
use Rattle.synth_report.specs.declared.fault.Fault.{Fault}
use Rattle.synth_report.specs.declared.summary.Summary.{Summary}
use Rattle.command.specs.Commands.{HasOneAnswer}
use Rattle.command.specs.Outcomes.{Answers, Commands, Runs, SaysAnswer, WritesAll, answer_status}
use Rattle.command.specs.Promises.{Asks, DoneStatus, HasDone, IsRunStatus}
use Rattle.command.specs.Writing.{Reported}
use Rattle.command.proofs.Promising.{done_promise, status_promise}
use Rattle.loop_command.specs.LoopHeadlines.{IsLoopedRun, IsOneLoop, LoopHeadline, OneLoop}
use Rattle.loop_command.proofs.LoopLaws.{loop_has_one_answer, looped_run}
use Rattle.loop_command.proofs.OneLoops.{one_loop}
use Rattle.merge_command.specs.MergeHeadlines.{HaveSameInput, HaveSameMerge, IsMergedRun, IsOneMergeReport, MergeHeadline, MergeReport, OneMerge}
use Rattle.merge_command.proofs.MergeRuns.{merge_has_one_answer, merged_run}
use Rattle.merge_command.proofs.OneMerges.{one_merge, one_merge_report}
use Rattle.outputs.specs.BlockHeadlines.{HaveSameQuilt}
use Rattle.quilt_command.specs.QuiltHeadlines.{IsOneQuiltReport, IsQuiltedRun, OneQuiltOutput, QuiltHeadline, QuiltReport}
use Rattle.quilt_command.proofs.OneQuiltOutputs.{one_quilt_output, one_quilt_report}
use Rattle.quilt_command.proofs.QuiltLaws.{quilt_has_one_answer, quilted_run}
use Rattle.outputs.specs.TileHeadlines.{IsOneTiling, IsToldOfTiling, OneTile, TileHeadline}
use Rattle.outputs.proofs.OneTiles.{one_tile}
use Rattle.outputs.proofs.TileLaws.{tile_has_one_answer, tile_told}
use Rattle.quilt_command.specs.TransferHeadlines.{HaveSamePictures, IsOneTransferReport, IsTransferredRun, OneTransfer, TransferHeadline, TransferReport}
use Rattle.quilt_command.proofs.OneTransfers.{one_transfer, one_transfer_report}
use Rattle.quilt_command.proofs.TransferLaws.{transfer_has_one_answer, transferred_run}
use Rattle.upgrade_command.specs.Upgraded.{UpgradeHeadline}
use Rattle.upgrade_command.proofs.Headline.{finished}
use Rattle.upgrade_command.proofs.Reading.{upgrade_has_one_answer}
use Rattle.weave_engine.specs.Engine.{command_of}
use Rattle.outputs.specs.GrowHeadlines.{GrowHeadline, GrowReport, HaveSameOutput, HaveSameSamples, IsGrownRun, IsOneReport, OneOutput}
use Rattle.check_command.specs.CheckHeadlines.{CheckHeadline, HasNamedCells, HaveLeastRecords}
use Rattle.grow_command.specs.TrialHeadlines.{TrialHeadline}
use Rattle.standing_files.specs.declared.verdict.Verdict.TheVariants as verdict
use Rattle.check_command.specs.Checks.{Stand, check_command, summary_of}
use Rattle.check_command.proofs.Staged.{check_has_one_answer}
use Rattle.check_command.proofs.Checked.{broke, least_records, made_breaking, made_standing, named_cells, stood}
use Rattle.outputs.proofs.Growing.{small_output}
use Rattle.outputs.proofs.GrowLaws.{grow_has_one_answer, grow_told, grown_run, output_fits}
use Rattle.outputs.proofs.OneGrowths.{one_output, one_report}
use Rattle.grow_command.specs.Trials.{IsTrialOf}
use Rattle.grow_command.proofs.Trying.{one_trial, trial_has_one_answer, trial_unchanged}

pub one_answer : (job : Job) → IsJob job → HasOneAnswer (command_of job)
one_answer (Grow job) lawful = grow_has_one_answer job
one_answer (Quilt job) lawful = quilt_has_one_answer job
one_answer (Loop job) lawful = loop_has_one_answer job
one_answer (Check job) lawful = check_has_one_answer job
one_answer (Trial job) lawful = trial_has_one_answer job
one_answer (Upgrade job) lawful = upgrade_has_one_answer job
one_answer (Tile job) lawful = tile_has_one_answer job
one_answer (Merge job) lawful = merge_has_one_answer job
one_answer (Transfer job) lawful = transfer_has_one_answer job

-- what is told of an answer is a run of the words, where it is that answer and the shelf is as it was left
pub ran_by : (commands : Commands) (words : List (List ℕ)) (was left now : ShelfState) (out out' err err' : SinkState) (status : ℕ) (answer told : Result Summary Fault)
    → Answers commands words was left out out' answer → now ≡ left → told ≡ answer → SaysAnswer told err err' → status ≡ answer_status told → Runs commands words was now out out' err err' status
ran_by commands words was left now out out' err err' status answer told answered as_left same said number = record {
  answer = answer;
  left = subst (λ shelf. Answers commands words was shelf out out' answer) (sym as_left) answered;
  said = subst (λ a. SaysAnswer a err err') same said;
  number = number ∙ ap answer_status same;
}

one_ok : (words : List (List ℕ)) (a b : Job) → job_of words ≡ Ok a → job_of words ≡ Ok b → a ≡ b
one_ok words a b p q = let both : Ok a ≡ Ok b = sym p ∙ q in cc

module _ (words : List (List ℕ)) (was now : ShelfState) (out out' err err' : SinkState) (status : ℕ) (ran : Runs command_of words was now out out' err err' status) where
  done : DoneStatus command_of words was now out out' err err' status
  done = done_promise command_of one_answer words was now out out' err err' status ran

  -- no other status comes
  pub known_status : IsRunStatus status
  known_status = status_promise command_of one_answer words was now out out' err err' status ran

  with_job : (job other : Job) → other ≡ job → IsJob other → (summary : Summary) → Changes was now (WritesAll (command_of other) summary) → IsJob job × Changes was now (WritesAll (command_of job) summary)
  with_job job other same lawful summary wrote = (subst IsJob same lawful, subst (λ j. Changes was now (WritesAll (command_of j) summary)) same wrote)

  -- what is done of a job where the status is 0
  record DoneOf (job : Job) : Type 0 where
    lawful : IsJob job
    summary : Summary
    known : (command_of job).MayMake summary
    files : Changes was now (WritesAll (command_of job) summary)
    told : Reported summary out out'

  done_of : (job : Job) → job_of words ≡ Ok job → status ≡ 0 → DoneOf job
  done_of job asks zero =
      let has = done.only (inl zero) in
      let same = one_ok words has.job job has.asked asks in
      let its = with_job job has.job same has.lawful has.summary has.done.files in
      record { lawful = its.0; summary = has.summary; known = subst (λ j. (command_of j).MayMake has.summary) same has.done.known; files = its.1; told = has.done.told }

  -- what holds of all that a command may write holds of what is written
  then_of : (job : Job) (its : DoneOf job) (Holds : Files → Files → Type 0) → ((before after : Files) → WritesAll (command_of job) its.summary before after → Holds before after) → Changes was now Holds
  then_of job its Holds follows = told_weaker (WritesAll (command_of job) its.summary) Holds was.files now.files follows its.files

  -- the headline of `grow`, its one output, and its report
  pub grow_headline : GrowHeadline words was now status
  grow_headline job asks zero = let its = done_of (Grow job) asks zero in then_of (Grow job) its (IsGrownRun job) (grown_run job its.lawful its.summary)

  pub grow_once : OneOutput words was now status
  grow_once job asks zero =
      let its = done_of (Grow job) asks zero in
      then_of (Grow job) its (λ before after. (earlier later : Files) → HaveSameSamples job earlier before → IsGrownRun job earlier later → HaveSameOutput job later after)
      (λ before after wrote earlier later same other. one_output job (small_output job its.lawful (output_fits job its.summary before after wrote)) before after earlier later same (grown_run job its.lawful its.summary before after wrote) other)

  pub grow_reported : GrowReport words was now out out' status
  grow_reported job asks zero =
      let its = done_of (Grow job) asks zero in (
        its.summary,
        its.told,
        then_of (Grow job) its (IsOneReport job its.summary)
            (λ before after wrote. one_report job (small_output job its.lawful (output_fits job its.summary before after wrote)) its.summary before after (grow_told job its.lawful its.summary before after wrote)),
      )

  -- the headline of `quilt`, its one output, and its one report
  pub quilt_headline : QuiltHeadline words was now status
  quilt_headline job asks zero = let its = done_of (Quilt job) asks zero in then_of (Quilt job) its (IsQuiltedRun job) (quilted_run job its.lawful its.summary)

  pub quilt_once : OneQuiltOutput words was now status
  quilt_once job asks zero =
      let its = done_of (Quilt job) asks zero in
      then_of (Quilt job) its (λ before after. (earlier later : Files) → content_of earlier job.names.sample ≡ content_of before job.names.sample → IsQuiltedRun job earlier later → HaveSameQuilt job.names later after)
      (one_quilt_output job its.lawful its.summary)

  pub quilt_reported : QuiltReport words was now out out' status
  quilt_reported job asks zero =
      let its = done_of (Quilt job) asks zero in
      (its.summary, its.told, then_of (Quilt job) its (IsOneQuiltReport job its.summary) (one_quilt_report job its.lawful its.summary))

  -- the headline of `loop`, and its one report
  pub loop_headline : LoopHeadline words was now status
  loop_headline job asks zero = let its = done_of (Loop job) asks zero in then_of (Loop job) its (IsLoopedRun job) (looped_run job its.lawful its.summary)

  pub loop_once : OneLoop words was now out out' status
  loop_once job asks zero =
      let its = done_of (Loop job) asks zero in
      (its.summary, its.told, then_of (Loop job) its (IsOneLoop job its.summary) (one_loop job its.lawful its.summary))

  -- the headline of `tile`, and its one output
  pub tile_headline : TileHeadline words was now out out' status
  tile_headline job asks zero =
      let its = done_of (Tile job) asks zero in
      (its.summary, its.told, then_of (Tile job) its (IsToldOfTiling job its.summary) (tile_told job its.lawful its.summary))

  pub tile_once : OneTile words was now out out' status
  tile_once job asks zero =
      let its = done_of (Tile job) asks zero in
      (its.summary, its.told, then_of (Tile job) its (IsOneTiling job its.summary) (one_tile job its.lawful its.summary))

  -- the headline of `upgrade`
  pub upgrade_headline : UpgradeHeadline words was now out out' status
  upgrade_headline job asks zero = let its = done_of (Upgrade job) asks zero in finished job its.lawful its.summary its.known was now out out' its.files its.told

  -- the headline of `merge`, its one output, and its one report
  pub merge_headline : MergeHeadline words was now status
  merge_headline job asks zero = let its = done_of (Merge job) asks zero in then_of (Merge job) its (IsMergedRun job) (merged_run job its.lawful its.summary)

  pub merge_once : OneMerge words was now status
  merge_once job asks zero =
      let its = done_of (Merge job) asks zero in
      then_of (Merge job) its (λ before after. (earlier later : Files) → HaveSameInput job earlier before → IsMergedRun job earlier later → HaveSameMerge job later after)
      (one_merge job its.lawful its.summary)

  pub merge_reported : MergeReport words was now out out' status
  merge_reported job asks zero =
      let its = done_of (Merge job) asks zero in
      (its.summary, its.told, then_of (Merge job) its (IsOneMergeReport job its.summary) (one_merge_report job its.lawful its.summary))

  -- the headline of `transfer`, its one output, and its one report
  pub transfer_headline : TransferHeadline words was now status
  transfer_headline job asks zero = let its = done_of (Transfer job) asks zero in then_of (Transfer job) its (IsTransferredRun job) (transferred_run job its.lawful its.summary)

  pub transfer_once : OneTransfer words was now status
  transfer_once job asks zero =
      let its = done_of (Transfer job) asks zero in
      then_of (Transfer job) its (λ before after. (earlier later : Files) → HaveSamePictures job earlier before → IsTransferredRun job earlier later → HaveSameQuilt job.names later after)
      (one_transfer job its.lawful its.summary)

  pub transfer_reported : TransferReport words was now out out' status
  transfer_reported job asks zero =
      let its = done_of (Transfer job) asks zero in
      (its.summary, its.told, then_of (Transfer job) its (IsOneTransferReport job its.summary) (one_transfer_report job its.lawful its.summary))

  -- what `check` says
  pub check_headline : CheckHeadline words was now out out' status
  check_headline = record {
    stand = λ job asks zero. let has = done.only (inl zero) in let its = check_done job asks has in
        told_weaker (WritesAll (check_command job) has.summary) (λ before after. (after ≡ before) × Stand job.turns job.names before) was.files now.files (stood job has.summary (sym has.verdict ∙ zero)) its;
    copied = λ job asks zero. let has = done.only (inl zero) in let its = check_done job asks has in
        told_weaker (WritesAll (check_command job) has.summary) (λ before after. HasNamedCells job.turns job.names before) was.files now.files
        (λ before after wrote. named_cells job.turns job.names before (stood job has.summary (sym has.verdict ∙ zero) before after wrote).1) its;
    least = λ job asks zero. let has = done.only (inl zero) in let its = check_done job asks has in
        told_weaker (WritesAll (check_command job) has.summary) (λ before after. HaveLeastRecords job.turns job.names before) was.files now.files
        (λ before after wrote. least_records job.turns job.names before (stood job has.summary (sym has.verdict ∙ zero) before after wrote).1) its;
    break = λ job asks one. let has = done.only (inr one) in broke job has.summary (sym has.verdict ∙ one) (may_make job asks has) was now out out' (check_done job asks has) has.done.told;
    where_they_stand = λ job files asks tells stands. done.where_made (Check job) files [] (summary_of verdict.Stands) asks tells (made_standing job files stands);
    where_they_break = λ job files number rule place asks tells breaks. done.where_made (Check job) files [] (summary_of (verdict.Fails number rule place)) asks tells (made_breaking job files number rule place breaks);
  }
    where
      check_done : (job : CheckJob) → job_of words ≡ Ok (Check job) → (has : HasDone command_of words was now out out' err err' status) → Changes was now (WritesAll (check_command job) has.summary)
      check_done job asks has = (with_job (Check job) has.job (one_ok words has.job (Check job) has.asked asks) has.lawful has.summary has.done.files).1

      may_make : (job : CheckJob) → job_of words ≡ Ok (Check job) → (has : HasDone command_of words was now out out' err err' status) → (command_of (Check job)).MayMake has.summary
      may_make job asks has = subst (λ j. (command_of j).MayMake has.summary) (one_ok words has.job (Check job) has.asked asks) has.done.known

  -- what `trial` says
  pub trial_headline : TrialHeadline words was now out out' status
  trial_headline = record { told = told; one = one }
    where
      told : (job : TrialJob) → Asks words (Trial job) → status ≡ 0 → (summary : Summary) × IsTrialOf job summary × Reported summary out out' × Changes was now (λ before after. after ≡ before)
      told job asks zero =
          let its = done_of (Trial job) asks zero in
          (its.summary, its.known, its.told, then_of (Trial job) its (λ before after. after ≡ before) (trial_unchanged job its.summary))

      one : (job : TrialJob) (summary : Summary) → Asks words (Trial job) → status ≡ 0 → IsTrialOf job summary → Reported summary out out'
      one job summary asks zero t =
          let its = done_of (Trial job) asks zero in
          subst (λ s. Reported s out out') (one_trial job its.lawful its.summary summary its.known t) its.told
