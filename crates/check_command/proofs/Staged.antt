-- The stages of `check`: each has one answer, and what is read goes by them.
use Rattle.std.proofs.Common.{◌≡◌, ℕ, ◌+◌, ◌*◌, ◌≤◌, Bool, List, [], ◌∷◌, length, refl, ap, ◌∙◌, subst}
use Rattle.std.specs.Prelude.{Result, Ok, Err}
use Rattle.limits.specs.declared.bounds.TheConstants.{MOST_OUT_CLIP_CELLS, MOST_PARTS}
use Rattle.shelf_traits.specs.Files.{Files, InFile, OnlyReads, OnlyReadsFile, ShelfState, content_of}
use Rattle.shelf_traits.proofs.FileLaws.{told_both, told_weaker}
use Rattle.shelf_traits.proofs.Sees.{Sees, sees_then}
use Rattle.source_map.specs.declared.map_file.MapFile.{MapFile}
use Rattle.cert_file.specs.declared.file.RecordFile.{RecordFile}
use Rattle.cert_file.specs.RecordFiles.{IsRecordFileOf, RefusesRecordFile, record_file_read}
use Rattle.job_words.specs.declared.check.CheckJob.{CheckJob}
use Rattle.job_words.specs.declared.job.Names.{Names}
use Rattle.synth_report.specs.declared.fault.Fault.{Fault}
use Rattle.synth_report.specs.declared.fault.Fault.TheVariants.{Words, Form, Unlike, Mark, Limit, Read, Write, NoMemory, NoLoop}
use Rattle.synth_report.specs.declared.fault.FileOf.TheVariants as part
use Rattle.synth_report.specs.declared.summary.Summary.{Summary}
use Rattle.synth_report.specs.Texts.{summary_status}
use Rattle.command.specs.Commands.{HasOneAnswer, named, names_in}
use Rattle.command.specs.Faults.{IsNotRead}
use Rattle.command.specs.Outcomes.{IsPlanned, NotMade, Plans}
use Rattle.command.specs.Stages.{AllMake}
use Rattle.command.proofs.Staging.{AreOne, ReadsOne, file_is_one, one_answer, read_by}
use Rattle.command.proofs.Planning.{StandsBefore, begin, file_read, part_not_read, read_on, reads_on}
use Rattle.sample_files.specs.declared.sample.Sample.{Sample}
use Rattle.sample_files.specs.declared.several.Samples.{Samples}
use Rattle.sample_files.specs.Several.{AsksParts, MayRefuseSamples, SamplesReadAs, StandForSamples, contents, of_samples, read_samples, sample_files}
use Rattle.sample_files.proofs.Commands.{parts_are_one, parts_made, parts_make, parts_passed, parts_refused, samples_are_one, samples_not_read}
use Rattle.sample_files.specs.Worked.{worked_samples}
use Rattle.turned.specs.declared.turn.TheConstants.{TURNS}
use Rattle.std.proofs.lemmas.List.{length-map}
use Rattle.sample_files.proofs.OneSample.{one_sample, one_sample_refusal, stands_or_refused}
use Rattle.standing_files.specs.declared.verdict.Verdict.{Verdict}
use Rattle.standing_files.specs.declared.verdict.Verdict.TheVariants.{Stands, Fails}
use Rattle.standing_files.specs.Standing.{IsVerdict}
use Rattle.standing_files.proofs.Breaking.{breaks_none}
use Rattle.check_command.specs.Checks.{AreRunFiles, IsCheckSummary, IsOut, IsReadMap, JudgesRecord, MayRefuseFiles, ReadFiles, RefusesMap, RefusesOutBytes, check_command, check_stages, run_map_read, stages_over, summary_of}

known_samples : (n : ℕ) (fault : Fault) → MayRefuseSamples n fault → MayRefuseFiles n fault
known_samples n (Form part.Out why) may = tt
known_samples n (Form part.Map why) may = tt
known_samples n (Form part.Record why) may = tt
known_samples n (Form part.Sample why) may = may
known_samples n (Form (part.More number) why) may = may
known_samples n (Form part.Target why) may = may
known_samples n (Form part.Marks why) may = may
known_samples n (Form part.NewMap why) may = may
known_samples n (Form part.NewRecord why) may = may
known_samples n (Form part.Report why) may = may
known_samples n (Unlike its) may = may
known_samples n (Mark index) may = may
known_samples n (Limit what number bound) may = may
known_samples n (Read its) may = may
known_samples n (Write its) may = may
known_samples n NoMemory may = may
known_samples n (NoLoop length) may = may
known_samples n (Words fault) may = may

-- Each stage has one answer.

pub same_out : (bytes : List ℕ) (one other : Sample) → IsOut bytes one → IsOut bytes other → one ≡ other
same_out bytes one other a b =
    let same = one_sample MOST_OUT_CLIP_CELLS bytes one.form other.form one.volume other.volume a b in
    ap (λ f. record one { form = f }) same.form_is ∙ ap (λ v. record other { volume = v }) same.cells_are

out_is_one : ReadsOne IsOut RefusesOutBytes
out_is_one = record { one_value = same_out; not_both = λ bytes out. stands_or_refused MOST_OUT_CLIP_CELLS bytes out.form out.volume; one_refusal = one_sample_refusal MOST_OUT_CLIP_CELLS }

-- whether files stand is decided
same_status : (samples : _) (out : _) (map_file : _) (record_file : _) (one other : Verdict) → IsVerdict samples out map_file record_file one → IsVerdict samples out map_file record_file other → summary_status (summary_of one) ≡ summary_status (summary_of other)
same_status samples out map_file record_file Stands Stands a b = refl
same_status samples out map_file record_file Stands (Fails number rule place) a b = absurd (breaks_none samples out map_file record_file number rule place a b)
same_status samples out map_file record_file (Fails number rule place) Stands a b = absurd (breaks_none samples out map_file record_file number rule place b a)
same_status samples out map_file record_file (Fails number rule place) (Fails number' rule' place') a b = refl

are_one : (turns : Bool) (names : Names) (files : Files) → AreOne (check_stages turns names) files
are_one turns names files = parts_are_one turns (length names.more + 1) _ files (
  samples_are_one (of_samples turns) names.sample names.more files,
  λ samples stand. (
    file_is_one out_is_one part.Out names.out files,
    λ out is_out. (
      file_is_one (read_by (run_map_read turns)) part.Map names.map files,
      λ map_file is_map. (file_is_one (read_by record_file_read) part.Record names.record_file files, λ record_file is_record_file. same_status (worked_samples turns samples) out map_file record_file),
    ),
  ),
)

pub check_has_one_answer : (job : CheckJob) → HasOneAnswer (check_command job)
check_has_one_answer job = one_answer (check_stages job.turns job.names) [] (MayRefuseFiles (length job.names.more + 1)) IsCheckSummary (are_one job.turns job.names)

-- before any file is read
begun : (job : CheckJob) (a : ShelfState) → StandsBefore (check_command job) a a 0 (check_stages job.turns job.names)
begun job a = begin (check_stages job.turns job.names) [] (MayRefuseFiles (length job.names.more + 1)) IsCheckSummary (are_one job.turns job.names) a

pub parts_pass : (job : CheckJob) (a : ShelfState) (fault : Fault) → AsksParts job.turns (length job.names.more + 1) (Err fault) → NotMade (check_command job) a a fault
parts_pass job a = parts_refused job.turns (length job.names.more + 1) _ (begun job a) (λ what number bound. tt)

-- What is read: the samples, which the code has under the names that it sees.

module _ (job : CheckJob) (a b : ShelfState) (few : AsksParts job.turns (length job.names.more + 1) (Ok tt)) {more : List (List ℕ)} (same : more ≡ job.names.more) (reads : OnlyReads (names_in (sample_files job.names.sample more)) a b) where
  before_samples : StandsBefore (check_command job) a a 0 (read_samples job.turns job.names.sample job.names.more (stages_over job.turns job.names))
  before_samples = parts_passed job.turns (length job.names.more + 1) (begun job a) few

  to_samples : OnlyReads (names_in (sample_files job.names.sample job.names.more)) a b
  to_samples = subst (λ names. OnlyReads (names_in (sample_files job.names.sample names)) a b) same reads

  pub no_samples : (fault : Fault) → SamplesReadAs job.turns job.names.sample more a b (Err fault) → NotMade (check_command job) a b fault
  no_samples fault left =
      samples_not_read (of_samples job.turns) job.names.sample job.names.more before_samples to_samples (known_samples (length job.names.more + 1)) fault (subst (λ names. SamplesReadAs job.turns job.names.sample names a b (Err fault)) same left)

  pub samples_only : OnlyReads (names_in (check_command job).reads) a b
  samples_only = reads_on (sample_files job.names.sample job.names.more) before_samples to_samples

  module _ (samples : Samples) (stand : Sees a b (λ files. StandForSamples job.turns (content_of files job.names.sample) (contents files more) samples)) (d : ShelfState) (to_out : OnlyReadsFile job.names.out b d) where
    before_out : StandsBefore (check_command job) a b (0 + length (sample_files job.names.sample job.names.more)) (stages_over job.turns job.names samples)
    before_out = read_on (sample_files job.names.sample job.names.more) before_samples to_samples samples
        (subst (λ names. Sees a b (λ files. StandForSamples job.turns (content_of files job.names.sample) (contents files names) samples)) same stand)

    pub no_out : (fault : Fault) → IsNotRead RefusesOutBytes part.Out job.names.out b d fault → NotMade (check_command job) a d fault
    no_out = part_not_read RefusesOutBytes before_out to_out (λ why. tt) (λ what number bound. tt)

    pub out_only : OnlyReads (names_in (check_command job).reads) a d
    out_only = reads_on (named part.Out job.names.out ∷ []) before_out to_out

    module _ (out : Sample) (is_out : InFile job.names.out b d (λ bytes. IsOut bytes out)) (e : ShelfState) (to_map : OnlyReadsFile job.names.map d e) where
      pub no_map : (fault : Fault) → IsNotRead (RefusesMap job.turns) part.Map job.names.map d e fault → NotMade (check_command job) a e fault
      no_map = part_not_read (RefusesMap job.turns) (file_read before_out to_out out is_out) to_map (λ why. tt) (λ what number bound. tt)

      pub map_only : OnlyReads (names_in (check_command job).reads) a e
      map_only = reads_on (named part.Map job.names.map ∷ []) (file_read before_out to_out out is_out) to_map

      module _ (map_file : MapFile) (is_map : InFile job.names.map d e (λ bytes. IsReadMap job.turns bytes map_file)) (f : ShelfState) (to_record : OnlyReadsFile job.names.record_file e f) where
        pub no_record : (fault : Fault) → IsNotRead RefusesRecordFile part.Record job.names.record_file e f fault → NotMade (check_command job) a f fault
        no_record = part_not_read RefusesRecordFile (file_read (file_read before_out to_out out is_out) to_map map_file is_map) to_record (λ why. tt) (λ what number bound. tt)

        pub record_only : OnlyReads (names_in (check_command job).reads) a f
        record_only = reads_on (named part.Record job.names.record_file ∷ []) (file_read (file_read before_out to_out out is_out) to_map map_file is_map) to_record

        -- what all files stand for, once the samples are worked
        module _ (record_file : RecordFile) (is_record_file : InFile job.names.record_file e f (λ bytes. IsRecordFileOf bytes record_file)) (all : Samples) (is : all ≡ worked_samples job.turns samples) where
          abbrev StandIn : Files → Type 0
          StandIn files = StandForSamples job.turns (content_of files job.names.sample) (contents files job.names.more) samples

          abbrev OutIn : Files → Type 0
          OutIn files = IsOut (content_of files job.names.out) out

          abbrev MapIn : Files → Type 0
          MapIn files = IsReadMap job.turns (content_of files job.names.map) map_file

          with_out : Sees a d (λ files. StandIn files × OutIn files)
          with_out = sees_then StandIn OutIn (λ files. StandIn files × OutIn files) a b d (λ files stands is_its. (stands, is_its)) to_samples to_out
              (subst (λ names. Sees a b (λ files. StandForSamples job.turns (content_of files job.names.sample) (contents files names) samples)) same stand) is_out

          with_map : Sees a e (λ files. (StandIn files × OutIn files) × MapIn files)
          with_map = sees_then (λ files. StandIn files × OutIn files) MapIn (λ files. (StandIn files × OutIn files) × MapIn files) a d e (λ files stands is_its. (stands, is_its)) out_only to_map with_out is_map

          pub files_are : Sees a f (λ files. AreRunFiles job.turns job.names files (record { samples = all; out = out; map = map_file; record_file = record_file }))
          files_are = sees_then (λ files. (StandIn files × OutIn files) × MapIn files) (λ files. IsRecordFileOf (content_of files job.names.record_file) record_file)
              (λ files. AreRunFiles job.turns job.names files (record { samples = all; out = out; map = map_file; record_file = record_file })) a e f
              (λ files stands is_its. record { samples = record { samples = samples; stand = stands.0.0; is = is }; out = stands.0.1; map = stands.1; record_file = is_its }) map_only to_record with_map is_record_file

-- What is made of them.

pub made_of : (turns : Bool) (names : Names) (files : Files) (values : ReadFiles) → AreRunFiles turns names files values → (verdict : Verdict) → IsVerdict values.samples values.out values.map values.record_file verdict → AllMake (check_stages turns names) files [] (summary_of verdict)
made_of turns names files values are verdict judged = parts_make turns (length names.more + 1) _ files [] (summary_of verdict)
    (λ on. subst (λ n. TURNS * (n + 1) ≤ MOST_PARTS) (length-map names.more (content_of files)) (are.samples.stand.few on))
    (are.samples.samples, are.samples.stand, (values.out, are.out, (values.map, are.map, (values.record_file, are.record_file, (verdict, subst (λ samples. IsVerdict samples values.out values.map values.record_file verdict) are.samples.is judged, refl, refl)))))

-- it is a verdict on the values that the files stand for
pub record IsJudged (turns : Bool) (names : Names) (files : Files) (summary : Summary) : Type 0 where
  pub values : ReadFiles
  pub are : AreRunFiles turns names files values
  pub verdict : Verdict
  pub judged : IsVerdict values.samples values.out values.map values.record_file verdict
  pub summary_is : summary ≡ summary_of verdict

pub judged_of : (turns : Bool) (names : Names) (files : Files) (texts : List (List ℕ)) (summary : Summary) → AllMake (check_stages turns names) files texts summary → IsJudged turns names files summary
judged_of turns names files texts summary all = by (parts_made turns (length names.more + 1) _ files texts summary all)
  where
    by : AllMake (read_samples turns names.sample names.more (stages_over turns names)) files texts summary → IsJudged turns names files summary
    by (samples, stand, (out, is_out, (map_file, is_map, (record_file, is_record_file, (verdict, judged, texts_are, summary_is))))) = record {
      values = record { samples = worked_samples turns samples; out = out; map = map_file; record_file = record_file };
      are = record { samples = record { samples = samples; stand = stand; is = refl }; out = is_out; map = is_map; record_file = is_record_file };
      verdict = verdict;
      judged = judged;
      summary_is = summary_is;
    }

verdict_planned : {names : List (List ℕ)} (job : CheckJob) (a b : ShelfState) → OnlyReads names a b → (values : ReadFiles) → Sees a b (λ files. AreRunFiles job.turns job.names files values) → (verdict : Verdict) → IsVerdict values.samples values.out values.map values.record_file verdict
    → IsPlanned (check_command job) [] (summary_of verdict) a b
verdict_planned job a b reads values are verdict judged = record {
  known = (verdict, refl);
  named = refl;
  made = told_weaker (λ before after. (after ≡ before) × AreRunFiles job.turns job.names before values) (λ before after. (after ≡ before) × AllMake (check_stages job.turns job.names) before [] (summary_of verdict)) a.files b.files
      (λ before after seen. (seen.0, made_of job.turns job.names before values seen.1 verdict judged)) (told_both (λ before after. after ≡ before) (λ before after. AreRunFiles job.turns job.names before values) a.files b.files reads.files are);
}

pub judged_planned : {names : List (List ℕ)} (job : CheckJob) (a b : ShelfState) → OnlyReads names a b → (samples : Samples) (out : Sample) (map_file : MapFile) (now : ShelfState)
    → ((fault : Fault) → IsNotRead RefusesRecordFile part.Record job.names.record_file now b fault → NotMade (check_command job) a b fault)
    → ((record_file : RecordFile) → InFile job.names.record_file now b (λ bytes. IsRecordFileOf bytes record_file)
    → Sees a b (λ files. AreRunFiles job.turns job.names files (record { samples = samples; out = out; map = map_file; record_file = record_file })))
    → (result : Result Verdict Fault) → JudgesRecord samples out map_file job.names.record_file now b result → Plans (check_command job) (λ verdict. []) summary_of a b result
judged_planned job a b reads samples out map_file now not are (Ok verdict) its =
    verdict_planned job a b reads (record { samples = samples; out = out; map = map_file; record_file = its.0 }) (are its.0 its.1) verdict its.2
judged_planned job a b reads samples out map_file now not are (Err fault) its = not fault its
