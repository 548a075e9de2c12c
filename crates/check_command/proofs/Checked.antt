-- What `check` made of files, by its status.
use Rattle.std.proofs.Common.{◌≡◌, ℕ, Bool, true, List, [], refl, sym, ap, ◌∙◌, subst, arith}
use Rattle.std.specs.Prelude.{Option, Some, None, is_some}
use Rattle.cells.specs.declared.place.At.{At}
use Rattle.cells.specs.Places.{index_in, place_of}
use Rattle.cells.proofs.Raster.{index_below, index_parts, one_place, place_at}
use Rattle.shelf_traits.specs.Files.{Files, ShelfState, SinkState, Changes, content_of}
use Rattle.shelf_traits.specs.Written.{written}
use Rattle.shelf_traits.proofs.FileLaws.{told_weaker}
use Rattle.job_words.specs.declared.check.CheckJob.{CheckJob}
use Rattle.job_words.specs.declared.job.Names.{Names}
use Rattle.synth_report.specs.declared.summary.Summary.{Summary}
use Rattle.synth_report.specs.declared.summary.Summary.TheVariants as summary
use Rattle.synth_report.specs.Texts.{summary_status}
use Rattle.command.specs.Outcomes.{WritesAll}
use Rattle.command.specs.Writing.{Reported}
use Rattle.standing_files.specs.declared.verdict.Verdict.{Verdict}
use Rattle.standing_files.specs.declared.verdict.Verdict.TheVariants.{Stands, Fails}
use Rattle.standing_files.specs.Standing.{IsCopied, IsVerdict, map_output, named_source}
use Rattle.standing_files.proofs.Least.{records_least}
use Rattle.cert_file.specs.RecordFiles.{record_file_read}
use Rattle.command.proofs.Staging.{read_by}
use Rattle.sample_files.specs.declared.several.Samples.{Samples}
use Rattle.sample_files.specs.Several.{contents, of_samples}
use Rattle.sample_files.specs.Worked.{worked_samples}
use Rattle.sample_files.proofs.OneAnswer as several
use Rattle.check_command.specs.CheckHeadlines.{AreReadAs, HasNamedCells, HaveLeastRecords}
use Rattle.check_command.specs.Checks.{AreRunFiles, Break, IsCheckSummary, ReadFiles, Stand, StandForWorked, check_command, run_map_read, summary_of}
use Rattle.check_command.proofs.Staged.{IsJudged, judged_of, made_of, same_out}

-- it writes no file
unchanged : (job : CheckJob) (texts : List (List ℕ)) (before after : Files) → after ≡ written (Rattle.command.specs.Writing.pieces (check_command job).writes texts) before → after ≡ before
unchanged job texts before after wrote = wrote

module _ (job : CheckJob) (said : Summary) where
  -- with status 0 the files stand
  pub stood : summary_status said ≡ 0 → (before after : Files) → WritesAll (check_command job) said before after → (after ≡ before) × Stand job.turns job.names before
  stood zero before after (texts, makes, wrote) = (unchanged job texts before after wrote, by (judged_of job.turns job.names before texts said makes))
    where
      by : IsJudged job.turns job.names before said → Stand job.turns job.names before
      by its = so its.verdict its.judged its.summary_is
        where
          so : (verdict : Verdict) → IsVerdict its.values.samples its.values.out its.values.map its.values.record_file verdict → said ≡ summary_of verdict → Stand job.turns job.names before
          so Stands judged is = record { values = its.values; read = its.are; stand = judged }
          so (Fails number rule place) judged is = let one : summary_status said ≡ 1 = ap summary_status is in absurd (omega (arith, zero, one))

  abbrev Broke : Files → Files → Verdict → Type 0
  Broke before after (Fails number rule place) = (after ≡ before) × Break job.turns job.names before number rule place
  Broke before after Stands = ⊥

  -- with status 1 they break the rule that is said
  pub broke : summary_status said ≡ 1 → IsCheckSummary said → (was now : ShelfState) (out out' : SinkState) → Changes was now (WritesAll (check_command job) said) → Reported said out out'
      → (number : ℕ) × (rule : ℕ) × (place : ℕ) × Changes was now (λ before after. (after ≡ before) × Break job.turns job.names before number rule place) × Reported (summary.Fails number rule place) out out'
  broke one (verdict, is) was now out out' files told = by verdict is
    where
      by : (verdict : Verdict) → said ≡ summary_of verdict → (number : ℕ) × (rule : ℕ) × (place : ℕ) × Changes was now (λ before after. (after ≡ before) × Break job.turns job.names before number rule place) × Reported (summary.Fails number rule place) out out'
      by Stands is = let zero : summary_status said ≡ 0 = ap summary_status is in absurd (omega (arith, zero, one))
      by (Fails number rule place) is = (number, rule, place, told_weaker (WritesAll (check_command job) said) (λ before after. (after ≡ before) × Break job.turns job.names before number rule place) was.files now.files files_broken files, subst (λ s. Reported s out out') is told)
        where
          judged_so : (before : Files) (values : ReadFiles) → AreRunFiles job.turns job.names before values → (verdict : Verdict) → IsVerdict values.samples values.out values.map values.record_file verdict → summary_of (Fails number rule place) ≡ summary_of verdict → Break job.turns job.names before number rule place
          judged_so before values read Stands judged same = absurd (cc)
          judged_so before values read (Fails n r p) judged same =
              let number_is : n ≡ number = cc in
              let rule_is : r ≡ rule = cc in
              let place_is : p ≡ place = cc in
              record {
                values = values;
                read = read;
                broken = subst (λ i. IsVerdict values.samples values.out values.map values.record_file (Fails number rule i)) place_is
                    (subst (λ i. IsVerdict values.samples values.out values.map values.record_file (Fails number i p)) rule_is
                    (subst (λ i. IsVerdict values.samples values.out values.map values.record_file (Fails i r p)) number_is judged));
              }

          files_broken : (before after : Files) → WritesAll (check_command job) said before after → (after ≡ before) × Break job.turns job.names before number rule place
          files_broken before after (texts, makes, wrote) =
              let its = judged_of job.turns job.names before texts said makes in
              (unchanged job texts before after wrote, judged_so before its.values its.are its.verdict its.judged (sym is ∙ its.summary_is))

-- What files stand for.

module _ (turns : Bool) (names : Names) (files : Files) where
  one_worked : (one other : Samples) → StandForWorked turns names files one → StandForWorked turns names files other → one ≡ other
  one_worked one other a b =
      a.is ∙ ap (worked_samples turns) (several.one_value (of_samples turns) (content_of files names.sample) (contents files names.more) a.samples b.samples a.stand b.stand) ∙ sym b.is

  -- they stand for one list of values
  one_reading : (one other : ReadFiles) → AreRunFiles turns names files one → AreRunFiles turns names files other → one ≡ other
  one_reading one other a b =
      let samples = one_worked one.samples other.samples a.samples b.samples in
      let out = same_out (content_of files names.out) one.out other.out a.out b.out in
      let map_file = (read_by (run_map_read turns)).one_value (content_of files names.map) one.map other.map a.map b.map in
      let record_file = (read_by record_file_read).one_value (content_of files names.record_file) one.record_file other.record_file a.record_file b.record_file in
      λ k. record { samples = samples k; out = out k; map = map_file k; record_file = record_file k }

  read_as : (values : ReadFiles) → AreRunFiles turns names files values → AreReadAs turns names files values
  read_as values are = record { are = are; only = λ other read. one_reading other values read are }

  -- where they stand each cell is copied
  pub named_cells : Stand turns names files → HasNamedCells turns names files
  named_cells s = record {
    values = s.values;
    read = read_as s.values s.read;
    size = s.stand.together.map_sizes.output_is;
    cells = λ p inside. at p (index_in (map_output s.values.map) p) refl inside;
  }
    where
      at : (p : At) (i : Option ℕ) → index_in (map_output s.values.map) p ≡ i → is_some i ≡ true → IsCopied s.values.samples.volume s.values.out.volume (named_source s.values.map p) p
      at p None is inside = absurd (cc)
      at p (Some i) is inside =
          let its = index_parts (map_output s.values.map) p i is in
          let below = index_below (map_output s.values.map) p i is in
          let there = place_at (map_output s.values.map) i (omega (arith, its.x_on.below)) (omega (arith, its.y_on.below)) below in
          subst (λ q. IsCopied s.values.samples.volume s.values.out.volume (named_source s.values.map q) q) (one_place (map_output s.values.map) (place_of (map_output s.values.map) i) p i there is) (s.stand.copied i below)

  -- and the records are least
  pub least_records : Stand turns names files → HaveLeastRecords turns names files
  least_records s = record { values = s.values; read = read_as s.values s.read; least = records_least s.values.samples.volume (map_output s.values.map) s.values.record_file s.stand.records }

-- and where they do, this is made of them
pub made_standing : (job : CheckJob) (files : Files) → Stand job.turns job.names files → (check_command job).Makes files [] (summary_of Stands)
made_standing job files s = made_of job.turns job.names files s.values s.read Stands s.stand

pub made_breaking : (job : CheckJob) (files : Files) (number rule place : ℕ) → Break job.turns job.names files number rule place → (check_command job).Makes files [] (summary_of (Fails number rule place))
made_breaking job files number rule place b = made_of job.turns job.names files b.values b.read (Fails number rule place) b.broken
