-- The stages of `upgrade`: each has one answer, and what is planned goes by them.
use Rattle.std.proofs.Common.{◌≡◌, [], ◌∷◌, refl, subst}
use Rattle.std.specs.Prelude.{All}
use Rattle.shelf_traits.specs.Files.{Files, InFile, OnlyReads, OnlyReadsFile, ShelfState}
use Rattle.source_map.specs.declared.head.Version.TheVariants.{One}
use Rattle.source_map.specs.declared.map_file.MapFile.{MapFile}
use Rattle.source_map.specs.declared.map_file.MapFile.TheVariants.{Cells as CellMap}
use Rattle.source_map.specs.MapFiles.{IsMapFile, version_one_map_read}
use Rattle.cert_file.specs.declared.file.RecordFile.{RecordFile}
use Rattle.cert_file.specs.declared.file.RecordFile.TheVariants.{Cuts}
use Rattle.cert_file.specs.CutForms.{HasShortFlows}
use Rattle.cert_file.specs.RecordFiles.{IsRecordFile, version_one_cuts_read}
use Rattle.job_words.specs.declared.upgrade.UpgradeJob.{UpgradeJob}
use Rattle.synth_report.specs.declared.fault.Fault.{Fault}
use Rattle.synth_report.specs.declared.fault.FileOf.TheVariants as part
use Rattle.command.specs.Commands.{HasOneAnswer, named, names_in}
use Rattle.command.specs.Faults.{IsNotRead}
use Rattle.command.specs.Outcomes.{IsPlanned, NotMade}
use Rattle.command.proofs.Staging.{AreOne, file_is_one, one_answer, read_by}
use Rattle.command.proofs.Planning.{StandsBefore, begin, file_read, part_not_read, plan_made, reads_on}
use Rattle.upgrade_command.specs.declared.pair.Pair.{Pair}
use Rattle.upgrade_command.specs.Upgrades.{AreFirstCuts, IsFirstMap, IsPairOf, IsSoundPair, IsUpgradeSummary, MayRefusePair, RefusesFirstCuts, RefusesFirstMap, pair_files, pair_summary, upgrade_command, upgrade_stages}

pub are_one : (job : UpgradeJob) (files : Files) → AreOne (upgrade_stages job) files
are_one job files = (
  file_is_one (read_by version_one_map_read) part.Map job.map files,
  λ map_file map_is. (file_is_one (read_by version_one_cuts_read) part.Record job.record_file files, λ record_file cuts_are first second a b. refl),
)

pub upgrade_has_one_answer : (job : UpgradeJob) → HasOneAnswer (upgrade_command job)
upgrade_has_one_answer job = one_answer (upgrade_stages job) (upgrade_command job).writes MayRefusePair IsUpgradeSummary (are_one job)

-- what the readers of both files say
pub sound_pair : (map_file : MapFile) (record_file : RecordFile) (pair : Pair) → map_file ≡ CellMap pair.map pair.samples One → record_file ≡ Cuts pair.head pair.cuts → IsMapFile map_file → IsRecordFile record_file → All HasShortFlows pair.cuts → IsSoundPair pair
sound_pair map_file record_file pair map_is record_file_is lawful limits flows = record { map_is = subst IsMapFile map_is lawful; cuts_are = subst IsRecordFile record_file_is limits; flows = flows }

module _ (job : UpgradeJob) (a b : ShelfState) (reads : OnlyReadsFile job.map a b) where
  begun : StandsBefore (upgrade_command job) a a 0 (upgrade_stages job)
  begun = begin (upgrade_stages job) (upgrade_command job).writes MayRefusePair IsUpgradeSummary (are_one job) a

  pub map_not_read : (fault : Fault) → IsNotRead RefusesFirstMap part.Map job.map a b fault → NotMade (upgrade_command job) a b fault
  map_not_read = part_not_read RefusesFirstMap begun reads (λ why. tt) (λ what number bound. tt)

  pub map_only : OnlyReads (names_in (upgrade_command job).reads) a b
  map_only = reads_on (named part.Map job.map ∷ []) begun reads

  module _ (map_file : MapFile) (map_is : InFile job.map a b (λ bytes. IsFirstMap bytes map_file)) (d : ShelfState) (later : OnlyReadsFile job.record_file b d) where
    pub cuts_not_read : (fault : Fault) → IsNotRead RefusesFirstCuts part.Record job.record_file b d fault → NotMade (upgrade_command job) a d fault
    cuts_not_read = part_not_read RefusesFirstCuts (file_read begun reads map_file map_is) later (λ why. tt) (λ what number bound. tt)

    pub cuts_only : OnlyReads (names_in (upgrade_command job).reads) a d
    cuts_only = reads_on (named part.Record job.record_file ∷ []) (file_read begun reads map_file map_is) later

    pub pair_made : (record_file : RecordFile) → InFile job.record_file b d (λ bytes. AreFirstCuts bytes record_file) → (pair : Pair) → IsPairOf map_file record_file pair → IsPlanned (upgrade_command job) (pair_files job pair) (pair_summary pair) a d
    pair_made record_file cuts_are pair is = plan_made (file_read (file_read begun reads map_file map_is) later record_file cuts_are) pair is refl (_, _, refl)
