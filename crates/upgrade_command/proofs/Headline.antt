-- What holds when `upgrade` is done.
use Rattle.std.proofs.Common.{◌≡◌, ◌≢◌, ℕ, ◌<◌, List, [], ◌∷◌, length, get_or, refl, sym, ap, ◌∙◌, subst, arith, false}
use Rattle.std.specs.Prelude.{Result, Ok, unwrap_or}
use Rattle.std.specs.FinMap.{get, insert}
use Rattle.cells.specs.declared.place.Size.{Size}
use Rattle.shelf_traits.specs.Files.{Files, ShelfState, SinkState, Changes, content_of}
use Rattle.shelf_traits.specs.declared.fault.ReadError.{ReadError}
use Rattle.shelf_traits.specs.Written.{written}
use Rattle.shelf_traits.proofs.FileLaws.{content_beside, content_inserted, get_beside, told_weaker}
use Rattle.map_canvas.specs.Maps.{SourceMap}
use Rattle.source_map.specs.declared.head.Head.{Head}
use Rattle.source_map.specs.declared.head.Version.{Version}
use Rattle.source_map.specs.declared.head.Version.TheVariants.{One, Two}
use Rattle.source_map.specs.declared.map_file.MapFile.{MapFile}
use Rattle.source_map.specs.declared.map_file.MapFile.TheVariants.{Cells as CellMap}
use Rattle.source_map.specs.MapFiles.{cell_map_form, map_read}
use Rattle.source_map.proofs.VersionOne as maps
use Rattle.cut_check.specs.declared.record.CutRecord.{CutRecord}
use Rattle.cert_file.specs.declared.file.RecordFile.{RecordFile}
use Rattle.cert_file.specs.declared.file.RecordFile.TheVariants.{Cuts}
use Rattle.cert_file.specs.RecordFiles.{AreVersionOneCuts, IsRecordFileOf, record_file_read, cuts_form}
use Rattle.cert_file.proofs.VersionOne as records
use Rattle.job_words.specs.declared.job.Names.{Names}
use Rattle.job_words.specs.declared.upgrade.UpgradeJob.{UpgradeJob}
use Rattle.job_words.specs.UpgradeWords.{IsUpgradeJob, upgrade_names}
use Rattle.synth_report.specs.declared.summary.Summary.{Summary}
use Rattle.synth_report.specs.declared.summary.Summary.TheVariants.{Upgrade}
use Rattle.command.specs.Outcomes.{WritesAll}
use Rattle.command.specs.Writing.{Reported, pieces, texts_in}
use Rattle.standing_files.specs.declared.verdict.Verdict.{Verdict}
use Rattle.standing_files.specs.declared.verdict.Verdict.TheVariants.{Stands, Fails}
use Rattle.standing_files.specs.Standing.{IsVerdict}
use Rattle.standing_files.proofs.Versions.{any_versions}
use Rattle.check_command.specs.Checks.{AreRunFiles, Break, ReadFiles, Stand}
use Rattle.upgrade_command.specs.declared.pair.Pair.{Pair}
use Rattle.upgrade_command.specs.Upgrades.{AreFirstCuts, IsFirstMap, IsSoundPair, IsUpgradeSummary, in_version_two, pair_files, pair_summary, upgrade_command}
use Rattle.upgrade_command.specs.Upgraded.{HaveOneVerdict, IsUpgraded, with_pair}
use Rattle.upgrade_command.proofs.Ready.{cuts_read_again, map_again}

same_value : {T : Type 0} (r : Result T ReadError) (x y : T) → r ≡ Ok x → r ≡ Ok y → x ≡ y
same_value r x y p q = let both : Ok x ≡ Ok y = sym p ∙ q in cc

-- The verdict on one pair is that on the same pair in other versions.

module _ (files : Files) (map record_file other_map other_record_file : List ℕ) (m : SourceMap) (sizes : List Size) (version other : Version) (head : Head) (of_record_file : Version) (cuts : List CutRecord)
    (map_is : map_read (content_of files map) ≡ Ok (CellMap m sizes version)) (other_map_is : map_read (content_of files other_map) ≡ Ok (CellMap m sizes other))
    (record_file_is : IsRecordFileOf (content_of files record_file) (Cuts head cuts)) (other_record_file_is : IsRecordFileOf (content_of files other_record_file) (Cuts (record head { version = of_record_file }) cuts)) where
  moved : (names : Names) (values : ReadFiles) → AreRunFiles false (with_pair names map record_file) files values → (verdict : Verdict) → IsVerdict values.samples values.out values.map values.record_file verdict
      → (there : ReadFiles) × AreRunFiles false (with_pair names other_map other_record_file) files there × IsVerdict there.samples there.out there.map there.record_file verdict
  moved names values read verdict judged =
      let map_same : values.map ≡ CellMap m sizes version = same_value {T = MapFile} (map_read (content_of files map)) values.map (CellMap m sizes version) read.map map_is in
      let record_file_same : values.record_file ≡ Cuts head cuts = same_value {T = RecordFile} (record_file_read (content_of files record_file)) values.record_file (Cuts head cuts) read.record_file record_file_is in
      let here = subst (λ c. IsVerdict values.samples values.out (CellMap m sizes version) c verdict) record_file_same (subst (λ v. IsVerdict values.samples values.out v values.record_file verdict) map_same judged) in
      let there : ReadFiles = record { samples = values.samples; out = values.out; map = CellMap m sizes other; record_file = Cuts (record head { version = of_record_file }) cuts } in
      (there, record { samples = record { samples = read.samples.samples; stand = read.samples.stand; is = read.samples.is }; out = read.out; map = other_map_is; record_file = other_record_file_is }, any_versions values.samples values.out m sizes version head cuts verdict other of_record_file here)

  pub stands_too : (names : Names) → Stand false (with_pair names map record_file) files → Stand false (with_pair names other_map other_record_file) files
  stands_too names s = let there = moved names s.values s.read Stands s.stand in record { values = there.0; read = there.1; stand = there.2 }

  pub breaks_too : (names : Names) (number rule place : ℕ) → Break false (with_pair names map record_file) files number rule place → Break false (with_pair names other_map other_record_file) files number rule place
  breaks_too names number rule place b = let there = moved names b.values b.read (Fails number rule place) b.broken in record { values = there.0; read = there.1; broken = there.2 }

-- one size alone
one_size : (sizes : List Size) → length sizes ≡ 1 → (size : Size) × (sizes ≡ size ∷ [])
one_size [] e = absurd (omega (arith, e))
one_size (size ∷ []) e = (size, refl)
one_size (size ∷ next ∷ more) e = absurd (omega (arith, e))

-- What is written.

module _ (job : UpgradeJob) (lawful : IsUpgradeJob job) (before after : Files) (pair : Pair) (sound : IsSoundPair pair)
    (map_is : IsFirstMap (content_of before job.map) (CellMap pair.map pair.samples One)) (cuts_are : AreFirstCuts (content_of before job.record_file) (Cuts pair.head pair.cuts))
    (whole : after ≡ written (pieces (upgrade_command job).writes (texts_in (pair_files job pair))) before) where
  abbrev map_text : List ℕ
  map_text = cell_map_form pair.map pair.samples Two

  abbrev cuts_text : List ℕ
  cuts_text = cuts_form (in_version_two pair.head) pair.cuts

  abbrev with_map : Files
  with_map = insert before job.new_map map_text

  apart : (i j : ℕ) → i < j → j < 4 → get_or (upgrade_names job) i [] ≢ get_or (upgrade_names job) j []
  apart i j lt below = lawful.names.apart i j [] lt (omega (arith, below))

  map_not_map : job.map ≢ job.new_map
  map_not_map = apart 0 2 (omega arith) (omega arith)

  map_not_record_file : job.map ≢ job.new_record_file
  map_not_record_file = apart 0 3 (omega arith) (omega arith)

  record_file_not_map : job.record_file ≢ job.new_map
  record_file_not_map = apart 1 2 (omega arith) (omega arith)

  record_file_not_record_file : job.record_file ≢ job.new_record_file
  record_file_not_record_file = apart 1 3 (omega arith) (omega arith)

  new_names : job.new_map ≢ job.new_record_file
  new_names = apart 2 3 (omega arith) (omega arith)

  stays : (name : List ℕ) → name ≢ job.new_map → name ≢ job.new_record_file → get after name ≡ get before name
  stays name not_map not_record_file = ap (λ files. get files name) whole ∙ get_beside with_map job.new_record_file cuts_text name not_record_file ∙ get_beside before job.new_map map_text name not_map

  as_before : (name : List ℕ) → name ≢ job.new_map → name ≢ job.new_record_file → content_of after name ≡ content_of before name
  as_before name not_map not_record_file = ap (λ o. unwrap_or o []) (stays name not_map not_record_file)

  new_map : content_of after job.new_map ≡ map_text
  new_map = ap (λ files. content_of files job.new_map) whole ∙ content_beside with_map job.new_record_file cuts_text job.new_map new_names ∙ content_inserted before job.new_map map_text

  new_record_file : content_of after job.new_record_file ≡ cuts_text
  new_record_file = ap (λ files. content_of files job.new_record_file) whole ∙ content_inserted with_map job.new_record_file cuts_text

  old_map_read : map_read (content_of before job.map) ≡ Ok (CellMap pair.map pair.samples One)
  old_map_read = maps.version_one_is_read (content_of before job.map) (CellMap pair.map pair.samples One) map_is

  new_map_read : map_read (content_of after job.new_map) ≡ Ok (CellMap pair.map pair.samples Two)
  new_map_read = ap map_read new_map ∙ map_again pair sound

  old_cuts : IsRecordFileOf (content_of before job.record_file) (Cuts pair.head pair.cuts) × AreVersionOneCuts (Cuts pair.head pair.cuts)
  old_cuts = records.version_one_is_read (content_of before job.record_file) (Cuts pair.head pair.cuts) cuts_are

  new_cuts_read : IsRecordFileOf (content_of after job.new_record_file) (Cuts (in_version_two pair.head) pair.cuts)
  new_cuts_read = ap record_file_read new_record_file ∙ cuts_read_again pair sound

  old_map_stays : map_read (content_of after job.map) ≡ Ok (CellMap pair.map pair.samples One)
  old_map_stays = ap map_read (as_before job.map map_not_map map_not_record_file) ∙ old_map_read

  old_cuts_stay : IsRecordFileOf (content_of after job.record_file) (Cuts pair.head pair.cuts)
  old_cuts_stay = ap record_file_read (as_before job.record_file record_file_not_map record_file_not_record_file) ∙ old_cuts.0

  verdicts : HaveOneVerdict after job.map job.record_file job.new_map job.new_record_file
  verdicts = record {
    stands = stands_too after job.map job.record_file job.new_map job.new_record_file pair.map pair.samples One Two pair.head Two pair.cuts old_map_stays new_map_read old_cuts_stay new_cuts_read;
    stood = stands_too after job.new_map job.new_record_file job.map job.record_file pair.map pair.samples Two One (in_version_two pair.head) pair.head.version pair.cuts new_map_read old_map_stays new_cuts_read old_cuts_stay;
    breaks = breaks_too after job.map job.record_file job.new_map job.new_record_file pair.map pair.samples One Two pair.head Two pair.cuts old_map_stays new_map_read old_cuts_stay new_cuts_read;
    broken = breaks_too after job.new_map job.new_record_file job.map job.record_file pair.map pair.samples Two One (in_version_two pair.head) pair.head.version pair.cuts new_map_read old_map_stays new_cuts_read old_cuts_stay;
  }

  pair_upgraded : (cells count : ℕ) → Upgrade cells count ≡ pair_summary pair → IsUpgraded job cells count before after
  pair_upgraded cells count is =
      let one = one_size pair.samples (sound.map_is.1.samples_are.one refl) in
      let numbers : Upgrade cells count ≡ Upgrade _ _ = is in
      record {
        map = pair.map;
        sample = one.0;
        maps = record {
          read = subst (λ sizes. map_read (content_of before job.map) ≡ Ok (CellMap pair.map sizes One)) one.1 old_map_read;
          written = subst (λ sizes. content_of after job.new_map ≡ cell_map_form pair.map sizes Two) one.1 new_map;
          read_again = subst (λ sizes. map_read (content_of after job.new_map) ≡ Ok (CellMap pair.map sizes Two)) one.1 new_map_read;
        };
        cells_are = cc;
        head = pair.head;
        cuts = pair.cuts;
        records = record { version = old_cuts.1; read = old_cuts.0; written = new_record_file; read_again = new_cuts_read };
        count_is = cc;
        map_stays = stays job.map map_not_map map_not_record_file;
        record_stays = stays job.record_file record_file_not_map record_file_not_record_file;
        others = stays;
        verdicts = verdicts;
      }

pub upgraded : (job : UpgradeJob) → IsUpgradeJob job → (cells count : ℕ) (before after : Files) → WritesAll (upgrade_command job) (Upgrade cells count) before after → IsUpgraded job cells count before after
upgraded job lawful cells count before after (texts, (map_file, of_map, (record_file, of_record_file, (pair, is, texts_are, summary_is))), wrote) =
    pair_upgraded job lawful before after pair is.sound (subst (IsFirstMap (content_of before job.map)) is.map_is of_map) (subst (AreFirstCuts (content_of before job.record_file)) is.cuts_are of_record_file)
    (wrote ∙ ap (λ ts. written (pieces (upgrade_command job).writes ts) before) texts_are) cells count summary_is

-- of a run that is finished, by what its summary may be
pub finished : (job : UpgradeJob) → IsUpgradeJob job → (said : Summary) → IsUpgradeSummary said → (was now : ShelfState) (out out' : SinkState) → Changes was now (WritesAll (upgrade_command job) said) → Reported said out out'
    → (cells : ℕ) × (count : ℕ) × Reported (Upgrade cells count) out out' × Changes was now (IsUpgraded job cells count)
finished job lawful said (cells, count, is) was now out out' files told = (
  cells,
  count,
  subst (λ s. Reported s out out') is told,
  told_weaker (WritesAll (upgrade_command job) (Upgrade cells count)) (IsUpgraded job cells count) was.files now.files (upgraded job lawful cells count)
      (subst (λ s. Changes was now (WritesAll (upgrade_command job) s)) is files),
)
