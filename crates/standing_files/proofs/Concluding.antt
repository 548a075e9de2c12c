-- The verdict on files whose records were judged as they were read.
use Rattle.std.proofs.Common.{◌≡◌, ◌∙◌, ◌∷◌, [], ℕ, List, inl, inr, refl, sym, subst}
use Rattle.std.proofs.lemmas.Bool.{ne_eqb}
use Rattle.std.specs.Prelude.{Result, Ok, Err}
use Rattle.shelf_traits.specs.Files.{OnlyReads, ShelfState}
use Rattle.shelf_traits.specs.declared.fault.ReadError.{ReadError}
use Rattle.file_bytes.specs.Reading.{Reading}
use Rattle.source_map.specs.Heads.{head_read}
use Rattle.source_map.specs.Readings.{Found}
use Rattle.cells.specs.declared.place.Size.{Size}
use Rattle.cells.specs.Cells.{sizes_of}
use Rattle.cells.specs.Firsts.{Each, IsFirstWithout}
use Rattle.cells.specs.Places.{cell_count}
use Rattle.map_canvas.specs.Maps.{SourceMap}
use Rattle.source_map.specs.declared.head.Head.{Head}
use Rattle.source_map.specs.declared.head.Version.{Version}
use Rattle.source_map.specs.declared.map_file.MapFile.{MapFile}
use Rattle.source_map.specs.declared.map_file.MapFile.TheVariants.{Cells as CellMap, Frames}
use Rattle.cut_check.specs.declared.record.CutRecord.{CutRecord}
use Rattle.block_check.specs.declared.block.BlockRecord.{BlockRecord}
use Rattle.cert_file.specs.declared.file.RecordFile.{RecordFile}
use Rattle.cert_file.specs.declared.file.RecordFile.TheVariants.{Blocks, Cuts, Walk}
use Rattle.cert_file.specs.RecordFiles.{ReadsRecordFile, ReadsToEnd, kinds as record_kinds, record_magic, records_read, versions}
use Rattle.cert_file.proofs.RecordReading.{then_to_end, whole_file}
use Rattle.cert_file.specs.WalkReading.{walk_file_read}
use Rattle.sample_files.specs.declared.form.Form.{Form}
use Rattle.sample_files.specs.declared.form.Form.TheVariants.{Clip, Picture}
use Rattle.sample_files.specs.declared.sample.Sample.{Sample}
use Rattle.sample_files.specs.declared.several.Samples.{Samples}
use Rattle.sample_files.specs.Samples.{AreSoundIn}
use Rattle.standing_files.specs.declared.verdict.Verdict.{Verdict}
use Rattle.standing_files.specs.declared.verdict.Verdict.TheVariants.{Stands, Fails}
use Rattle.standing_files.specs.AsRead.{FindsInBlocks, FindsInCuts, FindsInRecords, IsCanvasSize, IsOfColours, JudgesAfter, JudgesLeft, JudgesRecordFile, JudgesToEnd, LeavesEach, TriesTogether}
use Rattle.standing_files.specs.Standing.{AreKindsOfOneRun, GoTogether, IsBrokenBlock, IsBrokenCut, IsLeftAt, IsVerdict, LeaveAt, LeaveMap, RecordsStand, TakesForm, map_output}
use Rattle.standing_files.proofs.Judging.{block_colours}

-- Whether files go together doesn't depend on the records.

cut_kinds : (map_file : MapFile) (head : Head) (cuts others : List CutRecord) → AreKindsOfOneRun map_file (Cuts head cuts) → AreKindsOfOneRun map_file (Cuts head others)
cut_kinds (CellMap m samples version) head cuts others kinds = tt
cut_kinds (Frames size sample frames) head cuts others kinds = kinds

block_kinds : (map_file : MapFile) (head : Head) (blocks others : List BlockRecord) → AreKindsOfOneRun map_file (Blocks head blocks) → AreKindsOfOneRun map_file (Blocks head others)
block_kinds (CellMap m samples version) head blocks others kinds = tt
block_kinds (Frames size sample frames) head blocks others kinds = kinds

block_takes : (form : Form) (head : Head) (blocks others : List BlockRecord) → TakesForm (Blocks head blocks) form → TakesForm (Blocks head others) form
block_takes (Picture maxval) head blocks others takes = tt
block_takes (Clip form) head blocks others takes = takes

module _ (samples : Samples) (out : Sample) (map_file : MapFile) (head : Head) where
  cuts_together : (cuts others : List CutRecord) → GoTogether samples out map_file (Cuts head cuts) → GoTogether samples out map_file (Cuts head others)
  cuts_together cuts others go = record {
    map_sizes = go.map_sizes;
    record_file_sizes = go.record_file_sizes;
    form = go.form;
    takes = go.takes;
    kinds = cut_kinds map_file head cuts others go.kinds;
  }

  blocks_together : (blocks others : List BlockRecord) → GoTogether samples out map_file (Blocks head blocks) → GoTogether samples out map_file (Blocks head others)
  blocks_together blocks others go = record {
    map_sizes = go.map_sizes;
    record_file_sizes = go.record_file_sizes;
    form = go.form;
    takes = block_takes samples.form head blocks others go.takes;
    kinds = block_kinds map_file head blocks others go.kinds;
  }

-- the colours of files that go together
pub colours : (samples : Samples) (out : Sample) (map_file : MapFile) (none : RecordFile) (before : Verdict) → TriesTogether samples out map_file none before → AreSoundIn samples.form samples.volume → before ≡ Stands → IsOfColours none samples.volume
colours samples out map_file (Cuts head cuts) before tries sound is = tt
colours samples out map_file (Walk head taps gap walk tables) before tries sound is = tt
colours samples out map_file (Blocks head blocks) before tries sound is =
    let go = subst (λ v. TriesTogether samples out map_file (Blocks head blocks) v) is tries in
    block_colours head blocks samples.form samples.volume go.takes sound

-- what isn't of cuts or of blocks is of a walk
pub read_as_walk : (kind : ℕ) (head : Head) (place : ℕ) (bytes : List ℕ) → (kind ≡ 0 → ⊥) → (kind ≡ 1 → ⊥) → records_read kind head place bytes ≡ walk_file_read head place bytes
read_as_walk kind head place bytes no_cuts no_blocks = rw (ne_eqb kind 0 no_cuts, ne_eqb kind 1 no_blocks) refl

-- A file that is read from its head on is read whole.

module _ {names : List (List ℕ)} (name : List ℕ) (place : ℕ) (start : place ≡ 0) (a b c : ShelfState) (r : Reading) (head : Head) (kind : ℕ) (read : ℕ → List ℕ → Result RecordFile ReadError) (before : OnlyReads names a b) (after : OnlyReads names b c)
    (found : Found name place b r (head_read record_magic versions record_kinds) (head, kind)) (same : (at : ℕ) (bytes : List ℕ) → records_read kind head at bytes ≡ read at bytes) where
  pub whole_read : (result : Result RecordFile ReadError) → ReadsToEnd (Unit {0}) name r.at b c read result → ReadsRecordFile name a c result
  whole_read result answer =
      whole_file name a c result (then_to_end (Unit {0}) name 0 (head_read record_magic versions record_kinds) (λ head. records_read head.1 head.0) a b c r (head, kind) result before after
      (subst (λ place. Found name place b r (head_read record_magic versions record_kinds) (head, kind)) start found)
      (subst (λ (read : ℕ → List ℕ → Result RecordFile ReadError). ReadsToEnd (Unit {0}) name r.at b c read result) (λ i at bytes. sym (same at bytes) i) answer))

  pub whole_judged : (samples : Samples) (out : Sample) (map_file : MapFile) (result : Result Verdict ReadError) → JudgesToEnd (IsVerdict samples out map_file) name r.at b c read result → JudgesRecordFile samples out map_file name a c result
  whole_judged samples out map_file (Ok verdict) judged = (judged.0, whole_read (Ok judged.0) judged.1, judged.2)
  whole_judged samples out map_file (Err refusal) judged = whole_read (Err refusal) judged

-- Where the records stand, by what they leave.

module _ (samples : Samples) (out : Sample) (m : SourceMap) (sizes : List Size) (version : Version) (record_file : RecordFile) (go : GoTogether samples out (CellMap m sizes version) record_file) (stand : RecordsStand samples.volume m.size record_file) where
  abbrev of_cells : MapFile
  of_cells = CellMap m sizes version

  module _ (left : SourceMap) (each : LeavesEach left m → LeaveMap record_file of_cells) where
    by_what_is_left : ((place : ℕ) → IsFirstWithout (cell_count m.size) (IsLeftAt left m) place → IsFirstWithout (cell_count m.size) (LeaveAt record_file of_cells) place)
        → (answer : Verdict) → JudgesLeft samples.volume out.volume of_cells left answer → IsVerdict samples out of_cells record_file answer
    by_what_is_left first Stands is = record { together = go; records = stand; left = each is.0; copied = is.1 }
    by_what_is_left first (Fails number rule place) (inl is) = inr (inr (inl (record { whole = is.whole; together = go; records = stand; first = first place is.first })))
    by_what_is_left first (Fails number rule place) (inr is) = inr (inr (inr (record { whole = is.1.whole; together = go; records = stand; left = each is.0; first = is.1.first })))

module _ (samples : Samples) (out : Sample) (size : Size) (left : SourceMap) (answer : Verdict) where
  cuts_left : (map_file : MapFile) (head : Head) (none cuts : List CutRecord) (before : Verdict) → TriesTogether samples out map_file (Cuts head none) before → IsCanvasSize before map_file size
      → FindsInCuts samples.volume size before left cuts Stands → JudgesLeft samples.volume out.volume map_file left answer → IsVerdict samples out map_file (Cuts head cuts) answer
  cuts_left map_file head none cuts (Fails number rule place) tries sized found is = absurd (cc)
  cuts_left (Frames of_out of_sample frames) head none cuts Stands tries sized found is = absurd tries.kinds
  cuts_left (CellMap m sizes version) head none cuts Stands tries sized found is =
      let at_size = subst (λ size. FindsInCuts samples.volume size Stands left cuts Stands) sized found in
      by_what_is_left samples out m sizes version (Cuts head cuts) (cuts_together samples out (CellMap m sizes version) head none cuts tries) at_size.0 left
      (λ each. subst (λ left. Each (cell_count m.size) (IsLeftAt left m)) at_size.1 each)
      (λ place first. subst (λ left. IsFirstWithout (cell_count m.size) (IsLeftAt left m) place) at_size.1 first) answer is

  blocks_left : (map_file : MapFile) (head : Head) (none blocks : List BlockRecord) (before : Verdict) → TriesTogether samples out map_file (Blocks head none) before → IsCanvasSize before map_file size
      → FindsInBlocks samples.volume size before left blocks Stands → JudgesLeft samples.volume out.volume map_file left answer → IsVerdict samples out map_file (Blocks head blocks) answer
  blocks_left map_file head none blocks (Fails number rule place) tries sized found is = absurd (cc)
  blocks_left (Frames of_out of_sample frames) head none blocks Stands tries sized found is = absurd tries.kinds
  blocks_left (CellMap m sizes version) head none blocks Stands tries sized found is =
      let at_size = subst (λ size. FindsInBlocks samples.volume size Stands left blocks Stands) sized found in
      by_what_is_left samples out m sizes version (Blocks head blocks) (blocks_together samples out (CellMap m sizes version) head none blocks tries) at_size.0 left
      (λ each. subst (λ left. Each (cell_count m.size) (IsLeftAt left m)) at_size.1 each)
      (λ place first. subst (λ left. IsFirstWithout (cell_count m.size) (IsLeftAt left m) place) at_size.1 first) answer is

  -- records that stand
  pub concluded : (map_file : MapFile) (none record_file : RecordFile) (before : Verdict) → TriesTogether samples out map_file none before → IsCanvasSize before map_file size
      → FindsInRecords samples.volume size before left none record_file Stands → JudgesLeft samples.volume out.volume map_file left answer → IsVerdict samples out map_file record_file answer
  concluded map_file (Cuts head none) (Cuts top cuts) before tries sized found is =
      subst (λ head. IsVerdict samples out map_file (Cuts head cuts) answer) (sym found.0) (cuts_left map_file head none cuts before tries sized found.1 is)
  concluded map_file (Blocks head none) (Blocks top blocks) before tries sized found is =
      subst (λ head. IsVerdict samples out map_file (Blocks head blocks) answer) (sym found.0) (blocks_left map_file head none blocks before tries sized found.1 is)
  concluded map_file (Cuts head none) (Blocks top blocks) before tries sized found is = absurd found
  concluded map_file (Cuts head none) (Walk top taps gap walk tables) before tries sized found is = absurd found
  concluded map_file (Blocks head none) (Cuts top cuts) before tries sized found is = absurd found
  concluded map_file (Blocks head none) (Walk top taps gap walk tables) before tries sized found is = absurd found
  concluded map_file (Walk head taps gap walk tables) record_file before tries sized found is = absurd found

-- Where they don't, or the files don't go together.

module _ (samples : Samples) (out : Sample) (size : Size) (left : SourceMap) (number rule place : ℕ) where
  abbrev fault : Verdict
  fault = Fails number rule place

  cuts_fail : (map_file : MapFile) (head : Head) (none cuts : List CutRecord) (before : Verdict) → TriesTogether samples out map_file (Cuts head none) before → IsCanvasSize before map_file size
      → FindsInCuts samples.volume size before left cuts fault → IsVerdict samples out map_file (Cuts head cuts) fault
  cuts_fail map_file head none cuts (Fails n r p) tries sized found =
      let its = subst (λ v. TriesTogether samples out map_file (Cuts head none) v) (sym found) tries in
      inl (record { whole = its.whole; place_is = its.place_is; apart = λ go. its.apart (cuts_together samples out map_file head cuts none go) })
  cuts_fail (Frames of_out of_sample frames) head none cuts Stands tries sized found = absurd tries.kinds
  cuts_fail (CellMap m sizes version) head none cuts Stands tries sized found =
      inr (inl (record { together = cuts_together samples out (CellMap m sizes version) head none cuts tries; broken = subst (λ size. IsBrokenCut samples.volume size cuts number rule place) sized found }))

  blocks_fail : (map_file : MapFile) (head : Head) (none blocks : List BlockRecord) (before : Verdict) → TriesTogether samples out map_file (Blocks head none) before → IsCanvasSize before map_file size
      → FindsInBlocks samples.volume size before left blocks fault → IsVerdict samples out map_file (Blocks head blocks) fault
  blocks_fail map_file head none blocks (Fails n r p) tries sized found =
      let its = subst (λ v. TriesTogether samples out map_file (Blocks head none) v) (sym found) tries in
      inl (record { whole = its.whole; place_is = its.place_is; apart = λ go. its.apart (blocks_together samples out map_file head blocks none go) })
  blocks_fail (Frames of_out of_sample frames) head none blocks Stands tries sized found = absurd tries.kinds
  blocks_fail (CellMap m sizes version) head none blocks Stands tries sized found =
      inr (inl (record { together = blocks_together samples out (CellMap m sizes version) head none blocks tries; broken = subst (λ size. IsBrokenBlock samples.volume size blocks number rule place) sized found }))

  fails : (map_file : MapFile) (none record_file : RecordFile) (before : Verdict) → TriesTogether samples out map_file none before → IsCanvasSize before map_file size
      → FindsInRecords samples.volume size before left none record_file fault → IsVerdict samples out map_file record_file fault
  fails map_file (Cuts head none) (Cuts top cuts) before tries sized found =
      subst (λ head. IsVerdict samples out map_file (Cuts head cuts) fault) (sym found.0) (cuts_fail map_file head none cuts before tries sized found.1)
  fails map_file (Blocks head none) (Blocks top blocks) before tries sized found =
      subst (λ head. IsVerdict samples out map_file (Blocks head blocks) fault) (sym found.0) (blocks_fail map_file head none blocks before tries sized found.1)
  fails map_file (Cuts head none) (Blocks top blocks) before tries sized found = absurd found
  fails map_file (Cuts head none) (Walk top taps gap walk tables) before tries sized found = absurd found
  fails map_file (Blocks head none) (Cuts top cuts) before tries sized found = absurd found
  fails map_file (Blocks head none) (Walk top taps gap walk tables) before tries sized found = absurd found
  fails map_file (Walk head taps gap walk tables) record_file before tries sized found = absurd found

-- what is concluded from what was found in the records
pub after : (samples : Samples) (out : Sample) (size : Size) (left : SourceMap) (map_file : MapFile) (none record_file : RecordFile) (before found verdict : Verdict) → TriesTogether samples out map_file none before
    → IsCanvasSize before map_file size → FindsInRecords samples.volume size before left none record_file found → JudgesAfter found samples.volume out.volume map_file left verdict → IsVerdict samples out map_file record_file verdict
after samples out size left map_file none record_file before Stands verdict tries sized found is = concluded samples out size left verdict map_file none record_file before tries sized found is
after samples out size left map_file none record_file before (Fails number rule place) verdict tries sized found is =
    subst (λ v. IsVerdict samples out map_file record_file v) (sym is) (fails samples out size left number rule place map_file none record_file before tries sized found)

-- records of files that don't go together aren't found to stand
pub went : (samples : Samples) (out : Sample) (size : Size) (left : SourceMap) (map_file : MapFile) (none record_file : RecordFile) (before found : Verdict) → TriesTogether samples out map_file none before
    → FindsInRecords samples.volume size before left none record_file found → found ≡ Stands → sizes_of out.volume ≡ map_output map_file ∷ []
went samples out size left map_file none record_file Stands found tries finds is = tries.map_sizes.output_is
went samples out size left map_file (Cuts head none) (Cuts top cuts) (Fails n r p) found tries finds is = absurd (cc (sym finds.1 ∙ is))
went samples out size left map_file (Blocks head none) (Blocks top blocks) (Fails n r p) found tries finds is = absurd (cc (sym finds.1 ∙ is))
went samples out size left map_file (Cuts head none) (Blocks top blocks) (Fails n r p) found tries finds is = absurd finds
went samples out size left map_file (Cuts head none) (Walk top taps gap walk tables) (Fails n r p) found tries finds is = absurd finds
went samples out size left map_file (Blocks head none) (Cuts top cuts) (Fails n r p) found tries finds is = absurd finds
went samples out size left map_file (Blocks head none) (Walk top taps gap walk tables) (Fails n r p) found tries finds is = absurd finds
went samples out size left map_file (Walk head taps gap walk tables) record_file (Fails n r p) found tries finds is = absurd finds
