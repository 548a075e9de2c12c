-- A reader has to trust the first word of this file: what is answered of a record file that is
-- judged as it is read. The others are words of private functions. (Own.)
use Rattle.std.specs.Prelude.{◌≡◌, ◌⊎◌, ◌+◌, ℕ, List, [], Result, Ok, Err}
use Rattle.shelf_traits.specs.Files.{ShelfState}
use Rattle.shelf_traits.specs.declared.fault.ReadError.{ReadError}
use Rattle.cells.specs.declared.place.Size.{Size}
use Rattle.cells.specs.Cells.{Cells}
use Rattle.cells.specs.Places.{cell_count}
use Rattle.cells.specs.Firsts.{Each, IsFirstWithout}
use Rattle.map_canvas.specs.Choices.{map_after}
use Rattle.map_canvas.specs.Maps.{SourceMap, empty_map}
use Rattle.source_map.specs.declared.head.Head.{Head}
use Rattle.source_map.specs.declared.map_file.MapFile.{MapFile}
use Rattle.source_map.specs.declared.map_file.MapFile.TheVariants.{Cells as CellMap, Frames}
use Rattle.cut_check.specs.declared.record.CutFault.{CutFault}
use Rattle.cut_check.specs.declared.record.CutRecord.{CutRecord}
use Rattle.cut_check.specs.Records.{CutStands, IsFirstCutFault, setting}
use Rattle.cut_replay.specs.Replay.{EachStands, left_by}
use Rattle.strip_boundary.specs.declared.check.BlockFault.{BlockFault}
use Rattle.block_check.specs.declared.block.BlockRecord.{BlockRecord}
use Rattle.block_check.specs.Blocks.{after_block}
use Rattle.block_check.specs.Records.{BlockStands, IsFirstBlockFault}
use Rattle.block_check.specs.Several.{EachBlockStands, left_by_blocks}
use Rattle.cert_file.specs.declared.file.RecordFile.{RecordFile}
use Rattle.cert_file.specs.declared.file.RecordFile.TheVariants.{Blocks, Cuts, Walk}
use Rattle.cert_file.specs.RecordFiles.{ReadsRecordFile, ReadsToEnd, blocks_file_read, cuts_file_read}
use Rattle.cert_file.specs.WalkReading.{walk_file_read}
use Rattle.sample_files.specs.declared.sample.Sample.{Sample}
use Rattle.sample_files.specs.declared.several.Samples.{Samples}
use Rattle.standing_files.specs.declared.verdict.TheConstants.{MAP_RULE, PICTURE_RULE}
use Rattle.standing_files.specs.declared.verdict.Verdict.{Verdict}
use Rattle.standing_files.specs.declared.verdict.Verdict.TheVariants.{Stands, Fails}
use Rattle.standing_files.specs.Standing.{AllCopied, BreaksTogether, GoTogether, IsBrokenBlock, IsBrokenCut, IsCopiedAt, IsLeftAt, IsVerdict, IsWholeRule, map_output}

-- what is answered of the record file of this name, beside samples, out picture and map file: the
-- verdict on the records that its bytes represent, or what a reader of it answers otherwise
abbrev pub JudgesRecordFile : Samples → Sample → MapFile → List ℕ → ShelfState → ShelfState
    → Result Verdict ReadError → Type 0
JudgesRecordFile samples out map_file name was now (Ok verdict) =
    (record_file : RecordFile) × ReadsRecordFile name was now (Ok record_file)
    × IsVerdict samples out map_file record_file verdict
JudgesRecordFile samples out map_file name was now (Err refusal) =
    ReadsRecordFile name was now (Err refusal)

-- the same of what is read from a place to the end of the file
abbrev pub JudgesToEnd : (RecordFile → Verdict → Type 0) → List ℕ → ℕ → ShelfState → ShelfState
    → (ℕ → List ℕ → Result RecordFile ReadError) → Result Verdict ReadError → Type 0
JudgesToEnd IsJudged name place was now read (Ok verdict) =
    (record_file : RecordFile) × ReadsToEnd (Unit {0}) name place was now read (Ok record_file)
    × IsJudged record_file verdict
JudgesToEnd IsJudged name place was now read (Err refusal) =
    ReadsToEnd (Unit {0}) name place was now read (Err refusal)

-- this is the fault of a record after so many others
pub record IsFaultAfter (i kind fault_place number rule place : ℕ) : Type 0 where
  pub number_is : number ≡ i + 1
  pub rule_is : rule ≡ kind
  pub place_is : place ≡ fault_place

-- what is found of a cut record after so many others, where it is judged: nothing if a rule was
-- broken before, else that it stands over a map and leaves another, or its first fault
abbrev pub FindsInCut : Cells → SourceMap → ℕ → Verdict → SourceMap → CutRecord → Verdict → Type 0
FindsInCut samples was i (Fails number rule place) left cut verdict =
    verdict ≡ Fails number rule place
FindsInCut samples was i Stands left cut Stands =
    CutStands (setting was samples []) cut
    × (left ≡ map_after was cut.placement cut.choice)
FindsInCut samples was i Stands left cut (Fails number rule place) =
    (fault : CutFault) × IsFirstCutFault (setting was samples []) cut fault
    × IsFaultAfter i fault.kind fault.place number rule place

-- the same of a block record
abbrev pub FindsInBlock : Cells → SourceMap → ℕ → Verdict → SourceMap → BlockRecord → Verdict
    → Type 0
FindsInBlock sample was i (Fails number rule place) left block verdict =
    verdict ≡ Fails number rule place
FindsInBlock sample was i Stands left block Stands =
    BlockStands was sample block × (left ≡ after_block was block)
FindsInBlock sample was i Stands left block (Fails number rule place) =
    (fault : BlockFault) × IsFirstBlockFault was sample block fault
    × IsFaultAfter i fault.kind fault.place number rule place

-- and of records over an output of this size, from its empty map on
abbrev pub FindsInCuts : Cells → Size → Verdict → SourceMap → List CutRecord → Verdict → Type 0
FindsInCuts samples size (Fails number rule place) left cuts verdict =
    verdict ≡ Fails number rule place
FindsInCuts samples size Stands left cuts Stands =
    EachStands samples (empty_map size) cuts × (left ≡ left_by (empty_map size) cuts)
FindsInCuts samples size Stands left cuts (Fails number rule place) =
    IsBrokenCut samples size cuts number rule place

abbrev pub FindsInBlocks : Cells → Size → Verdict → SourceMap → List BlockRecord → Verdict → Type 0
FindsInBlocks sample size (Fails number rule place) left blocks verdict =
    verdict ≡ Fails number rule place
FindsInBlocks sample size Stands left blocks Stands =
    EachBlockStands sample (empty_map size) blocks
    × (left ≡ left_by_blocks (empty_map size) blocks)
FindsInBlocks sample size Stands left blocks (Fails number rule place) =
    IsBrokenBlock sample size blocks number rule place

-- and of the records of a file with this head
abbrev pub FindsInCutFile : Cells → Size → Verdict → SourceMap → Head → RecordFile → Verdict
    → Type 0
FindsInCutFile samples size before left head (Cuts top cuts) verdict =
    (top ≡ head) × FindsInCuts samples size before left cuts verdict
FindsInCutFile samples size before left head record_file verdict = ⊥

abbrev pub FindsInBlockFile : Cells → Size → Verdict → SourceMap → Head → RecordFile → Verdict
    → Type 0
FindsInBlockFile samples size before left head (Blocks top blocks) verdict =
    (top ≡ head) × FindsInBlocks samples size before left blocks verdict
FindsInBlockFile samples size before left head record_file verdict = ⊥

-- and of those of a file with the head and kind of another
abbrev pub FindsInRecords : Cells → Size → Verdict → SourceMap → RecordFile → RecordFile → Verdict
    → Type 0
FindsInRecords samples size before left (Cuts head none) =
    FindsInCutFile samples size before left head
FindsInRecords samples size before left (Blocks head none) =
    FindsInBlockFile samples size before left head
FindsInRecords samples size before left (Walk head taps gap walk tables) =
    λ record_file verdict. ⊥

-- how the records of a file with the head and kind of another are read, from after the head to the
-- end
abbrev pub read_as : RecordFile → ℕ → List ℕ → Result RecordFile ReadError
read_as (Cuts head cuts) = cuts_file_read head
read_as (Blocks head blocks) = blocks_file_read head
read_as (Walk head taps gap walk tables) = walk_file_read head

-- it isn't a file of a walk
abbrev pub LeavesCells : RecordFile → Type 0
LeavesCells (Walk head taps gap walk tables) = ⊥
LeavesCells record_file = Unit {0}

-- the samples of a cell are those of a picture, where the records are of blocks
abbrev pub IsOfColours : RecordFile → Cells → Type 0
IsOfColours (Blocks head blocks) samples = samples.k ≡ 3
IsOfColours record_file samples = Unit {0}

-- what rule 15 says of files
abbrev pub TriesTogether : Samples → Sample → MapFile → RecordFile → Verdict → Type 0
TriesTogether samples out map_file record_file Stands = GoTogether samples out map_file record_file
TriesTogether samples out map_file record_file (Fails number rule place) =
    BreaksTogether samples out map_file record_file number rule place

-- the size of a canvas for records: that of a map of cells, where files go together
abbrev pub IsCanvasSize : Verdict → MapFile → Size → Type 0
IsCanvasSize Stands (CellMap m samples version) size = size ≡ m.size
IsCanvasSize before map_file size = Unit {0}

-- the first cell of a map that is left with another source
pub record LeavesOther (left m : SourceMap) (number rule place : ℕ) : Type 0 where
  pub whole : IsWholeRule number rule MAP_RULE
  pub first : IsFirstWithout (cell_count m.size) (IsLeftAt left m) place

-- each cell of a map is left with its source
abbrev pub LeavesEach : SourceMap → SourceMap → Type 0
LeavesEach left m = Each (cell_count m.size) (IsLeftAt left m)

-- a cell of the picture is the first that isn't copied
pub record CopiesOther (samples picture : Cells) (map_file : MapFile) (number rule place : ℕ)
    : Type 0 where
  pub whole : IsWholeRule number rule PICTURE_RULE
  pub first : IsFirstWithout (cell_count (map_output map_file))
      (IsCopiedAt samples picture map_file) place

-- what rule 17 says of a picture
abbrev pub JudgesPicture : Cells → Cells → MapFile → Verdict → Type 0
JudgesPicture samples picture map_file Stands = AllCopied samples picture map_file
JudgesPicture samples picture map_file (Fails number rule place) =
    CopiesOther samples picture map_file number rule place

-- what rules 16 and 17 say of a map of cells and a picture, where records leave this map
abbrev pub JudgesLeft : Cells → Cells → MapFile → SourceMap → Verdict → Type 0
JudgesLeft samples picture (Frames size sample frames) left verdict = Unit {0}
JudgesLeft samples picture (CellMap m sizes version) left Stands =
    LeavesEach left m × AllCopied samples picture (CellMap m sizes version)
JudgesLeft samples picture (CellMap m sizes version) left (Fails number rule place) =
    LeavesOther left m number rule place
    ⊎ (LeavesEach left m
    × CopiesOther samples picture (CellMap m sizes version) number rule place)

-- the same after records in which this was found
abbrev pub JudgesAfter : Verdict → Cells → Cells → MapFile → SourceMap → Verdict → Type 0
JudgesAfter Stands samples picture map_file left verdict =
    JudgesLeft samples picture map_file left verdict
JudgesAfter (Fails number rule place) samples picture map_file left verdict =
    verdict ≡ Fails number rule place
