-- A reader has to trust this file. Whether samples, an out picture, a map file and a record file
-- belong to one run and stand, and else the first rule that they break. (Own.)
use Rattle.std.specs.Prelude.{◌≡◌, ◌⊎◌, ◌+◌, ℕ, true, List, [], ◌∷◌, length, Option, Some, slice_get}
use Rattle.cells.specs.declared.place.At.{At}
use Rattle.cells.specs.declared.place.Size.{Size}
use Rattle.cells.specs.declared.place.Taps.{Taps}
use Rattle.cells.specs.Cells.{Cells, IsOnePart, cell_at, sizes_of}
use Rattle.cells.specs.Places.{IsInside, cell_count, place_of}
use Rattle.cells.specs.Firsts.{Each, IsFirstWithout}
use Rattle.map_canvas.specs.Maps.{SourceMap, IsFull, IsMap, empty_map, map_at}
use Rattle.source_map.specs.declared.head.Head.{Head}
use Rattle.source_map.specs.declared.head.Version.{Version}
use Rattle.source_map.specs.declared.map_file.MapFile.{MapFile}
use Rattle.source_map.specs.declared.map_file.MapFile.TheVariants.{Cells as CellMap, Frames}
use Rattle.source_map.specs.MapFiles.{frame_source}
use Rattle.cut_check.specs.declared.record.CutRecord.{CutRecord}
use Rattle.cut_replay.specs.declared.records.Broken.{Broken}
use Rattle.cut_replay.specs.Replay.{EachLeast, EachStands, IsFirstBroken, left_by}
use Rattle.block_check.specs.declared.block.BlockRecord.{BlockRecord}
use Rattle.block_check.specs.Several.{BrokenBlock, EachBlockIsLeast, EachBlockStands, IsFirstBrokenBlock, left_by_blocks}
use Rattle.frame_distance.specs.Steps.{Steps, steps_of}
use Rattle.frame_distance.specs.Tables.{distances_of}
use Rattle.loop_walk.specs.declared.fault.LoopFault.{LoopFault}
use Rattle.loop_walk.specs.Records.{IsFirstLoopFault, WalkStands}
use Rattle.loop_walk.specs.Tables.{entry_count}
use Rattle.loop_walk.specs.Walks.{IsLeastWalk}
use Rattle.cert_file.specs.declared.file.RecordFile.{RecordFile}
use Rattle.cert_file.specs.declared.file.RecordFile.TheVariants.{Blocks, Cuts, Walk}
use Rattle.sample_files.specs.declared.form.Form.{Form}
use Rattle.sample_files.specs.declared.form.Form.TheVariants.{Clip, Picture}
use Rattle.sample_files.specs.declared.sample.Sample.{Sample}
use Rattle.sample_files.specs.declared.several.Samples.{Samples}
use Rattle.sample_files.specs.Samples.{goes_with}
use Rattle.standing_files.specs.declared.verdict.TheConstants.{TOGETHER_RULE, MAP_RULE, PICTURE_RULE}
use Rattle.standing_files.specs.declared.verdict.Verdict.{Verdict}
use Rattle.standing_files.specs.declared.verdict.Verdict.TheVariants.{Stands, Fails}

-- What the files name.

-- the size of the output, and the sizes of the samples, that a map file names
abbrev pub map_output : MapFile → Size
map_output (CellMap m samples version) = m.size
map_output (Frames size sample frames) = size

abbrev pub map_samples : MapFile → List Size
map_samples (CellMap m samples version) = samples
map_samples (Frames size sample frames) = sample ∷ []

-- the head of a record file
abbrev pub record_file_head : RecordFile → Head
record_file_head (Cuts head cuts) = head
record_file_head (Blocks head blocks) = head
record_file_head (Walk head taps gap walk tables) = head

-- how many entries a map file has: one for each cell, or for each frame
abbrev pub map_entries : MapFile → ℕ
map_entries (CellMap m samples version) = cell_count m.size
map_entries (Frames size sample frames) = size.f

-- the source that a map file names for a cell
abbrev pub named_source : MapFile → At → Option At
named_source (CellMap m samples version) p = map_at m p
named_source (Frames size sample frames) p = frame_source frames p

-- Rule 15: the files go together.

-- a file names the sizes that the samples and the out picture have, those of the samples in order
pub record NamesSizes (samples out : List Size) (output : Size) (named : List Size) : Type 0 where
  pub output_is : out ≡ output ∷ []
  pub samples_are : samples ≡ named

-- the kinds of a map file and a record file go together: records of cuts or of blocks leave a map
-- of cells, and the record of a walk one of frames, as many as the output has
abbrev pub AreKindsOfOneRun : MapFile → RecordFile → Type 0
AreKindsOfOneRun (CellMap m samples version) (Cuts head cuts) = Unit {0}
AreKindsOfOneRun (CellMap m samples version) (Blocks head blocks) = Unit {0}
AreKindsOfOneRun (CellMap m samples version) (Walk head taps gap walk tables) = ⊥
AreKindsOfOneRun (Frames size sample frames) (Cuts head cuts) = ⊥
AreKindsOfOneRun (Frames size sample frames) (Blocks head blocks) = ⊥
AreKindsOfOneRun (Frames size sample frames) (Walk head taps gap walk tables) =
    length walk ≡ size.f

-- a record file goes with samples of this form: block records with pictures alone
abbrev pub TakesForm : RecordFile → Form → Type 0
TakesForm (Blocks head blocks) (Clip form) = ⊥
TakesForm record_file form = Unit {0}

-- map file and record file name the sizes of the pictures, the out picture's form goes with that of
-- the first sample and that with the record file, and the kinds go together
pub record GoTogether (samples : Samples) (out : Sample)
    (map_file : MapFile) (record_file : RecordFile) : Type 0 where
  pub map_sizes : NamesSizes (sizes_of samples.volume) (sizes_of out.volume)
      (map_output map_file) (map_samples map_file)
  pub record_file_sizes : NamesSizes (sizes_of samples.volume) (sizes_of out.volume)
      (record_file_head record_file).output (record_file_head record_file).samples
  pub form : goes_with samples.form out.form ≡ true
  pub takes : TakesForm record_file samples.form
  pub kinds : AreKindsOfOneRun map_file record_file

-- The rules of each record.

-- the costs of steps that a filter and a gap make of the distances of the sample's frames
abbrev pub walk_costs : Cells → Taps → ℕ → Steps
walk_costs sample taps gap = steps_of (distances_of sample) taps gap

-- each cut record and each block record stands over the map that the records before it leave, from
-- the empty map of the output on; the record of a walk stands over its step costs
abbrev pub RecordsStand : Cells → Size → RecordFile → Type 0
RecordsStand samples output (Cuts head cuts) = EachStands samples (empty_map output) cuts
RecordsStand samples output (Blocks head blocks) =
    EachBlockStands samples (empty_map output) blocks
RecordsStand samples output (Walk head taps gap walk tables) =
    WalkStands (walk_costs samples taps gap) walk tables

-- the first cut record that doesn't, by its number from 1, with its first broken rule and the first
-- place where that is broken
pub record IsBrokenCut (samples : Cells) (output : Size) (cuts : List CutRecord)
    (number rule place : ℕ) : Type 0 where
  pub broken : Broken
  pub first : IsFirstBroken samples (empty_map output) cuts broken
  pub number_is : number ≡ broken.number + 1
  pub rule_is : rule ≡ broken.fault.kind
  pub place_is : place ≡ broken.fault.place

-- the first block record that doesn't, likewise
pub record IsBrokenBlock (samples : Cells) (output : Size) (blocks : List BlockRecord)
    (number rule place : ℕ) : Type 0 where
  pub broken : BrokenBlock
  pub first : IsFirstBrokenBlock samples (empty_map output) blocks broken
  pub number_is : number ≡ broken.number + 1
  pub rule_is : rule ≡ broken.fault.kind
  pub place_is : place ≡ broken.fault.place

-- a walk record, which is the first and last of its file, has the tables for its length and breaks
-- this rule first
pub record IsBrokenWalk (costs : Steps) (walk tables : List ℕ) (number rule place : ℕ)
    : Type 0 where
  pub whole : length tables ≡ entry_count costs (length walk)
  pub fault : LoopFault
  pub first : IsFirstLoopFault costs walk tables fault
  pub number_is : number ≡ 1
  pub rule_is : rule ≡ fault.kind
  pub place_is : place ≡ fault.place

abbrev pub IsBrokenRecord : Cells → Size → RecordFile → ℕ → ℕ → ℕ → Type 0
IsBrokenRecord samples output (Cuts head cuts) = IsBrokenCut samples output cuts
IsBrokenRecord samples output (Blocks head blocks) = IsBrokenBlock samples output blocks
IsBrokenRecord samples output (Walk head taps gap walk tables) =
    IsBrokenWalk (walk_costs samples taps gap) walk tables

-- Rule 16: the records leave the map of the map file.

-- both maps have one source for the cell
pub record HasOneSource (left m : SourceMap) (p : At) : Type 0 where
  pub from : At
  pub left_is : map_at left p ≡ Some from
  pub map_is : map_at m p ≡ Some from

-- the cell at this index is left with the source that a map has for it
abbrev pub IsLeftAt : SourceMap → SourceMap → ℕ → Type 0
IsLeftAt left m i = HasOneSource left m (place_of m.size i)

-- a walk and a frame map have one frame there
pub record HasOneFrame (walk frames : List ℕ) (i : ℕ) : Type 0 where
  pub frame : ℕ
  pub walk_is : slice_get walk i ≡ Some frame
  pub map_is : slice_get frames i ≡ Some frame

-- the records leave this entry of the map file
abbrev pub LeaveAt : RecordFile → MapFile → ℕ → Type 0
LeaveAt (Cuts head cuts) (CellMap m samples version) i =
    IsLeftAt (left_by (empty_map m.size) cuts) m i
LeaveAt (Blocks head blocks) (CellMap m samples version) i =
    IsLeftAt (left_by_blocks (empty_map m.size) blocks) m i
LeaveAt (Walk head taps gap walk tables) (Frames size sample frames) i =
    HasOneFrame walk frames i
LeaveAt record_file map_file i = ⊥

abbrev pub LeaveMap : RecordFile → MapFile → Type 0
LeaveMap record_file map_file = Each (map_entries map_file) (LeaveAt record_file map_file)

-- Rule 17: the out picture is that of the map file.

-- a source is named for the cell of the picture, which has the bytes of the samples' cell there
pub record IsCopied (samples picture : Cells) (source : Option At) (p : At) : Type 0 where
  pub from : At
  pub named : source ≡ Some from
  pub same : cell_at picture p ≡ cell_at samples from

abbrev pub IsCopiedAt : Cells → Cells → MapFile → ℕ → Type 0
IsCopiedAt samples picture map_file i =
    IsCopied samples picture (named_source map_file (place_of (map_output map_file) i))
    (place_of (map_output map_file) i)

abbrev pub AllCopied : Cells → Cells → MapFile → Type 0
AllCopied samples picture map_file =
    Each (cell_count (map_output map_file)) (IsCopiedAt samples picture map_file)

-- All of them.

-- the files stand
pub record FilesStand (samples : Samples) (out : Sample)
    (map_file : MapFile) (record_file : RecordFile) : Type 0 where
  pub together : GoTogether samples out map_file record_file
  pub records : RecordsStand samples.volume (map_output map_file) record_file
  pub left : LeaveMap record_file map_file
  pub copied : AllCopied samples.volume out.volume map_file

-- a rule of whole files, which is reported with the number 0
pub record IsWholeRule (number rule rule_of : ℕ) : Type 0 where
  pub number_is : number ≡ 0
  pub rule_is : rule ≡ rule_of

-- rule 15 is tried first
pub record BreaksTogether (samples : Samples) (out : Sample)
    (map_file : MapFile) (record_file : RecordFile)
    (number rule place : ℕ) : Type 0 where
  pub whole : IsWholeRule number rule TOGETHER_RULE
  pub place_is : place ≡ 0
  pub apart : GoTogether samples out map_file record_file → ⊥

-- then each record's rules, in the order of the records
pub record BreaksRecord (samples : Samples) (out : Sample)
    (map_file : MapFile) (record_file : RecordFile)
    (number rule place : ℕ) : Type 0 where
  pub together : GoTogether samples out map_file record_file
  pub broken : IsBrokenRecord samples.volume (map_output map_file) record_file number rule place

-- then rule 16
pub record BreaksMap (samples : Samples) (out : Sample)
    (map_file : MapFile) (record_file : RecordFile)
    (number rule place : ℕ) : Type 0 where
  pub whole : IsWholeRule number rule MAP_RULE
  pub together : GoTogether samples out map_file record_file
  pub records : RecordsStand samples.volume (map_output map_file) record_file
  pub first : IsFirstWithout (map_entries map_file) (LeaveAt record_file map_file) place

-- and rule 17 last
pub record BreaksPicture (samples : Samples) (out : Sample)
    (map_file : MapFile) (record_file : RecordFile)
    (number rule place : ℕ) : Type 0 where
  pub whole : IsWholeRule number rule PICTURE_RULE
  pub together : GoTogether samples out map_file record_file
  pub records : RecordsStand samples.volume (map_output map_file) record_file
  pub left : LeaveMap record_file map_file
  pub first : IsFirstWithout (cell_count (map_output map_file))
      (IsCopiedAt samples.volume out.volume map_file) place

-- the first broken rule: 0 or the number of the record, the rule, and the first place where it is
-- broken
abbrev pub IsFirstBrokenRule :
    Samples → Sample → MapFile → RecordFile → ℕ → ℕ → ℕ → Type 0
IsFirstBrokenRule samples out map_file record_file number rule place =
    BreaksTogether samples out map_file record_file number rule place
    ⊎ (BreaksRecord samples out map_file record_file number rule place
    ⊎ (BreaksMap samples out map_file record_file number rule place
    ⊎ BreaksPicture samples out map_file record_file number rule place))

-- what a verdict says
abbrev pub IsVerdict : Samples → Sample → MapFile → RecordFile → Verdict → Type 0
IsVerdict samples out map_file record_file Stands = FilesStand samples out map_file record_file
IsVerdict samples out map_file record_file (Fails number rule place) =
    IsFirstBrokenRule samples out map_file record_file number rule place

-- Laws.

-- files that stand break no rule
abbrev pub StandingFilesBreakNone : Type 0
StandingFilesBreakNone =
    (samples : Samples) (out : Sample) (map_file : MapFile) (record_file : RecordFile)
    (number rule place : ℕ) → FilesStand samples out map_file record_file
    → IsFirstBrokenRule samples out map_file record_file number rule place → ⊥

-- numbers, rules and places are the same
pub record AreOneFault (number rule place number' rule' place' : ℕ) : Type 0 where
  pub number_is : number ≡ number'
  pub rule_is : rule ≡ rule'
  pub place_is : place ≡ place'

-- there is one first broken rule
abbrev pub OneFirstBrokenRule : Type 0
OneFirstBrokenRule =
    (samples : Samples) (out : Sample) (map_file : MapFile) (record_file : RecordFile)
    (number rule place number' rule' place' : ℕ)
    → IsFirstBrokenRule samples out map_file record_file number rule place
    → IsFirstBrokenRule samples out map_file record_file number' rule' place'
    → AreOneFault number rule place number' rule' place'

-- records that stand are least: each choice of a cut record, each boundary of a block record, and a
-- walk among the closed walks of its length
abbrev pub RecordsAreLeast : Cells → Size → RecordFile → Type 0
RecordsAreLeast samples output (Cuts head cuts) = EachLeast samples (empty_map output) cuts
RecordsAreLeast samples output (Blocks head blocks) =
    EachBlockIsLeast samples (empty_map output) blocks
RecordsAreLeast samples output (Walk head taps gap walk tables) =
    IsLeastWalk (walk_costs samples taps gap) (length walk) walk

abbrev pub StandingRecordsAreLeast : Type 0
StandingRecordsAreLeast =
    (samples : Cells) (output : Size) (record_file : RecordFile)
    → RecordsStand samples output record_file
    → RecordsAreLeast samples output record_file

-- the versions of map file and record file don't count
abbrev pub VersionsDontCount : Type 0
VersionsDontCount =
    (samples : Samples) (out : Sample) (m : SourceMap) (sizes : List Size) (version : Version)
    (head : Head) (cuts : List CutRecord) (verdict : Verdict) (of_map of_record_file : Version)
    → IsVerdict samples out (CellMap m sizes version) (Cuts head cuts) verdict
    → IsVerdict samples out (CellMap m sizes of_map)
    (Cuts (record head { version = of_record_file }) cuts) verdict

-- cut records over an output of this size leave a full map, each stands over the map that those
-- before it leave, and a picture of that size has at each cell the samples' cell that the map names
pub record IsRunOver (samples : Cells) (size : Size) (cuts : List CutRecord) (m : SourceMap)
    (picture : Cells) : Type 0 where
  pub asked : m.size ≡ size
  pub is_map : IsMap m
  pub full : IsFull m
  pub one : IsOnePart picture
  pub size_is : picture.size ≡ size
  pub cells : (p from : At) → map_at m p ≡ Some from → cell_at picture p ≡ cell_at samples from
  pub replays : left_by (empty_map size) cuts ≡ m
  pub stand : EachStands samples (empty_map size) cuts

-- the head of a file over samples
abbrev pub head_of_run : Size → Cells → Version → Head
head_of_run output samples version =
    record { output = output; samples = sizes_of samples; version = version }

-- the files of such a run stand: the picture in the form of its samples, and map and record in any
-- versions
abbrev pub RunStands : Type 0
RunStands =
    (samples : Samples) (size : Size) (cuts : List CutRecord) (m : SourceMap) (picture : Cells)
    (of_map of_record_file : Version) → IsRunOver samples.volume size cuts m picture
    → FilesStand samples (record { form = samples.form; volume = picture })
    (CellMap m (sizes_of samples.volume) of_map)
    (Cuts (head_of_run size samples.volume of_record_file) cuts)

-- the same of block records
pub record IsQuiltOver (sample : Cells) (size : Size) (blocks : List BlockRecord) (m : SourceMap)
    (picture : Cells) : Type 0 where
  pub asked : m.size ≡ size
  pub is_map : IsMap m
  pub full : IsFull m
  pub one : IsOnePart picture
  pub size_is : picture.size ≡ size
  pub cells : (p from : At) → map_at m p ≡ Some from → cell_at picture p ≡ cell_at sample from
  pub replays : left_by_blocks (empty_map size) blocks ≡ m
  pub stand : EachBlockStands sample (empty_map size) blocks

-- the files of such a run over a picture stand, in any versions
abbrev pub QuiltStands : Type 0
QuiltStands =
    (maxval : ℕ) (sample : Cells) (size : Size) (blocks : List BlockRecord) (m : SourceMap)
    (picture : Cells) (of_map of_record_file : Version) → IsQuiltOver sample size blocks m picture
    → FilesStand (record { form = Picture maxval; volume = sample })
    (record { form = Picture maxval; volume = picture })
    (CellMap m (sizes_of sample) of_map)
    (Blocks (head_of_run size sample of_record_file) blocks)

-- a walk record over a sample of one part stands, and a clip of this size has a frame for each
-- frame of the walk, and at each cell the sample's cell of that frame
pub record IsLoopOver (sample : Cells) (size : Size) (taps : Taps) (gap : ℕ) (walk tables : List ℕ)
    (clip : Cells) : Type 0 where
  pub one_sample : IsOnePart sample
  pub one : IsOnePart clip
  pub size_is : clip.size ≡ size
  pub frames : length walk ≡ size.f
  pub cells : (p from : At) → IsInside size p → frame_source walk p ≡ Some from
      → cell_at clip p ≡ cell_at sample from
  pub stand : WalkStands (walk_costs sample taps gap) walk tables

-- the files of such a run stand: the clip in the form of its sample, and the walk as its map
abbrev pub LoopStands : Type 0
LoopStands =
    (samples : Samples) (size : Size) (taps : Taps) (gap : ℕ) (walk tables : List ℕ) (clip : Cells)
    (of_record_file : Version) → IsLoopOver samples.volume size taps gap walk tables clip
    → FilesStand samples (record { form = samples.form; volume = clip })
    (Frames size samples.volume.size walk)
    (Walk (head_of_run size samples.volume of_record_file) taps gap walk tables)
