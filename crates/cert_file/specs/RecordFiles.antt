-- What a reader has to trust: the forms of record files, and which values have one. (Own.)
use Rattle.std.specs.Prelude.{◌≡◌, ◌≤◌, ◌<◌, ◌^◌, ℕ, List, ◌++◌, length, All, ◌==◌, codes, if◌then◌else◌, Result, Ok, Err}
use Rattle.std.specs.Int.{w32}
use Rattle.std.specs.List.{flat_map}
use Rattle.shelf_traits.specs.Files.{ReadsRose, ShelfState}
use Rattle.shelf_traits.specs.declared.fault.ReadError.{ReadError}
use Rattle.shelf_traits.specs.declared.fault.ReadError.TheVariants.{NoMemory, ReadFault}
use Rattle.file_bytes.specs.Fields.{field_32}
use Rattle.file_bytes.specs.Reading.{OfFile}
use Rattle.cells.specs.declared.place.Taps.{Taps}
use Rattle.cut_check.specs.declared.record.CutRecord.{CutRecord}
use Rattle.cut_check.specs.Records.{box_cells}
use Rattle.block_check.specs.declared.block.BlockRecord.{BlockRecord}
use Rattle.source_map.specs.declared.head.Head.{Head}
use Rattle.source_map.specs.declared.head.Version.TheVariants.{One}
use Rattle.source_map.specs.Heads.{IsHead, head_form, head_read}
use Rattle.source_map.specs.Readings.{◌>>=◌, AreBytes, number_read}
use Rattle.cert_file.specs.declared.file.RecordFile.{RecordFile}
use Rattle.cert_file.specs.declared.file.RecordFile.TheVariants.{Blocks, Cuts, Walk}
use Rattle.cert_file.specs.BlockForms.{IsBlockInForm, IsWideBlock, block_form}
use Rattle.cert_file.specs.BlockReading.{blocks_read}
use Rattle.block_check.specs.Blocks.{block_cells}
use Rattle.cert_file.specs.CutForms.{HasShortFlows, IsCutInForm, cut_form}
use Rattle.cert_file.specs.CutReading.{cuts_read}
use Rattle.cert_file.specs.Rules.{any_rule, end_rule}
use Rattle.cert_file.specs.WalkForms.{AreWide, IsWalkInForm, walk_form}
use Rattle.cert_file.specs.WalkReading.{walk_file_read}
use Rattle.limits.specs.declared.bounds.TheConstants.{MOST_BOX_CELLS}

abbrev pub record_magic : List ℕ
record_magic = codes "WEAVEREC"

-- how many versions there are
abbrev pub versions : ℕ
versions = 2

-- the kinds of cut records, of block records and of walks, and how many kinds there are
abbrev pub cuts_kind : ℕ
cuts_kind = 0

abbrev pub blocks_kind : ℕ
blocks_kind = 1

abbrev pub walk_kind : ℕ
walk_kind = 2

abbrev pub kinds : ℕ
kinds = 3

-- the one spelling of cut records: the head, how many there are, and each
abbrev pub cuts_form : Head → List CutRecord → List ℕ
cuts_form head cuts =
    head_form record_magic cuts_kind head ++ field_32 (length cuts)
    ++ flat_map (cut_form head.version head.samples) cuts

-- the one spelling of block records: the head, how many there are, and each
abbrev pub blocks_form : Head → List BlockRecord → List ℕ
blocks_form head blocks =
    head_form record_magic blocks_kind head ++ field_32 (length blocks)
    ++ flat_map block_form blocks

-- the one spelling of a walk record: the head, and the record
abbrev pub walk_file_form : Head → Taps → ℕ → List ℕ → List ℕ → List ℕ
walk_file_form head taps gap walk tables =
    head_form record_magic walk_kind head ++ walk_form taps gap walk tables

-- cut records that have a spelling: a head with the sizes of 1 to 16 samples, one in version 1, no
-- more records than a number of 32 bits counts, and the values of each in the ranges of the form
pub record AreCutsInForm (head : Head) (cuts : List CutRecord) : Type 0 where
  pub head_is : IsHead head
  pub count : length cuts < 2 ^ 32
  pub each : All (IsCutInForm head.samples) cuts

-- what a file that is read stands for: a value that has a spelling, within the limit on cells
pub record AreCutsInLimits (head : Head) (cuts : List CutRecord) : Type 0 where
  pub form : AreCutsInForm head cuts
  pub cells : box_cells cuts ≤ MOST_BOX_CELLS

-- block records that have a spelling: a head of version 1, no more records than a number of 32 bits
-- counts, and the values of each in the ranges of the form
pub record AreBlocksInForm (head : Head) (blocks : List BlockRecord) : Type 0 where
  pub head_is : IsHead head
  pub version : head.version ≡ One
  pub count : length blocks < 2 ^ 32
  pub each : All IsBlockInForm blocks

pub record AreBlocksInLimits (head : Head) (blocks : List BlockRecord) : Type 0 where
  pub form : AreBlocksInForm head blocks
  pub cells : block_cells blocks ≤ MOST_BOX_CELLS

abbrev pub IsRecordFile : RecordFile → Type 0
IsRecordFile (Cuts head cuts) = AreCutsInLimits head cuts
IsRecordFile (Blocks head blocks) = AreBlocksInLimits head blocks
IsRecordFile (Walk head taps gap walk tables) = IsWalkInForm head gap walk tables

-- the one spelling of a value
abbrev pub record_file_form : RecordFile → List ℕ
record_file_form (Cuts head cuts) = cuts_form head cuts
record_file_form (Blocks head blocks) = blocks_form head blocks
record_file_form (Walk head taps gap walk tables) = walk_file_form head taps gap walk tables

-- a value that is spelled so that it is read again: within the limits, with numbers of as many bits as
-- all in memory have
abbrev pub HasSpelling : RecordFile → Type 0
HasSpelling (Cuts head cuts) = AreCutsInLimits head cuts × All HasShortFlows cuts
HasSpelling (Blocks head blocks) = AreBlocksInLimits head blocks × All IsWideBlock blocks
HasSpelling (Walk head taps gap walk tables) =
    IsWalkInForm head gap walk tables × AreWide walk tables

-- cut records, from after a head to the end of the file
abbrev pub cuts_file_read : Head → ℕ → List ℕ → Result RecordFile ReadError
cuts_file_read head at bytes =
    number_read w32 any_rule at bytes >>= λ count.
    cuts_read head.version head.samples count.0 count.1 bytes >>= λ cuts.
    end_rule cuts.1 bytes >>= λ end. Ok (Cuts head cuts.0)

-- block records, from after a head to the end of the file
abbrev pub blocks_file_read : Head → ℕ → List ℕ → Result RecordFile ReadError
blocks_file_read head at bytes =
    number_read w32 any_rule at bytes >>= λ count.
    blocks_read count.0 count.1 bytes >>= λ blocks.
    end_rule blocks.1 bytes >>= λ end. Ok (Blocks head blocks.0)

-- what follows a head, to the end of the file
abbrev pub records_read : ℕ → Head → ℕ → List ℕ → Result RecordFile ReadError
records_read kind head at bytes =
    if kind == cuts_kind then cuts_file_read head at bytes
    else if kind == blocks_kind then blocks_file_read head at bytes
    else walk_file_read head at bytes

-- what a whole file is read as: a value, or its first refusal
abbrev pub record_file_read : List ℕ → Result RecordFile ReadError
record_file_read bytes =
    head_read record_magic versions kinds 0 bytes
    >>= λ head. records_read head.0.1 head.0.0 head.1 bytes

-- the same for a reader that takes version 1 and kind 0 alone: other versions and other kinds are
-- refused at their fields, and all else is as above
abbrev pub version_one_cuts_read : List ℕ → Result RecordFile ReadError
version_one_cuts_read bytes =
    head_read record_magic 1 1 0 bytes >>= λ head. cuts_file_read head.0.0 head.1 bytes

-- cut records, and not another kind
abbrev pub AreCuts : RecordFile → Type 0
AreCuts (Cuts head cuts) = Unit {0}
AreCuts file = ⊥

-- cut records of version 1
abbrev pub AreVersionOneCuts : RecordFile → Type 0
AreVersionOneCuts (Cuts head cuts) = head.version ≡ One
AreVersionOneCuts file = ⊥

-- it is the file of a walk
abbrev pub IsWalkFile : RecordFile → Type 0
IsWalkFile (Walk head taps gap walk tables) = Unit {0}
IsWalkFile file = ⊥

-- the bytes are in their form and within the limits, and stand for the value
abbrev pub IsRecordFileOf : List ℕ → RecordFile → Type 0
IsRecordFileOf bytes file = record_file_read bytes ≡ Ok file

-- a reader of version 1 alone reads nothing else than one of all versions does
abbrev pub IsReadByBoth : List ℕ → RecordFile → Type 0
IsReadByBoth bytes file =
    version_one_cuts_read bytes ≡ Ok file → IsRecordFileOf bytes file × AreVersionOneCuts file

-- what is written is read again: the spelling of records within the limits stands for them. That their
-- flows, paths and sums have 16 or 32 bits holds of all records in memory
abbrev pub AreReadAgain : Head → List CutRecord → Type 0
AreReadAgain head cuts = AreCutsInLimits head cuts → All HasShortFlows cuts
    → IsRecordFileOf (cuts_form head cuts) (Cuts head cuts)

abbrev pub AreBlocksReadAgain : Head → List BlockRecord → Type 0
AreBlocksReadAgain head blocks = AreBlocksInLimits head blocks → All IsWideBlock blocks
    → IsRecordFileOf (blocks_form head blocks) (Blocks head blocks)

abbrev pub IsWalkReadAgain : Head → Taps → ℕ → List ℕ → List ℕ → Type 0
IsWalkReadAgain head taps gap walk tables = IsWalkInForm head gap walk tables
    → AreWide walk tables
    → IsRecordFileOf (walk_file_form head taps gap walk tables) (Walk head taps gap walk tables)

-- bytes that stand for records are their spelling
abbrev pub AreSpelled : List ℕ → Head → List CutRecord → Type 0
AreSpelled bytes head cuts = AreBytes bytes → IsRecordFileOf bytes (Cuts head cuts)
    → bytes ≡ cuts_form head cuts

abbrev pub AreBlocksSpelled : List ℕ → Head → List BlockRecord → Type 0
AreBlocksSpelled bytes head blocks = AreBytes bytes → IsRecordFileOf bytes (Blocks head blocks)
    → bytes ≡ blocks_form head blocks

abbrev pub IsWalkSpelled : List ℕ → Head → Taps → ℕ → List ℕ → List ℕ → Type 0
IsWalkSpelled bytes head taps gap walk tables =
    AreBytes bytes → IsRecordFileOf bytes (Walk head taps gap walk tables)
    → bytes ≡ walk_file_form head taps gap walk tables

-- they aren't, and this is the first refusal
abbrev pub RefusesRecordFile : List ℕ → ReadError → Type 0
RefusesRecordFile bytes refusal = record_file_read bytes ≡ Err refusal

-- what a reader of the named file answers, of what is made of its bytes from a place on. A read
-- fault has its cause; `memory` is that for out of memory
abbrev pub ReadsToEnd : {A : Type 0} → Type 0 → List ℕ → ℕ → ShelfState → ShelfState
    → (ℕ → List ℕ → Result A ReadError) → Result A ReadError → Type 0
ReadsToEnd memory name place was now read (Ok x) =
    OfFile name now.files (λ bytes. read place bytes ≡ Ok x)
ReadsToEnd memory name place was now read (Err ReadFault) = ReadsRose name was now
ReadsToEnd memory name place was now read (Err NoMemory) = memory
ReadsToEnd memory name place was now read (Err refusal) =
    OfFile name now.files (λ bytes. read place bytes ≡ Err refusal)

-- what a reader answers, by what bytes are read as: the value of the file's bytes, or their first
-- refusal; out of memory may come instead of either
abbrev pub ReadsRecordFileBy : (List ℕ → Result RecordFile ReadError) → List ℕ
    → ShelfState → ShelfState → Result RecordFile ReadError → Type 0
ReadsRecordFileBy read name was now (Ok file) =
    OfFile name now.files (λ bytes. read bytes ≡ Ok file)
ReadsRecordFileBy read name was now (Err ReadFault) = ReadsRose name was now
ReadsRecordFileBy read name was now (Err NoMemory) = Unit {0}
ReadsRecordFileBy read name was now (Err refusal) =
    OfFile name now.files (λ bytes. read bytes ≡ Err refusal)

-- what `read_record_file` answers
abbrev pub ReadsRecordFile : List ℕ → ShelfState → ShelfState → Result RecordFile ReadError → Type 0
ReadsRecordFile = ReadsRecordFileBy record_file_read
