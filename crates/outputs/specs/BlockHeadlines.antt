-- What commands that lay blocks leave: headlines cite these words, which are to be trusted. (Own.)
use Rattle.std.specs.Prelude.{◌≡◌, ◌≢◌, ℕ, false, List, Some}
use Rattle.std.specs.FinMap as fin
use Rattle.cells.specs.declared.place.At.{At}
use Rattle.cells.specs.declared.place.Size.{Size}
use Rattle.cells.specs.Cells.{Cells, IsOnePart, IsVolume, cell_at, sizes_of}
use Rattle.shelf_traits.specs.Files.{Files, content_of}
use Rattle.netpbm_p6.specs.declared.picture.Picture.{Picture}
use Rattle.netpbm_p6.specs.Pictures.{IsRead, p6_form}
use Rattle.map_canvas.specs.Maps.{SourceMap, IsFull, IsMap, IsOver, empty_map, map_at, picture_of}
use Rattle.source_map.specs.MapFiles.{cell_map_form}
use Rattle.source_map.specs.declared.head.Version.TheVariants.{One}
use Rattle.patch_picks.specs.Draws.{DrawState}
use Rattle.block_check.specs.declared.block.BlockRecord.{BlockRecord}
use Rattle.quilted.specs.Runs.{IsQuilted, Rating, quilting}
use Rattle.quilted.specs.declared.asked.QuiltRun.{QuiltRun}
use Rattle.block_check.specs.Several.{EachBlockIsLeast, EachBlockStands, left_by_blocks}
use Rattle.cert_file.specs.RecordFiles.{blocks_form}
use Rattle.job_words.specs.declared.job.Names.{Names}
use Rattle.check_command.specs.Checks.{Stand}
use Rattle.outputs.specs.BlockOutputs.{quilt_head}

-- the sample file stands for a picture, a volume, and for no other. The map file has the form of a map of the asked size, which
-- is full and lies over the sample. The out file has the form of a picture with the sample's maxval:
-- a volume of that size, the picture of the map, each cell of which is the sample's cell that the map
-- names
pub record IsQuiltedOutput (names : Names) (asked : Size) (before after : Files) : Type 0 where
  pub sample : Picture
  pub read : IsRead (content_of before names.sample) sample
  pub only : (other : Picture) → IsRead (content_of before names.sample) other → other ≡ sample
  pub sample_volume : IsVolume sample.volume
  pub map : SourceMap
  pub map_size : map.size ≡ asked
  pub is_map : IsMap map
  pub full : IsFull map
  pub over : IsOver map sample.volume
  pub map_file : content_of after names.map
      ≡ cell_map_form map (sizes_of sample.volume) One
  pub picture : Cells
  pub volume : IsVolume picture
  pub one : IsOnePart picture
  pub size : picture.size ≡ asked
  pub of_map : picture ≡ picture_of map sample.volume
  pub cells : (p from : At) → map_at map p ≡ Some from
      → cell_at picture p ≡ cell_at sample.volume from
  pub out_file : content_of after names.out ≡ p6_form sample.maxval picture

-- and the record file has the records of the blocks of the run that is asked for: each is the next block
-- of the plan, at the place that its draw picks by the rating; its boundaries are the first least ones, with
-- tight sums, and a cell of it is new exactly where each strip that has it calls it new. They replay to the
-- map; over the map that the records before it leave, each record stands, and no boundary through a
-- strip of it costs less
pub record IsQuiltedRecord (rating : Rating) (asked : QuiltRun) (sample : Cells) (map : SourceMap)
    (text : List ℕ) : Type 0 where
  pub blocks : List BlockRecord
  pub file : text ≡ blocks_form (quilt_head asked.size sample) blocks
  pub draws : DrawState
  pub run : IsQuilted rating asked.plan sample asked.size asked.seed blocks (quilting map draws)
  pub replays : left_by_blocks (empty_map asked.size) blocks ≡ map
  pub stand : EachBlockStands sample (empty_map asked.size) blocks
  pub least : EachBlockIsLeast sample (empty_map asked.size) blocks

-- both, by the rating that is given for the sample; sample, out file, map file and record file stand,
-- which is what `check` tries; and all files but the three that are written are as before
pub record IsQuiltedBy (rating : Cells → Rating) (asked : QuiltRun) (names : Names)
    (before after : Files) : Type 0 where
  pub output : IsQuiltedOutput names asked.size before after
  pub records : IsQuiltedRecord (rating output.sample.volume) asked output.sample.volume output.map
      (content_of after names.record_file)
  pub accepted : Stand false names after
  pub others : (name : List ℕ)
      → name ≢ names.out → name ≢ names.map → name ≢ names.record_file
      → fin.get after name ≡ fin.get before name

-- the three files hold the same bytes
pub record HaveSameQuilt (names : Names) (one other : Files) : Type 0 where
  pub out : content_of one names.out ≡ content_of other names.out
  pub map : content_of one names.map ≡ content_of other names.map
  pub record_file : content_of one names.record_file ≡ content_of other names.record_file
