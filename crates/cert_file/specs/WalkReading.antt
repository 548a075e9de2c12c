-- What a reader has to trust: how a walk record is read, field by field. (Own.)
use Rattle.std.specs.Prelude.{◌≤◌, ◌==◌, ◌||◌, ℕ, List, nat_lt, nat_le, if◌then◌else◌, Result, Ok, Err}
use Rattle.std.specs.Int.{w8, w16, w32, w64}
use Rattle.shelf_traits.specs.declared.fault.FormFault.TheVariants.{Form}
use Rattle.shelf_traits.specs.declared.fault.ReadError.{ReadError}
use Rattle.shelf_traits.specs.declared.fault.ReadError.TheVariants.{Bad, Limit}
use Rattle.shelf_traits.specs.declared.fault.What.TheVariants.{Frames, Loop}
use Rattle.cells.specs.declared.place.Taps.{Taps}
use Rattle.cells.specs.declared.place.Taps.TheVariants.{Four, None0, Two}
use Rattle.limits.specs.declared.bounds.TheConstants.{LONGEST_LOOP, MOST_LOOP_FRAMES, WIDEST_GAP}
use Rattle.loop_walk.specs.Tables.{IsLength}
use Rattle.source_map.specs.declared.head.Head.{Head}
use Rattle.source_map.specs.Readings.{◌>>=◌, list_read, number_read}
use Rattle.cert_file.specs.declared.file.RecordFile.{RecordFile}
use Rattle.cert_file.specs.declared.file.RecordFile.TheVariants.{Walk}
use Rattle.cert_file.specs.declared.walk_fields.WalkStart.{WalkStart}
use Rattle.cert_file.specs.Rules.{any_rule, end_rule}
use Rattle.cert_file.specs.WalkForms.{table_entries, frames_of}

-- the frames of the sample are limited
abbrev pub frames_rule : ℕ → Result (Unit {0}) ReadError
frames_rule n = if nat_le n MOST_LOOP_FRAMES then Ok tt else Err (Limit Frames n MOST_LOOP_FRAMES)

-- the length is at least 1, and limited
abbrev pub length_rule : ℕ → ℕ → Result ℕ ReadError
length_rule at n =
    if n == 0 then Err (Bad (Form at))
    else if nat_le n LONGEST_LOOP then Ok n
    else Err (Limit Loop n LONGEST_LOOP)

abbrev pub taps_rule : ℕ → ℕ → Result Taps ReadError
taps_rule at n =
    if n == 0 then Ok None0
    else if n == 2 then Ok Two
    else if n == 4 then Ok Four
    else Err (Bad (Form at))

abbrev pub gap_rule : ℕ → ℕ → Result ℕ ReadError
gap_rule at n = if n == 0 || nat_lt WIDEST_GAP n then Err (Bad (Form at)) else Ok n

-- the limit on frames, after the head
abbrev pub few_frames_read : ℕ → ℕ → List ℕ → Result (Unit {0} × ℕ) ReadError
few_frames_read n at bytes = frames_rule n >>= λ few. Ok (few, at)

-- length, filter and gap
abbrev pub walk_start_read : ℕ → List ℕ → Result (WalkStart × ℕ) ReadError
walk_start_read at bytes =
    number_read w32 length_rule at bytes >>= λ len.
    number_read w8 taps_rule len.1 bytes >>= λ taps.
    number_read w16 gap_rule taps.1 bytes >>= λ gap.
    Ok (record { length = len.0; taps = taps.0; gap = gap.0 }, gap.1)

-- a length and a gap in their ranges
pub record IsStart (start : WalkStart) : Type 0 where
  pub len : IsLength start.length
  pub gap : (1 ≤ start.gap) × (start.gap ≤ WIDEST_GAP)

-- a walk record, from after a head to the end of the file
abbrev pub walk_file_read : Head → ℕ → List ℕ → Result RecordFile ReadError
walk_file_read head at bytes =
    few_frames_read (frames_of head) at bytes >>= λ few.
    walk_start_read few.1 bytes >>= λ start.
    list_read (number_read w16 any_rule) start.0.length start.1 bytes >>= λ walk.
    list_read (number_read w64 any_rule) (table_entries head start.0.length) walk.1 bytes
    >>= λ tables. end_rule tables.1 bytes >>= λ end.
    Ok (Walk head start.0.taps start.0.gap walk.0 tables.0)
