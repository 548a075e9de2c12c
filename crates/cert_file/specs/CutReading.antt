-- What a reader has to trust: how a cut record is read, field by field. (Own.)
use Rattle.std.specs.Prelude.{◌≤◌, ◌+◌, ◌/◌, ◌%◌, ◌==◌, ◌++◌, ℕ, zero, suc, pos, nat_le, Bool, true, false, if◌then◌else◌, List, [], ◌∷◌, length, take, drop, slice_index, Result, Ok, Err}
use Rattle.std.specs.Int.{cast_signed, from_be_bytes, w16}
use Rattle.std.specs.List.{flat_map}
use Rattle.shelf_traits.specs.declared.fault.FormFault.TheVariants.{Form}
use Rattle.shelf_traits.specs.declared.fault.ReadError.{ReadError}
use Rattle.shelf_traits.specs.declared.fault.ReadError.TheVariants.{Bad, Limit}
use Rattle.shelf_traits.specs.declared.fault.What.TheVariants.{Records}
use Rattle.cells.specs.declared.place.At.{At}
use Rattle.cells.specs.declared.place.Size.{Size}
use Rattle.cells.specs.Places.{cell_count}
use Rattle.cells.specs.SizeLists.{stock_place}
use Rattle.boxes.specs.Pairs.{pair_count}
use Rattle.cut_check.specs.declared.record.CutRecord.{CutRecord}
use Rattle.cut_check.specs.declared.record.Flow.{Flow}
use Rattle.cut_check.specs.Records.{box_cells}
use Rattle.source_map.specs.declared.head.Version.{Version}
use Rattle.source_map.specs.declared.head.Version.TheVariants.{One, Two}
use Rattle.source_map.specs.MapFiles.{numbered_size, part_rule, place_read}
use Rattle.source_map.specs.Readings.{◌>>=◌, field_read, number_read, list_read}
use Rattle.cert_file.specs.CutForms.{IsBoxSize, choice_bytes}
use Rattle.limits.specs.declared.bounds.TheConstants.{MOST_BOX_CELLS}

-- the number of two bytes of a piece, from a place on
abbrev pub number_of_two : List ℕ → ℕ → ℕ
number_of_two piece i = from_be_bytes w16 (slice_index piece i ∷ slice_index piece (i + 1) ∷ [])

-- the corner of a box: any three numbers of two bytes
abbrev pub corner_rule : ℕ → List ℕ → Result At ReadError
corner_rule at piece = Ok (record {
  x = pos (number_of_two piece 0);
  y = pos (number_of_two piece 2);
  f = pos (number_of_two piece 4);
})

-- an axis of a box is at least 1
abbrev pub box_axis_rule : ℕ → ℕ → Result ℕ ReadError
box_axis_rule at n = if n == 0 then Err (Bad (Form at)) else Ok n

-- the cells of all boxes so far are limited
abbrev pub box_cells_rule : ℕ → Size → Result Size ReadError
box_cells_rule before size =
    if nat_le (before + cell_count size) MOST_BOX_CELLS then Ok size
    else Err (Limit Records (before + cell_count size) MOST_BOX_CELLS)

-- the size of a box, after boxes of so many cells
abbrev pub box_size_read : ℕ → ℕ → List ℕ → Result (Size × ℕ) ReadError
box_size_read before at bytes =
    number_read w16 box_axis_rule at bytes >>= λ w.
    number_read w16 box_axis_rule w.1 bytes >>= λ h.
    number_read w16 box_axis_rule h.1 bytes >>= λ f.
    box_cells_rule before (record { w = w.0; h = h.0; f = f.0 }) >>= λ size. Ok (size, f.1)

-- the number of a sample: not written in version 1, and from 1 to their count in version 2
abbrev pub part_read : Version → ℕ → ℕ → List ℕ → Result (ℕ × ℕ) ReadError
part_read One count at bytes = Ok (1, at)
part_read Two count at bytes = number_read w16 (part_rule count) at bytes

-- where the new sources begin, as the joined volume counts it
abbrev pub from_read : Version → List Size → ℕ → List ℕ → Result (At × ℕ) ReadError
from_read version samples at bytes =
    part_read version (length samples) at bytes >>= λ part.
    place_read (numbered_size samples part.0) part.1 bytes >>= λ p.
    Ok (stock_place samples part.0 p.0, p.1)

-- the bits of a byte, from the highest on
abbrev pub byte_bits : ℕ → List Bool
byte_bits b =
    (b / 128 % 2 == 1) ∷ (b / 64 % 2 == 1) ∷ (b / 32 % 2 == 1) ∷ (b / 16 % 2 == 1)
    ∷ (b / 8 % 2 == 1) ∷ (b / 4 % 2 == 1) ∷ (b / 2 % 2 == 1) ∷ (b % 2 == 1) ∷ []

abbrev pub bits_of : List ℕ → List Bool
bits_of bytes = flat_map byte_bits bytes

abbrev pub none_set : List Bool → Bool
none_set [] = true
none_set (true ∷ bits) = false
none_set (false ∷ bits) = none_set bits

-- a choice: one bit for each cell, and no unused one set
abbrev pub choice_rule : ℕ → ℕ → List ℕ → Result (List Bool) ReadError
choice_rule cells at piece =
    if none_set (drop cells (bits_of piece)) then Ok (take cells (bits_of piece))
    else Err (Bad (Form at))

abbrev pub choice_read : ℕ → ℕ → List ℕ → Result (List Bool × ℕ) ReadError
choice_read cells = field_read (choice_bytes cells) (choice_rule cells)

-- a flow: any two numbers of two bytes in two's complement
abbrev pub flow_rule : ℕ → List ℕ → Result Flow ReadError
flow_rule at piece = Ok (record {
  x = cast_signed w16 (number_of_two piece 0);
  y = cast_signed w16 (number_of_two piece 2);
})

abbrev pub flow_read : ℕ → List ℕ → Result (Flow × ℕ) ReadError
flow_read = field_read 4 flow_rule

-- a cut record, after boxes of so many cells
abbrev pub cut_read : Version → List Size → ℕ → ℕ → List ℕ → Result (CutRecord × ℕ) ReadError
cut_read version samples before at bytes =
    field_read 6 corner_rule at bytes >>= λ corner.
    box_size_read before corner.1 bytes >>= λ size.
    from_read version samples size.1 bytes >>= λ from.
    choice_read (cell_count size.0) from.1 bytes >>= λ choice.
    list_read flow_read (pair_count size.0) choice.1 bytes >>= λ flows.
    Ok (
      record {
        placement = record { rect = record { corner = corner.0; size = size.0 }; from = from.0 };
        choice = choice.0;
        flows = flows.0;
      },
      flows.1,
    )

-- the box has valid axes, and fits after boxes of so many cells
pub record IsBoxAfter (before : ℕ) (size : Size) : Type 0 where
  pub axes : IsBoxSize size
  pub cells : before + cell_count size ≤ MOST_BOX_CELLS

-- so many values, each read in the light of those before
abbrev pub each_read : {A : Type 0} → (List A → ℕ → List ℕ → Result (A × ℕ) ReadError) → ℕ → ℕ
    → List ℕ → Result (List A × ℕ) ReadError
each_read read zero at bytes = Ok ([], at)
each_read read (suc n) at bytes =
    each_read read n at bytes >>= λ front. read front.0 front.1 bytes >>= λ last.
    Ok (front.0 ++ last.0 ∷ [], last.1)

-- so many cut records
abbrev pub cuts_read : Version → List Size → ℕ → ℕ → List ℕ → Result (List CutRecord × ℕ) ReadError
cuts_read version samples =
    each_read (λ front. cut_read version samples (box_cells front))
