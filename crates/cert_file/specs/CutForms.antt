-- What a reader has to trust: the form of a cut record, in versions 1 and 2. (Own.)
use Rattle.std.specs.Prelude.{◌≡◌, ◌≤◌, ◌<◌, ◌+◌, ◌*◌, ◌/◌, ◌^◌, ℕ, ℤ, Bool, false, List, ◌++◌, length, map, All, Some, FitsSigned, slice_index_or}
use Rattle.std.specs.Int.{cast_unsigned, w16}
use Rattle.std.specs.List.{flat_map, range_with_len}
use Rattle.file_bytes.specs.Fields.{field_16}
use Rattle.cells.specs.declared.place.At.{At}
use Rattle.cells.specs.declared.place.Size.{Size}
use Rattle.cells.specs.Places.{cell_count}
use Rattle.boxes.specs.Pairs.{one_if, pair_count}
use Rattle.source_map.specs.MapFiles.{IsInSamples, IsShort, place_field, source_field}
use Rattle.cut_check.specs.declared.record.CutRecord.{CutRecord}
use Rattle.cut_check.specs.declared.record.Flow.{Flow}
use Rattle.source_map.specs.declared.head.Version.{Version}

-- the size of a box: w, h, f, two bytes each
abbrev pub box_size_field : Size → List ℕ
box_size_field size = field_16 size.w ++ field_16 size.h ++ field_16 size.f

-- where the new sources of a record begin, as a source of a map: in version 1 the place, in version 2
-- the number of the sample and the place in it
abbrev pub from_field : Version → List Size → At → List ℕ
from_field version samples p = source_field version samples (Some p)

-- cell i of a choice as a bit; none past the end
abbrev pub choice_bit : List Bool → ℕ → ℕ
choice_bit choice i = one_if (slice_index_or choice i false)

-- byte j of a choice: its highest bit is cell 8 j, its lowest cell 8 j + 7
abbrev pub choice_byte : List Bool → ℕ → ℕ
choice_byte choice j =
    128 * choice_bit choice (8 * j) + 64 * choice_bit choice (8 * j + 1)
    + 32 * choice_bit choice (8 * j + 2) + 16 * choice_bit choice (8 * j + 3)
    + 8 * choice_bit choice (8 * j + 4) + 4 * choice_bit choice (8 * j + 5)
    + 2 * choice_bit choice (8 * j + 6) + choice_bit choice (8 * j + 7)

-- how many bytes so many cells take
abbrev pub choice_bytes : ℕ → ℕ
choice_bytes cells = (cells + 7) / 8

abbrev pub choice_field : List Bool → List ℕ
choice_field choice = map (choice_byte choice) (range_with_len 0 (choice_bytes (length choice)))

-- a signed number, two bytes in two's complement
abbrev pub signed_field : ℤ → List ℕ
signed_field z = field_16 (cast_unsigned w16 z)

abbrev pub flow_field : Flow → List ℕ
flow_field flow = signed_field flow.x ++ signed_field flow.y

-- both numbers of the flow have 16 bits, as every flow in memory has
abbrev pub IsShortFlow : Flow → Type 0
IsShortFlow flow = FitsSigned w16 flow.x × FitsSigned w16 flow.y

abbrev pub HasShortFlows : CutRecord → Type 0
HasShortFlows cut = All IsShortFlow cut.flows

-- a cut record: corner, size, where the new sources begin, choice, flows
unfoldable pub cut_form : Version → List Size → CutRecord → List ℕ
cut_form version samples cut =
    place_field cut.placement.rect.corner ++ box_size_field cut.placement.rect.size
    ++ from_field version samples cut.placement.from
    ++ choice_field cut.choice ++ flat_map flow_field cut.flows

-- the axes of a box that fit in two bytes and aren't 0
pub record IsBoxSize (size : Size) : Type 0 where
  pub w : (1 ≤ size.w) × (size.w < 2 ^ 16)
  pub h : (1 ≤ size.h) × (size.h < 2 ^ 16)
  pub f : (1 ≤ size.f) × (size.f < 2 ^ 16)

-- the values of a cut record are in the ranges of the form
pub record IsCutInForm (samples : List Size) (cut : CutRecord) : Type 0 where
  pub corner : IsShort cut.placement.rect.corner
  pub size : IsBoxSize cut.placement.rect.size
  pub from : IsInSamples samples cut.placement.from
  pub choice : length cut.choice ≡ cell_count cut.placement.rect.size
  pub flows : length cut.flows ≡ pair_count cut.placement.rect.size
