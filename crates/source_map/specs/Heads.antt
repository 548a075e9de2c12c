-- What a reader has to trust: the head that map and record files share, its one spelling, and how it
-- is read. (Own.)
use Rattle.std.specs.Prelude.{◌≡◌, ◌≤◌, ◌==◌, ◌||◌, ℕ, nat_lt, nat_le, Bool, IsTrue, if◌then◌else◌, List, [], ◌∷◌, ◌++◌, length, Result, Ok, Err}
use Rattle.std.specs.Int.{w8, w16, w32}
use Rattle.std.specs.Cmp.Lexicographic.{pointwise}
use Rattle.std.specs.Bool.{nat_eq}
use Rattle.std.specs.List.{flat_map}
use Rattle.shelf_traits.specs.declared.fault.FormFault.TheVariants.{Form}
use Rattle.shelf_traits.specs.declared.fault.ReadError.{ReadError}
use Rattle.shelf_traits.specs.declared.fault.ReadError.TheVariants.{Bad, Limit}
use Rattle.shelf_traits.specs.declared.fault.What.TheVariants.{Axis}
use Rattle.limits.specs.declared.bounds.TheConstants.{GREATEST_AXIS, MOST_PARTS}
use Rattle.cells.specs.declared.place.Size.{Size}
use Rattle.cells.specs.Places.{HasAxes}
use Rattle.cells.specs.SizeLists.{AreSizes}
use Rattle.file_bytes.specs.Fields.{field_16, field_32}
use Rattle.source_map.specs.declared.head.Version.{Version}
use Rattle.source_map.specs.declared.head.Version.TheVariants.{One, Two}
use Rattle.source_map.specs.declared.head.Head.{Head}
use Rattle.source_map.specs.declared.head_reading.Start.{Start}
use Rattle.source_map.specs.Readings.{◌>>=◌, field_read, number_read, list_read}

-- a size: w, h, f, four bytes each
abbrev pub size_field : Size → List ℕ
size_field size = field_32 size.w ++ field_32 size.h ++ field_32 size.f

abbrev pub version_number : Version → ℕ
version_number One = 1
version_number Two = 2

-- how many samples there are; not written in version 1
abbrev pub count_field : Version → ℕ → List ℕ
count_field One n = []
count_field Two n = field_16 n

-- the sizes of the samples
abbrev pub sizes_field : Version → List Size → List ℕ
sizes_field version sizes = count_field version (length sizes) ++ flat_map size_field sizes

-- what comes before the samples: magic, version, kind and the output's size
abbrev pub start_form : List ℕ → ℕ → Version → Size → List ℕ
start_form magic kind version output =
    magic ++ version_number version ∷ kind ∷ [] ++ size_field output

-- the one spelling of a head
abbrev pub head_form : List ℕ → ℕ → Head → List ℕ
head_form magic kind head =
    start_form magic kind head.version head.output ++ sizes_field head.version head.samples

-- 1 to 16 samples, and one where the version is 1
pub record AreSamples (version : Version) (sizes : List Size) : Type 0 where
  pub sizes_are : AreSizes sizes
  pub one : version ≡ One → length sizes ≡ 1

-- axes from 1 to the greatest
pub record IsHead (head : Head) : Type 0 where
  pub output_axes : HasAxes head.output
  pub samples_are : AreSamples head.version head.samples

-- a kind that files of the version have: one of so many in version 1, and kind 0 in version 2
abbrev pub is_kind : ℕ → Version → ℕ → Bool
is_kind kinds One kind = nat_lt kind kinds
is_kind kinds Two kind = kind == 0

abbrev pub IsKind : ℕ → Version → ℕ → Type 0
IsKind kinds version kind = IsTrue (is_kind kinds version kind)

-- the version is one of so many
abbrev pub IsVersion : ℕ → Version → Type 0
IsVersion versions version = version_number version ≤ versions

-- the rules of the fields: a refusal at the field's place, the field's value, or a limit
abbrev pub magic_rule : List ℕ → ℕ → List ℕ → Result (Unit {0}) ReadError
magic_rule magic at piece =
    if pointwise nat_eq piece magic then Ok tt else Err (Bad (Form at))

-- of the versions so many are taken, from 1 on
abbrev pub version_rule : ℕ → ℕ → ℕ → Result Version ReadError
version_rule versions at n =
    if nat_lt versions n then Err (Bad (Form at))
    else if n == 1 then Ok One
    else if n == 2 then Ok Two
    else Err (Bad (Form at))

abbrev pub kind_rule : ℕ → Version → ℕ → ℕ → Result ℕ ReadError
kind_rule kinds version at n = if is_kind kinds version n then Ok n else Err (Bad (Form at))

abbrev pub axis_rule : ℕ → ℕ → Result ℕ ReadError
axis_rule at n =
    if n == 0 then Err (Bad (Form at))
    else if nat_le n GREATEST_AXIS then Ok n
    else Err (Limit Axis n GREATEST_AXIS)

abbrev pub count_rule : ℕ → ℕ → Result ℕ ReadError
count_rule at n =
    if n == 0 || nat_lt MOST_PARTS n then Err (Bad (Form at)) else Ok n

-- the parts of a head, read from a place on
abbrev pub size_read : ℕ → List ℕ → Result (Size × ℕ) ReadError
size_read at bytes =
    number_read w32 axis_rule at bytes >>= λ w.
    number_read w32 axis_rule w.1 bytes >>= λ h.
    number_read w32 axis_rule h.1 bytes >>= λ f.
    Ok (record { w = w.0; h = h.0; f = f.0 }, f.1)

abbrev pub sizes_read : Version → ℕ → List ℕ → Result (List Size × ℕ) ReadError
sizes_read One at bytes = list_read size_read 1 at bytes
sizes_read Two at bytes =
    number_read w16 count_rule at bytes >>= λ count. list_read size_read count.0 count.1 bytes

abbrev pub start_read : List ℕ → ℕ → ℕ → ℕ → List ℕ → Result (Start × ℕ) ReadError
start_read magic versions kinds at bytes =
    field_read 8 (magic_rule magic) at bytes >>= λ magic.
    number_read w8 (version_rule versions) magic.1 bytes >>= λ version.
    number_read w8 (kind_rule kinds version.0) version.1 bytes >>= λ kind.
    size_read kind.1 bytes >>= λ output.
    Ok (record { version = version.0; kind = kind.0; output = output.0 }, output.1)

-- a head and its kind
abbrev pub head_read : List ℕ → ℕ → ℕ → ℕ → List ℕ → Result ((Head × ℕ) × ℕ) ReadError
head_read magic versions kinds at bytes =
    start_read magic versions kinds at bytes >>= λ start.
    sizes_read start.0.version start.1 bytes >>= λ samples.
    Ok (
      (
        record { output = start.0.output; samples = samples.0; version = start.0.version },
        start.0.kind,
      ),
      samples.1,
    )
