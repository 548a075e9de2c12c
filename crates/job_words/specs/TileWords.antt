-- The words of `tile`: its keys, and its job. To be trusted: contracts cite these words. (Own.)
use Rattle.std.specs.Prelude.{◌≡◌, ◌≤◌, ℕ, ◌&&◌, nat_lt, Bool, true, false, List, [], ◌∷◌, Option, Some, None, Result, Ok, Err, if◌then◌else◌, slice_index_or}
use Rattle.cells.specs.Places.{HasAxes}
use Rattle.cells.specs.declared.place.Axis.{Axis}
use Rattle.cells.specs.declared.place.Axis.TheVariants.{X, Y, F}
use Rattle.cells.specs.declared.place.Size.{Size}
use Rattle.limits.specs.declared.bounds.TheConstants.{GREATEST_AXIS, GREATEST_OVERLAP, GREATEST_SEED, GREATEST_TOLERANCE, LEAST_WRAPPED_AXIS}
use Rattle.job_words.specs.declared.job.WordFault.{WordFault}
use Rattle.job_words.specs.declared.job.WordFault.TheVariants.{Narrow}
use Rattle.job_words.specs.declared.keys.Key.TheVariants as key
use Rattle.job_words.specs.declared.table.Texts.TheVariants.{Wraps}
use Rattle.job_words.specs.declared.table.Kind.TheVariants.{Within, OneOf}
use Rattle.job_words.specs.declared.table.Choice.TheVariants.{Nth}
use Rattle.job_words.specs.declared.table.Need.TheVariants.{Default}
use Rattle.job_words.specs.declared.table.Row.{Row}
use Rattle.job_words.specs.declared.settings.Setting.{Setting}
use Rattle.job_words.specs.declared.tile.Wrap.{Wrap}
use Rattle.job_words.specs.declared.tile.TilePlan.{TilePlan}
use Rattle.job_words.specs.declared.tile.TileJob.{TileJob}
use Rattle.job_words.specs.Tables.{row, file_row, number_row, default_row, side_row, overlap_row, tol_row, seed_row}
use Rattle.job_words.specs.Words.{IsGiven, IsNamed, and_then, all_settings, number_at, nth_at, text_of, value_at}
use Rattle.job_words.specs.Names.{AreNames}
use Rattle.job_words.specs.OutputSize.{HasSize, size_of}

-- the keys of `tile`, in the order in which missing ones are looked for
abbrev pub tile_rows : List Row
tile_rows =
    file_row key.Sample
    ∷ file_row key.Out
    ∷ file_row key.Map
    ∷ number_row key.Width 1 GREATEST_AXIS
    ∷ number_row key.Height 1 GREATEST_AXIS
    ∷ default_row key.Frames 1 GREATEST_AXIS 1
    ∷ row key.Wrap (OneOf Wraps) (Default (Nth 2))
    ∷ side_row
    ∷ overlap_row 8
    ∷ tol_row
    ∷ seed_row
    ∷ []

-- the entry of a list of five, one for each text of `wrap`: x, y, xy, f, xyf
abbrev pub for_wrap : ℕ → Bool → Bool → Bool → Bool → Bool → Bool
for_wrap n x y xy f xyf = slice_index_or (x ∷ y ∷ xy ∷ f ∷ xyf ∷ []) n false

-- the axes at a position of the list of their texts
abbrev pub wrap_nth : ℕ → Wrap
wrap_nth n = record {
  x = for_wrap n true false true false true;
  y = for_wrap n false true true false true;
  f = for_wrap n false false false true true;
}

abbrev pub tile_plan : List Setting → TilePlan
tile_plan settings = record {
  wrap = wrap_nth (nth_at key.Wrap settings);
  side = number_at key.Side settings;
  overlap = number_at key.Overlap settings;
  tol = number_at key.Tol settings;
}

abbrev pub tile_of : List Setting → TileJob
tile_of settings = record {
  sample = text_of key.Sample settings;
  out = text_of key.Out settings;
  map = text_of key.Map settings;
  size = size_of settings;
  plan = tile_plan settings;
  seed = number_at key.Seed settings;
}

-- the edges meet on the axis, and there are fewer than 3 cells between them
abbrev pub is_narrow : Bool → ℕ → Bool
is_narrow wrapped n = wrapped && nat_lt n LEAST_WRAPPED_AXIS

-- the first such axis
abbrev pub narrow_axis : Wrap → Size → Option Axis
narrow_axis wrap size =
    if is_narrow wrap.x size.w then Some X
    else if is_narrow wrap.y size.h then Some Y
    else if is_narrow wrap.f size.f then Some F
    else None

abbrev pub unless_narrow : Option Axis → TileJob → Result TileJob WordFault
unless_narrow None job = Ok job
unless_narrow (Some axis) job = Err (Narrow axis)

-- the job of the words after `tile`: a narrow axis is their last refusal
abbrev pub tile_job_of : List (List ℕ) → Result TileJob WordFault
tile_job_of words =
    and_then (λ settings. unless_narrow
    (narrow_axis (tile_plan settings).wrap (size_of settings)) (tile_of settings))
    (all_settings tile_rows words)

-- the names of a job of `tile`, in the order of their keys
abbrev pub tile_names : TileJob → List (List ℕ)
tile_names job = job.sample ∷ job.out ∷ job.map ∷ []

-- an output has 3 cells at the least on each axis on which its edges meet
pub record IsWide (wrap : Wrap) (size : Size) : Type 0 where
  pub columns : wrap.x ≡ true → LEAST_WRAPPED_AXIS ≤ size.w
  pub lines : wrap.y ≡ true → LEAST_WRAPPED_AXIS ≤ size.h
  pub frames : wrap.f ≡ true → LEAST_WRAPPED_AXIS ≤ size.f

-- a job of `tile`: its values are in the ranges of their keys, its names differ, and no axis is narrow
pub record IsTileJob (job : TileJob) : Type 0 where
  pub names : AreNames (tile_names job)
  pub axes : HasAxes job.size
  pub wide : IsWide job.plan.wrap job.size
  pub side : (1 ≤ job.plan.side) × (job.plan.side ≤ GREATEST_AXIS)
  pub overlap : job.plan.overlap ≤ GREATEST_OVERLAP
  pub tol : job.plan.tol ≤ GREATEST_TOLERANCE
  pub seed : job.seed ≤ GREATEST_SEED

-- the values by which a job is made are of their keys' kinds
pub record HasTileValues (settings : List Setting) : Type 0 where
  pub sample : IsNamed (value_at key.Sample settings)
  pub out : IsNamed (value_at key.Out settings)
  pub map : IsNamed (value_at key.Map settings)
  pub size : HasSize settings
  pub wrap : IsGiven (OneOf Wraps) key.Wrap settings
  pub side : IsGiven (Within 1 GREATEST_AXIS) key.Side settings
  pub overlap : IsGiven (Within 0 GREATEST_OVERLAP) key.Overlap settings
  pub tol : IsGiven (Within 0 GREATEST_TOLERANCE) key.Tol settings
  pub seed : IsGiven (Within 0 GREATEST_SEED) key.Seed settings
