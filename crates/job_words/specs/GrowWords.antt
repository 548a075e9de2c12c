-- The words of `grow`: its keys, and its job. To be trusted: contracts cite these words. (Own.)
use Rattle.std.specs.Prelude.{◌≤◌, ℕ, List, [], ◌∷◌, Result, Ok, slice_index_or}
use Rattle.cells.specs.Places.{HasAxes}
use Rattle.limits.specs.declared.bounds.TheConstants.{GREATEST_AXIS, GREATEST_OVERLAP, GREATEST_SEED, GREATEST_TOLERANCE, MOST_ROUNDS}
use Rattle.job_words.specs.declared.job.WordFault.{WordFault}
use Rattle.job_words.specs.declared.keys.Key.TheVariants as key
use Rattle.job_words.specs.declared.table.Texts.TheVariants.{Places}
use Rattle.job_words.specs.declared.table.Kind.TheVariants.{Within, OneOf}
use Rattle.job_words.specs.declared.table.Row.{Row}
use Rattle.job_words.specs.declared.settings.Setting.{Setting}
use Rattle.job_words.specs.declared.grow.Place.{Place}
use Rattle.job_words.specs.declared.grow.Place.TheVariants.{Grid, Random, Whole, Sub}
use Rattle.job_words.specs.declared.grow.GrowJob.{GrowJob}
use Rattle.job_words.specs.Tables.{number_row, default_row, place_row, side_row, overlap_row, tol_row, rounds_row, seed_row, turns_row}
use Rattle.job_words.specs.Words.{IsGiven, and_then, all_settings, number_at, nth_at}
use Rattle.job_words.specs.Names.{AreNames, HasNames, names_of, name_list, with_files}
use Rattle.job_words.specs.OutputSize.{HasSize, size_of}
use Rattle.job_words.specs.TurnWords.{HasTurns, turns_of}

-- the keys of `grow` after those of its files
abbrev pub grow_own_rows : List Row
grow_own_rows =
    number_row key.Width 1 GREATEST_AXIS
    ∷ number_row key.Height 1 GREATEST_AXIS
    ∷ default_row key.Frames 1 GREATEST_AXIS 1
    ∷ place_row
    ∷ side_row
    ∷ overlap_row 8
    ∷ tol_row
    ∷ rounds_row 0
    ∷ seed_row
    ∷ turns_row
    ∷ []

-- the keys of `grow`, in the order in which missing ones are looked for
abbrev pub grow_rows : List Row
grow_rows = with_files grow_own_rows

-- the mode at a position of the list of their texts
abbrev pub place_nth : ℕ → Place
place_nth n = slice_index_or (Grid ∷ Random ∷ Whole ∷ Sub ∷ []) n Grid

abbrev pub grow_of : List Setting → GrowJob
grow_of settings = record {
  names = names_of settings;
  size = size_of settings;
  place = place_nth (nth_at key.Place settings);
  side = number_at key.Side settings;
  overlap = number_at key.Overlap settings;
  tol = number_at key.Tol settings;
  rounds = number_at key.Rounds settings;
  seed = number_at key.Seed settings;
  turns = turns_of settings;
}

-- the job of the words after `grow`
abbrev pub grow_job_of : List (List ℕ) → Result GrowJob WordFault
grow_job_of words = and_then (λ settings. Ok (grow_of settings)) (all_settings grow_rows words)

-- a job of `grow`: its values are in the ranges of their keys, and its names differ
pub record IsGrowJob (job : GrowJob) : Type 0 where
  pub names : AreNames (name_list job.names)
  pub axes : HasAxes job.size
  pub side : (1 ≤ job.side) × (job.side ≤ GREATEST_AXIS)
  pub overlap : job.overlap ≤ GREATEST_OVERLAP
  pub tol : job.tol ≤ GREATEST_TOLERANCE
  pub rounds : job.rounds ≤ MOST_ROUNDS
  pub seed : job.seed ≤ GREATEST_SEED

-- the values by which a job is made are of their keys' kinds
pub record HasGrowValues (settings : List Setting) : Type 0 where
  pub names : HasNames settings
  pub size : HasSize settings
  pub place : IsGiven (OneOf Places) key.Place settings
  pub side : IsGiven (Within 1 GREATEST_AXIS) key.Side settings
  pub overlap : IsGiven (Within 0 GREATEST_OVERLAP) key.Overlap settings
  pub tol : IsGiven (Within 0 GREATEST_TOLERANCE) key.Tol settings
  pub rounds : IsGiven (Within 0 MOST_ROUNDS) key.Rounds settings
  pub seed : IsGiven (Within 0 GREATEST_SEED) key.Seed settings
  pub turns : HasTurns settings
