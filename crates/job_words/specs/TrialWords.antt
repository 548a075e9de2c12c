-- The words of `trial`: its keys, and its job. To be trusted: contracts cite these words. (Own.)
use Rattle.std.specs.Prelude.{◌≡◌, ◌≤◌, ℕ, List, [], ◌∷◌, Result, Ok}
use Rattle.cells.specs.Places.{HasAxes}
use Rattle.limits.specs.declared.bounds.TheConstants.{GREATEST_AXIS, GREATEST_OVERLAP, GREATEST_SAMPLE_NUMBER, GREATEST_SEED, GREATEST_TOLERANCE, MOST_ROUNDS}
use Rattle.cells.specs.declared.place.Size.{Size}
use Rattle.job_words.specs.declared.job.WordFault.{WordFault}
use Rattle.job_words.specs.declared.keys.Key.TheVariants as key
use Rattle.job_words.specs.declared.table.Texts.TheVariants.{Places}
use Rattle.job_words.specs.declared.table.Kind.TheVariants.{Within, OneOf}
use Rattle.job_words.specs.declared.table.Row.{Row}
use Rattle.job_words.specs.declared.settings.Setting.{Setting}
use Rattle.job_words.specs.declared.trial.TrialJob.{TrialJob}
use Rattle.job_words.specs.Tables.{number_row, default_row, place_row, side_row, overlap_row, tol_row, rounds_row, seed_row}
use Rattle.job_words.specs.Words.{IsGiven, and_then, all_settings, number_at, nth_at}
use Rattle.job_words.specs.GrowWords.{place_nth}

-- the keys of `trial`, in the order in which missing ones are looked for
abbrev pub trial_rows : List Row
trial_rows =
    default_row key.Width 1 GREATEST_AXIS 256
    ∷ default_row key.Height 1 GREATEST_AXIS 256
    ∷ number_row key.N 0 GREATEST_SAMPLE_NUMBER
    ∷ place_row
    ∷ side_row
    ∷ overlap_row 8
    ∷ tol_row
    ∷ rounds_row 5
    ∷ seed_row
    ∷ []

-- a picture of this size
abbrev pub trial_size : List Setting → Size
trial_size settings = record {
  w = number_at key.Width settings;
  h = number_at key.Height settings;
  f = 1;
}

abbrev pub trial_of : List Setting → TrialJob
trial_of settings = record {
  n = number_at key.N settings;
  size = trial_size settings;
  place = place_nth (nth_at key.Place settings);
  side = number_at key.Side settings;
  overlap = number_at key.Overlap settings;
  tol = number_at key.Tol settings;
  rounds = number_at key.Rounds settings;
  seed = number_at key.Seed settings;
}

-- the job of the words after `trial`
abbrev pub trial_job_of : List (List ℕ) → Result TrialJob WordFault
trial_job_of words = and_then (λ settings. Ok (trial_of settings)) (all_settings trial_rows words)

-- a job of `trial`: its values are in the ranges of their keys, and it makes a picture
pub record IsTrialJob (job : TrialJob) : Type 0 where
  pub n : job.n ≤ GREATEST_SAMPLE_NUMBER
  pub axes : HasAxes job.size
  pub frames : job.size.f ≡ 1
  pub side : (1 ≤ job.side) × (job.side ≤ GREATEST_AXIS)
  pub overlap : job.overlap ≤ GREATEST_OVERLAP
  pub tol : job.tol ≤ GREATEST_TOLERANCE
  pub rounds : job.rounds ≤ MOST_ROUNDS
  pub seed : job.seed ≤ GREATEST_SEED

-- the values by which a job is made are of their keys' kinds
pub record HasTrialValues (settings : List Setting) : Type 0 where
  pub n : IsGiven (Within 0 GREATEST_SAMPLE_NUMBER) key.N settings
  pub width : IsGiven (Within 1 GREATEST_AXIS) key.Width settings
  pub height : IsGiven (Within 1 GREATEST_AXIS) key.Height settings
  pub place : IsGiven (OneOf Places) key.Place settings
  pub side : IsGiven (Within 1 GREATEST_AXIS) key.Side settings
  pub overlap : IsGiven (Within 0 GREATEST_OVERLAP) key.Overlap settings
  pub tol : IsGiven (Within 0 GREATEST_TOLERANCE) key.Tol settings
  pub rounds : IsGiven (Within 0 MOST_ROUNDS) key.Rounds settings
  pub seed : IsGiven (Within 0 GREATEST_SEED) key.Seed settings
