-- The words of `quilt`: its keys, and its job. To be trusted: contracts cite these words. (Own.)
use Rattle.std.specs.Prelude.{◌≡◌, ◌≤◌, ℕ, List, [], ◌∷◌, Result, Ok}
use Rattle.limits.specs.declared.bounds.TheConstants.{GREATEST_AXIS, GREATEST_OVERLAP, GREATEST_SEED, GREATEST_TOLERANCE}
use Rattle.job_words.specs.declared.job.WordFault.{WordFault}
use Rattle.job_words.specs.declared.keys.Key.TheVariants as key
use Rattle.job_words.specs.declared.quilt.QuiltJob.{QuiltJob}
use Rattle.job_words.specs.declared.settings.Setting.{Setting}
use Rattle.job_words.specs.declared.table.Kind.TheVariants.{Within}
use Rattle.job_words.specs.declared.table.Row.{Row}
use Rattle.job_words.specs.Tables.{number_row, block_row, overlap_row, tol_row, seed_row}
use Rattle.job_words.specs.Words.{IsGiven, and_then, all_settings, number_at}
use Rattle.job_words.specs.Names.{AreNames, HasNames, names_of, name_list, with_one_sample}

-- the keys of `quilt` after those of its files
abbrev pub quilt_own_rows : List Row
quilt_own_rows =
    number_row key.Width 1 GREATEST_AXIS
    ∷ number_row key.Height 1 GREATEST_AXIS
    ∷ block_row
    ∷ overlap_row 5
    ∷ tol_row
    ∷ seed_row
    ∷ []

-- the keys of `quilt`, in the order in which missing ones are looked for
abbrev pub quilt_rows : List Row
quilt_rows = with_one_sample quilt_own_rows

abbrev pub quilt_of : List Setting → QuiltJob
quilt_of settings = record {
  names = names_of settings;
  w = number_at key.Width settings;
  h = number_at key.Height settings;
  block = number_at key.Block settings;
  overlap = number_at key.Overlap settings;
  tol = number_at key.Tol settings;
  seed = number_at key.Seed settings;
}

-- the job of the words after `quilt`
abbrev pub quilt_job_of : List (List ℕ) → Result QuiltJob WordFault
quilt_job_of words = and_then (λ settings. Ok (quilt_of settings)) (all_settings quilt_rows words)

-- a job of `quilt`: its values are in the ranges of their keys, its names differ, and it has one sample
pub record IsQuiltJob (job : QuiltJob) : Type 0 where
  pub names : AreNames (name_list job.names)
  pub one : job.names.more ≡ []
  pub w : (1 ≤ job.w) × (job.w ≤ GREATEST_AXIS)
  pub h : (1 ≤ job.h) × (job.h ≤ GREATEST_AXIS)
  pub block : (1 ≤ job.block) × (job.block ≤ GREATEST_AXIS)
  pub overlap : job.overlap ≤ GREATEST_OVERLAP
  pub tol : job.tol ≤ GREATEST_TOLERANCE
  pub seed : job.seed ≤ GREATEST_SEED

-- the values by which a job is made are of their keys' kinds
pub record HasQuiltValues (settings : List Setting) : Type 0 where
  pub names : HasNames settings
  pub width : IsGiven (Within 1 GREATEST_AXIS) key.Width settings
  pub height : IsGiven (Within 1 GREATEST_AXIS) key.Height settings
  pub block : IsGiven (Within 1 GREATEST_AXIS) key.Block settings
  pub overlap : IsGiven (Within 0 GREATEST_OVERLAP) key.Overlap settings
  pub tol : IsGiven (Within 0 GREATEST_TOLERANCE) key.Tol settings
  pub seed : IsGiven (Within 0 GREATEST_SEED) key.Seed settings
