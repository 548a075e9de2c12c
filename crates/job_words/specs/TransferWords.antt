-- The words of `transfer`: its keys, and its job. To be trusted: contracts cite these words. (Own.)
use Rattle.std.specs.Prelude.{◌≡◌, ◌≤◌, ℕ, List, [], ◌∷◌, Result, Ok}
use Rattle.limits.specs.declared.bounds.TheConstants.{GREATEST_ALPHA, GREATEST_AXIS, GREATEST_OVERLAP, GREATEST_SEED, GREATEST_TOLERANCE}
use Rattle.job_words.specs.declared.job.WordFault.{WordFault}
use Rattle.job_words.specs.declared.keys.Key.TheVariants as key
use Rattle.job_words.specs.declared.settings.Setting.{Setting}
use Rattle.job_words.specs.declared.table.Kind.TheVariants.{Within}
use Rattle.job_words.specs.declared.table.Row.{Row}
use Rattle.job_words.specs.declared.transfer.TransferJob.{TransferJob}
use Rattle.job_words.specs.Tables.{file_row, default_row, block_row, overlap_row, tol_row, seed_row}
use Rattle.job_words.specs.Words.{IsGiven, IsNamed, and_then, all_settings, number_at, text_of, value_at}
use Rattle.job_words.specs.Names.{AreNames, HasNames, names_of}

-- the keys of `transfer`, in the order in which missing ones are looked for
abbrev pub transfer_rows : List Row
transfer_rows =
    file_row key.Sample
    ∷ file_row key.Target
    ∷ file_row key.Out
    ∷ file_row key.Map
    ∷ file_row key.Record
    ∷ block_row
    ∷ overlap_row 5
    ∷ tol_row
    ∷ default_row key.Alpha 0 GREATEST_ALPHA 50
    ∷ seed_row
    ∷ []

abbrev pub transfer_of : List Setting → TransferJob
transfer_of settings = record {
  names = names_of settings;
  target = text_of key.Target settings;
  block = number_at key.Block settings;
  overlap = number_at key.Overlap settings;
  tol = number_at key.Tol settings;
  alpha = number_at key.Alpha settings;
  seed = number_at key.Seed settings;
}

-- the job of the words after `transfer`
abbrev pub transfer_job_of : List (List ℕ) → Result TransferJob WordFault
transfer_job_of words =
    and_then (λ settings. Ok (transfer_of settings)) (all_settings transfer_rows words)

-- the names of a job of `transfer`, in the order of their keys
abbrev pub transfer_names : TransferJob → List (List ℕ)
transfer_names job =
    job.names.sample ∷ job.target ∷ job.names.out ∷ job.names.map ∷ job.names.record_file ∷ []

-- a job of `transfer`: its values are in the ranges of their keys, its names differ, and it has one sample
pub record IsTransferJob (job : TransferJob) : Type 0 where
  pub names : AreNames (transfer_names job)
  pub one : job.names.more ≡ []
  pub block : (1 ≤ job.block) × (job.block ≤ GREATEST_AXIS)
  pub overlap : job.overlap ≤ GREATEST_OVERLAP
  pub tol : job.tol ≤ GREATEST_TOLERANCE
  pub alpha : job.alpha ≤ GREATEST_ALPHA
  pub seed : job.seed ≤ GREATEST_SEED

-- the values by which a job is made are of their keys' kinds
pub record HasTransferValues (settings : List Setting) : Type 0 where
  pub names : HasNames settings
  pub target : IsNamed (value_at key.Target settings)
  pub block : IsGiven (Within 1 GREATEST_AXIS) key.Block settings
  pub overlap : IsGiven (Within 0 GREATEST_OVERLAP) key.Overlap settings
  pub tol : IsGiven (Within 0 GREATEST_TOLERANCE) key.Tol settings
  pub alpha : IsGiven (Within 0 GREATEST_ALPHA) key.Alpha settings
  pub seed : IsGiven (Within 0 GREATEST_SEED) key.Seed settings
