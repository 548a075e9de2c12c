-- The words of `upgrade`: its keys, and its job. To be trusted: contracts cite these words. (Own.)
use Rattle.std.specs.Prelude.{ℕ, List, [], ◌∷◌, Result, Ok}
use Rattle.job_words.specs.declared.job.WordFault.{WordFault}
use Rattle.job_words.specs.declared.keys.Key.TheVariants as key
use Rattle.job_words.specs.declared.settings.Setting.{Setting}
use Rattle.job_words.specs.declared.table.Row.{Row}
use Rattle.job_words.specs.declared.upgrade.UpgradeJob.{UpgradeJob}
use Rattle.job_words.specs.Names.{AreNames}
use Rattle.job_words.specs.Tables.{file_row}
use Rattle.job_words.specs.Words.{IsNamed, and_then, all_settings, text_of, value_at}

-- the keys of `upgrade`, in the order in which missing ones are looked for
abbrev pub upgrade_rows : List Row
upgrade_rows =
    file_row key.Map ∷ file_row key.Record ∷ file_row key.NewMap ∷ file_row key.NewRecord ∷ []

abbrev pub upgrade_of : List Setting → UpgradeJob
upgrade_of settings = record {
  map = text_of key.Map settings;
  record_file = text_of key.Record settings;
  new_map = text_of key.NewMap settings;
  new_record_file = text_of key.NewRecord settings;
}

-- the job of the words after `upgrade`
abbrev pub upgrade_job_of : List (List ℕ) → Result UpgradeJob WordFault
upgrade_job_of words =
    and_then (λ settings. Ok (upgrade_of settings)) (all_settings upgrade_rows words)

-- the names of a job of `upgrade`, in the order of their keys
abbrev pub upgrade_names : UpgradeJob → List (List ℕ)
upgrade_names job = job.map ∷ job.record_file ∷ job.new_map ∷ job.new_record_file ∷ []

-- a job of `upgrade`: its names differ
pub record IsUpgradeJob (job : UpgradeJob) : Type 0 where
  pub names : AreNames (upgrade_names job)

-- each of its files is named
pub record HasUpgradeNames (settings : List Setting) : Type 0 where
  pub map : IsNamed (value_at key.Map settings)
  pub record_file : IsNamed (value_at key.Record settings)
  pub new_map : IsNamed (value_at key.NewMap settings)
  pub new_record_file : IsNamed (value_at key.NewRecord settings)
