-- The words of `check`: its keys, and its job. To be trusted: contracts cite these words. (Own.)
use Rattle.std.specs.Prelude.{ℕ, List, [], ◌∷◌, Result, Ok}
use Rattle.job_words.specs.declared.check.CheckJob.{CheckJob}
use Rattle.job_words.specs.declared.job.WordFault.{WordFault}
use Rattle.job_words.specs.declared.settings.Setting.{Setting}
use Rattle.job_words.specs.declared.table.Row.{Row}
use Rattle.job_words.specs.Words.{and_then, all_settings}
use Rattle.job_words.specs.Names.{AreNames, HasNames, names_of, name_list, with_files}
use Rattle.job_words.specs.Tables.{turns_row}
use Rattle.job_words.specs.TurnWords.{HasTurns, turns_of}

-- the keys of `check` after those of its files
abbrev pub check_own_rows : List Row
check_own_rows = turns_row ∷ []

-- the keys of `check`, in the order in which missing ones are looked for
abbrev pub check_rows : List Row
check_rows = with_files check_own_rows

abbrev pub check_of : List Setting → CheckJob
check_of settings = record { names = names_of settings; turns = turns_of settings }

-- the job of the words after `check`
abbrev pub check_job_of : List (List ℕ) → Result CheckJob WordFault
check_job_of words = and_then (λ settings. Ok (check_of settings)) (all_settings check_rows words)

-- a job of `check`: its names differ
pub record IsCheckJob (job : CheckJob) : Type 0 where
  pub names : AreNames (name_list job.names)

-- the values by which a job is made are of their keys' kinds
pub record HasCheckValues (settings : List Setting) : Type 0 where
  pub names : HasNames settings
  pub turns : HasTurns settings
