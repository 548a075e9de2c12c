-- The job of `check`: each value is of its kind, and the names differ.
use Rattle.std.proofs.Common.{◌≡◌, ℕ, List, refl, sym, subst}
use Rattle.std.specs.Prelude.{Ok}
use Rattle.job_words.specs.declared.keys.Key.TheVariants as key
use Rattle.job_words.specs.declared.table.Row.{Row}
use Rattle.job_words.specs.declared.settings.Setting.{Setting}
use Rattle.job_words.specs.declared.check.CheckJob.{CheckJob}
use Rattle.job_words.specs.Words.{HasAllValues, all_settings}
use Rattle.job_words.specs.CheckWords.{HasCheckValues, IsCheckJob, check_of, check_own_rows, check_rows}
use Rattle.job_words.proofs.Full.{AreAll, AreSound, all_of_words, full, given_at, names_given, names_of_run, sound}

check_sound : AreSound check_rows check_rows
check_sound = sound check_rows check_rows refl

values : (all : List Setting) → HasAllValues check_rows all → HasCheckValues all
values all full = record {
  names = names_given check_own_rows all full;
  turns = given_at check_rows all full key.Turns;
}

-- as the calls see them
module _ (rows : List Row) (words : List (List ℕ)) (all seen : List Setting) (table : rows ≡ check_rows) (read : all_settings rows words ≡ Ok all) (is : seen ≡ all) where
  whole : AreAll check_rows seen
  whole = subst (AreAll check_rows) (sym is) (all_of_words check_rows words all (subst (λ r. all_settings r words ≡ Ok all) table read))

  pub check_values : HasCheckValues seen
  check_values = values seen (full check_rows seen check_sound whole)

  pub check_lawful : (job : CheckJob) → job ≡ check_of seen → IsCheckJob job
  check_lawful job from = subst IsCheckJob (sym from) (record { names = names_of_run check_rows seen check_sound whole check_values.names })
