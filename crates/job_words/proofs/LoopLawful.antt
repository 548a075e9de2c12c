-- The job of `loop`: each value is in its range, the names differ, and there is one sample.
use Rattle.std.proofs.Common.{◌≡◌, ℕ, List, refl, sym, subst}
use Rattle.std.specs.Prelude.{Ok}
use Rattle.limits.specs.declared.bounds.TheConstants.{LONGEST_LOOP, WIDEST_GAP}
use Rattle.job_words.specs.declared.keys.Key.TheVariants as key
use Rattle.job_words.specs.declared.loop_words.LoopJob.{LoopJob}
use Rattle.job_words.specs.declared.table.Row.{Row}
use Rattle.job_words.specs.declared.settings.Setting.{Setting}
use Rattle.job_words.specs.Words.{value_at, all_settings, HasAllValues}
use Rattle.job_words.specs.LoopWords.{HasLoopValues, IsLoopJob, loop_of, loop_own_rows, loop_rows}
use Rattle.job_words.proofs.Full.{AreAll, AreSound, all_of_words, full, given_at, names_given_of_one, names_of_run, none_further, number_within, sound}

loop_sound : AreSound loop_rows loop_rows
loop_sound = sound loop_rows loop_rows refl

values : (all : List Setting) → HasAllValues loop_rows all → HasLoopValues all
values all full = record {
  names = names_given_of_one loop_own_rows all full;
  frames = given_at loop_rows all full key.Length;
  taps = given_at loop_rows all full key.Taps;
  gap = given_at loop_rows all full key.Gap;
}

lawful : (all : List Setting) → AreAll loop_rows all → HasLoopValues all → IsLoopJob (loop_of all)
lawful all a v = record {
  names = names_of_run loop_rows all loop_sound a v.names;
  one = none_further loop_rows all loop_sound a refl;
  frames = number_within 1 LONGEST_LOOP (value_at key.Length all) v.frames;
  gap = number_within 1 WIDEST_GAP (value_at key.Gap all) v.gap;
}

-- as the calls see them
module _ (rows : List Row) (words : List (List ℕ)) (all seen : List Setting) (table : rows ≡ loop_rows) (read : all_settings rows words ≡ Ok all) (is : seen ≡ all) where
  whole : AreAll loop_rows seen
  whole = subst (AreAll loop_rows) (sym is) (all_of_words loop_rows words all (subst (λ r. all_settings r words ≡ Ok all) table read))

  pub loop_values : HasLoopValues seen
  loop_values = values seen (full loop_rows seen loop_sound whole)

  pub loop_lawful : (job : LoopJob) → job ≡ loop_of seen → IsLoopJob job
  loop_lawful job from = subst IsLoopJob (sym from) (lawful seen whole loop_values)
