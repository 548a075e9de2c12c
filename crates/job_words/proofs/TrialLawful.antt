-- The job of `trial`: each value is in its range.
use Rattle.std.proofs.Common.{◌≡◌, ℕ, List, refl, sym, subst, arith}
use Rattle.std.specs.Prelude.{Ok}
use Rattle.limits.specs.declared.bounds.TheConstants.{GREATEST_AXIS, GREATEST_OVERLAP, GREATEST_SAMPLE_NUMBER, GREATEST_SEED, GREATEST_TOLERANCE, MOST_ROUNDS}
use Rattle.job_words.specs.declared.keys.Key.TheVariants as key
use Rattle.job_words.specs.declared.table.Row.{Row}
use Rattle.job_words.specs.declared.settings.Setting.{Setting}
use Rattle.job_words.specs.declared.trial.TrialJob.{TrialJob}
use Rattle.job_words.specs.Words.{value_at, all_settings, HasAllValues}
use Rattle.job_words.specs.TrialWords.{HasTrialValues, IsTrialJob, trial_of, trial_rows}
use Rattle.job_words.proofs.Full.{AreAll, AreSound, all_of_words, full, given_at, number_within, sound}

trial_sound : AreSound trial_rows trial_rows
trial_sound = sound trial_rows trial_rows refl

values : (all : List Setting) → HasAllValues trial_rows all → HasTrialValues all
values all full = record {
  n = given_at trial_rows all full key.N;
  width = given_at trial_rows all full key.Width;
  height = given_at trial_rows all full key.Height;
  place = given_at trial_rows all full key.Place;
  side = given_at trial_rows all full key.Side;
  overlap = given_at trial_rows all full key.Overlap;
  tol = given_at trial_rows all full key.Tol;
  rounds = given_at trial_rows all full key.Rounds;
  seed = given_at trial_rows all full key.Seed;
}

lawful : (all : List Setting) → HasTrialValues all → IsTrialJob (trial_of all)
lawful all v = record {
  n = (number_within 0 GREATEST_SAMPLE_NUMBER (value_at key.N all) v.n).1;
  axes = record {
    w = number_within 1 GREATEST_AXIS (value_at key.Width all) v.width;
    h = number_within 1 GREATEST_AXIS (value_at key.Height all) v.height;
    f = (omega arith, omega arith);
  };
  frames = refl;
  side = number_within 1 GREATEST_AXIS (value_at key.Side all) v.side;
  overlap = (number_within 0 GREATEST_OVERLAP (value_at key.Overlap all) v.overlap).1;
  tol = (number_within 0 GREATEST_TOLERANCE (value_at key.Tol all) v.tol).1;
  rounds = (number_within 0 MOST_ROUNDS (value_at key.Rounds all) v.rounds).1;
  seed = (number_within 0 GREATEST_SEED (value_at key.Seed all) v.seed).1;
}

-- as the calls see them
module _ (rows : List Row) (words : List (List ℕ)) (all seen : List Setting) (table : rows ≡ trial_rows) (read : all_settings rows words ≡ Ok all) (is : seen ≡ all) where
  whole : AreAll trial_rows seen
  whole = subst (AreAll trial_rows) (sym is) (all_of_words trial_rows words all (subst (λ r. all_settings r words ≡ Ok all) table read))

  pub trial_values : HasTrialValues seen
  trial_values = values seen (full trial_rows seen trial_sound whole)

  pub trial_lawful : (job : TrialJob) → job ≡ trial_of seen → IsTrialJob job
  trial_lawful job from = subst IsTrialJob (sym from) (lawful seen trial_values)
