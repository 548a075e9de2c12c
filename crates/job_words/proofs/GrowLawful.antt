-- The job of `grow`: each value is in its range, and the names differ.
use Rattle.std.proofs.Common.{◌≡◌, ℕ, List, refl, sym, subst}
use Rattle.std.specs.Prelude.{Ok}
use Rattle.job_words.specs.declared.keys.Key.TheVariants as key
use Rattle.job_words.specs.declared.table.Row.{Row}
use Rattle.job_words.specs.declared.settings.Setting.{Setting}
use Rattle.job_words.specs.declared.grow.GrowJob.{GrowJob}
use Rattle.limits.specs.declared.bounds.TheConstants.{GREATEST_AXIS, GREATEST_OVERLAP, GREATEST_SEED, GREATEST_TOLERANCE, MOST_ROUNDS}
use Rattle.job_words.specs.Words.{value_at, all_settings, HasAllValues}
use Rattle.job_words.specs.GrowWords.{HasGrowValues, IsGrowJob, grow_of, grow_own_rows, grow_rows}
use Rattle.job_words.proofs.Full.{AreAll, AreSound, all_of_words, full, given_at, names_given, names_of_run, number_within, sound}

grow_sound : AreSound grow_rows grow_rows
grow_sound = sound grow_rows grow_rows refl

values : (all : List Setting) → HasAllValues grow_rows all → HasGrowValues all
values all full = record {
  names = names_given grow_own_rows all full;
  size = record {
    width = given_at grow_rows all full key.Width;
    height = given_at grow_rows all full key.Height;
    frames = given_at grow_rows all full key.Frames;
  };
  place = given_at grow_rows all full key.Place;
  side = given_at grow_rows all full key.Side;
  overlap = given_at grow_rows all full key.Overlap;
  tol = given_at grow_rows all full key.Tol;
  rounds = given_at grow_rows all full key.Rounds;
  seed = given_at grow_rows all full key.Seed;
  turns = given_at grow_rows all full key.Turns;
}

lawful : (all : List Setting) → AreAll grow_rows all → HasGrowValues all → IsGrowJob (grow_of all)
lawful all a v = record {
  names = names_of_run grow_rows all grow_sound a v.names;
  axes = record {
    w = number_within 1 GREATEST_AXIS (value_at key.Width all) v.size.width;
    h = number_within 1 GREATEST_AXIS (value_at key.Height all) v.size.height;
    f = number_within 1 GREATEST_AXIS (value_at key.Frames all) v.size.frames;
  };
  side = number_within 1 GREATEST_AXIS (value_at key.Side all) v.side;
  overlap = (number_within 0 GREATEST_OVERLAP (value_at key.Overlap all) v.overlap).1;
  tol = (number_within 0 GREATEST_TOLERANCE (value_at key.Tol all) v.tol).1;
  rounds = (number_within 0 MOST_ROUNDS (value_at key.Rounds all) v.rounds).1;
  seed = (number_within 0 GREATEST_SEED (value_at key.Seed all) v.seed).1;
}

-- as the calls see them
module _ (rows : List Row) (words : List (List ℕ)) (all seen : List Setting) (table : rows ≡ grow_rows) (read : all_settings rows words ≡ Ok all) (is : seen ≡ all) where
  whole : AreAll grow_rows seen
  whole = subst (AreAll grow_rows) (sym is) (all_of_words grow_rows words all (subst (λ r. all_settings r words ≡ Ok all) table read))

  pub grow_values : HasGrowValues seen
  grow_values = values seen (full grow_rows seen grow_sound whole)

  pub grow_lawful : (job : GrowJob) → job ≡ grow_of seen → IsGrowJob job
  grow_lawful job from = subst IsGrowJob (sym from) (lawful seen whole grow_values)
