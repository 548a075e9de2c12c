-- The job of `quilt`: each value is in its range, the names differ, and there is one sample.
use Rattle.std.proofs.Common.{◌≡◌, ℕ, List, refl, sym, subst}
use Rattle.std.specs.Prelude.{Ok}
use Rattle.limits.specs.declared.bounds.TheConstants.{GREATEST_AXIS, GREATEST_OVERLAP, GREATEST_SEED, GREATEST_TOLERANCE}
use Rattle.job_words.specs.declared.keys.Key.TheVariants as key
use Rattle.job_words.specs.declared.quilt.QuiltJob.{QuiltJob}
use Rattle.job_words.specs.declared.table.Row.{Row}
use Rattle.job_words.specs.declared.settings.Setting.{Setting}
use Rattle.job_words.specs.Words.{value_at, all_settings, HasAllValues}
use Rattle.job_words.specs.QuiltWords.{HasQuiltValues, IsQuiltJob, quilt_of, quilt_own_rows, quilt_rows}
use Rattle.job_words.proofs.Full.{AreAll, AreSound, all_of_words, full, given_at, names_given_of_one, names_of_run, none_further, number_within, sound}

quilt_sound : AreSound quilt_rows quilt_rows
quilt_sound = sound quilt_rows quilt_rows refl

values : (all : List Setting) → HasAllValues quilt_rows all → HasQuiltValues all
values all full = record {
  names = names_given_of_one quilt_own_rows all full;
  width = given_at quilt_rows all full key.Width;
  height = given_at quilt_rows all full key.Height;
  block = given_at quilt_rows all full key.Block;
  overlap = given_at quilt_rows all full key.Overlap;
  tol = given_at quilt_rows all full key.Tol;
  seed = given_at quilt_rows all full key.Seed;
}

lawful : (all : List Setting) → AreAll quilt_rows all → HasQuiltValues all → IsQuiltJob (quilt_of all)
lawful all a v = record {
  names = names_of_run quilt_rows all quilt_sound a v.names;
  one = none_further quilt_rows all quilt_sound a refl;
  w = number_within 1 GREATEST_AXIS (value_at key.Width all) v.width;
  h = number_within 1 GREATEST_AXIS (value_at key.Height all) v.height;
  block = number_within 1 GREATEST_AXIS (value_at key.Block all) v.block;
  overlap = (number_within 0 GREATEST_OVERLAP (value_at key.Overlap all) v.overlap).1;
  tol = (number_within 0 GREATEST_TOLERANCE (value_at key.Tol all) v.tol).1;
  seed = (number_within 0 GREATEST_SEED (value_at key.Seed all) v.seed).1;
}

-- as the calls see them
module _ (rows : List Row) (words : List (List ℕ)) (all seen : List Setting) (table : rows ≡ quilt_rows) (read : all_settings rows words ≡ Ok all) (is : seen ≡ all) where
  whole : AreAll quilt_rows seen
  whole = subst (AreAll quilt_rows) (sym is) (all_of_words quilt_rows words all (subst (λ r. all_settings r words ≡ Ok all) table read))

  pub quilt_values : HasQuiltValues seen
  quilt_values = values seen (full quilt_rows seen quilt_sound whole)

  pub quilt_lawful : (job : QuiltJob) → job ≡ quilt_of seen → IsQuiltJob job
  quilt_lawful job from = subst IsQuiltJob (sym from) (lawful seen whole quilt_values)
