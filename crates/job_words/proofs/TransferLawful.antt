-- The job of `transfer`: each value is in its range, the names differ, and there is one sample.
use Rattle.std.proofs.Common.{◌≡◌, ℕ, List, [], ◌∷◌, refl, sym, subst}
use Rattle.std.specs.Prelude.{Ok}
use Rattle.limits.specs.declared.bounds.TheConstants.{GREATEST_ALPHA, GREATEST_AXIS, GREATEST_OVERLAP, GREATEST_SEED, GREATEST_TOLERANCE}
use Rattle.job_words.specs.declared.keys.Key.TheVariants as key
use Rattle.job_words.specs.declared.table.Row.{Row}
use Rattle.job_words.specs.declared.settings.Setting.{Setting}
use Rattle.job_words.specs.declared.transfer.TransferJob.{TransferJob}
use Rattle.job_words.specs.Names.{AreNames}
use Rattle.job_words.specs.Words.{value_at, all_settings, HasAllValues}
use Rattle.job_words.specs.TransferWords.{HasTransferValues, IsTransferJob, transfer_of, transfer_rows}
use Rattle.job_words.proofs.Full.{AreAll, AreSound, all_of_words, are_names, full, given_at, is_named, names_set, none_further, number_within, sound}

transfer_sound : AreSound transfer_rows transfer_rows
transfer_sound = sound transfer_rows transfer_rows refl

values : (all : List Setting) → HasAllValues transfer_rows all → HasTransferValues all
values all full = record {
  names = record {
    sample = is_named (value_at key.Sample all) (given_at transfer_rows all full key.Sample);
    out = is_named (value_at key.Out all) (given_at transfer_rows all full key.Out);
    map = is_named (value_at key.Map all) (given_at transfer_rows all full key.Map);
    record_file = is_named (value_at key.Record all) (given_at transfer_rows all full key.Record);
  };
  target = is_named (value_at key.Target all) (given_at transfer_rows all full key.Target);
  block = given_at transfer_rows all full key.Block;
  overlap = given_at transfer_rows all full key.Overlap;
  tol = given_at transfer_rows all full key.Tol;
  alpha = given_at transfer_rows all full key.Alpha;
  seed = given_at transfer_rows all full key.Seed;
}

lawful : (all : List Setting) → AreAll transfer_rows all → HasTransferValues all → IsTransferJob (transfer_of all)
lawful all a v =
    let keys = key.Sample ∷ key.Target ∷ key.Out ∷ key.Map ∷ key.Record ∷ [] in
    let listed = names_set transfer_rows all transfer_sound a keys (v.names.sample, (v.target, (v.names.out, (v.names.map, (v.names.record_file, tt))))) in
    record {
      names = subst AreNames listed (are_names transfer_rows all transfer_sound a keys refl);
      one = none_further transfer_rows all transfer_sound a refl;
      block = number_within 1 GREATEST_AXIS (value_at key.Block all) v.block;
      overlap = (number_within 0 GREATEST_OVERLAP (value_at key.Overlap all) v.overlap).1;
      tol = (number_within 0 GREATEST_TOLERANCE (value_at key.Tol all) v.tol).1;
      alpha = (number_within 0 GREATEST_ALPHA (value_at key.Alpha all) v.alpha).1;
      seed = (number_within 0 GREATEST_SEED (value_at key.Seed all) v.seed).1;
    }

-- as the calls see them
module _ (rows : List Row) (words : List (List ℕ)) (all seen : List Setting) (table : rows ≡ transfer_rows) (read : all_settings rows words ≡ Ok all) (is : seen ≡ all) where
  whole : AreAll transfer_rows seen
  whole = subst (AreAll transfer_rows) (sym is) (all_of_words transfer_rows words all (subst (λ r. all_settings r words ≡ Ok all) table read))

  pub transfer_values : HasTransferValues seen
  transfer_values = values seen (full transfer_rows seen transfer_sound whole)

  pub transfer_lawful : (job : TransferJob) → job ≡ transfer_of seen → IsTransferJob job
  transfer_lawful job from = subst IsTransferJob (sym from) (lawful seen whole transfer_values)
