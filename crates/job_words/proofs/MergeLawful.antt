-- The job of `merge`: its names differ, and it has a second picture.
use Rattle.std.proofs.Common.{◌≡◌, ℕ, List, [], ◌∷◌, ◌++◌, refl, sym, subst}
use Rattle.std.specs.Prelude.{Ok}
use Rattle.job_words.specs.declared.keys.Key.TheVariants as key
use Rattle.job_words.specs.declared.merge.MergeJob.{MergeJob}
use Rattle.job_words.specs.declared.table.Row.{Row}
use Rattle.job_words.specs.declared.settings.Setting.{Setting}
use Rattle.job_words.specs.Names.{AreNames, more_keys}
use Rattle.job_words.specs.Words.{value_at, all_settings, HasAllValues}
use Rattle.job_words.specs.MergeWords.{HasMergeNames, IsMergeJob, merge_of, merge_rows}
use Rattle.job_words.proofs.Full.{AreAll, AreSound, all_of_words, are_names, full, given_at, is_named, names_listed, second_set, sound}

merge_sound : AreSound merge_rows merge_rows
merge_sound = sound merge_rows merge_rows refl

values : (all : List Setting) → HasAllValues merge_rows all → HasMergeNames all
values all full = record {
  sample = is_named (value_at key.Sample all) (given_at merge_rows all full key.Sample);
  second = is_named (value_at (key.More 2) all) (given_at merge_rows all full (key.More 2));
  marks = is_named (value_at key.Marks all) (given_at merge_rows all full key.Marks);
  out = is_named (value_at key.Out all) (given_at merge_rows all full key.Out);
  map = is_named (value_at key.Map all) (given_at merge_rows all full key.Map);
}

lawful : (all : List Setting) → AreAll merge_rows all → HasMergeNames all → IsMergeJob (merge_of all)
lawful all a v =
    let last = key.Marks ∷ key.Out ∷ key.Map ∷ [] in
    let listed = names_listed merge_rows all merge_sound a last v.sample (v.marks, (v.out, (v.map, tt))) in
    record {
      names = subst AreNames listed (are_names merge_rows all merge_sound a (key.Sample ∷ (more_keys ++ last)) refl);
      second = second_set merge_rows all merge_sound a v.second;
    }

-- as the calls see them
module _ (rows : List Row) (words : List (List ℕ)) (all seen : List Setting) (table : rows ≡ merge_rows) (read : all_settings rows words ≡ Ok all) (is : seen ≡ all) where
  whole : AreAll merge_rows seen
  whole = subst (AreAll merge_rows) (sym is) (all_of_words merge_rows words all (subst (λ r. all_settings r words ≡ Ok all) table read))

  pub merge_values : HasMergeNames seen
  merge_values = values seen (full merge_rows seen merge_sound whole)

  pub merge_lawful : (job : MergeJob) → job ≡ merge_of seen → IsMergeJob job
  merge_lawful job from = subst IsMergeJob (sym from) (lawful seen whole merge_values)
