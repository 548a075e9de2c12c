-- The job of `upgrade`: its names differ.
use Rattle.std.proofs.Common.{◌≡◌, ℕ, List, [], ◌∷◌, refl, sym, subst}
use Rattle.std.specs.Prelude.{Ok}
use Rattle.job_words.specs.declared.keys.Key.TheVariants as key
use Rattle.job_words.specs.declared.table.Row.{Row}
use Rattle.job_words.specs.declared.settings.Setting.{Setting}
use Rattle.job_words.specs.declared.upgrade.UpgradeJob.{UpgradeJob}
use Rattle.job_words.specs.Names.{AreNames}
use Rattle.job_words.specs.Words.{value_at, all_settings, HasAllValues}
use Rattle.job_words.specs.UpgradeWords.{HasUpgradeNames, IsUpgradeJob, upgrade_of, upgrade_rows}
use Rattle.job_words.proofs.Full.{AreAll, AreSound, all_of_words, are_names, full, given_at, is_named, names_set, sound}

upgrade_sound : AreSound upgrade_rows upgrade_rows
upgrade_sound = sound upgrade_rows upgrade_rows refl

values : (all : List Setting) → HasAllValues upgrade_rows all → HasUpgradeNames all
values all full = record {
  map = is_named (value_at key.Map all) (given_at upgrade_rows all full key.Map);
  record_file = is_named (value_at key.Record all) (given_at upgrade_rows all full key.Record);
  new_map = is_named (value_at key.NewMap all) (given_at upgrade_rows all full key.NewMap);
  new_record_file = is_named (value_at key.NewRecord all) (given_at upgrade_rows all full key.NewRecord);
}

lawful : (all : List Setting) → AreAll upgrade_rows all → HasUpgradeNames all → IsUpgradeJob (upgrade_of all)
lawful all a v =
    let keys = key.Map ∷ key.Record ∷ key.NewMap ∷ key.NewRecord ∷ [] in
    let listed = names_set upgrade_rows all upgrade_sound a keys (v.map, (v.record_file, (v.new_map, (v.new_record_file, tt)))) in
    record { names = subst AreNames listed (are_names upgrade_rows all upgrade_sound a keys refl) }

-- as the calls see them
module _ (rows : List Row) (words : List (List ℕ)) (all seen : List Setting) (table : rows ≡ upgrade_rows) (read : all_settings rows words ≡ Ok all) (is : seen ≡ all) where
  whole : AreAll upgrade_rows seen
  whole = subst (AreAll upgrade_rows) (sym is) (all_of_words upgrade_rows words all (subst (λ r. all_settings r words ≡ Ok all) table read))

  pub upgrade_values : HasUpgradeNames seen
  upgrade_values = values seen (full upgrade_rows seen upgrade_sound whole)

  pub upgrade_lawful : (job : UpgradeJob) → job ≡ upgrade_of seen → IsUpgradeJob job
  upgrade_lawful job from = subst IsUpgradeJob (sym from) (lawful seen whole upgrade_values)
