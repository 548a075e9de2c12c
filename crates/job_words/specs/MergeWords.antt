-- The words of `merge`: its keys, and its job. To be trusted: contracts cite these words. (Own.)
use Rattle.std.specs.Prelude.{◌≤◌, ℕ, List, [], ◌∷◌, ◌++◌, length, map, Result, Ok}
use Rattle.job_words.specs.declared.job.WordFault.{WordFault}
use Rattle.job_words.specs.declared.keys.Key.TheVariants as key
use Rattle.job_words.specs.declared.merge.MergeJob.{MergeJob}
use Rattle.job_words.specs.declared.settings.Setting.{Setting}
use Rattle.job_words.specs.declared.table.Row.{Row}
use Rattle.job_words.specs.Names.{AreNames, more_names}
use Rattle.job_words.specs.Tables.{file_row, sample_row}
use Rattle.job_words.specs.Words.{IsNamed, and_then, all_settings, text_of, value_at}

-- the keys of `merge`, in the order in which missing ones are looked for: a word has to set the second
-- picture too
abbrev pub merge_rows : List Row
merge_rows =
    file_row key.Sample
    ∷ file_row (key.More 2)
    ∷ (map sample_row (3 ∷ 4 ∷ 5 ∷ 6 ∷ 7 ∷ 8 ∷ 9 ∷ 10 ∷ 11 ∷ 12 ∷ 13 ∷ 14 ∷ 15 ∷ 16 ∷ [])
    ++ file_row key.Marks ∷ file_row key.Out ∷ file_row key.Map ∷ [])

abbrev pub merge_of : List Setting → MergeJob
merge_of settings = record {
  sample = text_of key.Sample settings;
  more = more_names settings;
  marks = text_of key.Marks settings;
  out = text_of key.Out settings;
  map = text_of key.Map settings;
}

-- the job of the words after `merge`
abbrev pub merge_job_of : List (List ℕ) → Result MergeJob WordFault
merge_job_of words = and_then (λ settings. Ok (merge_of settings)) (all_settings merge_rows words)

-- the names of a job of `merge`, in the order of their keys
abbrev pub merge_names : MergeJob → List (List ℕ)
merge_names job = job.sample ∷ (job.more ++ job.marks ∷ job.out ∷ job.map ∷ [])

-- a job of `merge`: its names differ, and it has two pictures at least
pub record IsMergeJob (job : MergeJob) : Type 0 where
  pub names : AreNames (merge_names job)
  pub second : 1 ≤ length job.more

-- each of the files that a word has to set is named
pub record HasMergeNames (settings : List Setting) : Type 0 where
  pub sample : IsNamed (value_at key.Sample settings)
  pub second : IsNamed (value_at (key.More 2) settings)
  pub marks : IsNamed (value_at key.Marks settings)
  pub out : IsNamed (value_at key.Out settings)
  pub map : IsNamed (value_at key.Map settings)
