-- The file names of a job. To be trusted: contracts cite these words. (Own.)
use Rattle.std.specs.Prelude.{◌≢◌, ℕ, List, [], ◌∷◌, ◌++◌, All, AllPairs, filter_map, map, Option, Some, None}
use Rattle.job_words.specs.declared.job.Names.{Names}
use Rattle.job_words.specs.declared.keys.Key.{Key}
use Rattle.job_words.specs.declared.keys.Key.TheVariants as key
use Rattle.job_words.specs.declared.settings.Setting.{Setting}
use Rattle.job_words.specs.declared.settings.Value.{Value}
use Rattle.job_words.specs.declared.settings.Value.TheVariants.{Named}
use Rattle.job_words.specs.declared.table.Row.{Row}
use Rattle.job_words.specs.Tables.{file_row, sample_row}
use Rattle.job_words.specs.Words.{IsNamed, text_of, value_at}

-- the rows of further samples, in the order of their numbers
abbrev pub sample_rows : List Row
sample_rows =
    map sample_row (2 ∷ 3 ∷ 4 ∷ 5 ∷ 6 ∷ 7 ∷ 8 ∷ 9 ∷ 10 ∷ 11 ∷ 12 ∷ 13 ∷ 14 ∷ 15 ∷ 16 ∷ [])

-- the rows of the files of a run over one sample, and then others
abbrev pub with_one_sample : List Row → List Row
with_one_sample rows =
    file_row key.Sample ∷ file_row key.Out ∷ file_row key.Map ∷ file_row key.Record ∷ rows

-- the rows of the files of a run over samples, and then others
abbrev pub with_files : List Row → List Row
with_files rows =
    file_row key.Sample
    ∷ (sample_rows ++ file_row key.Out ∷ file_row key.Map ∷ file_row key.Record ∷ rows)

-- no name is empty, and no two are the same
pub record AreNames (names : List (List ℕ)) : Type 0 where
  pub given : All (λ name. name ≢ []) names
  pub apart : AllPairs (λ a b. a ≢ b) names

-- the names of a run, in the order of their keys
abbrev pub name_list : Names → List (List ℕ)
name_list names =
    names.sample ∷ (names.more ++ names.out ∷ names.map ∷ names.record_file ∷ [])

-- the keys of further samples, in the order of their numbers
abbrev pub more_keys : List Key
more_keys =
    key.More 2 ∷ key.More 3 ∷ key.More 4 ∷ key.More 5 ∷ key.More 6 ∷ key.More 7 ∷ key.More 8
    ∷ key.More 9 ∷ key.More 10 ∷ key.More 11 ∷ key.More 12 ∷ key.More 13 ∷ key.More 14
    ∷ key.More 15 ∷ key.More 16 ∷ []

abbrev pub name_in : Option Value → Option (List ℕ)
name_in (Some (Named name)) = Some name
name_in value = None

-- the file name of a key, where one is set
abbrev pub name_if_set : List Setting → Key → Option (List ℕ)
name_if_set settings key = name_in (value_at key settings)

-- the file names of the further samples that are set, in the order of their numbers: a number that
-- isn't set is missing where a greater one is
abbrev pub more_names : List Setting → List (List ℕ)
more_names settings = filter_map (name_if_set settings) more_keys

abbrev pub names_of : List Setting → Names
names_of settings = record {
  sample = text_of key.Sample settings;
  more = more_names settings;
  out = text_of key.Out settings;
  map = text_of key.Map settings;
  record_file = text_of key.Record settings;
}

-- each of them that a word has to set is set
pub record HasNames (settings : List Setting) : Type 0 where
  pub sample : IsNamed (value_at key.Sample settings)
  pub out : IsNamed (value_at key.Out settings)
  pub map : IsNamed (value_at key.Map settings)
  pub record_file : IsNamed (value_at key.Record settings)
