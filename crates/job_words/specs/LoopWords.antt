-- The words of `loop`: its keys, and its job. To be trusted: contracts cite these words. (Own.)
use Rattle.std.specs.Prelude.{◌≡◌, ◌≤◌, ℕ, nat_eq, List, [], ◌∷◌, Result, Ok, if◌then◌else◌}
use Rattle.cells.specs.declared.place.Taps.{Taps}
use Rattle.cells.specs.declared.place.Taps.TheVariants.{None0, Two, Four}
use Rattle.limits.specs.declared.bounds.TheConstants.{LONGEST_LOOP, WIDEST_GAP}
use Rattle.job_words.specs.declared.job.WordFault.{WordFault}
use Rattle.job_words.specs.declared.keys.Key.TheVariants as key
use Rattle.job_words.specs.declared.loop_words.LoopJob.{LoopJob}
use Rattle.job_words.specs.declared.settings.Setting.{Setting}
use Rattle.job_words.specs.declared.table.Choice.TheVariants.{Number}
use Rattle.job_words.specs.declared.table.Kind.TheVariants.{Among, Within}
use Rattle.job_words.specs.declared.table.Need.TheVariants.{Default}
use Rattle.job_words.specs.declared.table.Row.{Row}
use Rattle.job_words.specs.Tables.{row, number_row, default_row}
use Rattle.job_words.specs.Words.{IsGiven, and_then, all_settings, number_at}
use Rattle.job_words.specs.Names.{AreNames, HasNames, names_of, name_list, with_one_sample}

-- the keys of `loop` after those of its files
abbrev pub loop_own_rows : List Row
loop_own_rows =
    number_row key.Length 1 LONGEST_LOOP
    ∷ row key.Taps (Among 0 2 4) (Default (Number 4))
    ∷ default_row key.Gap 1 WIDEST_GAP 1
    ∷ []

-- the keys of `loop`, in the order in which missing ones are looked for
abbrev pub loop_rows : List Row
loop_rows = with_one_sample loop_own_rows

-- the filter of so many taps: 0, 2 or 4
abbrev pub taps_of : ℕ → Taps
taps_of n = if nat_eq n 0 then None0 else if nat_eq n 2 then Two else Four

abbrev pub loop_of : List Setting → LoopJob
loop_of settings = record {
  names = names_of settings;
  length = number_at key.Length settings;
  taps = taps_of (number_at key.Taps settings);
  gap = number_at key.Gap settings;
}

-- the job of the words after `loop`
abbrev pub loop_job_of : List (List ℕ) → Result LoopJob WordFault
loop_job_of words = and_then (λ settings. Ok (loop_of settings)) (all_settings loop_rows words)

-- a job of `loop`: its values are in the ranges of their keys, its names differ, and it has one sample
pub record IsLoopJob (job : LoopJob) : Type 0 where
  pub names : AreNames (name_list job.names)
  pub one : job.names.more ≡ []
  pub frames : (1 ≤ job.length) × (job.length ≤ LONGEST_LOOP)
  pub gap : (1 ≤ job.gap) × (job.gap ≤ WIDEST_GAP)

-- the values by which a job is made are of their keys' kinds
pub record HasLoopValues (settings : List Setting) : Type 0 where
  pub names : HasNames settings
  pub frames : IsGiven (Within 1 LONGEST_LOOP) key.Length settings
  pub taps : IsGiven (Among 0 2 4) key.Taps settings
  pub gap : IsGiven (Within 1 WIDEST_GAP) key.Gap settings
