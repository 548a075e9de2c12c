-- The job of a list of words, or its first refusal. To be trusted: contracts cite it. (Own.)
use Rattle.std.specs.Prelude.{ℕ, List, [], ◌∷◌, Result, Ok, Err, codes, if◌then◌else◌}
use Rattle.job_words.specs.declared.job.Job.{Job}
use Rattle.job_words.specs.declared.job.Job.TheVariants.{Grow, Quilt, Loop, Check, Trial, Upgrade, Tile, Merge, Transfer}
use Rattle.job_words.specs.declared.job.WordFault.{WordFault}
use Rattle.job_words.specs.declared.job.WordFault.TheVariants.{NoCommand, UnknownCommand}
use Rattle.job_words.specs.Texts.{same_text}
use Rattle.job_words.specs.Words.{and_then}
use Rattle.job_words.specs.CheckWords.{IsCheckJob, check_job_of}
use Rattle.job_words.specs.GrowWords.{IsGrowJob, grow_job_of}
use Rattle.job_words.specs.LoopWords.{IsLoopJob, loop_job_of}
use Rattle.job_words.specs.MergeWords.{IsMergeJob, merge_job_of}
use Rattle.job_words.specs.QuiltWords.{IsQuiltJob, quilt_job_of}
use Rattle.job_words.specs.TileWords.{IsTileJob, tile_job_of}
use Rattle.job_words.specs.TransferWords.{IsTransferJob, transfer_job_of}
use Rattle.job_words.specs.TrialWords.{IsTrialJob, trial_job_of}
use Rattle.job_words.specs.UpgradeWords.{IsUpgradeJob, upgrade_job_of}

-- the jobs of the words after each command
abbrev pub grow_asked : List (List ℕ) → Result Job WordFault
grow_asked words = and_then (λ job. Ok (Grow job)) (grow_job_of words)

abbrev pub quilt_asked : List (List ℕ) → Result Job WordFault
quilt_asked words = and_then (λ job. Ok (Quilt job)) (quilt_job_of words)

abbrev pub loop_asked : List (List ℕ) → Result Job WordFault
loop_asked words = and_then (λ job. Ok (Loop job)) (loop_job_of words)

abbrev pub check_asked : List (List ℕ) → Result Job WordFault
check_asked words = and_then (λ job. Ok (Check job)) (check_job_of words)

abbrev pub trial_asked : List (List ℕ) → Result Job WordFault
trial_asked words = and_then (λ job. Ok (Trial job)) (trial_job_of words)

abbrev pub upgrade_asked : List (List ℕ) → Result Job WordFault
upgrade_asked words = and_then (λ job. Ok (Upgrade job)) (upgrade_job_of words)

abbrev pub tile_asked : List (List ℕ) → Result Job WordFault
tile_asked words = and_then (λ job. Ok (Tile job)) (tile_job_of words)

abbrev pub merge_asked : List (List ℕ) → Result Job WordFault
merge_asked words = and_then (λ job. Ok (Merge job)) (merge_job_of words)

abbrev pub transfer_asked : List (List ℕ) → Result Job WordFault
transfer_asked words = and_then (λ job. Ok (Transfer job)) (transfer_job_of words)

-- the first word names the command
abbrev pub job_of : List (List ℕ) → Result Job WordFault
job_of [] = Err NoCommand
job_of (command ∷ words) =
    if same_text command (codes "grow") then grow_asked words
    else if same_text command (codes "quilt") then quilt_asked words
    else if same_text command (codes "loop") then loop_asked words
    else if same_text command (codes "check") then check_asked words
    else if same_text command (codes "trial") then trial_asked words
    else if same_text command (codes "upgrade") then upgrade_asked words
    else if same_text command (codes "tile") then tile_asked words
    else if same_text command (codes "merge") then merge_asked words
    else if same_text command (codes "transfer") then transfer_asked words
    else Err UnknownCommand

-- each job that words ask for: its values are in the ranges of their keys, and its names differ
abbrev pub IsJob : Job → Type 0
IsJob (Grow job) = IsGrowJob job
IsJob (Quilt job) = IsQuiltJob job
IsJob (Loop job) = IsLoopJob job
IsJob (Check job) = IsCheckJob job
IsJob (Trial job) = IsTrialJob job
IsJob (Upgrade job) = IsUpgradeJob job
IsJob (Tile job) = IsTileJob job
IsJob (Merge job) = IsMergeJob job
IsJob (Transfer job) = IsTransferJob job
