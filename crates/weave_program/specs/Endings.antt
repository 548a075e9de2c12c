-- A reader has to trust this file. How the program ends after a run. (Own.)
use Rattle.std.specs.Prelude.{◌≡◌, ◌⊎◌, ℕ, List, [], ◌∷◌, codes, if◌then◌else◌}
use Rattle.shelf_traits.specs.Files.{SinkState}
use Rattle.shelf_traits.specs.Written.{Says}
use Rattle.job_words.specs.Texts.{same_text}
use Rattle.synth_report.specs.declared.fault.FileOf.{FileOf}
use Rattle.synth_report.specs.declared.fault.FileOf.TheVariants.{Map, NewRecord, Record}
use Rattle.synth_report.specs.declared.fault.Fault.{Fault}
use Rattle.synth_report.specs.declared.fault.Fault.TheVariants.{Write}
use Rattle.synth_report.specs.Texts.{fault_line, status_of}

-- the last file that a command writes, by its name
abbrev pub last_of : List ℕ → FileOf
last_of command =
    if same_text command (codes "tile") then Map
    else if same_text command (codes "merge") then Map
    else if same_text command (codes "upgrade") then NewRecord
    else Record

-- the last file that the command of these words writes, where it writes any
abbrev pub last_output : List (List ℕ) → FileOf
last_output [] = Record
last_output (command ∷ words) = last_of command

-- the program ends with the status of the run, and nothing more is said; or the run ended with 0 and its
-- last file couldn't be brought onto the disk: then it ends with 6 and the line of that write fault
abbrev pub Ends : (status : ℕ) (last : FileOf) (err err' : SinkState) (ended : ℕ) → Type 0
Ends status last err err' ended =
    ((ended ≡ status) × (err' ≡ err))
    ⊎ ((status ≡ 0) × (ended ≡ 6) × Says err err' (fault_line (Write last)))

-- the program ends with the status of this fault and its line
abbrev pub EndsBefore : Fault → (err err' : SinkState) (ended : ℕ) → Type 0
EndsBefore fault err err' ended = (ended ≡ status_of fault) × Says err err' (fault_line fault)
