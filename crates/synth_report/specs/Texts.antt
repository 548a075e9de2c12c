-- The lines of faults with their statuses, and the reports. To be trusted: contracts cite them.
-- (Own; a line ends with LF.)
use Rattle.std.specs.Prelude.{ℕ, List, [], ◌∷◌, ◌++◌, Option, Some, None, codes, decimal}
use Rattle.std.specs.List.{concat}
use Rattle.cells.specs.declared.place.Axis.{Axis}
use Rattle.cells.specs.declared.place.Axis.TheVariants.{X, Y, F}
use Rattle.cells.specs.declared.place.Size.{Size}
use Rattle.shelf_traits.specs.declared.fault.What.{What}
use Rattle.shelf_traits.specs.declared.fault.What.TheVariants as what
use Rattle.shelf_traits.specs.declared.fault.FormFault.{FormFault}
use Rattle.shelf_traits.specs.declared.fault.FormFault.TheVariants as form
use Rattle.job_words.specs.declared.job.WordFault.{WordFault}
use Rattle.job_words.specs.declared.job.WordFault.TheVariants as word
use Rattle.job_words.specs.Keys.{key_number, key_stem, number_text}
use Rattle.synth_report.specs.declared.fault.FileOf.{FileOf}
use Rattle.synth_report.specs.declared.fault.FileOf.TheVariants as file
use Rattle.synth_report.specs.declared.fault.Fault.{Fault}
use Rattle.synth_report.specs.declared.fault.Fault.TheVariants.{Words, Form, Unlike, Mark, Limit, Read, Write, NoMemory, NoLoop}
use Rattle.synth_report.specs.declared.summary.Summary.{Summary}
use Rattle.synth_report.specs.declared.summary.Summary.TheVariants.{Grow, Quilt, Loop, Stands, Fails, Trial, Upgrade, Transfer, Merge, Tile}

-- a file as a line names it, up to the number of a further sample
abbrev pub file_stem : FileOf → List ℕ
file_stem file.Sample = codes "sample"
file_stem (file.More n) = codes "sample"
file_stem file.Target = codes "target"
file_stem file.Marks = codes "marks"
file_stem file.Out = codes "out"
file_stem file.Map = codes "map"
file_stem file.Record = codes "record"
file_stem file.NewMap = codes "newmap"
file_stem file.NewRecord = codes "newrecord"
file_stem file.Report = codes "report"

abbrev pub file_number : FileOf → Option ℕ
file_number (file.More n) = Some n
file_number part = None

-- the number of a further sample as a line has it
abbrev pub file_tail : FileOf → List ℕ
file_tail part = number_text (file_number part)

abbrev pub what_text : What → List ℕ
what_text what.Axis = codes "axis"
what_text what.Cells = codes "cells"
what_text what.Header = codes "header"
what_text what.Frames = codes "frames"
what_text what.Output = codes "output"
what_text what.Loop = codes "loop"
what_text what.Records = codes "records"
what_text what.Parts = codes "parts"

abbrev pub axis_text : Axis → List ℕ
axis_text X = codes "x"
axis_text Y = codes "y"
axis_text F = codes "f"

-- The lines of faults, each as its parts.

-- a line about word number i
abbrev pub word_line : ℕ → List ℕ → List ℕ
word_line i why = concat (codes "weave: word " ∷ decimal i ∷ codes ": " ∷ why ∷ codes "\n" ∷ [])

-- a line about a file
abbrev pub file_line : FileOf → List ℕ → List ℕ
file_line part why =
    concat (codes "weave: " ∷ file_stem part ∷ file_tail part ∷ codes ": " ∷ why ∷ codes "\n" ∷ [])

-- a line about a place in a file
abbrev pub place_line : FileOf → List ℕ → ℕ → List ℕ
place_line part why at =
    concat (codes "weave: " ∷ file_stem part ∷ file_tail part ∷ codes ": " ∷ why ∷ codes " at "
    ∷ decimal at ∷ codes "\n" ∷ [])

-- a line without numbers
abbrev pub plain_line : List ℕ → List ℕ
plain_line text = concat (codes "weave: " ∷ text ∷ codes "\n" ∷ [])

-- the line where memory ran out
abbrev pub memory_line : List ℕ
memory_line = plain_line (codes "no memory")

-- the line of a refusal of words
abbrev pub words_line : WordFault → List ℕ
words_line word.NoCommand = plain_line (codes "no command")
words_line word.UnknownCommand = plain_line (codes "unknown command")
words_line (word.BadWord i) = word_line i (codes "not key=value")
words_line (word.UnknownKey i) = word_line i (codes "unknown key")
words_line (word.Repeated i) = word_line i (codes "repeated key")
words_line (word.Missing key) =
    concat (codes "weave: missing key " ∷ key_stem key ∷ number_text (key_number key)
    ∷ codes "\n" ∷ [])
words_line (word.BadValue i) = word_line i (codes "bad value")
words_line (word.OutOfRange i) = word_line i (codes "out of range")
words_line (word.SameName i) = word_line i (codes "name already used")
words_line word.NoMemory = memory_line
words_line (word.Narrow axis) =
    concat (codes "weave: wrapped axis " ∷ axis_text axis ∷ codes " under 3\n" ∷ [])

abbrev pub form_line : FileOf → FormFault → List ℕ
form_line part (form.Form at) = place_line part (codes "form") at
form_line part form.Depth = file_line part (codes "depth")
form_line part form.Space = file_line part (codes "colour space")
form_line part form.Cell = file_line part (codes "cell")
form_line part form.NoFrames = file_line part (codes "no frames")
form_line part (form.Sample at) = place_line part (codes "value") at
form_line part (form.Trailing at) = place_line part (codes "trailing") at

abbrev pub limit_line : What → ℕ → ℕ → List ℕ
limit_line counted number bound =
    concat (codes "weave: limit " ∷ what_text counted ∷ codes " " ∷ decimal number ∷ codes " over "
    ∷ decimal bound ∷ codes "\n" ∷ [])

-- the line of a fault
abbrev pub fault_line : Fault → List ℕ
fault_line (Words fault) = words_line fault
fault_line (Form part why) = form_line part why
fault_line (Unlike part) = file_line part (codes "unlike")
fault_line (Mark index) = place_line file.Marks (codes "mark") index
fault_line (Limit counted number bound) = limit_line counted number bound
fault_line (Read part) = file_line part (codes "read fault")
fault_line (Write part) = file_line part (codes "write fault")
fault_line NoMemory = memory_line
fault_line (NoLoop length) =
    concat (codes "weave: no loop of length " ∷ decimal length ∷ codes "\n" ∷ [])

abbrev pub words_status : WordFault → ℕ
words_status word.NoMemory = 7
words_status fault = 2

-- the status of a run that ends with a fault
abbrev pub status_of : Fault → ℕ
status_of (Words fault) = words_status fault
status_of (Form part why) = 3
status_of (Unlike part) = 3
status_of (Mark index) = 3
status_of (Limit counted number bound) = 4
status_of (Read part) = 5
status_of (Write part) = 6
status_of NoMemory = 7
status_of (NoLoop length) = 8

-- The reports, each as its lines.

-- a name and a number
abbrev pub count_line : List ℕ → ℕ → List ℕ
count_line name n = concat (name ∷ codes " " ∷ decimal n ∷ codes "\n" ∷ [])

-- a name and a size
abbrev pub size_line : List ℕ → Size → List ℕ
size_line name size =
    concat (name ∷ codes " " ∷ decimal size.w ∷ codes "x" ∷ decimal size.h ∷ codes "x"
    ∷ decimal size.f ∷ codes "\n" ∷ [])

abbrev pub fails_line : ℕ → ℕ → ℕ → List ℕ
fails_line number rule place =
    concat (codes "fails record " ∷ decimal number ∷ codes " rule " ∷ decimal rule ∷ codes " place "
    ∷ decimal place ∷ codes "\n" ∷ [])

abbrev pub upgrade_line : ℕ → ℕ → List ℕ
upgrade_line cells cuts =
    concat (codes "upgrade " ∷ decimal cells ∷ codes " " ∷ decimal cuts ∷ codes "\n" ∷ [])

-- the report of a summary
abbrev pub report_of : Summary → List ℕ
report_of (Grow size placements rounds seams) =
    concat (size_line (codes "grow") size ∷ count_line (codes "placements") placements
    ∷ count_line (codes "rounds") rounds ∷ count_line (codes "seams") seams ∷ [])
report_of (Quilt size blocks boundaries cost) =
    concat (size_line (codes "quilt") size ∷ count_line (codes "blocks") blocks
    ∷ count_line (codes "boundaries") boundaries ∷ count_line (codes "cost") cost ∷ [])
report_of (Loop length start cost) =
    concat (count_line (codes "loop") length ∷ count_line (codes "start") start
    ∷ count_line (codes "cost") cost ∷ [])
report_of Stands = codes "stands\n"
report_of (Fails number rule place) = fails_line number rule place
report_of (Trial n size placements rounds seams) =
    concat (count_line (codes "trial") n ∷ codes "sample 64x64x1\n" ∷ size_line (codes "grow") size
    ∷ count_line (codes "placements") placements ∷ count_line (codes "rounds") rounds
    ∷ count_line (codes "seams") seams ∷ codes "record stands\n" ∷ [])
report_of (Upgrade cells cuts) = upgrade_line cells cuts
report_of (Transfer size blocks boundaries cost matched) =
    concat (size_line (codes "transfer") size ∷ count_line (codes "blocks") blocks
    ∷ count_line (codes "boundaries") boundaries ∷ count_line (codes "cost") cost
    ∷ count_line (codes "match") matched ∷ [])
report_of (Merge size pictures seams) =
    concat (size_line (codes "merge") size ∷ count_line (codes "pictures") pictures
    ∷ count_line (codes "seams") seams ∷ [])
report_of (Tile size placements seams) =
    concat (size_line (codes "tile") size ∷ count_line (codes "placements") placements
    ∷ count_line (codes "seams") seams ∷ [])

-- the status of a run that ends with a summary: 1 where files fail, and else 0
abbrev pub summary_status : Summary → ℕ
summary_status (Fails number rule place) = 1
summary_status summary = 0
