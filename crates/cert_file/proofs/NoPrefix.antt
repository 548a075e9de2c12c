-- The spelling of a value begins that of no other.
use Rattle.std.proofs.Common.{◌≡◌, ◌++◌, ℕ, List, ap, ◌∙◌}
use Rattle.cert_file.specs.declared.file.RecordFile.{RecordFile}
use Rattle.cert_file.specs.declared.file.RecordFile.TheVariants.{Blocks, Cuts, Walk}
use Rattle.cert_file.specs.RecordFiles.{HasSpelling, record_file_form, record_file_read}
use Rattle.cert_file.proofs.BlocksAgain.{blocks_end}
use Rattle.cert_file.proofs.CutsAgain.{IsFileOf, cuts_end, file_again, file_alone}
use Rattle.cert_file.proofs.WalksAgain.{walk_end}

spelled : (value : RecordFile) → HasSpelling value → IsFileOf (record_file_form value) value
spelled (Cuts head cuts) is = cuts_end head cuts is.0 is.1
spelled (Blocks head blocks) is = blocks_end head blocks is.0 is.1
spelled (Walk head taps gap walk tables) is = walk_end head taps gap walk tables is.0 is.1

pub begins_alone : (first second : RecordFile) (more : List ℕ) → HasSpelling first → HasSpelling second → record_file_form first ++ more ≡ record_file_form second → first ≡ second
begins_alone first second more is is' same =
    file_alone (record_file_form first) more first second (spelled first is) (ap record_file_read same ∙ file_again (record_file_form second) second (spelled second is'))
