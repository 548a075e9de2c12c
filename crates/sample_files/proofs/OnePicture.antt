-- Pictures that a run reads alone: their bytes have one answer, and what their reader answers.
use Rattle.std.proofs.Common.{◌≡◌, ℕ, ◌+◌, inl, inr, List, [], ◌∷◌, sym, ◌∙◌, subst}
use Rattle.std.specs.Prelude.{Err}
use Rattle.shelf_traits.specs.Files.{Files, OnlyReads, OnlyReadsFile, ShelfState}
use Rattle.shelf_traits.specs.declared.fault.FormFault.{FormFault}
use Rattle.shelf_traits.specs.declared.fault.What.{What}
use Rattle.shelf_traits.specs.declared.fault.ReadError.{ReadError}
use Rattle.shelf_traits.specs.declared.fault.ReadError.TheVariants.{Bad, Limit, NoMemory, ReadFault}
use Rattle.netpbm_p6.specs.declared.picture.Picture.{Picture}
use Rattle.netpbm_p6.specs.Pictures.{IsRead, ReadsAs, Refuses}
use Rattle.netpbm_p6.proofs.OneReading as p6
use Rattle.synth_report.specs.declared.fault.FileOf.TheVariants as part
use Rattle.synth_report.specs.declared.fault.Fault.{Fault}
use Rattle.synth_report.specs.declared.fault.Fault.TheVariants.{Form, Unlike, Limit as LimitFault}
use Rattle.command.specs.Commands.{Command, NamedFile, named, names_in}
use Rattle.command.specs.Faults.{FailsToRead}
use Rattle.command.specs.Outcomes.{NotMade}
use Rattle.command.specs.Stages.{Stages}
use Rattle.command.proofs.Staging.{AreOne, IsOneQuestion, ReadsOne, file_is_one}
use Rattle.command.proofs.Planning.{StandsBefore, file_read, not_passed, part_not_read, pass_on, reads_on}
use Rattle.sample_files.specs.Targets.{IsTargetRead, TargetReadsAs, TargetUnlike, read_target}

pub picture_is_one : ReadsOne IsRead Refuses
picture_is_one = record {
  one_value = λ bytes first second a b. p6.one_picture bytes first second a.stands b.stands;
  not_both = p6.not_both;
  one_refusal = p6.one_refusal;
}

pub picture_fails : (name : List ℕ) (a b : ShelfState) (answer : ReadError) → ReadsAs name a b (Err answer) → FailsToRead Refuses name a b answer
picture_fails name a b ReadFault left = left
picture_fails name a b NoMemory left = tt
picture_fails name a b (Bad why) left = left
picture_fails name a b (Limit what number bound) left = left

-- A target has one answer, and a command goes on by what its reader answers.

target_question : (maxval : ℕ) (target : Picture) → IsOneQuestion (target.maxval ≡ maxval) (TargetUnlike maxval target)
target_question maxval target = record { not_both = λ fault alike r. r.unlike alike; one_refusal = λ first second a b. a.is ∙ sym b.is }

pub target_is_one : {more : List NamedFile} (maxval : ℕ) (name : List ℕ) (next : Picture → Stages more) (files : Files) → ((target : Picture) → AreOne (next target) files) → AreOne (read_target maxval name next) files
target_is_one maxval name next files one = (file_is_one picture_is_one part.Target name files, λ target is. (target_question maxval target, λ alike. one target))

module _ {c : Command} {a b d : ShelfState} {turn : ℕ} {more : List NamedFile} {next : Picture → Stages more} (maxval : ℕ) (name : List ℕ) (at : StandsBefore c a b turn (read_target maxval name next)) (reads : OnlyReadsFile name b d) where
  pub target_only : OnlyReads (names_in c.reads) a d
  target_only = reads_on (named part.Target name ∷ []) at reads

  pub target_passed : (target : Picture) → IsTargetRead maxval name b d target → StandsBefore c a d (turn + 1) (next target)
  target_passed target is = pass_on (file_read at reads target is.read) is.alike

  pub target_not_taken : ((why : FormFault) → c.MayRefuse (Form part.Target why)) → ((what : What) (number bound : ℕ) → c.MayRefuse (LimitFault what number bound)) → c.MayRefuse (Unlike part.Target)
      → (fault : Fault) → TargetReadsAs maxval name b d (Err fault) → NotMade c a d fault
  target_not_taken bad limit unlike fault (inl left) = part_not_read Refuses at reads bad limit fault left
  target_not_taken bad limit unlike fault (inr left) =
      subst (NotMade c a d) (sym left.unlike.is)
      (not_passed (file_read at reads left.target left.read) (Unlike part.Target) (subst (TargetUnlike maxval left.target) left.unlike.is left.unlike) unlike)
