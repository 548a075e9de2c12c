-- The five kinds of answers of a command, and what holds of their statuses.
use Rattle.std.proofs.Common.{◌≡◌, ◌≢◌, ℕ, ◌≤◌, ◌<◌, ◌⊎◌, inl, inr, List, ap, sym, ◌∙◌, subst, refl, arith}
use Rattle.std.specs.Prelude.{Result, Ok, Err, Option, Some, None, IsSome}
use Rattle.std.proofs.lemmas.Bool.{cases_lt}
use mathlib.Core.Bool.{false≢true}
use Rattle.shelf_traits.specs.Files.{Files, ShelfState, SinkState, Told}
use Rattle.shelf_traits.specs.Written.{Untouched}
use Rattle.job_words.specs.declared.job.WordFault.{WordFault}
use Rattle.job_words.specs.declared.job.WordFault.TheVariants as word
use Rattle.synth_report.specs.declared.fault.FileOf.{FileOf}
use Rattle.synth_report.specs.declared.fault.Fault.{Fault}
use Rattle.synth_report.specs.declared.fault.Fault.TheVariants.{Words, Form, Unlike, Mark, Limit, Read, Write, NoMemory, NoLoop}
use Rattle.synth_report.specs.declared.summary.Summary.{Summary}
use Rattle.synth_report.specs.declared.summary.Summary.TheVariants.{Grow, Quilt, Loop, Stands, Fails, Trial, Upgrade, Transfer, Merge, Tile}
use Rattle.synth_report.specs.Texts.{status_of, summary_status, words_status}
use Rattle.command.specs.Commands.{Command}
use Rattle.command.specs.Outcomes.{AreRefused, IsFinished, IsStopped, IsUnread, IsUnreported, Ends, Leaves}

-- a status of refusals: 3, 4 or 8
pub record IsRefusal (status : ℕ) : Type 0 where
  pub least : 3 ≤ status
  pub not_read : status ≢ 5
  pub not_write : status ≢ 6
  pub not_memory : status ≢ 7
  pub most : status ≤ 8

pub data View (c : Command) (was now : ShelfState) (out out' : SinkState) : Result Summary Fault → Type 0 where
  done : (summary : Summary) → IsFinished c summary was now out out' → View c was now out out' (Ok summary)
  refused : (fault : Fault) → IsRefusal (status_of fault) → Untouched was now out out' → AreRefused c fault was now → View c was now out out' (Err fault)
  unread : (part : FileOf) → Untouched was now out out' → IsUnread c part was now → View c was now out out' (Err (Read part))
  unwritten : (part : FileOf) → IsUnreported c part was now out out' ⊎ IsStopped c part was now out out' → View c was now out out' (Err (Write part))
  out_of_memory : Untouched was now out out' → View c was now out out' (Err NoMemory)

-- the statuses of forms, of limits and of loops are statuses of refusals
pub form_number : IsRefusal 3
form_number = record { least = omega arith; not_read = λ e. omega arith; not_write = λ e. omega arith; not_memory = λ e. omega arith; most = omega arith }

pub limit_number : IsRefusal 4
limit_number = record { least = omega arith; not_read = λ e. omega arith; not_write = λ e. omega arith; not_memory = λ e. omega arith; most = omega arith }

pub loop_number : IsRefusal 8
loop_number = record { least = omega arith; not_read = λ e. omega arith; not_write = λ e. omega arith; not_memory = λ e. omega arith; most = omega arith }

module _ (c : Command) (was now : ShelfState) (out out' : SinkState) where
  refusal : (fault : Fault) → IsRefusal (status_of fault) → Untouched was now out out' × AreRefused c fault was now → View c was now out out' (Err fault)
  refusal fault is left = refused fault is left.0 left.1

  ended : (answer : Result Summary Fault) → Ends c was now out out' answer → View c was now out out' answer
  ended (Ok summary) left = done summary left
  ended (Err (Write part)) left = unwritten part left
  ended (Err (Read part)) left = unread part left.0 left.1
  ended (Err NoMemory) left = out_of_memory left.0
  ended (Err (Words fault)) left = absurd left.1
  ended (Err (Form part why)) left = refusal (Form part why) form_number left
  ended (Err (Unlike part)) left = refusal (Unlike part) form_number left
  ended (Err (Mark index)) left = refusal (Mark index) form_number left
  ended (Err (Limit what number bound)) left = refusal (Limit what number bound) limit_number left
  ended (Err (NoLoop length)) left = refusal (NoLoop length) loop_number left

  pub viewed : (answer : Result Summary Fault) → Leaves c was now out out' answer → View c was now out out' answer
  viewed answer left = ended answer left.ends

-- a status of refusals is one of the three
pub refusal_number : (status : ℕ) → IsRefusal status → (status ≡ 3) ⊎ (status ≡ 4) ⊎ (status ≡ 8)
refusal_number status is = by (cases_lt status 4) (cases_lt status 5)
  where
    by : (status < 4) ⊎ (4 ≤ status) → (status < 5) ⊎ (5 ≤ status) → (status ≡ 3) ⊎ (status ≡ 4) ⊎ (status ≡ 8)
    by (inl three) next = inl (omega (arith, is.least, three))
    by (inr more) (inl four) = inr (inl (omega (arith, more, four)))
    by (inr more) (inr eight) = inr (inr (omega (arith, is.not_read, is.not_write, is.not_memory, is.most, eight)))

-- a summary has status 0 or 1
pub done_or_failed : (summary : Summary) → (summary_status summary ≡ 0) ⊎ (summary_status summary ≡ 1)
done_or_failed (Grow size placements rounds seams) = inl refl
done_or_failed (Quilt size blocks boundaries cost) = inl refl
done_or_failed (Loop length start cost) = inl refl
done_or_failed Stands = inl refl
done_or_failed (Fails number rule place) = inr refl
done_or_failed (Trial n size placements rounds seams) = inl refl
done_or_failed (Upgrade cells cuts) = inl refl
done_or_failed (Transfer size blocks boundaries cost matched) = inl refl
done_or_failed (Merge size pictures seams) = inl refl
done_or_failed (Tile size placements seams) = inl refl

-- a refusal of words has status 2, but where memory ran out
pub words_two : (fault : WordFault) → (words_status fault ≡ 2) ⊎ (fault ≡ word.NoMemory)
words_two word.NoCommand = inl refl
words_two word.UnknownCommand = inl refl
words_two (word.BadWord i) = inl refl
words_two (word.UnknownKey i) = inl refl
words_two (word.Repeated i) = inl refl
words_two (word.Missing key) = inl refl
words_two (word.BadValue i) = inl refl
words_two (word.OutOfRange i) = inl refl
words_two (word.SameName i) = inl refl
words_two word.NoMemory = inr refl
words_two (word.Narrow axis) = inl refl

pub two_or_seven : (fault : WordFault) → (words_status fault ≡ 2) ⊎ (words_status fault ≡ 7)
two_or_seven fault = by (words_two fault)
  where
    by : (words_status fault ≡ 2) ⊎ (fault ≡ word.NoMemory) → (words_status fault ≡ 2) ⊎ (words_status fault ≡ 7)
    by (inl two) = inl two
    by (inr memory) = inr (ap words_status memory)

-- a known step leads from the files at the entry to some at the exit
pub told_at : (a b : Option Files) (P : Files → Files → Type 0) (files : Files) → a ≡ Some files → IsSome b → Told a b P → (after : Files) × P files after
told_at a None P files e some told = absurd (false≢true some)
told_at None (Some y) P files e some told = absurd told
told_at (Some x) (Some y) P files e some told = let same : x ≡ files = cc in (y, subst (λ f. P f y) same told)
