-- What a run of any command promises, from what it leaves.
use Rattle.std.proofs.Common.{◌≡◌, ◌≢◌, ℕ, zero, suc, ◌≤◌, ◌⊎◌, inl, inr, List, [], ◌∷◌, drop, take, ap, sym, ◌∙◌, subst, refl, arith}
use Rattle.std.specs.Prelude.{Result, Ok, Err, Option, Some, None, slice_get}
use Rattle.std.specs.FinMap.{get, insert}
use Rattle.shelf_traits.specs.Files.{Files, ShelfState, SinkState, AsksOnly, Changes, Told, Rose}
use Rattle.shelf_traits.specs.Written.{HoldsPart, Says, StoppedAt, Untouched, written}
use Rattle.shelf_traits.proofs.FileLaws.{among_none, asks_of_more, get_beside, told_weaker}
use Rattle.job_words.specs.declared.job.Job.{Job}
use Rattle.job_words.specs.declared.job.WordFault.{WordFault}
use Rattle.job_words.specs.declared.job.WordFault.TheVariants as word
use Rattle.job_words.specs.Jobs.{IsJob, job_of}
use Rattle.synth_report.specs.declared.fault.FileOf.{FileOf}
use Rattle.synth_report.specs.declared.fault.Fault.{Fault}
use Rattle.synth_report.specs.declared.fault.Fault.TheVariants.{Words, Read, Write, NoMemory}
use Rattle.synth_report.specs.declared.summary.Summary.{Summary}
use Rattle.synth_report.specs.Texts.{fault_line, status_of, summary_status, words_status}
use Rattle.command.specs.Commands.{Command, HasOneAnswer, HasTurn, NamedFile, names_of}
use Rattle.command.specs.Writing.{pieces}
use Rattle.command.specs.Outcomes.{AreRefused, Commands, IsFinished, IsStopped, IsUnread, IsUnreported, ReadsThenWrites, RefusesWords, Runs, RunsJob, SaysAnswer, WritesAll, WritesUpTo, answer_status}
use Rattle.command.specs.Promises.{Asks, DoneStatus, HasDone, HasFailedToRead, HasFailedToWrite, HasRefused, IsComplete, IsNotWritten, IsRunStatus, KeepsFiles, KeepsOthers, MemoryStatus, NamedFiles, NoneRose, ReadStatus, ReadsFirst, RefusedStatus, SaysNothing, TellsFiles, WordsStatus, WriteStatus}
use Rattle.command.proofs.Views.{IsRefusal, View, done_or_failed, refusal_number, told_at, two_or_seven, viewed, words_two}
use Rattle.command.proofs.Views.View.{done, refused, unread, unwritten, out_of_memory}

ok_is : {A E : Type 0} (r : Result A E) (x : A) (e : E) → r ≡ Ok x → r ≡ Err e → ⊥
ok_is r x e p q = let both : Ok x ≡ Err e = sym p ∙ q in cc

one_ok : {A E : Type 0} (r : Result A E) (x y : A) → r ≡ Ok x → r ≡ Ok y → x ≡ y
one_ok r x y p q = let both : Ok x ≡ Ok y = sym p ∙ q in cc

-- A command that asks for files of its own has the answer of a run of it.
module _ (c : Command) (one : HasOneAnswer c) (was now : ShelfState) (out out' : SinkState) (files : Files) (told : TellsFiles was now files) where
  -- what was made, was made of these files
  at : (P : Files → Files → Type 0) → Changes was now P → (after : Files) × P files after
  at P left = told_at was.files now.files P files told.before told.after left

  -- where the files are refused, the answer is that, or that a file can't be read or memory ran out
  pub refused_answer : (answer : Result Summary Fault) → View c was now out out' answer → (n : ℕ) (fault : Fault) → c.Refuses n files fault
      → (answer ≡ Err fault) ⊎ (answer_status answer ≡ 5) ⊎ (answer_status answer ≡ 7)
  refused_answer answer (done summary is) n fault refuses = let made = (at _ is.files).1 in absurd (one.not_both files made.0 summary n fault made.1 refuses)
  refused_answer answer (refused other is untouched left) n fault refuses =
      let own = (at _ left.refused).1 in inl (ap Err (one.one_refusal files own.0 n other fault own.1 refuses))
  refused_answer answer (unread part untouched left) n fault refuses = inr (inl refl)
  refused_answer answer (unwritten part (inl left)) n fault refuses = let made = (at _ left.files).1 in absurd (one.not_both files made.0 left.summary n fault made.1 refuses)
  refused_answer answer (unwritten part (inr left)) n fault refuses = let made = (at _ left.files).1 in absurd (one.not_both files made.0 made.1 n fault made.2 refuses)
  refused_answer answer (out_of_memory untouched) n fault refuses = inr (inr refl)

  -- where something is made of them, it is a summary of that status, or a fault of the outside or of memory
  pub made_answer : (answer : Result Summary Fault) → View c was now out out' answer → (texts : List (List ℕ)) (summary : Summary) → c.Makes files texts summary
      → (answer_status answer ≡ summary_status summary) ⊎ (answer_status answer ≡ 5) ⊎ (answer_status answer ≡ 6) ⊎ (answer_status answer ≡ 7)
  made_answer answer (done other is) texts summary makes = let made = (at _ is.files).1 in inl (one.one_verdict files made.0 texts other summary made.1 makes)
  made_answer answer (refused fault is untouched left) texts summary makes =
      let own = (at _ left.refused).1 in absurd (one.not_both files texts summary own.0 fault makes own.1)
  made_answer answer (unread part untouched left) texts summary makes = inr (inl refl)
  made_answer answer (unwritten part left) texts summary makes = inr (inr (inl refl))
  made_answer answer (out_of_memory untouched) texts summary makes = inr (inr (inr refl))

  -- where they are taken and no count rose, all is done, or memory ran out
  pub taken_answer : (answer : Result Summary Fault) → View c was now out out' answer → c.Takes files → NoneRose c was now out out'
      → (answer_status answer ≡ 0) ⊎ (answer_status answer ≡ 1) ⊎ (answer_status answer ≡ 7)
  taken_answer answer (done summary is) takes none = by (done_or_failed summary)
    where
      by : (summary_status summary ≡ 0) ⊎ (summary_status summary ≡ 1) → (summary_status summary ≡ 0) ⊎ (summary_status summary ≡ 1) ⊎ (summary_status summary ≡ 7)
      by (inl zero_is) = inl zero_is
      by (inr one_is) = inr (inl one_is)
  taken_answer answer (refused fault is untouched left) takes none = let own = (at _ left.refused).1 in absurd (one.taken files own.0 fault takes own.1)
  taken_answer answer (unread part untouched left) takes none = absurd (none.reads left.turn part left.name left.its left.rose)
  taken_answer answer (unwritten part (inl left)) takes none = absurd (none.report left.rose)
  taken_answer answer (unwritten part (inr left)) takes none = absurd (none.writes left.turn part left.name left.its left.rose)
  taken_answer answer (out_of_memory untouched) takes none = inr (inr refl)

-- Files that are not written stay.

not_first : (file : NamedFile) (files : List NamedFile) (name : List ℕ) → ((turn : ℕ) (part : FileOf) → HasTurn (file ∷ files) turn part name → ⊥) → name ≢ file.name
not_first file files name others same = others 0 file.part (ap (λ n. Some (record { part = file.part; name = n })) (sym same))

not_later : (file : NamedFile) (files : List NamedFile) (name : List ℕ) → ((turn : ℕ) (part : FileOf) → HasTurn (file ∷ files) turn part name → ⊥) → (turn : ℕ) (part : FileOf) → HasTurn files turn part name → ⊥
not_later file files name others turn part its = others (suc turn) part its

written_others : (files : List NamedFile) (texts : List (List ℕ)) (before : Files) (name : List ℕ) → ((turn : ℕ) (part : FileOf) → HasTurn files turn part name → ⊥)
    → get (written (pieces files texts) before) name ≡ get before name
written_others [] texts before name others = refl
written_others (file ∷ files) [] before name others = refl
written_others (file ∷ files) (text ∷ texts) before name others =
    written_others files texts (insert before file.name text) name (not_later file files name others) ∙ get_beside before file.name text name (not_first file files name others)

part_others : (file text : List ℕ) (before after : Files) (name : List ℕ) → name ≢ file → HoldsPart file text before after → get after name ≡ get before name
part_others file text before after name apart (inl same) = ap (λ files. get files name) same
part_others file text before after name apart (inr part) = ap (λ files. get files name) part.1 ∙ get_beside before file (take part.0 text) name apart

stopped_others : (files : List NamedFile) (texts : List (List ℕ)) (turn : ℕ) (before after : Files) (name : List ℕ) → ((turn : ℕ) (part : FileOf) → HasTurn files turn part name → ⊥)
    → StoppedAt (pieces files texts) turn before after → get after name ≡ get before name
stopped_others [] texts zero before after name others stopped = ap (λ files. get files name) stopped
stopped_others [] texts (suc turn) before after name others stopped = ap (λ files. get files name) stopped
stopped_others (file ∷ files) [] zero before after name others stopped = ap (λ files. get files name) stopped
stopped_others (file ∷ files) [] (suc turn) before after name others stopped = ap (λ files. get files name) stopped
stopped_others (file ∷ files) (text ∷ texts) zero before after name others stopped = part_others file.name text before after name (not_first file files name others) stopped
stopped_others (file ∷ files) (text ∷ texts) (suc turn) before after name others stopped =
    stopped_others files texts turn (insert before file.name text) after name (not_later file files name others) stopped ∙ get_beside before file.name text name (not_first file files name others)

module _ (c : Command) (was now : ShelfState) (out out' : SinkState) (name : List ℕ) (others : IsNotWritten c name) where
  Stays : Files → Files → Type 0
  Stays before after = get after name ≡ get before name

  all_stay : (summary : Summary) → Changes was now (WritesAll c summary) → Changes was now (λ before after. get after name ≡ get before name)
  all_stay summary left = told_weaker (WritesAll c summary) (λ before after. get after name ≡ get before name) was.files now.files
      (λ before after w. ap (λ files. get files name) w.2 ∙ written_others c.writes w.0 before name others) left

  untouched_stay : Untouched was now out out' → Changes was now (λ before after. get after name ≡ get before name)
  untouched_stay left = told_weaker (λ before after. after ≡ before) (λ before after. get after name ≡ get before name) was.files now.files (λ before after same. ap (λ files. get files name) same) left.files

  pub others_stay : (answer : Result Summary Fault) → View c was now out out' answer → Changes was now (λ before after. get after name ≡ get before name)
  others_stay answer (done summary is) = all_stay summary is.files
  others_stay answer (refused fault is untouched left) = untouched_stay untouched
  others_stay answer (unread part untouched left) = untouched_stay untouched
  others_stay answer (unwritten part (inl left)) = all_stay left.summary left.files
  others_stay answer (unwritten part (inr left)) = told_weaker (WritesUpTo c left.turn) (λ before after. get after name ≡ get before name) was.files now.files
      (λ before after w. stopped_others c.writes w.0 left.turn before after name others w.3) left.files
  others_stay answer (out_of_memory untouched) = untouched_stay untouched

-- The promises of a run.
module _ (commands : Commands) (one : (job : Job) → IsJob job → HasOneAnswer (commands job)) (words : List (List ℕ)) (was now : ShelfState) (out out' err err' : SinkState) (status : ℕ) where
  -- the words' refusal has status 2 or 7
  words_number : (answer : Result Summary Fault) (fault : WordFault) → status ≡ answer_status answer → answer ≡ Err (Words fault) → (status ≡ 2) ⊎ (status ≡ 7)
  words_number answer fault number is = by (two_or_seven fault)
    where
      same : status ≡ words_status fault
      same = number ∙ ap answer_status is

      by : (words_status fault ≡ 2) ⊎ (words_status fault ≡ 7) → (status ≡ 2) ⊎ (status ≡ 7)
      by (inl two) = inl (same ∙ two)
      by (inr seven) = inr (same ∙ seven)

  -- so it has no other
  not_words : (n : ℕ) → n ≢ 2 → n ≢ 7 → (answer : Result Summary Fault) → status ≡ answer_status answer → status ≡ n → RefusesWords words was now out out' answer → ⊥
  not_words n not_two not_seven answer number is left = by (words_number answer left.fault number left.is)
    where
      by : (status ≡ 2) ⊎ (status ≡ 7) → ⊥
      by (inl two) = not_two (sym is ∙ two)
      by (inr seven) = not_seven (sym is ∙ seven)

  -- where the words ask for a job their refusal is that memory ran out
  asked_seven : (answer : Result Summary Fault) (job : Job) → Asks words job → status ≡ answer_status answer → RefusesWords words was now out out' answer → status ≡ 7
  asked_seven answer job asks number left = by left.cause
    where
      by : (job_of words ≡ Err left.fault) ⊎ (left.fault ≡ word.NoMemory) → status ≡ 7
      by (inl refuses) = absurd (ok_is (job_of words) job left.fault asks refuses)
      by (inr memory) = number ∙ ap answer_status left.is ∙ ap words_status memory

  -- what the command of a job that is asked for leaves
  abbrev pub Views : Job → Result Summary Fault → Type 0
  Views job answer = View (commands job) was now out out' answer

  view_of : (answer : Result Summary Fault) (ran : RunsJob commands words was now out out' answer) → Views ran.job answer
  view_of answer ran = viewed (commands ran.job) was now out out' answer ran.left

  as_asked : (answer : Result Summary Fault) (ran : RunsJob commands words was now out out' answer) (job : Job) → Asks words job → Views job answer × HasOneAnswer (commands job)
  as_asked answer ran job asks =
      let same : ran.job ≡ job = one_ok (job_of words) ran.job job ran.asked asks in
      subst (λ j. Views j answer × HasOneAnswer (commands j)) same (view_of answer ran, one ran.job ran.lawful)

  -- STATUSES 0 AND 1
  done_only : (answer : Result Summary Fault) (job : Job) → Asks words job → IsJob job → Views job answer → SaysAnswer answer err err' → status ≡ answer_status answer → status ≤ 1
      → HasDone commands words was now out out' err err' status
  done_only answer job asks lawful (done summary is) said number small = record { job = job; asked = asks; lawful = lawful; summary = summary; done = is; silent = said; verdict = number }
  done_only answer job asks lawful (refused fault is untouched left) said number small = absurd (omega (arith, is.least))
  done_only answer job asks lawful (unread part untouched left) said number small = absurd (omega arith)
  done_only answer job asks lawful (unwritten part left) said number small = absurd (omega arith)
  done_only answer job asks lawful (out_of_memory untouched) said number small = absurd (omega arith)

  pub done_promise : Runs commands words was now out out' err err' status → DoneStatus commands words was now out out' err err' status
  done_promise ran = record {
    only = λ is. only_by ran.left (small is);
    where_made = λ job files texts summary asks told makes. made_by ran.left job files texts summary asks told makes;
  }
    where
      small : (status ≡ 0) ⊎ (status ≡ 1) → status ≤ 1
      small (inl e) = omega arith
      small (inr e) = omega arith

      only_by : RefusesWords words was now out out' ran.answer ⊎ RunsJob commands words was now out out' ran.answer → status ≤ 1 → HasDone commands words was now out out' err err' status
      only_by (inl left) le = absurd (not_words status (λ e. omega (arith, le, e)) (λ e. omega (arith, le, e)) ran.answer ran.number refl left)
      only_by (inr left) le = done_only ran.answer left.job left.asked left.lawful (view_of ran.answer left) ran.said ran.number le

      made_by : RefusesWords words was now out out' ran.answer ⊎ RunsJob commands words was now out out' ran.answer → (job : Job) (files : Files) (texts : List (List ℕ)) (summary : Summary) → Asks words job → TellsFiles was now files → (commands job).Makes files texts summary
          → (status ≡ summary_status summary) ⊎ (status ≡ 5) ⊎ (status ≡ 6) ⊎ (status ≡ 7)
      made_by (inl left) job files texts summary asks told makes = inr (inr (inr (asked_seven ran.answer job asks ran.number left)))
      made_by (inr left) job files texts summary asks told makes =
          let own = as_asked ran.answer left job asks in
          subst (λ n. (n ≡ summary_status summary) ⊎ (n ≡ 5) ⊎ (n ≡ 6) ⊎ (n ≡ 7)) (sym ran.number)
          (made_answer (commands job) own.1 was now out out' files told ran.answer own.0 texts summary makes)

  pub silence_promise : Runs commands words was now out out' err err' status → SaysNothing err err' status
  silence_promise ran is = let has : HasDone commands words was now out out' err err' status = (done_promise ran).only is in has.silent

  -- STATUS 2
  words_only : (answer : Result Summary Fault) → SaysAnswer answer err err' → status ≡ answer_status answer → status ≡ 2 → RefusesWords words was now out out' answer
      → (fault : WordFault) × (job_of words ≡ Err fault) × Says err err' (fault_line (Words fault))
  words_only answer said number two left = by left.cause
    where
      by : (job_of words ≡ Err left.fault) ⊎ (left.fault ≡ word.NoMemory) → (fault : WordFault) × (job_of words ≡ Err fault) × Says err err' (fault_line (Words fault))
      by (inl refuses) = (left.fault, refuses, subst (λ a. SaysAnswer a err err') left.is said)
      by (inr memory) = let seven : words_status left.fault ≡ 7 = ap words_status memory in absurd (omega (arith, number, ap answer_status left.is))

  -- a command's answer has no status of words
  not_two : (answer : Result Summary Fault) (job : Job) → Views job answer → status ≡ answer_status answer → status ≡ 2 → ⊥
  not_two answer job (done summary is) number two = by (done_or_failed summary)
    where
      by : (summary_status summary ≡ 0) ⊎ (summary_status summary ≡ 1) → ⊥
      by (inl e) = omega arith
      by (inr e) = omega arith
  not_two answer job (refused fault is untouched left) number two = omega (arith, is.least)
  not_two answer job (unread part untouched left) number two = omega arith
  not_two answer job (unwritten part left) number two = omega arith
  not_two answer job (out_of_memory untouched) number two = omega arith

  pub words_promise : Runs commands words was now out out' err err' status → WordsStatus words err err' status
  words_promise ran = record { only = λ two. only_by ran.left two; where_refused = λ fault refuses. where_by ran.left fault refuses }
    where
      only_by : RefusesWords words was now out out' ran.answer ⊎ RunsJob commands words was now out out' ran.answer → status ≡ 2 → (fault : WordFault) × (job_of words ≡ Err fault) × Says err err' (fault_line (Words fault))
      only_by (inl left) two = words_only ran.answer ran.said ran.number two left
      only_by (inr left) two = absurd (not_two ran.answer left.job (view_of ran.answer left) ran.number two)

      where_by : RefusesWords words was now out out' ran.answer ⊎ RunsJob commands words was now out out' ran.answer → (fault : WordFault) → job_of words ≡ Err fault → (status ≡ 2) ⊎ (status ≡ 7)
      where_by (inl left) fault refuses = words_number ran.answer left.fault ran.number left.is
      where_by (inr left) fault refuses = absurd (ok_is (job_of words) left.job fault left.asked refuses)

  -- STATUSES 3, 4 AND 8
  refused_only : (answer : Result Summary Fault) (job : Job) → Asks words job → Views job answer → SaysAnswer answer err err' → status ≡ answer_status answer → IsRefusal status
      → HasRefused commands words was now err err' status
  refused_only answer job asks (refused fault is untouched left) said number kind = record { job = job; asked = asks; fault = fault; its = sym number; refused = left; said = said }
  refused_only answer job asks (done summary is) said number kind = by (done_or_failed summary)
    where
      by : (summary_status summary ≡ 0) ⊎ (summary_status summary ≡ 1) → HasRefused commands words was now err err' status
      by (inl e) = absurd (omega (arith, kind.least))
      by (inr e) = absurd (omega (arith, kind.least))
  refused_only answer job asks (unread part untouched left) said number kind = absurd (kind.not_read number)
  refused_only answer job asks (unwritten part left) said number kind = absurd (kind.not_write number)
  refused_only answer job asks (out_of_memory untouched) said number kind = absurd (kind.not_memory number)

  pub refused_promise : (kind : ℕ) → IsRefusal kind → Runs commands words was now out out' err err' status → RefusedStatus commands kind words was now err err' status
  refused_promise kind is ran = record {
    only = λ e. only_by ran.left (subst IsRefusal (sym e) is);
    where_refused = λ job files n fault asks told refuses its. where_by ran.left job files n fault asks told refuses its;
  }
    where
      only_by : RefusesWords words was now out out' ran.answer ⊎ RunsJob commands words was now out out' ran.answer → IsRefusal status → HasRefused commands words was now err err' status
      only_by (inl left) refusal = absurd (not_words status (λ e. omega (arith, refusal.least, e)) refusal.not_memory ran.answer ran.number refl left)
      only_by (inr left) refusal = refused_only ran.answer left.job left.asked (view_of ran.answer left) ran.said ran.number refusal

      number_by : (fault : Fault) → status_of fault ≡ kind → (ran.answer ≡ Err fault) ⊎ (answer_status ran.answer ≡ 5) ⊎ (answer_status ran.answer ≡ 7) → (status ≡ kind) ⊎ (status ≡ 5) ⊎ (status ≡ 7)
      number_by fault its (inl same) = inl (ran.number ∙ ap answer_status same ∙ its)
      number_by fault its (inr (inl five)) = inr (inl (ran.number ∙ five))
      number_by fault its (inr (inr seven)) = inr (inr (ran.number ∙ seven))

      where_by : RefusesWords words was now out out' ran.answer ⊎ RunsJob commands words was now out out' ran.answer → (job : Job) (files : Files) (n : ℕ) (fault : Fault) → Asks words job → TellsFiles was now files → (commands job).Refuses n files fault → status_of fault ≡ kind
          → (status ≡ kind) ⊎ (status ≡ 5) ⊎ (status ≡ 7)
      where_by (inl left) job files n fault asks told refuses its = inr (inr (asked_seven ran.answer job asks ran.number left))
      where_by (inr left) job files n fault asks told refuses its =
          let own = as_asked ran.answer left job asks in
          number_by fault its (refused_answer (commands job) own.1 was now out out' files told ran.answer own.0 n fault refuses)

  -- STATUSES 5, 6 AND 7
  read_only : (answer : Result Summary Fault) (job : Job) → Asks words job → Views job answer → SaysAnswer answer err err' → status ≡ answer_status answer → status ≡ 5 → HasFailedToRead commands words was now err err'
  read_only answer job asks (unread part untouched left) said number five = record { job = job; asked = asks; part = part; unread = left; said = said }
  read_only answer job asks (done summary is) said number five = by (done_or_failed summary)
    where
      by : (summary_status summary ≡ 0) ⊎ (summary_status summary ≡ 1) → HasFailedToRead commands words was now err err'
      by (inl e) = absurd (omega arith)
      by (inr e) = absurd (omega arith)
  read_only answer job asks (refused fault is untouched left) said number five = absurd (is.not_read (sym number ∙ five))
  read_only answer job asks (unwritten part left) said number five = absurd (omega arith)
  read_only answer job asks (out_of_memory untouched) said number five = absurd (omega arith)

  pub read_promise : Runs commands words was now out out' err err' status → ReadStatus commands words was now err err' status
  read_promise ran five = by ran.left
    where
      by : RefusesWords words was now out out' ran.answer ⊎ RunsJob commands words was now out out' ran.answer → HasFailedToRead commands words was now err err'
      by (inl left) = absurd (not_words 5 (λ e. omega (arith, e)) (λ e. omega (arith, e)) ran.answer ran.number five left)
      by (inr left) = read_only ran.answer left.job left.asked (view_of ran.answer left) ran.said ran.number five

  write_only : (answer : Result Summary Fault) (job : Job) → Asks words job → Views job answer → SaysAnswer answer err err' → status ≡ answer_status answer → status ≡ 6 → HasFailedToWrite commands words was now out out' err err'
  write_only answer job asks (unwritten part left) said number six = record { job = job; asked = asks; part = part; unwritten = left; said = said }
  write_only answer job asks (done summary is) said number six = by (done_or_failed summary)
    where
      by : (summary_status summary ≡ 0) ⊎ (summary_status summary ≡ 1) → HasFailedToWrite commands words was now out out' err err'
      by (inl e) = absurd (omega arith)
      by (inr e) = absurd (omega arith)
  write_only answer job asks (refused fault is untouched left) said number six = absurd (is.not_write (sym number ∙ six))
  write_only answer job asks (unread part untouched left) said number six = absurd (omega arith)
  write_only answer job asks (out_of_memory untouched) said number six = absurd (omega arith)

  pub write_promise : Runs commands words was now out out' err err' status → WriteStatus commands words was now out out' err err' status
  write_promise ran six = by ran.left
    where
      by : RefusesWords words was now out out' ran.answer ⊎ RunsJob commands words was now out out' ran.answer → HasFailedToWrite commands words was now out out' err err'
      by (inl left) = absurd (not_words 6 (λ e. omega (arith, e)) (λ e. omega (arith, e)) ran.answer ran.number six left)
      by (inr left) = write_only ran.answer left.job left.asked (view_of ran.answer left) ran.said ran.number six

  memory_only : (answer : Result Summary Fault) (job : Job) → Views job answer → SaysAnswer answer err err' → status ≡ answer_status answer → status ≡ 7 → Says err err' (fault_line NoMemory)
  memory_only answer job (out_of_memory untouched) said number seven = said
  memory_only answer job (done summary is) said number seven = by (done_or_failed summary)
    where
      by : (summary_status summary ≡ 0) ⊎ (summary_status summary ≡ 1) → Says err err' (fault_line NoMemory)
      by (inl e) = absurd (omega arith)
      by (inr e) = absurd (omega arith)
  memory_only answer job (refused fault is untouched left) said number seven = absurd (is.not_memory (sym number ∙ seven))
  memory_only answer job (unread part untouched left) said number seven = absurd (omega arith)
  memory_only answer job (unwritten part left) said number seven = absurd (omega arith)

  pub memory_promise : Runs commands words was now out out' err err' status → MemoryStatus err err' status
  memory_promise ran seven = by ran.left
    where
      of_words : (fault : WordFault) → ran.answer ≡ Err (Words fault) → (words_status fault ≡ 2) ⊎ (fault ≡ word.NoMemory) → Says err err' (fault_line NoMemory)
      of_words fault is (inl two) = absurd (omega (arith, ran.number, ap answer_status is, two))
      of_words fault is (inr memory) = subst (λ a. SaysAnswer a err err') (is ∙ ap (λ f. Err (Words f)) memory) ran.said

      by : RefusesWords words was now out out' ran.answer ⊎ RunsJob commands words was now out out' ran.answer → Says err err' (fault_line NoMemory)
      by (inl left) = of_words left.fault left.is (words_two left.fault)
      by (inr left) = memory_only ran.answer left.job (view_of ran.answer left) ran.said ran.number seven

  -- ALL STATUSES
  status_by : (answer : Result Summary Fault) (job : Job) → Views job answer → status ≡ answer_status answer → IsRunStatus status
  status_by answer job (done summary is) number = by (done_or_failed summary)
    where
      by : (summary_status summary ≡ 0) ⊎ (summary_status summary ≡ 1) → IsRunStatus status
      by (inl e) = inl (number ∙ e)
      by (inr e) = inr (inl (number ∙ e))
  status_by answer job (refused fault is untouched left) number = by (refusal_number (status_of fault) is)
    where
      by : (status_of fault ≡ 3) ⊎ (status_of fault ≡ 4) ⊎ (status_of fault ≡ 8) → IsRunStatus status
      by (inl e) = inr (inr (inr (inl (number ∙ e))))
      by (inr (inl e)) = inr (inr (inr (inr (inl (number ∙ e)))))
      by (inr (inr e)) = inr (inr (inr (inr (inr (inr (inr (inr (number ∙ e))))))))
  status_by answer job (unread part untouched left) number = inr (inr (inr (inr (inr (inl number)))))
  status_by answer job (unwritten part left) number = inr (inr (inr (inr (inr (inr (inl number))))))
  status_by answer job (out_of_memory untouched) number = inr (inr (inr (inr (inr (inr (inr (inl number)))))))

  pub status_promise : Runs commands words was now out out' err err' status → IsRunStatus status
  status_promise ran = by ran.left
    where
      of_words : (status ≡ 2) ⊎ (status ≡ 7) → IsRunStatus status
      of_words (inl two) = inr (inr (inl two))
      of_words (inr seven) = inr (inr (inr (inr (inr (inr (inr (inl seven)))))))

      by : RefusesWords words was now out out' ran.answer ⊎ RunsJob commands words was now out out' ran.answer → IsRunStatus status
      by (inl left) = of_words (words_number ran.answer left.fault ran.number left.is)
      by (inr left) = status_by ran.answer left.job (view_of ran.answer left) ran.number

  pub complete_promise : Runs commands words was now out out' err err' status → IsComplete commands words was now out out' status
  complete_promise ran job files asks told takes none = by ran.left
    where
      by : RefusesWords words was now out out' ran.answer ⊎ RunsJob commands words was now out out' ran.answer → (status ≡ 0) ⊎ (status ≡ 1) ⊎ (status ≡ 7)
      by (inl left) = inr (inr (asked_seven ran.answer job asks ran.number left))
      by (inr left) =
          let own = as_asked ran.answer left job asks in
          subst (λ n. (n ≡ 0) ⊎ (n ≡ 1) ⊎ (n ≡ 7)) (sym ran.number) (taken_answer (commands job) own.1 was now out out' files told ran.answer own.0 takes none)

  keeps_by : (answer : Result Summary Fault) (job : Job) → Views job answer → status ≡ answer_status answer → KeepsFiles was now out out' status
  keeps_by answer job (done summary is) number not_zero not_one not_six = by (done_or_failed summary)
    where
      by : (summary_status summary ≡ 0) ⊎ (summary_status summary ≡ 1) → Untouched was now out out'
      by (inl e) = absurd (not_zero (number ∙ e))
      by (inr e) = absurd (not_one (number ∙ e))
  keeps_by answer job (refused fault is untouched left) number not_zero not_one not_six = untouched
  keeps_by answer job (unread part untouched left) number not_zero not_one not_six = untouched
  keeps_by answer job (unwritten part left) number not_zero not_one not_six = absurd (not_six number)
  keeps_by answer job (out_of_memory untouched) number not_zero not_one not_six = untouched

  pub keeps_promise : Runs commands words was now out out' err err' status → KeepsFiles was now out out' status
  keeps_promise ran not_zero not_one not_six = by ran.left
    where
      by : RefusesWords words was now out out' ran.answer ⊎ RunsJob commands words was now out out' ran.answer → Untouched was now out out'
      by (inl left) = left.untouched
      by (inr left) = keeps_by ran.answer left.job (view_of ran.answer left) ran.number not_zero not_one not_six

  pub others_promise : Runs commands words was now out out' err err' status → KeepsOthers commands words was now
  others_promise ran job name asks others = by ran.left
    where
      by : RefusesWords words was now out out' ran.answer ⊎ RunsJob commands words was now out out' ran.answer → Changes was now (λ before after. get after name ≡ get before name)
      by (inl left) = untouched_stay (commands job) was now out out' name others left.untouched
      by (inr left) = others_stay (commands job) was now out out' name others ran.answer (as_asked ran.answer left job asks).0

  pub named_promise : Runs commands words was now out out' err err' status → NamedFiles commands words was now
  named_promise ran = record { of_job = λ job asks. of_job ran.left job asks; of_none = λ fault refuses. of_none ran.left fault refuses }
    where
      of_job : RefusesWords words was now out out' ran.answer ⊎ RunsJob commands words was now out out' ran.answer → (job : Job) → Asks words job → AsksOnly (names_of (commands job)) was now
      of_job (inl left) job asks = asks_of_more [] (names_of (commands job)) was now (among_none (names_of (commands job))) left.unasked
      of_job (inr left) job asks = subst (λ j. AsksOnly (names_of (commands j)) was now) (one_ok (job_of words) left.job job left.asked asks) left.left.asked

      of_none : RefusesWords words was now out out' ran.answer ⊎ RunsJob commands words was now out out' ran.answer → (fault : WordFault) → job_of words ≡ Err fault → AsksOnly [] was now
      of_none (inl left) fault refuses = left.unasked
      of_none (inr left) fault refuses = absurd (ok_is (job_of words) left.job fault left.asked refuses)

  pub halves_promise : Runs commands words was now out out' err err' status → ReadsFirst commands words was now
  halves_promise ran job asks = by ran.left
    where
      by : RefusesWords words was now out out' ran.answer ⊎ RunsJob commands words was now out out' ran.answer → AsksOnly [] was now ⊎ ReadsThenWrites (commands job) was now
      by (inl left) = inl left.unasked
      by (inr left) = inr (subst (λ j. ReadsThenWrites (commands j) was now) (one_ok (job_of words) left.job job left.asked asks) left.left.halves)
