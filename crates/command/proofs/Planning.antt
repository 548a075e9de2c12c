-- The first half of a command of stages: after each stage it is before the next, and a stage
-- that isn't passed ends it.
use Rattle.std.proofs.Common.{◌≡◌, ℕ, zero, suc, ◌+◌, ◌<◌, inl, inr, List, [], ◌∷◌, ◌++◌, length, refl, ap, sym, ◌∙◌, subst, arith}
use Rattle.std.specs.Prelude.{Some, slice_get}
use Rattle.std.proofs.lemmas.Option.{slice_get_within}
use Rattle.shelf_traits.specs.Files.{Files, ShelfState, OnlyReads, content_of}
use Rattle.shelf_traits.specs.declared.fault.FormFault.{FormFault}
use Rattle.shelf_traits.specs.declared.fault.What.{What}
use Rattle.shelf_traits.specs.declared.fault.ReadError.{ReadError}
use Rattle.shelf_traits.specs.declared.fault.ReadError.TheVariants as error
use Rattle.shelf_traits.proofs.FileLaws.{AreAmong, only_reads_of_more, only_reads_same, only_reads_then, rose_later, told_both, told_weaker}
use Rattle.shelf_traits.proofs.Sees.{Sees, sees_all, sees_then, sees_weaker}
use Rattle.synth_report.specs.declared.fault.FileOf.{FileOf}
use Rattle.synth_report.specs.declared.fault.Fault.{Fault}
use Rattle.synth_report.specs.declared.fault.Fault.TheVariants.{Words, Form, Unlike, Mark, Limit, Read, Write, NoMemory, NoLoop}
use Rattle.synth_report.specs.declared.summary.Summary.{Summary}
use Rattle.command.specs.Commands.{Command, HasTurn, NamedFile, named, names_in}
use Rattle.command.specs.Faults.{FailsToRead, IsNotRead, ReaderRefuses, fault_of_read}
use Rattle.command.specs.Outcomes.{AreRefused, IsPlanned, NoneRefused, NotMade}
use Rattle.command.specs.Stages.{Stages, AllMake, OneRefuses, of_stages}
use Rattle.command.specs.Stages.Stages.{read, ask, make}
use Rattle.command.specs.Writing.{FileText, files_in, texts_in}
use Rattle.command.proofs.Asking.{turns_among_from}
use Rattle.command.proofs.Staging.{AreOne}

-- these stages do all that the command does of the files, with so many files read before them
pub record Lead (c : Command) (turn : ℕ) {reads : List NamedFile} (stages : Stages reads) (files : Files) : Type 0 where
  pub refuses : (n : ℕ) (fault : Fault) → OneRefuses stages n files fault → c.Refuses (turn + n) files fault
  pub only : (n : ℕ) (fault : Fault) → c.Refuses n files fault → (m : ℕ) × (n ≡ turn + m) × OneRefuses stages m files fault
  pub makes : (texts : List (List ℕ)) (summary : Summary) → AllMake stages files texts summary → c.Makes files texts summary
  pub one : AreOne stages files

-- the command is before these stages: what it did so far only read files of its own
pub record StandsBefore (c : Command) (a b : ShelfState) (turn : ℕ) {reads : List NamedFile} (stages : Stages reads) : Type 0 where
  pub only : OnlyReads (names_in c.reads) a b
  pub turns : (i : ℕ) (part : FileOf) (name : List ℕ) → HasTurn reads i part name → HasTurn c.reads (turn + i) part name
  pub lead : Sees a b (Lead c turn stages)

-- at its entry it is before all of them
pub begin : {reads : List NamedFile} (stages : Stages reads) (writes : List NamedFile) (MayRefuse : Fault → Type 0) (MayMake : Summary → Type 0) → ((files : Files) → AreOne stages files) → (a : ShelfState)
    → StandsBefore (of_stages stages writes MayRefuse MayMake) a a 0 stages
begin {reads} stages writes MayRefuse MayMake one a = record {
  only = only_reads_same a;
  turns = λ i part name has. subst (λ turn. HasTurn reads turn part name) (from_0 i) has;
  lead = sees_all (Lead (of_stages stages writes MayRefuse MayMake) 0 stages) a a (λ files. record {
    refuses = λ n fault refused. subst (λ m. OneRefuses stages m files fault) (from_0 n) refused;
    only = λ n fault refused. (n, from_0 n, refused);
    makes = λ texts summary makes. makes;
    one = one files;
  }) (only_reads_same {names = names_in reads} a);
}
  where
    from_0 : (n : ℕ) → n ≡ 0 + n
    from_0 n = omega arith

-- Turns of files that are read in a row.

in_front : {X : Type 0} (xs ys : List X) (i : ℕ) (x : X) → slice_get xs i ≡ Some x → slice_get (xs ++ ys) i ≡ Some x
in_front [] ys i x is = absurd (cc)
in_front (y ∷ xs) ys zero x is = is
in_front (y ∷ xs) ys (suc i) x is = in_front xs ys i x is

after_front : {X : Type 0} (xs ys : List X) (i : ℕ) → slice_get (xs ++ ys) (length xs + i) ≡ slice_get ys i
after_front [] ys i = let e : 0 + i ≡ i = omega arith in ap (slice_get ys) e
after_front (x ∷ xs) ys i = let e : length (x ∷ xs) + i ≡ suc (length xs + i) = omega arith in ap (slice_get ((x ∷ xs) ++ ys)) e ∙ after_front xs ys i

-- A stage is passed.

module _ (own : List NamedFile) {c : Command} {a b d : ShelfState} {turn : ℕ} {V : Type 0} {more : List NamedFile} {Stand : Files → V → Type 0} {Refused : ℕ → Files → Fault → Type 0} {next : V → Stages more}
    (at : StandsBefore c a b turn (read own Stand Refused next)) (reads : OnlyReads (names_in own) b d) where
  own_among : AreAmong (names_in own) (names_in c.reads)
  own_among = turns_among_from own c.reads turn (λ i part name has. at.turns i part name (in_front own more i (named part name) has))

  -- whether or not they are read as a value, nothing but files of the command was read
  pub reads_on : OnlyReads (names_in c.reads) a d
  reads_on = only_reads_then a b d at.only (only_reads_of_more b d own_among reads)

  -- files are read as a value
  pub read_on : (value : V) → Sees b d (λ files. Stand files value) → StandsBefore c a d (turn + length own) (next value)
  read_on value seen = record {
    only = reads_on;
    turns = λ i part name has. subst (λ n. HasTurn c.reads n part name) (joined i) (at.turns (length own + i) part name (after_front own more i ∙ has));
    lead = sees_then (Lead c turn (read own Stand Refused next)) (λ files. Stand files value) (Lead c (turn + length own) (next value)) a b d leads at.only reads at.lead seen;
  }
    where
      joined : (i : ℕ) → turn + (length own + i) ≡ (turn + length own) + i
      joined i = omega arith

      leads : (files : Files) → Lead c turn (read own Stand Refused next) files → Stand files value → Lead c (turn + length own) (next value) files
      leads files so_far stands = record {
        refuses = λ n fault refused. subst (λ m. c.Refuses m files fault) (joined n) (so_far.refuses (length own + n) fault (inr (value, stands, n, refl, refused)));
        only = λ n fault refused. by n fault (so_far.only n fault refused);
        makes = λ texts summary makes. so_far.makes texts summary (value, stands, makes);
        one = so_far.one.1 value stands;
      }
        where
          by : (n : ℕ) (fault : Fault) → (m : ℕ) × (n ≡ turn + m) × OneRefuses (read own Stand Refused next) m files fault → (m : ℕ) × (n ≡ (turn + length own) + m) × OneRefuses (next value) m files fault
          by n fault (m, is, inl refused) = absurd (so_far.one.0.not_both value m fault stands refused)
          by n fault (m, is, inr later) =
              (later.2, omega (arith, is, later.3), subst (λ v. OneRefuses (next v) later.2 files fault) (so_far.one.0.one_value later.0 value later.1 stands) later.4)

  -- or they aren't: what is the answer of a command that reads them alone is that of this one
  module _ (Takes : Files → Type 0) (Makes : Files → List (List ℕ) → Summary → Type 0) where
    abbrev Alone : Command
    Alone = record { reads = own; writes = []; Takes = Takes; Refuses = Refused; Makes = Makes; MayRefuse = c.MayRefuse; MayMake = c.MayMake }

    refused_alone : (fault : Fault) → AreRefused Alone fault b d → AreRefused c fault a d
    refused_alone fault left = record {
      known = left.known;
      refused = sees_then (Lead c turn (read own Stand Refused next)) (λ files. (n : ℕ) × Refused n files fault) (λ files. (n : ℕ) × c.Refuses n files fault) a b d
          (λ files so_far its. (turn + its.0, so_far.refuses its.0 fault (inl its.1))) at.only reads at.lead left.refused;
    }

    none_before : (i : ℕ) → i < length own → (files : Files) → Lead c turn (read own Stand Refused next) files → NoneRefused Alone i files → NoneRefused c (turn + i) files
    none_before i below files so_far own_none m fault le is = those (so_far.only m fault is)
      where
        those : (k : ℕ) × (m ≡ turn + k) × OneRefuses (read own Stand Refused next) k files fault → ⊥
        those (k, is, inl refused) = own_none k fault (omega (arith, is, le)) refused
        those (k, is, inr later) = omega (arith, is, le, below, later.3)

    pub not_read_on : (fault : Fault) → NotMade Alone b d fault → NotMade c a d fault
    not_read_on (Read part) left = record {
      turn = turn + left.turn;
      name = left.name;
      its = at.turns left.turn part left.name (in_front own more left.turn (named part left.name) left.its);
      rose = rose_later (a.reads left.name) (b.reads left.name) (d.reads left.name) (at.only.reads left.name) left.rose;
      earlier = sees_then (Lead c turn (read own Stand Refused next)) (NoneRefused Alone left.turn) (NoneRefused c (turn + left.turn)) a b d
          (none_before left.turn (slice_get_within own left.turn (named part left.name) left.its)) at.only reads at.lead left.earlier;
    }
    not_read_on NoMemory left = tt
    not_read_on (Form part why) left = refused_alone (Form part why) left
    not_read_on (Unlike part) left = refused_alone (Unlike part) left
    not_read_on (Mark index) left = refused_alone (Mark index) left
    not_read_on (Limit what number bound) left = refused_alone (Limit what number bound) left
    not_read_on (NoLoop length) left = refused_alone (NoLoop length) left
    not_read_on (Words fault) left = absurd left
    not_read_on (Write part) left = absurd left

-- one file is read
pub file_read : {c : Command} {a b d : ShelfState} {turn : ℕ} {V : Type 0} {more : List NamedFile} {file : NamedFile} {Stand : Files → V → Type 0} {Refused : ℕ → Files → Fault → Type 0} {next : V → Stages more}
    → StandsBefore c a b turn (read (file ∷ []) Stand Refused next) → OnlyReads (file.name ∷ []) b d → (value : V) → Sees b d (λ files. Stand files value) → StandsBefore c a d (turn + 1) (next value)
file_read {file = file} at reads value seen = read_on (file ∷ []) at reads value seen

-- One file isn't read, by what its reader promises.

abbrev RefusedAlone : FileOf → List ℕ → (List ℕ → ReadError → Type 0) → ℕ → Files → Fault → Type 0
RefusedAlone part name Refuses n files fault = (n ≡ 1) × ReaderRefuses Refuses part (content_of files name) fault

abbrev FileAlone : Command → FileOf → List ℕ → (List ℕ → ReadError → Type 0) → Command
FileAlone c part name Refuses = record { reads = named part name ∷ []; writes = []; Takes = c.Takes; Refuses = RefusedAlone part name Refuses; Makes = c.Makes; MayRefuse = c.MayRefuse; MayMake = c.MayMake }

module _ (c : Command) (part : FileOf) (name : List ℕ) (Refuses : List ℕ → ReadError → Type 0) (a b : ShelfState) (reads : OnlyReads (name ∷ []) a b)
    (bad : (why : FormFault) → c.MayRefuse (Form part why)) (limit : (what : What) (number bound : ℕ) → c.MayRefuse (Limit what number bound)) where
  file_alone : (error : ReadError) → FailsToRead Refuses name a b error → NotMade (FileAlone c part name Refuses) a b (fault_of_read part error)
  file_alone error.ReadFault left = record {
    turn = 0;
    name = name;
    its = refl;
    rose = left;
    earlier = sees_all (NoneRefused (FileAlone c part name Refuses) 0) a b (λ files m fault le refused. omega (arith, le, refused.0)) reads;
  }
  file_alone error.NoMemory left = tt
  file_alone (error.Bad why) left = record {
    known = bad why;
    refused = sees_weaker (λ files. Refuses (content_of files name) (error.Bad why)) (λ files. (n : ℕ) × RefusedAlone part name Refuses n files (Form part why)) a b
        (λ files refuses. (1, (refl, (error.Bad why, refuses, refl)))) left;
  }
  file_alone (error.Limit what number bound) left = record {
    known = limit what number bound;
    refused = sees_weaker (λ files. Refuses (content_of files name) (error.Limit what number bound)) (λ files. (n : ℕ) × RefusedAlone part name Refuses n files (Limit what number bound)) a b
        (λ files refuses. (1, (refl, (error.Limit what number bound, refuses, refl)))) left;
  }

pub file_not_read : {c : Command} {a b d : ShelfState} {turn : ℕ} {V : Type 0} {more : List NamedFile} {part : FileOf} {name : List ℕ} {Stand : Files → V → Type 0} {next : V → Stages more} (Refuses : List ℕ → ReadError → Type 0)
    → StandsBefore c a b turn (read (named part name ∷ []) Stand (RefusedAlone part name Refuses) next) → OnlyReads (name ∷ []) b d → ((why : FormFault) → c.MayRefuse (Form part why)) → ((what : What) (number bound : ℕ) → c.MayRefuse (Limit what number bound))
    → (error : ReadError) → FailsToRead Refuses name b d error → NotMade c a d (fault_of_read part error)
file_not_read {c = c} {b = b} {d = d} {part = part} {name = name} Refuses at reads bad limit error left =
    not_read_on (named part name ∷ []) at reads c.Takes c.Makes (fault_of_read part error) (file_alone c part name Refuses b d reads bad limit error left)

pub part_not_read : {c : Command} {a b d : ShelfState} {turn : ℕ} {V : Type 0} {more : List NamedFile} {part : FileOf} {name : List ℕ} {Stand : Files → V → Type 0} {next : V → Stages more} (Refuses : List ℕ → ReadError → Type 0)
    → StandsBefore c a b turn (read (named part name ∷ []) Stand (RefusedAlone part name Refuses) next) → OnlyReads (name ∷ []) b d → ((why : FormFault) → c.MayRefuse (Form part why)) → ((what : What) (number bound : ℕ) → c.MayRefuse (Limit what number bound))
    → (fault : Fault) → IsNotRead Refuses part name b d fault → NotMade c a d fault
part_not_read {c = c} {a = a} {d = d} Refuses at reads bad limit fault left = subst (NotMade c a d) (sym left.is) (file_not_read Refuses at reads bad limit left.error left.fails)

-- A question is asked.

module _ {c : Command} {a b : ShelfState} {turn : ℕ} {more : List NamedFile} {Passes : Type 0} {Refused : Fault → Type 0} {next : Stages more} (at : StandsBefore c a b turn (ask Passes Refused next)) where
  -- a question is passed
  pub pass_on : Passes → StandsBefore c a b turn next
  pass_on passes = record {
    only = at.only;
    turns = at.turns;
    lead = sees_weaker (Lead c turn (ask Passes Refused next)) (Lead c turn next) a b leads at.lead;
  }
    where
      leads : (files : Files) → Lead c turn (ask Passes Refused next) files → Lead c turn next files
      leads files so_far = record {
        refuses = λ n fault refused. so_far.refuses n fault (inr (passes, refused));
        only = λ n fault refused. by n fault (so_far.only n fault refused);
        makes = λ texts summary makes. so_far.makes texts summary (passes, makes);
        one = so_far.one.1 passes;
      }
        where
          by : (n : ℕ) (fault : Fault) → (m : ℕ) × (n ≡ turn + m) × OneRefuses (ask Passes Refused next) m files fault → (m : ℕ) × (n ≡ turn + m) × OneRefuses next m files fault
          by n fault (m, is, inl refused) = absurd (so_far.one.0.not_both fault passes refused.1)
          by n fault (m, is, inr later) = (m, is, later.1)

  -- or it is refused
  pub not_passed : (fault : Fault) → Refused fault → c.MayRefuse fault → AreRefused c fault a b
  not_passed fault refused may = record {
    known = may;
    refused = sees_weaker (Lead c turn (ask Passes Refused next)) (λ files. (n : ℕ) × c.Refuses n files fault) a b (λ files so_far. (turn + 0, so_far.refuses 0 fault (inl (refl, refused)))) at.lead;
  }

  pub limit_passed : (fault : Fault) (what : What) (number bound : ℕ) → fault ≡ Limit what number bound → Refused fault → c.MayRefuse (Limit what number bound) → NotMade c a b fault
  limit_passed fault what number bound is refused may = subst (NotMade c a b) (sym is) (not_passed (Limit what number bound) (subst Refused is refused) may)

-- all are passed, and this is made
pub plan_made : {c : Command} {a b : ShelfState} {turn : ℕ} {T : Type 0} {Is : T → Type 0} {files_of : T → List FileText} {summary_of : T → Summary} → StandsBefore c a b turn (make Is files_of summary_of)
    → (made : T) → Is made → files_in (files_of made) ≡ c.writes → c.MayMake (summary_of made) → IsPlanned c (files_of made) (summary_of made) a b
plan_made {c = c} {a = a} {b = b} {turn = turn} {Is = Is} {files_of = files_of} {summary_of = summary_of} at made is names may = record {
  known = may;
  named = names;
  made = told_weaker (λ before after. (after ≡ before) × Lead c turn (make Is files_of summary_of) before) (λ before after. (after ≡ before) × c.Makes before (texts_in (files_of made)) (summary_of made)) a.files b.files
      (λ before after seen. (seen.0, seen.1.makes (texts_in (files_of made)) (summary_of made) (made, is, refl, refl)))
      (told_both (λ before after. after ≡ before) (λ before after. Lead c turn (make Is files_of summary_of) before) a.files b.files at.only.files at.lead);
}
