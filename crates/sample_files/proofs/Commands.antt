-- From the reading of samples to what a command leaves that reads them first.
use Rattle.std.proofs.Common.{◌≡◌, ℕ, suc, ◌+◌, ◌*◌, ◌≤◌, List, [], ◌∷◌, length, refl, sym, ap, ◌∙◌, subst, arith, Bool, true, false}
use Rattle.std.specs.Prelude.{Ok, Err}
use Rattle.std.proofs.lemmas.Option.{slice_get_within}
use Rattle.limits.specs.declared.bounds.TheConstants.{MOST_PARTS, MOST_SAMPLE_CELLS}
use Rattle.turned.specs.declared.turn.TheConstants.{TURNS}
use Rattle.cells.specs.Cells.{Cells, IsOnePart, count_of}
use Rattle.cells.specs.PartLists.{parts_of}
use Rattle.shelf_traits.specs.Files.{Files, OnlyReads, ShelfState, content_of}
use Rattle.shelf_traits.specs.declared.fault.What.{What}
use Rattle.shelf_traits.proofs.FileLaws.{told_weaker}
use Rattle.synth_report.specs.declared.fault.FileOf.{FileOf}
use Rattle.synth_report.specs.declared.fault.Fault.{Fault}
use Rattle.synth_report.specs.declared.fault.Fault.TheVariants.{Words, Form as FormFault, Unlike, Mark, Limit, Read, Write, NoMemory, NoLoop}
use Rattle.synth_report.specs.declared.summary.Summary.{Summary}
use Rattle.command.specs.Commands.{Command, HasTurn, NamedFile, named, names_in}
use Rattle.command.specs.Outcomes.{AreRefused, NoneRefused, NotMade}
use Rattle.command.specs.Stages.{AllMake, Stages}
use Rattle.command.specs.Stages.Stages.{read}
use Rattle.command.proofs.Staging.{AreOne, IsOneReader, ReadsOne, bound_is_one}
use Rattle.command.proofs.Planning.{StandsBefore, limit_passed, not_read_on, pass_on}
use Rattle.sample_files.specs.declared.sample.Sample.{Sample}
use Rattle.sample_files.specs.declared.several.Asked.{Asked}
use Rattle.sample_files.specs.declared.several.Samples.{Samples}
use Rattle.sample_files.specs.Samples.{IsSampleOf, RefusesSample, StandsAs}
use Rattle.sample_files.specs.Several.{AsksParts, MayRefuseSamples, NoneRefusedOf, RefusesSeveral, SeveralAreRefused, SeveralReadAs, StandForParts, StandForSamples, StandForSeveral, contents, numbered_files, of_samples, parts_within, sample_files}
use Rattle.sample_files.proofs.OneAnswer.{not_both, one_value, refused_once}
use Rattle.sample_files.proofs.OneSample.{one_sample, one_sample_refusal, stands_alone, stands_or_refused}
use Rattle.sample_files.proofs.Joined.{parts_alone, same_parts}

pub length-numbered : (names : List (List ℕ)) (n : ℕ) → length (numbered_files n names) ≡ length names
length-numbered [] n = refl
length-numbered (x ∷ names) n = ap suc (length-numbered names (suc n))

-- a command that reads the samples first, and refuses them as they are refused, has this answer
module _ (c : Command) (asked : Asked) (first : List ℕ) (more : List (List ℕ))
    (own : (turn : ℕ) (part : FileOf) (name : List ℕ) → HasTurn (sample_files first more) turn part name → HasTurn c.reads turn part name)
    (known : (fault : Fault) → MayRefuseSamples (length more + 1) fault → c.MayRefuse fault)
    (refuses : (files : Files) (n : ℕ) (fault : Fault) → RefusesSeveral asked n (content_of files first) (contents files more) fault → c.Refuses n files fault)
    (only : (files : Files) (n : ℕ) (fault : Fault) → n ≤ length more → c.Refuses n files fault → RefusesSeveral asked n (content_of files first) (contents files more) fault)
    (was now : ShelfState) where
  refused : (fault : Fault) → SeveralAreRefused asked first more fault was now → AreRefused c fault was now
  refused fault r = record {
    known = known fault r.known;
    refused = told_weaker (λ before after. (n : ℕ) × RefusesSeveral asked n (content_of before first) (contents before more) fault) (λ before after. (n : ℕ) × c.Refuses n before fault) was.files now.files
        (λ before after s. (s.0, refuses before s.0 fault s.1)) r.refused;
  }

  pub samples_not_made : (fault : Fault) → SeveralReadAs asked first more was now (Err fault) → NotMade c was now fault
  samples_not_made (Read part) left = record {
    turn = left.turn;
    name = left.name;
    its = own left.turn part left.name left.has_turn;
    rose = left.rose;
    earlier = (let below = slice_get_within (sample_files first more) left.turn (named part left.name) left.has_turn in
        let few : left.turn ≤ length more = omega (arith, below, length-numbered more 2) in
        told_weaker (λ before after. NoneRefusedOf asked left.turn (content_of before first) (contents before more)) (λ before after. NoneRefused c left.turn before) was.files now.files
        (λ before after none. λ m fault le r. none m fault le (only before m fault (omega (arith, le, few)) r)) left.earlier);
  }
  samples_not_made NoMemory left = tt
  samples_not_made (FormFault part why) left = refused (FormFault part why) left
  samples_not_made (Unlike part) left = refused (Unlike part) left
  samples_not_made (Mark index) left = refused (Mark index) left
  samples_not_made (Limit what number bound) left = refused (Limit what number bound) left
  samples_not_made (NoLoop length) left = refused (NoLoop length) left
  samples_not_made (Words fault) left = absurd left.known
  samples_not_made (Write part) left = absurd left.known

-- the stage that reads the samples has one answer
pub samples_are_one : (asked : Asked) (first : List ℕ) (more : List (List ℕ)) (files : Files)
    → IsOneReader (λ files samples. StandForSeveral asked (content_of files first) (contents files more) samples) (λ n files fault. RefusesSeveral asked n (content_of files first) (contents files more) fault) files
samples_are_one asked first more files = record {
  one_value = one_value asked (content_of files first) (contents files more);
  not_both = not_both asked (content_of files first) (contents files more);
  one_refusal = refused_once asked (content_of files first) (contents files more);
}

-- where they aren't read the command of that stage ends so
pub samples_not_read : {c : Command} {a b d : ShelfState} {turn : ℕ} {V : Type 0} {others : List NamedFile} {Stand : Files → V → Type 0} {next : V → Stages others} (asked : Asked) (first : List ℕ) (more : List (List ℕ))
    → StandsBefore c a b turn (read (sample_files first more) Stand (λ n files fault. RefusesSeveral asked n (content_of files first) (contents files more) fault) next) → OnlyReads (names_in (sample_files first more)) b d
    → ((fault : Fault) → MayRefuseSamples (length more + 1) fault → c.MayRefuse fault) → (fault : Fault) → SeveralReadAs asked first more b d (Err fault) → NotMade c a d fault
samples_not_read {c = c} {b = b} {d = d} asked first more at reads known fault left =
    not_read_on (sample_files first more) at reads c.Takes c.Makes fault (samples_not_made _ asked first more (λ turn part name has. has) known (λ files n its refused. refused) (λ files n its le refused. refused) b d fault left)

-- the bytes of one sample have one answer
pub same_sample : (bytes : List ℕ) (first second : Sample) → IsSampleOf bytes first → IsSampleOf bytes second → first ≡ second
same_sample bytes first second a b =
    let same = one_sample MOST_SAMPLE_CELLS bytes first.form second.form first.volume second.volume a b in
    λ k. record { form = same.form_is k; volume = same.cells_are k }

pub sample_is_one : ReadsOne IsSampleOf RefusesSample
sample_is_one = record {
  one_value = same_sample;
  not_both = λ bytes sample error stands refuses. stands_or_refused MOST_SAMPLE_CELLS bytes sample.form sample.volume error stands refuses;
  one_refusal = one_sample_refusal MOST_SAMPLE_CELLS;
}

-- The number of parts is asked for.

pub parts_are_one : {others : List NamedFile} (turns : Bool) (count : ℕ) (next : Stages others) (files : Files) → AreOne next files → AreOne (parts_within turns count next) files
parts_are_one false count next files one = one
parts_are_one true count next files one = (bound_is_one _ _ _, λ passes. one)

pub parts_passed : {c : Command} {a b : ShelfState} {turn : ℕ} {others : List NamedFile} {next : Stages others} (turns : Bool) (count : ℕ) → StandsBefore c a b turn (parts_within turns count next)
    → AsksParts turns count (Ok tt) → StandsBefore c a b turn next
parts_passed false count at within = at
parts_passed true count at within = pass_on at (within refl)

pub parts_refused : {c : Command} {a b : ShelfState} {turn : ℕ} {others : List NamedFile} (turns : Bool) (count : ℕ) (next : Stages others) → StandsBefore c a b turn (parts_within turns count next)
    → ((what : What) (number bound : ℕ) → c.MayRefuse (Limit what number bound)) → (fault : Fault) → AsksParts turns count (Err fault) → NotMade c a b fault
parts_refused false count next at may fault asks = let is = asks.0 in absurd (cc)
parts_refused true count next at may fault asks = limit_passed at fault _ _ _ asks.1.1 asks.1 (may _ _ _)

pub parts_make : {others : List NamedFile} (turns : Bool) (count : ℕ) (next : Stages others) (files : Files) (texts : List (List ℕ)) (summary : Summary) → (turns ≡ true → TURNS * count ≤ MOST_PARTS)
    → AllMake next files texts summary → AllMake (parts_within turns count next) files texts summary
parts_make false count next files texts summary few made = made
parts_make true count next files texts summary few made = (few refl, made)

pub parts_made : {others : List NamedFile} (turns : Bool) (count : ℕ) (next : Stages others) (files : Files) (texts : List (List ℕ)) (summary : Summary)
    → AllMake (parts_within turns count next) files texts summary → AllMake next files texts summary
parts_made false count next files texts summary made = made
parts_made true count next files texts summary made = made.1

-- the samples of one file are the sample of that file
pub one_file : (turns : Bool) (first : List ℕ) (samples : Samples) → StandForSamples turns first [] samples → StandsAs first samples.form samples.volume
one_file turns first samples a = by (parts_of samples.volume) refl a.parts
  where
    by : (parts : List Cells) → parts_of samples.volume ≡ parts → StandForParts (of_samples turns) samples.form first [] parts → StandsAs first samples.form samples.volume
    by [] is stand = absurd stand
    by (p ∷ []) is stand =
        let same : samples.volume ≡ p = same_parts samples.volume p (is ∙ sym (parts_alone p (stands_alone MOST_SAMPLE_CELLS first samples.form p stand.0))) in
        subst (StandsAs first samples.form) (sym same) stand.0
    by (p ∷ q ∷ parts) is stand = absurd stand.1

-- and what one file stands for are the samples of that file
pub alone : (files : Files) (first : List ℕ) (more : List (List ℕ)) (samples : Samples) → more ≡ [] → StandsAs (content_of files first) samples.form samples.volume → IsOnePart samples.volume → count_of samples.volume ≤ MOST_SAMPLE_CELLS
    → StandForSamples false (content_of files first) (contents files more) samples
alone files first more samples none stands one fits = record {
  parts = subst (λ names. StandForParts (of_samples false) samples.form (content_of files first) (contents files names) (parts_of samples.volume)) (sym none)
      (subst (StandForParts (of_samples false) samples.form (content_of files first) []) (sym (parts_alone samples.volume one)) (stands, tt));
  few = λ turns. absurd (cc);
  pixels = λ turns. absurd (cc);
  fits = fits;
}
