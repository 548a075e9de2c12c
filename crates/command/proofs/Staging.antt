-- A command of stages has one answer to files, by three facts of each stage.
use Rattle.std.proofs.Common.{◌≡◌, ℕ, ◌≤◌, inl, inr, List, ap, sym, ◌∙◌, subst, arith}
use Rattle.std.specs.Prelude.{Result, Ok, Err}
use Rattle.shelf_traits.specs.Files.{Files, content_of}
use Rattle.shelf_traits.specs.declared.fault.What.{What}
use Rattle.shelf_traits.specs.declared.fault.ReadError.{ReadError}
use Rattle.synth_report.specs.declared.fault.FileOf.{FileOf}
use Rattle.synth_report.specs.declared.fault.Fault.{Fault}
use Rattle.synth_report.specs.declared.fault.Fault.TheVariants.{Limit}
use Rattle.synth_report.specs.declared.summary.Summary.{Summary}
use Rattle.synth_report.specs.Texts.{summary_status}
use Rattle.command.specs.Commands.{HasOneAnswer, NamedFile}
use Rattle.command.specs.Faults.{ReaderRefuses, fault_of_read}
use Rattle.command.specs.Stages.{Stages, AllMake, AllPass, OneRefuses, PassesBound, of_stages}
use Rattle.command.specs.Stages.Stages.{read, ask, make}

-- The facts of a stage.

-- files stand for one value, or are refused, for one fault
pub record IsOneReader {V : Type 0} (Stand : Files → V → Type 0) (Refused : ℕ → Files → Fault → Type 0) (files : Files) : Type 0 where
  pub one_value : (first second : V) → Stand files first → Stand files second → first ≡ second
  pub not_both : (value : V) (n : ℕ) (fault : Fault) → Stand files value → Refused n files fault → ⊥
  pub one_refusal : (m n : ℕ) (first second : Fault) → Refused m files first → Refused n files second → first ≡ second

-- a question is passed, or refused for one fault
pub record IsOneQuestion (Passes : Type 0) (Refused : Fault → Type 0) : Type 0 where
  pub not_both : (fault : Fault) → Passes → Refused fault → ⊥
  pub one_refusal : (first second : Fault) → Refused first → Refused second → first ≡ second

-- so are all, and whatever is made at the end, whether files fail is decided
abbrev pub AreOne : {reads : List NamedFile} → Stages reads → Files → Type 0
AreOne (read {V = V} own Stand Refused next) files = IsOneReader Stand Refused files × ((value : V) → Stand files value → AreOne (next value) files)
AreOne (ask Passes Refused next) files = IsOneQuestion Passes Refused × (Passes → AreOne next files)
AreOne (make {T = T} Is files_of summary_of) files = (first second : T) → Is first → Is second → summary_status (summary_of first) ≡ summary_status (summary_of second)

-- Facts of stages of their own.

-- bytes stand for one value, or are refused, for one error
pub record ReadsOne {V : Type 0} (Stand : List ℕ → V → Type 0) (Refuses : List ℕ → ReadError → Type 0) : Type 0 where
  pub one_value : (bytes : List ℕ) (first second : V) → Stand bytes first → Stand bytes second → first ≡ second
  pub not_both : (bytes : List ℕ) (value : V) (error : ReadError) → Stand bytes value → Refuses bytes error → ⊥
  pub one_refusal : (bytes : List ℕ) (first second : ReadError) → Refuses bytes first → Refuses bytes second → first ≡ second

pub file_is_one : {V : Type 0} {Stand : List ℕ → V → Type 0} {Refuses : List ℕ → ReadError → Type 0} → ReadsOne Stand Refuses → (part : FileOf) (name : List ℕ) (files : Files)
    → IsOneReader (λ files value. Stand (content_of files name) value) (λ n files fault. (n ≡ 1) × ReaderRefuses Refuses part (content_of files name) fault) files
file_is_one one part name files = record {
  one_value = one.one_value (content_of files name);
  not_both = λ value n fault stand refused. one.not_both (content_of files name) value refused.1.0 stand refused.1.1;
  one_refusal = λ m n first second a b. a.1.2 ∙ ap (fault_of_read part) (one.one_refusal (content_of files name) a.1.0 b.1.0 a.1.1 b.1.1) ∙ sym b.1.2;
}

-- what is read by a function reads one
pub read_by : {V : Type 0} (reading : List ℕ → Result V ReadError) → ReadsOne (λ bytes value. reading bytes ≡ Ok value) (λ bytes error. reading bytes ≡ Err error)
read_by {V} reading = record { one_value = λ bytes. same_value (reading bytes); not_both = λ bytes. not_both (reading bytes); one_refusal = λ bytes. same_error (reading bytes) }
  where
    same_value : (r : Result V ReadError) (first second : V) → r ≡ Ok first → r ≡ Ok second → first ≡ second
    same_value r first second p q = let both : Ok first ≡ Ok second = sym p ∙ q in cc

    same_error : (r : Result V ReadError) (first second : ReadError) → r ≡ Err first → r ≡ Err second → first ≡ second
    same_error r first second p q = let both : Err first ≡ Err second = sym p ∙ q in cc

    not_both : (r : Result V ReadError) (value : V) (error : ReadError) → r ≡ Ok value → r ≡ Err error → ⊥
    not_both r value error p q = absurd (cc)

pub bound_is_one : (what : What) (number bound : ℕ) → IsOneQuestion (number ≤ bound) (PassesBound what number bound)
bound_is_one what number bound = record { not_both = λ fault within passes. omega (arith, within, passes.0); one_refusal = λ first second a b. a.1 ∙ sym b.1 }

pub passing_is_one : (what : What) (PassesAt : ℕ → Type 0) (bound : ℕ) → ((m n : ℕ) → PassesAt m → PassesAt n → m ≡ n)
    → IsOneQuestion ((number : ℕ) → PassesAt number → ⊥) (λ fault. (number : ℕ) × PassesAt number × (fault ≡ Limit what number bound))
passing_is_one what PassesAt bound one = record {
  not_both = λ fault none passes. none passes.0 passes.1;
  one_refusal = λ first second a b. a.2 ∙ ap (λ number. Limit what number bound) (one a.0 b.0 a.1 b.1) ∙ sym b.2;
}

-- The facts of a command.

pub unrefused : {reads : List NamedFile} (stages : Stages reads) (files : Files) → AreOne stages files → AllPass stages files → (n : ℕ) (fault : Fault) → OneRefuses stages n files fault → ⊥
unrefused (read own Stand Refused next) files one passes n fault (inl refused) = one.0.not_both passes.0 n fault passes.1 refused
unrefused (read own Stand Refused next) files one passes n fault (inr later) =
    unrefused (next passes.0) files (one.1 passes.0 passes.1) passes.2 later.2 fault (subst (λ value. OneRefuses (next value) later.2 files fault) (one.0.one_value later.0 passes.0 later.1 passes.1) later.4)
unrefused (ask Passes Refused next) files one passes n fault (inl refused) = one.0.not_both fault passes.0 refused.1
unrefused (ask Passes Refused next) files one passes n fault (inr later) = unrefused next files (one.1 passes.0) passes.1 n fault later.1
unrefused (make Is files_of summary_of) files one passes n fault refused = absurd refused

one_fault : {reads : List NamedFile} (stages : Stages reads) (files : Files) → AreOne stages files → (m n : ℕ) (first second : Fault) → OneRefuses stages m files first → OneRefuses stages n files second → first ≡ second
one_fault (read own Stand Refused next) files one m n first second (inl a) (inl b) = one.0.one_refusal m n first second a b
one_fault (read own Stand Refused next) files one m n first second (inl a) (inr b) = absurd (one.0.not_both b.0 m first b.1 a)
one_fault (read own Stand Refused next) files one m n first second (inr a) (inl b) = absurd (one.0.not_both a.0 n second a.1 b)
one_fault (read own Stand Refused next) files one m n first second (inr a) (inr b) =
    one_fault (next a.0) files (one.1 a.0 a.1) a.2 b.2 first second a.4 (subst (λ value. OneRefuses (next value) b.2 files second) (one.0.one_value b.0 a.0 b.1 a.1) b.4)
one_fault (ask Passes Refused next) files one m n first second (inl a) (inl b) = one.0.one_refusal first second a.1 b.1
one_fault (ask Passes Refused next) files one m n first second (inl a) (inr b) = absurd (one.0.not_both first b.0 a.1)
one_fault (ask Passes Refused next) files one m n first second (inr a) (inl b) = absurd (one.0.not_both second a.0 b.1)
one_fault (ask Passes Refused next) files one m n first second (inr a) (inr b) = one_fault next files (one.1 a.0) m n first second a.1 b.1
one_fault (make Is files_of summary_of) files one m n first second a b = absurd a

-- what makes something passes
pub made_passes : {reads : List NamedFile} (stages : Stages reads) (files : Files) (texts : List (List ℕ)) (summary : Summary) → AllMake stages files texts summary → AllPass stages files
made_passes (read own Stand Refused next) files texts summary makes = (makes.0, makes.1, made_passes (next makes.0) files texts summary makes.2)
made_passes (ask Passes Refused next) files texts summary makes = (makes.0, made_passes next files texts summary makes.1)
made_passes (make Is files_of summary_of) files texts summary makes = tt

one_verdict : {reads : List NamedFile} (stages : Stages reads) (files : Files) → AreOne stages files → (texts others : List (List ℕ)) (first second : Summary) → AllMake stages files texts first → AllMake stages files others second
    → summary_status first ≡ summary_status second
one_verdict (read own Stand Refused next) files one texts others first second a b =
    one_verdict (next a.0) files (one.1 a.0 a.1) texts others first second a.2 (subst (λ value. AllMake (next value) files others second) (one.0.one_value b.0 a.0 b.1 a.1) b.2)
one_verdict (ask Passes Refused next) files one texts others first second a b = one_verdict next files (one.1 a.0) texts others first second a.1 b.1
one_verdict (make Is files_of summary_of) files one texts others first second a b = ap summary_status a.3 ∙ one a.0 b.0 a.1 b.1 ∙ sym (ap summary_status b.3)

pub one_answer : {reads : List NamedFile} (stages : Stages reads) (writes : List NamedFile) (MayRefuse : Fault → Type 0) (MayMake : Summary → Type 0)
    → ((files : Files) → AreOne stages files) → HasOneAnswer (of_stages stages writes MayRefuse MayMake)
one_answer stages writes MayRefuse MayMake one = record {
  taken = λ files n fault passes refused. unrefused stages files (one files) passes n fault refused;
  not_both = λ files texts summary n fault makes refused. unrefused stages files (one files) (made_passes stages files texts summary makes) n fault refused;
  one_refusal = λ files m n first second a b. one_fault stages files (one files) m n first second a b;
  one_verdict = λ files texts others first second a b. one_verdict stages files (one files) texts others first second a b;
}
