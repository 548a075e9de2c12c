-- A first word that names a command, and one that names none.
use Rattle.std.proofs.Common.{◌≡◌, ◌≢◌, ℕ, ◌≤◌, List, [], ◌∷◌, length, get_or, take, drop, ◌-◌, refl, ap, subst, ◌∙◌, false, arith, inl, inr}
use Rattle.std.specs.Prelude.{Result, Ok, Err, codes}
use Rattle.std.proofs.lemmas.List.{take_all}
use Rattle.job_words.specs.declared.job.Job.{Job}
use Rattle.job_words.specs.declared.job.WordFault.{WordFault}
use Rattle.job_words.specs.declared.job.WordFault.TheVariants.{NoMemory, UnknownCommand}
use Rattle.job_words.specs.Texts.{same_text}
use Rattle.job_words.specs.Jobs.{job_of}
use Rattle.job_words.specs.Words.{AnswersAs, and_then}
use Rattle.job_words.proofs.Texting.{same_not}

pub record IsUnknown (command : List ℕ) : Type 0 where
  pub grow : command ≢ codes "grow"
  pub quilt : command ≢ codes "quilt"
  pub loops : command ≢ codes "loop"
  pub check : command ≢ codes "check"
  pub trial : command ≢ codes "trial"
  pub upgrade : command ≢ codes "upgrade"
  pub tile : command ≢ codes "tile"
  pub merge : command ≢ codes "merge"
  pub transfer : command ≢ codes "transfer"

abbrev answer : WordFault → Result Job WordFault
answer fault = Err fault

pub unknown : (words : List (List ℕ)) (d : List ℕ) → 1 ≤ length words → IsUnknown (get_or words 0 d) → answer UnknownCommand ≡ job_of words
unknown [] d le is = absurd (omega arith)
unknown (command ∷ words) d le is =
    let grow : same_text command (codes "grow") ≡ false = same_not command (codes "grow") is.grow in
    let quilt : same_text command (codes "quilt") ≡ false = same_not command (codes "quilt") is.quilt in
    let loops : same_text command (codes "loop") ≡ false = same_not command (codes "loop") is.loops in
    let check : same_text command (codes "check") ≡ false = same_not command (codes "check") is.check in
    let trial : same_text command (codes "trial") ≡ false = same_not command (codes "trial") is.trial in
    let upgrade : same_text command (codes "upgrade") ≡ false = same_not command (codes "upgrade") is.upgrade in
    let tile : same_text command (codes "tile") ≡ false = same_not command (codes "tile") is.tile in
    let merge : same_text command (codes "merge") ≡ false = same_not command (codes "merge") is.merge in
    let transfer : same_text command (codes "transfer") ≡ false = same_not command (codes "transfer") is.transfer in
    rw (grow, quilt, loops, check, trial, upgrade, tile, merge, transfer) refl

-- the words after the first, as the pattern of a slice binds them
abbrev after : List (List ℕ) → List (List ℕ)
after words = take (length words - 1) (drop 1 words)

after_first : (text : List ℕ) (ask : List (List ℕ) → Result Job WordFault) → ((rest : List (List ℕ)) → ask rest ≡ job_of (text ∷ rest)) → (words : List (List ℕ)) (d : List ℕ)
    → 1 ≤ length words → text ≡ get_or words 0 d → ask (after words) ≡ job_of words
after_first text ask is [] d le first = absurd (omega arith)
after_first text ask is (word ∷ words) d le first =
    ap ask (take_all (length (word ∷ words) - 1) words (omega arith)) ∙ is words ∙ ap (λ w. job_of (w ∷ words)) first

-- what the words after a command ask for is what all words do
pub answered : (text : List ℕ) (ask : List (List ℕ) → Result Job WordFault) → ((rest : List (List ℕ)) → ask rest ≡ job_of (text ∷ rest)) → (words all : List (List ℕ)) (d : List ℕ) (result : Result Job WordFault)
    → 1 ≤ length words → text ≡ get_or words 0 d → words ≡ all → AnswersAs (ask (after words)) result → AnswersAs (job_of all) result
answered text ask is words all d result le first same =
    subst (λ asked. AnswersAs asked result) (after_first text ask is words d le first ∙ ap job_of same)

-- a job of one command is the job of all words, and so is its refusal
pub wrapped : {T : Type 0} (make : T → Job) (asked : Result T WordFault) (job : T) → AnswersAs asked (Ok job) → AnswersAs (and_then (λ it. Ok (make it)) asked) (Ok (make job))
wrapped make asked job (inl is) = inl (ap (and_then (λ it. Ok (make it))) is)
wrapped make asked job (inr none) = absurd (cc)

pub passed_on : {T : Type 0} (make : T → Job) (asked : Result T WordFault) (fault : WordFault) → AnswersAs asked (Err fault) → AnswersAs (and_then (λ it. Ok (make it)) asked) (Err fault)
passed_on make asked fault (inl is) = inl (ap (and_then (λ it. Ok (make it))) is)
passed_on make asked fault (inr none) = let same : fault ≡ NoMemory = cc in rw same (inr refl)
