-- What so many cells are with their turns, and the refusals of the first sample for them.
use Rattle.std.proofs.Common.{◌≡◌, ℕ, ◌*◌, ◌≤◌, inl, inr, List, ap, ◌∙◌, sym, arith, Bool, true, false, refl}
use Rattle.limits.specs.declared.bounds.TheConstants.{MOST_SAMPLE_CELLS}
use Rattle.cells.specs.Cells.{Cells, count_of}
use Rattle.shelf_traits.specs.declared.fault.What.TheVariants.{Cells as CellsLimit}
use Rattle.turned.specs.declared.turn.TheConstants.{TURNS}
use Rattle.synth_report.specs.declared.fault.FileOf.TheVariants as part
use Rattle.synth_report.specs.declared.fault.Fault.{Fault}
use Rattle.synth_report.specs.declared.fault.Fault.TheVariants.{Limit}
use Rattle.command.specs.Faults.{fault_of_read}
use Rattle.shelf_traits.specs.declared.fault.ReadError.{ReadError}
use Rattle.sample_files.specs.declared.form.Form.{Form}
use Rattle.sample_files.specs.declared.several.Asked.{Asked}
use Rattle.sample_files.specs.Samples.{RefusesIn, StandsIn, can_turn}
use Rattle.sample_files.specs.Several.{RefusesFirst, RefusesTurns, with_turns}
use Rattle.sample_files.proofs.OneSample.{one_refusal_in, one_sample_in, stands_or_refused_in}

pub with_turns-mono : (turns : Bool) (a b : ℕ) → a ≤ b → with_turns turns a ≤ with_turns turns b
with_turns-mono false a b le = le
with_turns-mono true a b le = omega (arith, le)

-- the cells as they are aren't more
pub with_turns-least : (turns : Bool) (a most : ℕ) → with_turns turns a ≤ most → a ≤ most
with_turns-least false a most le = le
with_turns-least true a most le = omega (arith, le)

-- a sample that can be turned and whose turns are within the bound isn't refused for them
pub unrefused_turns : (turns pictures : Bool) (first : List ℕ) (fault : Fault) (form : Form) (cells : Cells) → StandsIn pictures first form cells → (turns ≡ true → can_turn form ≡ true)
    → with_turns turns (count_of cells) ≤ MOST_SAMPLE_CELLS → RefusesTurns turns pictures first fault → ⊥
unrefused_turns false pictures first fault form cells stands pixels fits refused = refused
unrefused_turns true pictures first fault form cells stands pixels fits (inl space) =
    let same = one_sample_in pictures first form space.sample.form cells space.sample.volume stands space.read in
    let here = pixels refl in
    let there : can_turn form ≡ false = ap can_turn same.form_is ∙ space.space in
    absurd (cc)
unrefused_turns true pictures first fault form cells stands pixels fits (inr many) =
    let same = one_sample_in pictures first form many.sample.form cells many.sample.volume stands many.read in
    let count : count_of cells ≡ count_of many.sample.volume = ap count_of same.cells_are in
    omega (arith, fits, count, many.passes.0)

pub unrefused_first : (asked : Asked) (first : List ℕ) (fault : Fault) (form : Form) (cells : Cells) → StandsIn asked.pictures first form cells → (asked.turns ≡ true → can_turn form ≡ true)
    → with_turns asked.turns (count_of cells) ≤ MOST_SAMPLE_CELLS → RefusesFirst asked first fault → ⊥
unrefused_first asked first fault form cells stands pixels fits (inl reader) = stands_or_refused_in asked.pictures first form cells reader.0 stands reader.1
unrefused_first asked first fault form cells stands pixels fits (inr refused) = unrefused_turns asked.turns asked.pictures first fault form cells stands pixels fits refused

-- One refusal.

turned_once : (turns pictures : Bool) (first : List ℕ) (one other : Fault) → RefusesTurns turns pictures first one → RefusesTurns turns pictures first other → one ≡ other
turned_once false pictures first one other a b = absurd a
turned_once true pictures first one other (inl a) (inl b) = a.is ∙ sym b.is
turned_once true pictures first one other (inl a) (inr b) =
    let same = one_sample_in pictures first a.sample.form b.sample.form a.sample.volume b.sample.volume a.read b.read in
    let here : can_turn a.sample.form ≡ true = ap can_turn same.form_is ∙ b.pixels in
    let there = a.space in
    absurd (cc)
turned_once true pictures first one other (inr a) (inl b) =
    let same = one_sample_in pictures first a.sample.form b.sample.form a.sample.volume b.sample.volume a.read b.read in
    let here : can_turn b.sample.form ≡ true = ap can_turn (sym same.form_is) ∙ a.pixels in
    let there = b.space in
    absurd (cc)
turned_once true pictures first one other (inr a) (inr b) =
    let same = one_sample_in pictures first a.sample.form b.sample.form a.sample.volume b.sample.volume a.read b.read in
    a.passes.1 ∙ ap (λ (v : Cells). Limit CellsLimit (TURNS * count_of v) MOST_SAMPLE_CELLS) same.cells_are ∙ sym b.passes.1

-- what is refused for its turns is a sample
not_read : (turns pictures : Bool) (first : List ℕ) (other : Fault) (refusal : ReadError) → RefusesIn pictures first refusal → RefusesTurns turns pictures first other → ⊥
not_read false pictures first other refusal reader b = b
not_read true pictures first other refusal reader (inl b) = stands_or_refused_in pictures first b.sample.form b.sample.volume refusal b.read reader
not_read true pictures first other refusal reader (inr b) = stands_or_refused_in pictures first b.sample.form b.sample.volume refusal b.read reader

pub first_once : (asked : Asked) (first : List ℕ) (one other : Fault) → RefusesFirst asked first one → RefusesFirst asked first other → one ≡ other
first_once asked first one other (inl a) (inl b) = a.2 ∙ ap (fault_of_read part.Sample) (one_refusal_in asked.pictures first a.0 b.0 a.1 b.1) ∙ sym b.2
first_once asked first one other (inl a) (inr b) = absurd (not_read asked.turns asked.pictures first other a.0 a.1 b)
first_once asked first one other (inr a) (inl b) = absurd (not_read asked.turns asked.pictures first one b.0 b.1 a)
first_once asked first one other (inr a) (inr b) = turned_once asked.turns asked.pictures first one other a b
