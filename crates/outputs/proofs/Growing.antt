-- The stages of `grow`: each has one answer, and what is planned goes by them.
use Rattle.std.proofs.Common.{◌≡◌, ℕ, ◌+◌, ◌*◌, ◌≤◌, true, inl, inr, List, length, refl, ap, sym, ◌∙◌, subst, arith}
use Rattle.std.proofs.lemmas.List.{append-nil}
use Rattle.std.specs.Prelude.{All, Ok, Err}
use Rattle.limits.specs.declared.bounds.TheConstants.{MOST_OUTPUT_CELLS, MOST_PARTS}
use Rattle.cells.specs.declared.place.Size.{Size}
use Rattle.cells.specs.Cells.{IsVolume, sizes_of}
use Rattle.cells.specs.SizeLists.{AreSizes}
use Rattle.cells.specs.Places.{IsSmall, cell_count}
use Rattle.shelf_traits.specs.Files.{Files, OnlyReads, ShelfState, content_of}
use Rattle.shelf_traits.proofs.Sees.{Sees}
use Rattle.grown.specs.declared.plan.GrowError.{GrowError}
use Rattle.grown.specs.declared.plan.GrowError.TheVariants as error
use Rattle.grown.specs.declared.plan.Grown.{Grown}
use Rattle.turned.specs.declared.turn.TheConstants.{TURNS}
use Rattle.least_choice.specs.Totals.{map_total}
use Rattle.cert_file.specs.CutForms.{HasShortFlows}
use Rattle.grown.specs.Grown.{IsGrowFault, IsGrown}
use Rattle.grown.proofs.OneRuns.{ends_within, limits_are_one}
use Rattle.job_words.specs.declared.grow.GrowJob.{GrowJob}
use Rattle.job_words.specs.declared.grow.Place.{Place}
use Rattle.job_words.specs.declared.grow.Place.TheVariants as place
use Rattle.job_words.specs.GrowWords.{IsGrowJob}
use Rattle.patch_picks.specs.Fitting.{HasPatch}
use Rattle.synth_report.specs.declared.fault.Fault.{Fault}
use Rattle.command.specs.Commands.{names_in}
use Rattle.command.specs.Outcomes.{IsPlanned, NotMade}
use Rattle.command.proofs.Staging.{AreOne, bound_is_one, passing_is_one}
use Rattle.command.proofs.Planning.{StandsBefore, begin, limit_passed, not_passed, pass_on, plan_made, read_on}
use Rattle.sample_files.specs.declared.several.Samples.{Samples}
use Rattle.sample_files.specs.Outputs.{IsWithinBounds, PassesBounds}
use Rattle.sample_files.specs.Several.{AreSoundSamples, AsksParts, MayRefuseSamples, SamplesReadAs, StandForSamples, contents, of_samples, read_samples, sample_files}
use Rattle.sample_files.proofs.Commands.{parts_are_one, parts_passed, parts_refused, samples_are_one, samples_not_read}
use Rattle.sample_files.specs.Worked.{worked, worked_samples, worked_sizes}
use Rattle.sample_files.proofs.WorkedLaws.{sizes_worked}
use Rattle.outputs.specs.declared.growth.Growth.{Growth}
use Rattle.outputs.specs.Growths.{IsGrowSummary, IsGrownOver, IsMade, fault_of_growing, grow_command, grow_over, grow_stages, growth_files, growth_of, growth_summary, mode_for, plan_of}
use Rattle.outputs.proofs.GrowReady.{volume_sizes}

-- the mode that words ask for has a patch
pub has_patch : (p : Place) (side overlap tol : ℕ) → 1 ≤ side → HasPatch (mode_for p side overlap tol)
has_patch place.Grid side overlap tol some = tt
has_patch place.Random side overlap tol some = tt
has_patch place.Whole side overlap tol some = tt
has_patch place.Sub side overlap tol some = some

pub small_output : (job : GrowJob) → IsGrowJob job → cell_count job.size ≤ MOST_OUTPUT_CELLS → IsSmall job.size
small_output job lawful cells = record { axes = lawful.axes; cells = omega (arith, cells) }

pub are_one : (job : GrowJob) (files : Files) → AreOne (grow_stages job) files
are_one job files = parts_are_one job.turns (length job.names.more + 1) _ files (
  samples_are_one (of_samples job.turns) job.names.sample job.names.more files,
  λ samples read. (
    bound_is_one _ _ _,
    λ frames. (bound_is_one _ _ _, λ cells. (passing_is_one _ _ _ (limits_are_one (plan_of job) (worked job.turns samples.volume)), λ none first second a b. refl)),
  ),
)

-- the files that are read are the samples, and no more
pub samples_only : (job : GrowJob) (a b : ShelfState) → OnlyReads (names_in (sample_files job.names.sample job.names.more)) a b → OnlyReads (names_in (grow_command job).reads) a b
samples_only job a b reads = subst (λ files. OnlyReads (names_in files) a b) (sym (append-nil (sample_files job.names.sample job.names.more))) reads

-- What is planned: the code has the samples under the names that it sees.

-- before any file is read
begun : (job : GrowJob) (a : ShelfState) → StandsBefore (grow_command job) a a 0 (grow_stages job)
begun job a = begin (grow_stages job) (grow_command job).writes (MayRefuseSamples (length job.names.more + 1)) IsGrowSummary (are_one job) a

pub parts_pass : (job : GrowJob) (a : ShelfState) (fault : Fault) → AsksParts job.turns (length job.names.more + 1) (Err fault) → NotMade (grow_command job) a a fault
parts_pass job a = parts_refused job.turns (length job.names.more + 1) _ (begun job a) (λ what number bound. tt)

module _ (job : GrowJob) (a b : ShelfState) (few : AsksParts job.turns (length job.names.more + 1) (Ok tt)) {more : List (List ℕ)} (same : more ≡ job.names.more) (reads : OnlyReads (names_in (sample_files job.names.sample more)) a b) where
  before_samples : StandsBefore (grow_command job) a a 0 (read_samples job.turns job.names.sample job.names.more (grow_over job))
  before_samples = parts_passed job.turns (length job.names.more + 1) (begun job a) few

  to_samples : OnlyReads (names_in (sample_files job.names.sample job.names.more)) a b
  to_samples = subst (λ names. OnlyReads (names_in (sample_files job.names.sample names)) a b) same reads

  pub no_samples : (fault : Fault) → SamplesReadAs job.turns job.names.sample more a b (Err fault) → NotMade (grow_command job) a b fault
  no_samples fault left = samples_not_read (of_samples job.turns) job.names.sample job.names.more before_samples to_samples (λ its may. may) fault (subst (λ names. SamplesReadAs job.turns job.names.sample names a b (Err fault)) same left)

  module _ (samples : Samples) (read : Sees a b (λ files. StandForSamples job.turns (content_of files job.names.sample) (contents files more) samples)) where
    over : StandsBefore (grow_command job) a b (0 + length (sample_files job.names.sample job.names.more)) (grow_over job samples)
    over = read_on (sample_files job.names.sample job.names.more) before_samples to_samples samples
        (subst (λ names. Sees a b (λ files. StandForSamples job.turns (content_of files job.names.sample) (contents files names) samples)) same read)

    pub output_refused : (fault : Fault) → PassesBounds job.size samples.form fault → NotMade (grow_command job) a b fault
    output_refused fault (inl frames) = limit_passed over fault _ _ _ frames.1 frames tt
    output_refused fault (inr cells) = limit_passed (pass_on over cells.0) fault _ _ _ cells.1.1 cells.1 tt

    pub not_grown : IsWithinBounds job.size samples.form → (why : GrowError) → IsGrowFault (plan_of job) (worked job.turns samples.volume) why → NotMade (grow_command job) a b (fault_of_growing why)
    not_grown bounds (error.Records number) passes = not_passed (pass_on (pass_on over bounds.frames) bounds.cells) _ (number, passes, refl) tt
    not_grown bounds error.NoMemory left = tt

    pub growth_made : IsGrowJob job → IsWithinBounds job.size samples.form → (grown : Grown) → IsGrownOver job samples grown → (growth : Growth) → growth ≡ growth_of job samples grown → IsPlanned (grow_command job) (growth_files job growth) (growth_summary job growth) a b
    growth_made lawful bounds grown is growth growth_is =
        let none = ends_within (plan_of job) (worked job.turns samples.volume) is.all (small_output job lawful bounds.cells) grown.cuts (record { map = grown.canvas.map; draws = is.run.draws; rounds = grown.rounds }) in
        let made = plan_made (pass_on (pass_on (pass_on over bounds.frames) bounds.cells) (λ number. none number is.run.run is.run.done is.run.writable.cells)) grown is refl (_, _, _, _, refl) in
        subst (λ g. IsPlanned (grow_command job) (growth_files job g) (growth_summary job g) a b) (sym growth_is) made

-- What the code has of the worked samples is what is said of those that are read.

module _ (job : GrowJob) (read all : Samples) (is : all ≡ worked_samples job.turns read) (sizes : List Size) (sizes_are : sizes ≡ sizes_of read.volume) (grown : Grown) (seams : ℕ) where
  abbrev growth : Growth
  growth = record { samples = all; sizes = sizes; grown = grown; seams = seams }

  pub grown_over : IsVolume read.volume → IsVolume all.volume → IsGrown (plan_of job) all.volume grown → All HasShortFlows grown.cuts → IsGrownOver job read grown
  grown_over volume own run flows = record {
    volume = volume;
    all = subst (λ (s : Samples). IsVolume s.volume) is own;
    run = subst (λ (s : Samples). IsGrown (plan_of job) s.volume grown) is run;
    flows = flows;
  }

  pub growth_is : seams ≡ map_total all.volume grown.canvas.map → growth ≡ growth_of job read grown
  growth_is total =
      let same : seams ≡ map_total (worked job.turns read.volume) grown.canvas.map = total ∙ ap (λ (s : Samples). map_total s.volume grown.canvas.map) is in
      λ i. record { samples = is i; sizes = sizes_are i; grown = grown; seams = same i }

  pub is_made : (count : ℕ) → (job.turns ≡ true → TURNS * count ≤ MOST_PARTS) → length (sizes_of read.volume) ≡ count → IsVolume read.volume → IsVolume all.volume → AreSoundSamples all → IsWithinBounds job.size read.form
      → IsGrown (plan_of job) all.volume grown → IsMade job growth
  is_made count few counted volume own sound bounds run = record {
    volume = own;
    sound = sound;
    are = subst AreSizes (sym sizes_are) (volume_sizes read.volume volume);
    few = λ on. subst (λ n. TURNS * n ≤ MOST_PARTS) (sym (ap length sizes_are ∙ counted)) (few on);
    sizes = ap (λ (s : Samples). sizes_of s.volume) is ∙ sizes_worked job.turns read.volume ∙ ap (worked_sizes job.turns) (sym sizes_are);
    bounds = subst (λ (s : Samples). IsWithinBounds job.size s.form) (sym is) bounds;
    grown = run;
  }
