-- The out file, the map file and the report are a function of the words and the sample files.
use Rattle.std.proofs.Common.{◌≡◌, ℕ, ◌-◌, List, length, ap, sym, ◌∙◌, subst}
use Rattle.std.proofs.lemmas.List.Elements.{length_all_zip}
use Rattle.cells.specs.Cells.{sizes_of}
use Rattle.cells.specs.Places.{IsSmall}
use Rattle.shelf_traits.specs.Files.{Files, content_of}
use Rattle.map_canvas.specs.Maps.{SourceMap, picture_of}
use Rattle.least_choice.specs.Totals.{map_total}
use Rattle.grown.specs.Grown.{Growth, IsDone, IsRun}
use Rattle.grown.specs.OneRun.{IsSameRun, SameButFlows}
use Rattle.grown.proofs.OneRuns.{runs_are_one}
use Rattle.job_words.specs.declared.grow.GrowJob.{GrowJob}
use Rattle.synth_report.specs.declared.summary.Summary.{Summary}
use Rattle.synth_report.specs.declared.summary.Summary.TheVariants.{Grow}
use Rattle.sample_files.specs.declared.several.Samples.{Samples}
use Rattle.sample_files.specs.Samples.{form_text}
use Rattle.sample_files.specs.Several.{StandForSamples, contents, of_samples}
use Rattle.sample_files.proofs.OneAnswer.{one_value}
use Rattle.sample_files.specs.Worked.{worked}
use Rattle.outputs.specs.GrownMaps.{map_text}
use Rattle.outputs.specs.Growths.{plan_of}
use Rattle.outputs.specs.GrowHeadlines.{HaveSameOutput, HaveSameSamples, IsGrownRun, IsOneReport, IsToldOfGrown, told_of_cuts}

module _ (job : GrowJob) (small : IsSmall job.size) (before after earlier later : Files) (same : HaveSameSamples job earlier before) (run : IsGrownRun job before after) (other : IsGrownRun job earlier later) where
  abbrev samples : Samples
  samples = run.output.samples

  one_samples : other.output.samples ≡ samples
  one_samples = one_value (of_samples job.turns) (content_of before job.names.sample) (contents before job.names.more) other.output.samples samples
      (subst (λ more. StandForSamples job.turns (content_of before job.names.sample) more other.output.samples) same.further (subst (λ first. StandForSamples job.turns first (contents earlier job.names.more) other.output.samples) same.first other.output.read))
      run.output.read

  abbrev growth : Growth
  growth = record { map = run.output.map; draws = run.records.draws; rounds = run.records.rounds }

  abbrev again : Growth
  again = record { map = other.output.map; draws = other.records.draws; rounds = other.records.rounds }

  runs : IsSameRun run.records.cuts other.records.cuts growth again
  runs = runs_are_one (plan_of job) (worked job.turns samples.volume) run.output.all small run.records.cuts other.records.cuts growth again run.records.run run.records.done
      (subst (λ (s : Samples). IsRun (plan_of job) (worked job.turns s.volume) other.records.cuts again) one_samples other.records.run) (subst (λ (s : Samples). IsDone (plan_of job) (worked job.turns s.volume) again) one_samples other.records.done)

  one_map : other.output.map ≡ run.output.map
  one_map = sym (ap (λ (g : Growth). g.map) runs.left)

  one_rounds : other.records.rounds ≡ run.records.rounds
  one_rounds = sym (ap (λ (g : Growth). g.rounds) runs.left)

  as_many : length other.records.cuts ≡ length run.records.cuts
  as_many = sym (length_all_zip SameButFlows run.records.cuts other.records.cuts runs.steps)

  abbrev map_spelled : Samples → SourceMap → List ℕ
  map_spelled s m = map_text job.turns m (sizes_of s.volume)

  abbrev out_spelled : Samples → SourceMap → List ℕ
  out_spelled s m = form_text s.form (picture_of m (worked job.turns s.volume))

  pub one_output : HaveSameOutput job later after
  one_output = record {
    out = other.output.out_file ∙ ap (form_text other.output.samples.form) other.output.of_map ∙ (λ i. out_spelled (one_samples i) (one_map i))
        ∙ sym (run.output.out_file ∙ ap (form_text samples.form) run.output.of_map);
    map = other.output.map_file ∙ (λ i. map_spelled (one_samples i) (one_map i)) ∙ sym run.output.map_file;
  }

  pub one_told : told_of_cuts job (worked job.turns other.output.samples.volume) other.output.map other.records.cuts other.records.rounds ≡ told_of_cuts job (worked job.turns samples.volume) run.output.map run.records.cuts run.records.rounds
  one_told = λ i. Grow job.size (as_many i - one_rounds i) (one_rounds i) (map_total (worked job.turns (one_samples i).volume) (one_map i))

-- so is the summary
pub one_report : (job : GrowJob) → IsSmall job.size → (summary : Summary) (before after : Files) → IsToldOfGrown job summary before after → IsOneReport job summary before after
one_report job small summary before after told = record {
  told = told;
  one = λ other earlier later same also. also.summary_is ∙ one_told job small before after earlier later same told.run also.run ∙ sym told.summary_is;
}
