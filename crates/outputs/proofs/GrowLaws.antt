-- `grow` has one answer to files, and its headline.
use Rattle.std.proofs.Common.{◌≡◌, ℕ, ◌+◌, ◌*◌, ◌≤◌, true, List, [], ◌∷◌, length, ap, refl, sym, ◌∙◌, subst}
use Rattle.cells.specs.Cells.{Cells, IsVolume, sizes_of}
use Rattle.shelf_traits.specs.Files.{Files, content_of}
use Rattle.shelf_traits.specs.Written.{written}
use Rattle.map_canvas.specs.Maps.{IsMap}
use Rattle.map_canvas.proofs.Pictures.{full_picture}
use Rattle.cut_check.specs.declared.record.CutRecord.{CutRecord}
use Rattle.least_choice.specs.Totals.{map_total}
use Rattle.cut_replay.specs.Replay.{EachOver}
use Rattle.grown.specs.declared.plan.GrowPlan.{GrowPlan}
use Rattle.grown.specs.declared.plan.Grown.{Grown}
use Rattle.grown.specs.Grown.{Growth as Growing, GrowsBy, first_growth}
use Rattle.patch_picks.specs.Runs.{Leads}
use Rattle.grown.proofs.Nexts.{stays_map}
use Rattle.grown.proofs.Raising.{none_raises}
use Rattle.grown.proofs.Splitting.{starts}
use Rattle.cert_file.specs.RecordFiles.{cuts_form}
use Rattle.job_words.specs.declared.grow.GrowJob.{GrowJob}
use Rattle.job_words.specs.GrowWords.{IsGrowJob}
use Rattle.synth_report.specs.declared.summary.Summary.{Summary}
use Rattle.command.specs.Commands.{HasOneAnswer}
use Rattle.command.specs.Outcomes.{WritesAll}
use Rattle.command.specs.Stages.{AllMake}
use Rattle.command.specs.Writing.{pieces, texts_in}
use Rattle.command.proofs.Staging.{one_answer}
use Rattle.command_files.proofs.ThreeFiles.{HoldThree, three_files}
use Rattle.sample_files.specs.declared.several.Samples.{Samples}
use Rattle.sample_files.specs.Outputs.{FitsOutput, IsWithinBounds}
use Rattle.sample_files.specs.Samples.{form_text}
use Rattle.sample_files.specs.Several.{MayRefuseSamples, StandForSamples, contents, of_samples, read_samples}
use Rattle.sample_files.proofs.Commands.{parts_made}
use Rattle.sample_files.proofs.OneAnswer.{one_value}
use Rattle.sample_files.proofs.Sound.{as_many_parts, stand_sound}
use Rattle.limits.specs.declared.bounds.TheConstants.{MOST_PARTS}
use Rattle.turned.specs.declared.turn.TheConstants.{TURNS}
use Rattle.sample_files.specs.Worked.{worked}
use Rattle.sample_files.proofs.WorkedLaws.{sizes_worked, worked_sound}
use Rattle.outputs.specs.Growths.{AreSamplesIn, IsGrowSummary, IsGrownOver, IsMade, grow_command, grow_over, grow_stages, growth_files, growth_of, growth_summary, head_over, plan_of}
use Rattle.outputs.specs.GrownMaps.{map_text}
use Rattle.outputs.proofs.NamedCells.{named_cell}
use Rattle.outputs.proofs.GrowReady.{volume_sizes}
use Rattle.outputs.specs.GrowHeadlines.{IsGrownOutput, IsGrownRecord, IsGrownRun, IsToldOfGrown, RaisesNone}
use Rattle.outputs.proofs.Growing.{are_one, small_output}
use Rattle.outputs.proofs.GrowAccepted.{accepted, own_turns}

-- no record of a round raises the total
none_raise_over : (plan : GrowPlan) (sample : Cells) → IsVolume sample → (from : Growing) (cuts : List CutRecord) (after : Growing) → IsMap from.map → Leads (GrowsBy plan sample) from cuts after
    → EachOver (RaisesNone sample) from.map cuts
none_raise_over plan sample volume from [] after is run = tt
none_raise_over plan sample volume from (cut ∷ cuts) after is run =
    let step = run.1.0 in (
      λ full. subst (λ m. map_total sample m ≤ map_total sample from.map) step.map (none_raises plan sample from run.0 cut is full step),
      subst (λ m. EachOver (RaisesNone sample) m cuts) step.map (none_raise_over plan sample volume run.0 cuts after (stays_map plan sample from run.0 cut volume step is) run.1.1),
    )

pub grow_has_one_answer : (job : GrowJob) → HasOneAnswer (grow_command job)
grow_has_one_answer job = one_answer (grow_stages job) (grow_command job).writes (MayRefuseSamples (length job.names.more + 1)) IsGrowSummary (are_one job)

-- what is written is the run of the headline
module _ (job : GrowJob) (lawful : IsGrowJob job) (before after : Files) (samples : Samples) (read : AreSamplesIn before job samples) (bounds : IsWithinBounds job.size samples.form)
    (grown : Grown) (is : IsGrownOver job samples grown) (wrote : after ≡ written (pieces (grow_command job).writes (texts_in (growth_files job (growth_of job samples grown)))) before) where
  abbrev files : HoldThree job.names before after (form_text samples.form grown.canvas.picture) (map_text job.turns grown.canvas.map (sizes_of samples.volume)) (cuts_form (head_over job.size (worked job.turns samples.volume)) grown.cuts)
  files = three_files job.names lawful.names before after _ _ _ wrote

  abbrev output : IsGrownOutput job before after
  output = record {
    samples = samples;
    read = read;
    only = λ other stand. one_value (of_samples job.turns) (content_of before job.names.sample) (contents before job.names.more) other samples stand read;
    one_volume = is.volume;
    all = is.all;
    map = grown.canvas.map;
    asked = is.run.size;
    is_map = is.run.canvas.map;
    full = is.run.done.full;
    over = is.run.over.over;
    map_file = files.map;
    picture = grown.canvas.picture;
    volume = is.run.canvas.picture;
    one = is.run.canvas.part;
    size = is.run.canvas.size ∙ is.run.size;
    of_map = full_picture grown.canvas (worked job.turns samples.volume) is.run.canvas is.run.over is.run.done.full;
    cells = λ p from e. is.run.over.bytes p from e ∙ named_cell job.turns samples.volume is.volume from (is.run.over.over p from e);
    out_file = files.out;
  }

  abbrev records : IsGrownRecord job samples grown.canvas.map (content_of after job.names.record_file)
  records = record {
    cuts = grown.cuts;
    file = files.record_file;
    draws = is.run.draws;
    rounds = grown.rounds;
    run = is.run.run;
    done = is.run.done;
    replays = is.run.left;
    stand = is.run.stand;
    least = is.run.least;
    keep = is.run.keep;
    split = is.run.split;
    none_raises = none_raise_over (plan_of job) (worked job.turns samples.volume) is.all (first_growth (plan_of job)) grown.cuts (record { map = grown.canvas.map; draws = is.run.draws; rounds = grown.rounds })
        (starts (plan_of job) (worked job.turns samples.volume) is.all (small_output job lawful bounds.cells)) is.run.run;
  }

  few : job.turns ≡ true → TURNS * length (sizes_of samples.volume) ≤ MOST_PARTS
  few on = subst (λ n. TURNS * n ≤ MOST_PARTS) (sym (as_many_parts (of_samples job.turns) (content_of before job.names.sample) (contents before job.names.more) samples read)) (read.few on)

  made : IsMade job (growth_of job samples grown)
  made = record {
    volume = is.all;
    sound = worked_sound job.turns samples (stand_sound (of_samples job.turns) (content_of before job.names.sample) (contents before job.names.more) samples read).sound read.fits;
    are = volume_sizes samples.volume is.volume;
    few = few;
    sizes = sizes_worked job.turns samples.volume;
    bounds = bounds;
    grown = is.run;
  }

  again : AreSamplesIn after job samples
  again = subst (λ bytes. StandForSamples job.turns bytes (contents after job.names.more) samples) (sym files.sample) (subst (λ more. StandForSamples job.turns (content_of before job.names.sample) more samples) (sym files.more) read)

  told : (summary : Summary) → summary ≡ growth_summary job (growth_of job samples grown) → IsToldOfGrown job summary before after
  told summary summary_is = record {
    run = record {
      output = output;
      records = records;
      accepted = accepted job lawful after (growth_of job samples grown) made is.flows (record { samples = samples; stand = again; is = refl }) files.out files.map files.record_file;
      own_turns = own_turns job lawful after (growth_of job samples grown) made is.flows (record { samples = samples; stand = again; is = refl }) files.out files.map files.record_file;
      others = files.others;
    };
    summary_is = summary_is;
  }

-- what is made of the samples, once the number of their parts is within its bound
abbrev MadeOver : GrowJob → Summary → Files → List (List ℕ) → Type 0
MadeOver job summary before texts = AllMake (read_samples job.turns job.names.sample job.names.more (grow_over job)) before texts summary

made_over : (job : GrowJob) (summary : Summary) (before : Files) (texts : List (List ℕ)) → (grow_command job).Makes before texts summary → MadeOver job summary before texts
made_over job summary before texts makes = parts_made job.turns (length job.names.more + 1) (read_samples job.turns job.names.sample job.names.more (grow_over job)) before texts summary makes

-- an output that is made has no more cells than one may have
pub output_fits : (job : GrowJob) (summary : Summary) (before after : Files) → WritesAll (grow_command job) summary before after → FitsOutput job.size
output_fits job summary before after (texts, makes, wrote) = (made_over job summary before texts makes).2.1.0

-- what is reported is that of such a run
pub grow_told : (job : GrowJob) → IsGrowJob job → (summary : Summary) (before after : Files) → WritesAll (grow_command job) summary before after → IsToldOfGrown job summary before after
grow_told job lawful summary before after (texts, makes, wrote) = by (made_over job summary before texts makes)
  where
    by : MadeOver job summary before texts → IsToldOfGrown job summary before after
    by (samples, read, (frames, (cells, (none, (grown, is, texts_are, summary_is))))) =
        told job lawful before after samples read (record { frames = frames; cells = cells }) grown is (wrote ∙ ap (λ ts. written (pieces (grow_command job).writes ts) before) texts_are) summary summary_is

pub grown_run : (job : GrowJob) → IsGrowJob job → (summary : Summary) (before after : Files) → WritesAll (grow_command job) summary before after → IsGrownRun job before after
grown_run job lawful summary before after wrote = (grow_told job lawful summary before after wrote).run
