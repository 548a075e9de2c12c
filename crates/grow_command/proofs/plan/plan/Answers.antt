use Rattle.std.proofs.Common.{◌+◌, length, subst, sym}
use Rattle.std.specs.Prelude.{All, Ok, Err}
use Rattle.cert_file.specs.CutForms.{HasShortFlows}
use Rattle.command.specs.Outcomes.{NotMade}
use Rattle.sample_files.specs.declared.several.Samples.{Samples}
use Rattle.sample_files.specs.Several.{AsksParts}
use Rattle.outputs.specs.Growths.{grow_command, plan_of}
use Rattle.grown.specs.Grown.{IsGrowFault, IsGrown}
use Rattle.outputs.proofs.Growing.{growth_is, growth_made, grown_over, is_made, no_samples, not_grown, output_refused, parts_pass}
use Rattle.grow_command.proofs.plan.plan.Goals as goal

pub returns-in-Err-clause-planned : goal.returns-in-Err-clause-planned
returns-in-Err-clause-planned g c =
    let a = g.S.Shelf.state c.args.shelf.now in
    let job = c.args.job.now in
    parts_pass job a c.in-Err.fault (subst (λ names. AsksParts job.turns (length names + 1) (Err c.in-Err.fault)) c.as_slice-more.ensures.names (c.in-Err.ensures {u = tt}))

pub returns-in-Err-read_samples-clause-planned : goal.returns-in-Err-read_samples-clause-planned
returns-in-Err-read_samples-clause-planned g c =
    let a = g.S.Shelf.state c.args.shelf.now in
    let b = g.S.Shelf.state c.read_samples.new.shelf in
    let job = c.args.job.now in
    let few = subst (λ names. AsksParts job.turns (length names + 1) (Ok tt)) c.as_slice-more.ensures.names (c.in-Ok.ensures {u = tt}) in
    no_samples job a b few c.as_slice-more.ensures.names c.read_samples.ensures.reads c.in-Err-read_samples.fault (c.in-Err-read_samples.ensures {u = tt}).answer

pub returns-in-Err-within_bounds-clause-planned : goal.returns-in-Err-within_bounds-clause-planned
returns-in-Err-within_bounds-clause-planned g c =
    let a = g.S.Shelf.state c.args.shelf.now in
    let b = g.S.Shelf.state c.read_samples.new.shelf in
    let job = c.args.job.now in
    let few = subst (λ names. AsksParts job.turns (length names + 1) (Ok tt)) c.as_slice-more.ensures.names (c.in-Ok.ensures {u = tt}) in
    output_refused job a b few c.as_slice-more.ensures.names c.read_samples.ensures.reads c.in-Ok-read_samples.read (c.in-Ok-read_samples.ensures {u = tt}).answer
    c.in-Err-within_bounds.fault (c.in-Err-within_bounds.ensures {u = tt})

pub returns-in-Err-grow_canvas-clause-planned : goal.returns-in-Err-grow_canvas-clause-planned
returns-in-Err-grow_canvas-clause-planned g c =
    let a = g.S.Shelf.state c.args.shelf.now in
    let b = g.S.Shelf.state c.read_samples.new.shelf in
    let job = c.args.job.now in
    let read = c.in-Ok-read_samples.read in
    let few = subst (λ names. AsksParts job.turns (length names + 1) (Ok tt)) c.as_slice-more.ensures.names (c.in-Ok.ensures {u = tt}) in
    subst (NotMade (grow_command job) a b) (sym c.growing_fault.ensures)
    (not_grown job a b few c.as_slice-more.ensures.names c.read_samples.ensures.reads read (c.in-Ok-read_samples.ensures {u = tt}).answer (c.in_default.ensures) c.in-Err-grow_canvas.error
    (subst (λ (s : Samples). IsGrowFault (plan_of job) s.volume c.in-Err-grow_canvas.error) (c.in-Ok-worked.ensures {u = tt}).is
    (subst (λ plan. IsGrowFault plan c.in-Ok-worked.samples.volume c.in-Err-grow_canvas.error) c.plan_of.ensures (c.in-Err-grow_canvas.ensures {u = tt}))))

pub returns-clause-planned : goal.returns-clause-planned
returns-clause-planned g c =
    let a = g.S.Shelf.state c.args.shelf.now in
    let b = g.S.Shelf.state c.read_samples.new.shelf in
    let job = c.args.job.now in
    let read = c.in-Ok-read_samples.read in
    let all = c.in-Ok-worked.samples in
    let grown = c.in-Ok-grow_canvas.grown in
    let is = (c.in-Ok-worked.ensures {u = tt}).is in
    let few = subst (λ names. AsksParts job.turns (length names + 1) (Ok tt)) c.as_slice-more.ensures.names (c.in-Ok.ensures {u = tt}) in
    let run = subst (λ plan. IsGrown plan all.volume grown) c.plan_of.ensures (c.in-Ok-grow_canvas.ensures {u = tt}) in
    growth_made job a b few c.as_slice-more.ensures.names c.read_samples.ensures.reads read (c.in-Ok-read_samples.ensures {u = tt}).answer c.requires (c.in_default.ensures) grown
    (grown_over job read all is c.sizes-sizes.result c.sizes-sizes.ensures grown c.total-seams.result c.samples-k.ensures.volume c.samples-n.ensures.volume run (subst (All HasShortFlows) c.as_slice.ensures c.records_fit.ensures))
    (record { samples = all; sizes = c.sizes-sizes.result; grown = grown; seams = c.total-seams.result })
    (growth_is job read all is c.sizes-sizes.result c.sizes-sizes.ensures grown c.total-seams.result c.total-seams.ensures)

pub returns-clause-made : goal.returns-clause-made
returns-clause-made g c =
    let job = c.args.job.now in
    let read = c.in-Ok-read_samples.read in
    let all = c.in-Ok-worked.samples in
    let grown = c.in-Ok-grow_canvas.grown in
    is_made job read all (c.in-Ok-worked.ensures {u = tt}).is c.sizes-sizes.result c.sizes-sizes.ensures grown c.total-seams.result (length c.as_slice-more.result.now + 1) (c.in-Ok.ensures {u = tt}) (c.in-Ok-read_samples.ensures {u = tt}).count
    c.samples-k.ensures.volume c.samples-n.ensures.volume (c.in-Ok-worked.ensures {u = tt}).sound (c.in_default.ensures)
    (subst (λ plan. IsGrown plan all.volume grown) c.plan_of.ensures (c.in-Ok-grow_canvas.ensures {u = tt}))
