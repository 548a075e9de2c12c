use Rattle.std.proofs.Common.{subst, sym}
use Rattle.command.specs.Outcomes.{NotMade}
use Rattle.sample_files.proofs.OneSample.{sound_alone}
use Rattle.job_words.specs.TileWords.{IsWide}
use Rattle.torus.specs.Tilings.{IsRunPlan, IsTiledTo}
use Rattle.outputs.specs.Tilings.{tile_command}
use Rattle.outputs.proofs.Tiling.{bounds_passed, run_plan, sample_not_read, tiling_made}
use Rattle.tile_command.proofs.plan.plan.Goals as goal

pub returns-in-Err-clause-planned : goal.returns-in-Err-clause-planned
returns-in-Err-clause-planned g c =
    let a = g.S.Shelf.state c.args.shelf.now in
    let b = g.S.Shelf.state c.read_sample.new.shelf in
    let job = c.args.job.now in
    subst (NotMade (tile_command job) a b) (sym c.read_fault.ensures) (sample_not_read job a b c.as_text.ensures c.read_sample.ensures.reads c.in-Err.error (c.in-Err.ensures {u = tt}).answer)

pub returns-in-Err-within_bounds-clause-planned : goal.returns-in-Err-within_bounds-clause-planned
returns-in-Err-within_bounds-clause-planned g c =
    let a = g.S.Shelf.state c.args.shelf.now in
    let b = g.S.Shelf.state c.read_sample.new.shelf in
    let job = c.args.job.now in
    bounds_passed job a b c.as_text.ensures c.read_sample.ensures.reads c.in-Ok.sample (c.in-Ok.ensures {u = tt}).answer c.in-Err-within_bounds.fault (c.in-Err-within_bounds.ensures {u = tt})

pub returns-clause-planned : goal.returns-clause-planned
returns-clause-planned g c =
    let a = g.S.Shelf.state c.args.shelf.now in
    let b = g.S.Shelf.state c.read_sample.new.shelf in
    let job = c.args.job.now in
    let sample = c.in-Ok.sample in
    let tiled = c.in-Ok-tile_canvas.tiled in
    tiling_made job a b c.as_text.ensures c.read_sample.ensures.reads sample (c.in-Ok.ensures {u = tt}).answer tiled
    (record {
      volume = c.samples-k.ensures.volume;
      one = sound_alone sample.form sample.volume (c.in-Ok.ensures {u = tt}).sound;
      sound = (c.in-Ok.ensures {u = tt}).sound;
      bounds = c.in_default.ensures;
      tiled = subst (λ plan. IsTiledTo plan sample.volume tiled) c.plan_of.ensures (c.in-Ok-tile_canvas.ensures {u = tt});
    })
    (record { sample = sample; tiled = tiled; seams = c.torus_total-seams.result }) (λ i. record { sample = sample; tiled = tiled; seams = c.torus_total-seams.ensures i })

pub returns-clause-made : goal.returns-clause-made
returns-clause-made g c = record {
  volume = c.samples-k.ensures.volume;
  one = sound_alone c.in-Ok.sample.form c.in-Ok.sample.volume (c.in-Ok.ensures {u = tt}).sound;
  sound = (c.in-Ok.ensures {u = tt}).sound;
  bounds = c.in_default.ensures;
  tiled = subst (λ plan. IsTiledTo plan c.in-Ok.sample.volume c.in-Ok-tile_canvas.tiled) c.plan_of.ensures (c.in-Ok-tile_canvas.ensures {u = tt});
}

pub tile_canvas-requires-clause-plan : goal.tile_canvas-requires-clause-plan
tile_canvas-requires-clause-plan g c = subst IsRunPlan (sym c.plan_of.ensures) (run_plan c.args.job.now c.requires c.in-Ok.sample.form (c.in_default.ensures))

pub tile_canvas-requires-clause-part : goal.tile_canvas-requires-clause-part
tile_canvas-requires-clause-part g c = sound_alone c.in-Ok.sample.form c.in-Ok.sample.volume (c.in-Ok.ensures {u = tt}).sound

pub torus_total-seams-requires : goal.torus_total-seams-requires
torus_total-seams-requires g c =
    let tiled = subst (λ plan. IsTiledTo plan c.in-Ok.sample.volume c.in-Ok-tile_canvas.tiled) c.plan_of.ensures (c.in-Ok-tile_canvas.ensures {u = tt}) in
    subst (IsWide c.args.job.now.plan.wrap) (sym tiled.size) c.requires.wide
