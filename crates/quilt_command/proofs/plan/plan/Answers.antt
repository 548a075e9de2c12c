use Rattle.std.proofs.Common.{refl, subst, sym}
use Rattle.quilted.specs.Quilted.{CanBeQuilted, IsQuilt, IsQuiltFault}
use Rattle.command.specs.Outcomes.{NotMade}
use Rattle.quilted.specs.Runs.{by_overlap}
use Rattle.quilt_command.specs.Quilts.{quilt_command}
use Rattle.quilt_command.proofs.Planning.{can_quilt, not_quilted, output_refused, picture_not_read, quilt_made, small_quilt}
use Rattle.quilt_command.proofs.plan.plan.Goals as goal

pub returns-in-Err-clause-planned : goal.returns-in-Err-clause-planned
returns-in-Err-clause-planned g c =
    let a = g.S.Shelf.state c.args.shelf.now in
    let b = g.S.Shelf.state c.read_picture.new.shelf in
    let job = c.args.job.now in
    picture_not_read job a b c.read_picture.ensures.reads c.in-Err.fault (c.in-Err.ensures {u = tt}).answer

pub returns-in-Err-within_output-clause-planned : goal.returns-in-Err-within_output-clause-planned
returns-in-Err-within_output-clause-planned g c =
    let a = g.S.Shelf.state c.args.shelf.now in
    let b = g.S.Shelf.state c.read_picture.new.shelf in
    let job = c.args.job.now in
    output_refused job a b c.read_picture.ensures.reads c.in-Ok.sample (c.in-Ok.ensures {u = tt}).answer c.in-Err-within_output.fault (c.in-Err-within_output.ensures {u = tt})

pub quilt_canvas-requires : goal.quilt_canvas-requires
quilt_canvas-requires g c =
    subst (λ asked. CanBeQuilted asked c.in-Ok.sample.volume) (sym c.run_of.ensures) (can_quilt c.args.job.now c.in-Ok.sample c.requires (c.in_default.ensures) (c.in-Ok.ensures {u = tt}).sound)

pub returns-in-Err-quilt_canvas-clause-planned : goal.returns-in-Err-quilt_canvas-clause-planned
returns-in-Err-quilt_canvas-clause-planned g c =
    let a = g.S.Shelf.state c.args.shelf.now in
    let b = g.S.Shelf.state c.read_picture.new.shelf in
    let job = c.args.job.now in
    let error = c.in-Err-quilt_canvas.error in
    subst (NotMade (quilt_command job) a b) (sym c.quilt_fault.ensures)
    (not_quilted job a b c.read_picture.ensures.reads c.in-Ok.sample (c.in-Ok.ensures {u = tt}).answer (c.in_default.ensures) (c.in-Ok.ensures {u = tt}).volume
    (can_quilt job c.in-Ok.sample c.requires (c.in_default.ensures) (c.in-Ok.ensures {u = tt}).sound) error
    (subst (λ asked. IsQuiltFault asked c.in-Ok.sample.volume error) c.run_of.ensures (c.in-Err-quilt_canvas.ensures {u = tt})))

pub returns-clause-planned : goal.returns-clause-planned
returns-clause-planned g c =
    let a = g.S.Shelf.state c.args.shelf.now in
    let b = g.S.Shelf.state c.read_picture.new.shelf in
    let job = c.args.job.now in
    let quilted = c.in-Ok-quilt_canvas.quilted in
    quilt_made job a b c.read_picture.ensures.reads c.in-Ok.sample (c.in-Ok.ensures {u = tt}).answer
    (c.in_default.ensures) (c.in-Ok.ensures {u = tt}).volume (can_quilt job c.in-Ok.sample c.requires (c.in_default.ensures) (c.in-Ok.ensures {u = tt}).sound)
    quilted (subst (λ asked. IsQuilt (by_overlap c.in-Ok.sample.volume) asked c.in-Ok.sample.volume quilted) c.run_of.ensures (c.in-Ok-quilt_canvas.ensures {u = tt}))

pub returns-clause-made : goal.returns-clause-made
returns-clause-made g c =
    let sample = c.in-Ok.sample in
    record {
      volume = (c.in-Ok.ensures {u = tt}).volume;
      sound = (c.in-Ok.ensures {u = tt}).sound;
      small = small_quilt c.args.job.now c.requires (c.in_default.ensures);
      frame = refl;
      within = c.in_default.ensures;
      quilt = subst (λ asked. IsQuilt (by_overlap sample.volume) asked sample.volume c.in-Ok-quilt_canvas.quilted) c.run_of.ensures (c.in-Ok-quilt_canvas.ensures {u = tt});
    }
