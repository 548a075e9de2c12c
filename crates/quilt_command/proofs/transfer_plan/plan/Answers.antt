use Rattle.std.proofs.Common.{subst, sym, ap}
use Rattle.quilted.specs.declared.asked.QuiltRun.{QuiltRun}
use Rattle.quilted.specs.Quilted.{CanBeQuilted, IsQuilt, IsQuiltFault}
use Rattle.targets.specs.Targets.{IsTargetOf}
use Rattle.command.specs.Outcomes.{NotMade}
use Rattle.sample_files.specs.Outputs.{FitsOutput, PassesOutput}
use Rattle.quilt_command.specs.Transfers.{transfer_command, transfer_rating}
use Rattle.quilt_command.proofs.TransferPlanning.{both_only, can_transfer, is_target, not_quilted, output_refused, quilt_made, sample_not_read, sample_only, target_not_read, target_size}
use Rattle.quilt_command.proofs.transfer_plan.plan.Goals as goal

pub returns-in-Err-clause-planned : goal.returns-in-Err-clause-planned
returns-in-Err-clause-planned g c =
    let a = g.S.Shelf.state c.args.shelf.now in
    let b = g.S.Shelf.state c.read_picture.new.shelf in
    let job = c.args.job.now in
    sample_not_read job a b c.read_picture.ensures.reads c.in-Err.fault (c.in-Err.ensures {u = tt}).answer

pub returns-in-Err-clause-reads : goal.returns-in-Err-clause-reads
returns-in-Err-clause-reads g c =
    let a = g.S.Shelf.state c.args.shelf.now in
    let b = g.S.Shelf.state c.read_picture.new.shelf in
    sample_only c.args.job.now a b c.read_picture.ensures.reads

pub returns-in-Err-read_target-clause-planned : goal.returns-in-Err-read_target-clause-planned
returns-in-Err-read_target-clause-planned g c =
    let a = g.S.Shelf.state c.args.shelf.now in
    let b = g.S.Shelf.state c.read_picture.new.shelf in
    let d = g.S.Shelf.state c.read_target.new.shelf in
    let job = c.args.job.now in
    target_not_read job a b c.read_picture.ensures.reads c.in-Ok.sample (c.in-Ok.ensures {u = tt}).answer d c.read_target.ensures.reads c.in-Err-read_target.fault (c.in-Err-read_target.ensures {u = tt}).answer

pub returns-in-Err-read_target-clause-reads : goal.returns-in-Err-read_target-clause-reads
returns-in-Err-read_target-clause-reads g c =
    let a = g.S.Shelf.state c.args.shelf.now in
    let b = g.S.Shelf.state c.read_picture.new.shelf in
    let d = g.S.Shelf.state c.read_target.new.shelf in
    both_only c.args.job.now a b c.read_picture.ensures.reads c.in-Ok.sample (c.in-Ok.ensures {u = tt}).answer d c.read_target.ensures.reads

pub returns-in-Err-within_output-clause-reads : goal.returns-in-Err-within_output-clause-reads
returns-in-Err-within_output-clause-reads g c =
    let a = g.S.Shelf.state c.args.shelf.now in
    let b = g.S.Shelf.state c.read_picture.new.shelf in
    let d = g.S.Shelf.state c.read_target.new.shelf in
    both_only c.args.job.now a b c.read_picture.ensures.reads c.in-Ok.sample (c.in-Ok.ensures {u = tt}).answer d c.read_target.ensures.reads

pub returns-in-Err-transfer_canvas-clause-reads : goal.returns-in-Err-transfer_canvas-clause-reads
returns-in-Err-transfer_canvas-clause-reads g c =
    let a = g.S.Shelf.state c.args.shelf.now in
    let b = g.S.Shelf.state c.read_picture.new.shelf in
    let d = g.S.Shelf.state c.read_target.new.shelf in
    both_only c.args.job.now a b c.read_picture.ensures.reads c.in-Ok.sample (c.in-Ok.ensures {u = tt}).answer d c.read_target.ensures.reads

pub returns-clause-reads : goal.returns-clause-reads
returns-clause-reads g c =
    let a = g.S.Shelf.state c.args.shelf.now in
    let b = g.S.Shelf.state c.read_picture.new.shelf in
    let d = g.S.Shelf.state c.read_target.new.shelf in
    both_only c.args.job.now a b c.read_picture.ensures.reads c.in-Ok.sample (c.in-Ok.ensures {u = tt}).answer d c.read_target.ensures.reads

pub returns-in-Err-within_output-clause-planned : goal.returns-in-Err-within_output-clause-planned
returns-in-Err-within_output-clause-planned g c =
    let a = g.S.Shelf.state c.args.shelf.now in
    let b = g.S.Shelf.state c.read_picture.new.shelf in
    let d = g.S.Shelf.state c.read_target.new.shelf in
    let job = c.args.job.now in
    let target = c.in-Ok-read_target.target in
    let its = c.in-Ok-read_target.ensures {u = tt} in
    let is = c.run_of-asked.ensures in
    let fault = c.in-Err-within_output.fault in
    output_refused job a b c.read_picture.ensures.reads c.in-Ok.sample (c.in-Ok.ensures {u = tt}).answer d c.read_target.ensures.reads target its.answer fault
    (subst (λ size. PassesOutput size fault) (target_size target its.sound c.run_of-asked.result.size (ap (λ (asked : QuiltRun). asked.size) is)) (c.in-Err-within_output.ensures {u = tt}))

pub transfer_canvas-requires-clause-can : goal.transfer_canvas-requires-clause-can
transfer_canvas-requires-clause-can g c =
    let job = c.args.job.now in
    let sample = c.in-Ok.sample in
    let target = c.in-Ok-read_target.target in
    let its = c.in-Ok-read_target.ensures {u = tt} in
    subst (λ asked. CanBeQuilted asked sample.volume) (sym c.run_of-asked.ensures) (can_transfer job sample target c.requires (c.in-Ok.ensures {u = tt}).sound its.sound)

pub transfer_canvas-requires-clause-target : goal.transfer_canvas-requires-clause-target
transfer_canvas-requires-clause-target g c =
    let job = c.args.job.now in
    let sample = c.in-Ok.sample in
    let target = c.in-Ok-read_target.target in
    let its = c.in-Ok-read_target.ensures {u = tt} in
    subst (λ (asked : QuiltRun). IsTargetOf asked.size sample.volume target.volume) (sym c.run_of-asked.ensures) (is_target job sample target (c.in-Ok.ensures {u = tt}).sound its.sound)

pub returns-in-Err-transfer_canvas-clause-planned : goal.returns-in-Err-transfer_canvas-clause-planned
returns-in-Err-transfer_canvas-clause-planned g c =
    let a = g.S.Shelf.state c.args.shelf.now in
    let b = g.S.Shelf.state c.read_picture.new.shelf in
    let d = g.S.Shelf.state c.read_target.new.shelf in
    let job = c.args.job.now in
    let sample = c.in-Ok.sample in
    let target = c.in-Ok-read_target.target in
    let its = c.in-Ok-read_target.ensures {u = tt} in
    let is = c.run_of-asked.ensures in
    let fits : FitsOutput target.volume.size = subst FitsOutput (target_size target its.sound c.run_of-asked.result.size (ap (λ (asked : QuiltRun). asked.size) is)) (c.in_default.ensures) in
    let error = c.in-Err-transfer_canvas.error in
    subst (NotMade (transfer_command job) a d) (sym c.quilt_fault.ensures)
    (not_quilted job a b c.read_picture.ensures.reads c.in-Ok.sample (c.in-Ok.ensures {u = tt}).answer d c.read_target.ensures.reads target its.answer fits (c.in-Ok.ensures {u = tt}).volume
    (can_transfer job sample target c.requires (c.in-Ok.ensures {u = tt}).sound its.sound) error
    (subst (λ asked. IsQuiltFault asked sample.volume error) is (c.in-Err-transfer_canvas.ensures {u = tt})))

pub returns-clause-planned : goal.returns-clause-planned
returns-clause-planned g c =
    let a = g.S.Shelf.state c.args.shelf.now in
    let b = g.S.Shelf.state c.read_picture.new.shelf in
    let d = g.S.Shelf.state c.read_target.new.shelf in
    let job = c.args.job.now in
    let sample = c.in-Ok.sample in
    let target = c.in-Ok-read_target.target in
    let its = c.in-Ok-read_target.ensures {u = tt} in
    let is = c.run_of-asked.ensures in
    let fits : FitsOutput target.volume.size = subst FitsOutput (target_size target its.sound c.run_of-asked.result.size (ap (λ (asked : QuiltRun). asked.size) is)) (c.in_default.ensures) in
    let quilted = c.in-Ok-transfer_canvas.quilted in
    quilt_made job a b c.read_picture.ensures.reads c.in-Ok.sample (c.in-Ok.ensures {u = tt}).answer d c.read_target.ensures.reads target its.answer fits (c.in-Ok.ensures {u = tt}).volume
    (can_transfer job sample target c.requires (c.in-Ok.ensures {u = tt}).sound its.sound) quilted
    (subst (λ asked. IsQuilt (transfer_rating job target sample.volume) asked sample.volume quilted) is (c.in-Ok-transfer_canvas.ensures {u = tt}))

pub returns-clause-made : goal.returns-clause-made
returns-clause-made g c =
    let job = c.args.job.now in
    let sample = c.in-Ok.sample in
    let target = c.in-Ok-read_target.target in
    let its = c.in-Ok-read_target.ensures {u = tt} in
    let is = c.run_of-asked.ensures in
    let fits : FitsOutput target.volume.size = subst FitsOutput (target_size target its.sound c.run_of-asked.result.size (ap (λ (asked : QuiltRun). asked.size) is)) (c.in_default.ensures) in
    let quilted = c.in-Ok-transfer_canvas.quilted in
    record {
      target = its.sound;
      quilt = record {
        volume = (c.in-Ok.ensures {u = tt}).volume;
        sound = (c.in-Ok.ensures {u = tt}).sound;
        small = its.sound.form.volume_is.small;
        frame = its.sound.form.frames;
        within = fits;
        quilt = subst (λ asked. IsQuilt (transfer_rating job target sample.volume) asked sample.volume quilted) is (c.in-Ok-transfer_canvas.ensures {u = tt});
      };
    }
