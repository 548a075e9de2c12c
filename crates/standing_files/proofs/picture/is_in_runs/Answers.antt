use Rattle.std.proofs.Common.{subst, arith}
use Rattle.cells.specs.declared.place.At.{At}
use Rattle.map_canvas.specs.Maps.{map_at}
use Rattle.standing_files.specs.Steps.{IsRunCopied}
use Rattle.standing_files.proofs.RunLaws.{run_more}
use Rattle.standing_files.proofs.picture.is_in_runs.Goals as goal

pub runs-preserved : goal.runs-preserved
runs-preserved c =
    let samples = c.args.samples.now in
    let picture = c.args.picture.now in
    let source = map_at c.args.map.now in
    let n = c.copied_run-n.result in
    record {
      within = omega (arith, c.runs-test.true, c.copied_run-n.ensures.most);
      copied = run_more samples picture source c.args.p c.runs.done n c.runs.invariant.copied
          (subst (λ (q : At). IsRunCopied samples picture source q n) c.along.ensures c.copied_run-n.ensures.copied);
    }
