use Rattle.std.proofs.Common.{arith}
use Rattle.std.proofs.lemmas.Int.{to_z-of_z}
use Rattle.cost_windows.specs.Slides.{AreOthers}
use Rattle.cost_windows.proofs.Changes.{others_beside}
use Rattle.cost_windows.proofs.block.Block.touched.Goals as goal

pub returns-clause-others : goal.returns-clause-others
returns-clause-others c =
    let corners = c.args.corners in
    let window = c.args.window in
    let rect = c.args.changed.now in
    let x : AreOthers corners.w window.w rect.corner.x rect.size.w c.touched_run.result = λ k lt out. grind (arith, to_z-of_z, c.touched_run.ensures.others k lt out) in
    let y : AreOthers corners.h window.h rect.corner.y rect.size.h c.touched_run-2.result = λ k lt out. grind (arith, to_z-of_z, c.touched_run-2.ensures.others k lt out) in
    let f : AreOthers corners.f window.f rect.corner.f rect.size.f c.touched_run-3.result = λ k lt out. grind (arith, to_z-of_z, c.touched_run-3.ensures.others k lt out) in
    others_beside corners window rect (record { x = c.touched_run.result; y = c.touched_run-2.result; f = c.touched_run-3.result }) x y f
