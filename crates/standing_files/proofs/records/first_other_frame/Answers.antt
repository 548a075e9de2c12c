use Rattle.std.proofs.Common.{◌≡◌, ◌<◌, ◌∙◌, length, get_or, ap, arith, below_more}
use Rattle.std.specs.Prelude.{Some}
use Rattle.std.proofs.lemmas.Option.{slice_get-get_or}
use Rattle.standing_files.specs.Standing.{HasOneFrame}
use Rattle.standing_files.proofs.records.first_other_frame.Goals as goal

pub loop-i-preserved : goal.loop-i-preserved
loop-i-preserved c =
    let walk = c.args.walk.now in
    let frames = c.args.frames.now in
    let i = c.loop-i.i in
    let inside : i < length frames = omega (arith, c.if-i-frames.false) in
    let same : get_or frames i 0 ≡ get_or walk i 0 = omega (arith, c.if-walk-i.false) in
    below_more (HasOneFrame walk frames) i c.loop-i.invariant
    (record { frame = get_or walk i 0; walk_is = slice_get-get_or walk i 0 c.loop-i-test.true; map_is = slice_get-get_or frames i 0 inside ∙ ap Some same })
