use Rattle.std.proofs.lemmas.Grind.{common_steps}
use Rattle.std.proofs.Common.{◌<◌, length, arith}
use Rattle.y4m_clip.proofs.Numbers.{value_more}
use Rattle.y4m_clip.proofs.head.count_of.Goals as goal

pub loop-digit-preserved : goal.loop-digit-preserved
loop-digit-preserved c =
    let below : c.loop-digit.digit-index < length c.args.digits.now = omega arith in
    let more = value_more c.args.digits.now c.loop-digit.digit-index below in
    record { number = omega arith; left = omega arith }

pub returns : goal.returns
returns c = grind (arith, common_steps)
