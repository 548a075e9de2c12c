use Rattle.std.proofs.Common.{◌+◌, arith, ap}
use Rattle.std.specs.Str.Parse.{digits_value}
use Rattle.std.proofs.lemmas.Int.Digits.{digits_value_more}
use Rattle.std.proofs.lemmas.List.{take_all}
use Rattle.job_words.proofs.Digits.{digit_at, value_grows}
use Rattle.job_words.proofs.settings.number_of.Goals as goal

pub with_digit-requires : goal.with_digit-requires
with_digit-requires c = digit_at c.args.digits.now c.loop-digit.digit-index c.requires c.loop-digit-test.true

pub returns : goal.returns
returns c =
    let all = ap (digits_value 10) (take_all c.loop-digit.digit-index c.args.digits.now c.loop-digit-test.false) in
    (omega (arith, all), omega (arith, all))

pub returns-in_default : goal.returns-in_default
returns-in_default c =
    let more = digits_value_more 10 c.args.digits.now c.loop-digit.digit-index c.loop-digit-test.true in
    let grows = value_grows c.args.digits.now (c.loop-digit.digit-index + 1) in
    λ small. c.in_default.ensures {u = tt} (omega (arith, more, grows, small))

pub loop-digit-preserved : goal.loop-digit-preserved
loop-digit-preserved c =
    let more = digits_value_more 10 c.args.digits.now c.loop-digit.digit-index c.loop-digit-test.true in
    let now = c.in-Some.ensures {u = tt} in
    (omega (arith, more, now.1, c.loop-digit.invariant.0), omega (arith, now.0, now.1))
