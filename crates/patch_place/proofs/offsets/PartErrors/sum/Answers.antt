use Rattle.std.proofs.lemmas.Grind.{common_steps}
use Rattle.std.proofs.Common.{subst, arith}
use Rattle.std.specs.Prelude.{IfSome}
use Rattle.std.proofs.lemmas.Option.{IfSome_then}
use Rattle.match_error.proofs.Bounds.{error_small}
use Rattle.offset_errors.specs.Errors.{AreErrors}
use Rattle.patch_place.proofs.offsets.PartErrors.sum.Goals as goal

pub returns-in-Some-clause-small : goal.returns-in-Some-clause-small
returns-in-Some-clause-small c =
    let m = c.args.canvas.now.map in
    let small = error_small m c.args.sample.now c.args.placement.now c.map-map.ensures.canvas.map.small c.samples-sample.ensures.volume c.requires.fits in
    let errors : AreErrors m c.args.sample.now c.in-Some.errors = subst (λ errors. IfSome errors (AreErrors m c.args.sample.now)) c.in-Some.is c.requires.errors in
    IfSome_then c.sum.result (c.sum.ensures m c.args.sample.now errors c.requires.fits) (λ sum is. omega (arith, is, small))

pub returns-in-Some-clause-sum : goal.returns-in-Some-clause-sum
returns-in-Some-clause-sum c = grind (arith, common_steps)
