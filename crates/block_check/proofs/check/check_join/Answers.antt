use Rattle.std.proofs.Common.{arith}
use Rattle.std.proofs.lemmas.Grind.{common_steps}
use Rattle.std.proofs.Common.{Err, Ok, ◌≡◌, ◌∙◌, ap, refl, sym, subst}
use Rattle.std.specs.Prelude.{Option, Result, Some}
use Rattle.map_canvas.proofs.Filling.{fits_small}
use Rattle.strip_boundary.specs.declared.boundary.BoundaryRecord.{BoundaryRecord}
use Rattle.strip_boundary.specs.Strips.{ErrorTable}
use Rattle.block_strips.specs.Strips.{strip_of}
use Rattle.block_check.specs.declared.check.BlockError.{BlockError}
use Rattle.block_check.specs.declared.check.BlockError.TheVariants.{Fault}
use Rattle.block_check.specs.Blocks.{cols_on}
use Rattle.block_check.specs.Records.{ChecksJoin}
use Rattle.block_check.specs.Steps.{ChecksStrip}
use Rattle.block_check.proofs.Standing.{join_checked}
use Rattle.block_check.proofs.check.check_join.Goals as goal

pub cols_on-cols-requires-clause-small : goal.cols_on-cols-requires-clause-small
cols_on-cols-requires-clause-small c = fits_small c.args.canvas.now.map.size c.args.sample.now c.args.placement.now c.requires.fits c.map-map.ensures.canvas.map.small

pub returns : goal.returns
returns c =
    let side = c.args.side in
    let m = c.args.canvas.now.map in
    let sample = c.args.sample.now in
    let placement = c.args.placement.now in
    let it = c.in-Some.boundary in
    let answer : Result (Unit {0}) BlockError = Err (Fault c.in-Err.fault) in
    let cols : c.cols_on-cols.result ≡ cols_on side placement (Some it) = c.cols_on-cols.ensures.cols ∙ ap (cols_on side placement) c.in-Some.is in
    let strip = c.in_ok-strip.ensures {u = tt} ∙ ap (strip_of side m sample placement) cols in
    subst (λ (boundary : Option BoundaryRecord). ChecksJoin side m sample placement boundary answer) (sym c.in-Some.is)
    (join_checked side m sample placement it answer (subst (λ (strip : ErrorTable). ChecksStrip strip it answer) strip c.in-Err.ensures.broken))

pub returns-in-Ok : goal.returns-in-Ok
returns-in-Ok c =
    let side = c.args.side in
    let m = c.args.canvas.now.map in
    let sample = c.args.sample.now in
    let placement = c.args.placement.now in
    let it = c.in-Some.boundary in
    let answer : Result (Unit {0}) BlockError = Ok tt in
    let cols : c.cols_on-cols.result ≡ cols_on side placement (Some it) = c.cols_on-cols.ensures.cols ∙ ap (cols_on side placement) c.in-Some.is in
    let strip = c.in_ok-strip.ensures {u = tt} ∙ ap (strip_of side m sample placement) cols in
    subst (λ (boundary : Option BoundaryRecord). ChecksJoin side m sample placement boundary answer) (sym c.in-Some.is)
    (join_checked side m sample placement it answer (subst (λ (strip : ErrorTable). ChecksStrip strip it answer) strip (c.in-Ok.ensures.stands.0 refl)))

pub check_boundary-requires : goal.check_boundary-requires
check_boundary-requires c = grind (arith, common_steps)

pub strip_of-requires-clause-most : goal.strip_of-requires-clause-most
strip_of-requires-clause-most c = grind (arith, common_steps)

pub strip_of-requires-clause-some : goal.strip_of-requires-clause-some
strip_of-requires-clause-some c = grind (arith, common_steps)

pub returns-in_default : goal.returns-in_default
returns-in_default c = grind (arith, common_steps)
