use Rattle.std.proofs.Common.{◌≡◌, ◌+◌, ◌-◌, ◌∙◌, slice_index, arith}
use Rattle.std.proofs.lemmas.Bool.{le-leb, leb-true}
use Rattle.std.proofs.lemmas.Bool.Decides.{Decides-eqb, Decides-like}
use Rattle.strip_boundary.specs.Strips.{at_cell}
use Rattle.strip_boundary.proofs.RowLaws.{first_held, first_holds, later_held, later_holds, least_near, row_fits}
use Rattle.strip_boundary.proofs.check.sum_holds.Goals as goal

pub row_of-requires : goal.row_of-requires
row_of-requires c = row_fits c.args.strip.now.rows c.args.strip.now.cols _ c.args.row c.requires.row c.requires.sums

pub row_of-above-requires : goal.row_of-above-requires
row_of-above-requires c = row_fits c.args.strip.now.rows c.args.strip.now.cols _ (c.args.row - 1) (omega (arith, c.requires.row)) c.requires.sums

pub returns-then-row-eq0 : goal.returns-then-row-eq0
returns-then-row-eq0 c =
    let strip = c.args.strip.now in
    let sums = c.args.sums.now in
    let row = c.args.row in
    let col = c.args.col in
    let error = c.error-error.result in
    let sum = slice_index c.row_of.result.now col in
    let cell : sum ≡ at_cell strip sums row col = c.row_of.ensures.cells col c.requires.col in
    Decides-like _ (first_holds strip sums row col error c.if-row-eq0.true c.error-error.ensures.error sum cell)
    (first_held strip sums row col error c.if-row-eq0.true c.error-error.ensures.error sum cell)
    (Decides-eqb sum error)

pub returns : goal.returns
returns c =
    let strip = c.args.strip.now in
    let sums = c.args.sums.now in
    let row = c.args.row in
    let col = c.args.col in
    let near = c.first_least_near.result in
    let error = c.from-2.result in
    let least = c.from-3.result in
    let sum = c.from.result in
    let found = least_near strip sums c.row_of-above.result.now (row - 1) c.row_of-above.ensures.cols c.row_of-above.ensures.cells col near c.first_least_near.ensures in
    let cell : sum ≡ at_cell strip sums row col = c.from.ensures ∙ c.row_of.ensures.cells col c.requires.col in
    let is = c.from-2.ensures ∙ c.error-error.ensures.error in
    let above_is : least ≡ at_cell strip sums (row - 1) near = c.from-3.ensures ∙ c.row_of-above.ensures.cells near found.least.inside in (
      λ yes. later_holds strip sums row col near error least c.if-row-eq0.false is above_is found sum cell (leb-true sum (error + least) yes),
      λ holds. le-leb sum (error + least) (later_held strip sums row col near error least c.if-row-eq0.false is above_is found sum cell holds),
    )
