use Rattle.std.proofs.Common.{◌∙◌, sym, arith, below_more}
use mathlib.Core.Bool.{false≢true}
use Rattle.loop_walk.specs.Products.{IsBelowProducts}
use Rattle.std.proofs.lemmas.Grind.{common_steps}
use Rattle.loop_walk.proofs.sums.broken_in_row.Goals as goal

pub is_below-requires-clause-sum : goal.is_below-requires-clause-sum
is_below-requires-clause-sum c = grind (arith, common_steps)

pub returns-clause-hold : goal.returns-clause-hold
returns-clause-hold c = grind (arith, common_steps)

pub returns-then-not-is_below-clause-broken : goal.returns-then-not-is_below-clause-broken
returns-then-not-is_below-clause-broken c = record {
  below = omega (arith, c.frames-j-end.ensures.frames, c.loop-j-test.true);
  before = c.loop-j.invariant;
  broken = λ holds. false≢true (sym c.if-not-is_below.true ∙ c.is_below.ensures.1 holds);
}

pub fill_row_of_rests-requires-clause-firsts : goal.fill_row_of_rests-requires-clause-firsts
fill_row_of_rests-requires-clause-firsts c = grind (arith, common_steps)

pub slice_bounds-fill_row_of_rests-end : goal.slice_bounds-fill_row_of_rests-end
slice_bounds-fill_row_of_rests-end c = grind (arith, common_steps)

pub loop-j-init : goal.loop-j-init
loop-j-init c = grind (arith, common_steps)

pub fill_row_of_rests-requires-clause-sums : goal.fill_row_of_rests-requires-clause-sums
fill_row_of_rests-requires-clause-sums c = grind (arith, common_steps)

pub fill_row_of_rests-requires-clause-left : goal.fill_row_of_rests-requires-clause-left
fill_row_of_rests-requires-clause-left c = grind (arith, common_steps)

pub fill_row_of_rests-requires-clause-rests : goal.fill_row_of_rests-requires-clause-rests
fill_row_of_rests-requires-clause-rests c = grind (arith, common_steps)

pub fill_row_of_rests-requires-clause-nears : goal.fill_row_of_rests-requires-clause-nears
fill_row_of_rests-requires-clause-nears c = grind (arith, common_steps)

pub slice_bounds-firsts-end-2 : goal.slice_bounds-firsts-end-2
slice_bounds-firsts-end-2 c = grind (arith, common_steps)

pub slice_bounds-fill_row_of_rests-end-2 : goal.slice_bounds-fill_row_of_rests-end-2
slice_bounds-fill_row_of_rests-end-2 c = grind (arith, common_steps)

pub fill_row_of_rests-requires-clause-near : goal.fill_row_of_rests-requires-clause-near
fill_row_of_rests-requires-clause-near c = grind (arith, common_steps)

pub loop-j-preserved : goal.loop-j-preserved
loop-j-preserved c =
    below_more (IsBelowProducts c.args.costs.now c.args.tables.now c.args.t c.args.second c.args.i) c.loop-j.j c.loop-j.invariant
    (c.is_below.ensures.0 c.if-not-is_below.false)

pub fill_near_row-requires-clause-nears : goal.fill_near_row-requires-clause-nears
fill_near_row-requires-clause-nears c = grind (arith, common_steps)

pub slice_bounds-fill_near_row-end : goal.slice_bounds-fill_near_row-end
slice_bounds-fill_near_row-end c = grind (arith, common_steps)

pub is_below-requires-clause-second : goal.is_below-requires-clause-second
is_below-requires-clause-second c = grind (arith, common_steps)

pub is_below-requires-clause-enough : goal.is_below-requires-clause-enough
is_below-requires-clause-enough c = grind (arith, common_steps)

pub fill_row_of_rests-requires-clause-bases : goal.fill_row_of_rests-requires-clause-bases
fill_row_of_rests-requires-clause-bases c = grind (arith, common_steps)

pub is_below-requires-clause-row : goal.is_below-requires-clause-row
is_below-requires-clause-row c = grind (arith, common_steps)

pub is_below-requires-clause-column : goal.is_below-requires-clause-column
is_below-requires-clause-column c = grind (arith, common_steps)

pub is_below-requires-clause-number : goal.is_below-requires-clause-number
is_below-requires-clause-number c = grind (arith, common_steps)
