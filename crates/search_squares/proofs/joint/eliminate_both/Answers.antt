use Rattle.search_squares.specs.Terms.{both_sums}
use Rattle.search_squares.proofs.joint.eliminate_both.Goals as goal

pub returns-in_default : goal.returns-in_default
returns-in_default c = c.none.ensures (both_sums c.args.one.now c.args.other.now)

pub returns-then-n-eq0 : goal.returns-then-n-eq0
returns-then-n-eq0 c = c.none-then-n-eq0.ensures (both_sums c.args.one.now c.args.other.now)

pub returns : goal.returns
returns c = c.all_marks-above.ensures

pub all_marks-above-requires-clause-other : goal.all_marks-above-requires-clause-other
all_marks-above-requires-clause-other c = c.requires.other

pub all_marks-above-requires-clause-one : goal.all_marks-above-requires-clause-one
all_marks-above-requires-clause-one c = c.requires.one
