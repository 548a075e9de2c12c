use Rattle.std.proofs.Common.{arith}
use Rattle.std.proofs.lemmas.Grind.{common_steps}
use Rattle.search_squares.specs.Bounds.{place_along}
use Rattle.search_squares.specs.Sums.{AreBlockSums}
use Rattle.search_squares.proofs.PlaceRuns.{inner_held, none_marked}
use Rattle.search_squares.proofs.joint.level_marks.Goals as goal

pub above_both-requires-clause-blocks : goal.above_both-requires-clause-blocks
above_both-requires-clause-blocks c = grind (arith, common_steps)

pub above_both-requires-clause-others : goal.above_both-requires-clause-others
above_both-requires-clause-others c = grind (arith, common_steps)

pub above_both-requires-clause-sums : goal.above_both-requires-clause-sums
above_both-requires-clause-sums c = grind (arith, common_steps)

pub above_both-requires-clause-other_sums : goal.above_both-requires-clause-other_sums
above_both-requires-clause-other_sums c = grind (arith, common_steps)

pub above_both-requires-clause-laid : goal.above_both-requires-clause-laid
above_both-requires-clause-laid c = λ j lj.
    let one = c.args.one.now in
    let served : AreBlockSums one.sample.now c.in-Some-get-2.sums.now = grind (arith, common_steps) in
    record {
      volume = c.samples-k.ensures.volume;
      stands = c.requires.one.over;
      fits = record {
        some = c.holds_run.ensures.some c.if-not-holds_run.false;
        inside = c.requires.one.inside;
        sources = inner_held one.sample.now c.in-Some-get-2.sums.now.rect (place_along c.args.from j) one.rect.size (c.holds_run.ensures.inside c.if-not-holds_run.false j lj) served.inside;
      };
    }

pub above_both-requires-clause-other_laid : goal.above_both-requires-clause-other_laid
above_both-requires-clause-other_laid c = λ j lj.
    let other = c.args.other.now in
    let served : AreBlockSums other.sample.now c.in-Some-get-2.sums.now = grind (arith, common_steps) in
    record {
      volume = c.samples-other_k.ensures.volume;
      stands = c.requires.other.over;
      fits = record {
        some = c.holds_run-2.ensures.some c.if-not-holds_run-2.false;
        inside = c.requires.other.inside;
        sources = inner_held other.sample.now c.in-Some-get-2.sums.now.rect (place_along c.args.from j) other.rect.size (c.holds_run-2.ensures.inside c.if-not-holds_run-2.false j lj) served.inside;
      };
    }

pub above_both-requires-clause-inside : goal.above_both-requires-clause-inside
above_both-requires-clause-inside c = c.holds_run.ensures.inside c.if-not-holds_run.false

pub above_both-requires-clause-other_inside : goal.above_both-requires-clause-other_inside
above_both-requires-clause-other_inside c = c.holds_run-2.ensures.inside c.if-not-holds_run-2.false

pub returns-then-k-other_k : goal.returns-then-k-other_k
returns-then-k-other_k c = λ j _ marked. absurd (none_marked j marked)

pub returns : goal.returns
returns c = c.above_both.ensures

pub above_both-requires-clause-times : goal.above_both-requires-clause-times
above_both-requires-clause-times c = omega arith

pub returns-then-not-holds_run : goal.returns-then-not-holds_run
returns-then-not-holds_run c = grind (arith, common_steps)

pub above_both-requires-clause-few : goal.above_both-requires-clause-few
above_both-requires-clause-few c = c.requires.few

pub returns-then-not-holds_run-2 : goal.returns-then-not-holds_run-2
returns-then-not-holds_run-2 c = grind (arith, common_steps)

pub above_both-requires-clause-samples : goal.above_both-requires-clause-samples
above_both-requires-clause-samples c = grind (arith, common_steps)

pub above_both-requires-clause-side : goal.above_both-requires-clause-side
above_both-requires-clause-side c = grind (arith, common_steps)

pub above_both-requires-clause-other_side : goal.above_both-requires-clause-other_side
above_both-requires-clause-other_side c = c.if-others-sums.false

pub returns-then-blocks-sums : goal.returns-then-blocks-sums
returns-then-blocks-sums c = omega arith

pub returns-in_default-get-2 : goal.returns-in_default-get-2
returns-in_default-get-2 c = omega arith

pub returns-in_default-get : goal.returns-in_default-get
returns-in_default-get c = omega arith

pub returns-in_default : goal.returns-in_default
returns-in_default c = omega arith

pub overflow_add-part : goal.overflow_add-part
overflow_add-part c = omega arith

pub overflow_mul-part : goal.overflow_mul-part
overflow_mul-part c = omega arith

pub get-requires-3 : goal.get-requires-3
get-requires-3 c = grind (arith, common_steps)
