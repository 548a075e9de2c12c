use Rattle.std.proofs.Common.{arith}
use Rattle.std.proofs.lemmas.Grind.{common_steps}
use Rattle.search_squares.specs.Bounds.{place_along}
use Rattle.search_squares.proofs.PlaceRuns.{inner_held}
use Rattle.search_squares.proofs.blocks.BoxBlocks.nearest_of.Goals as goal

pub totals-totals-requires-clause-laid : goal.totals-totals-requires-clause-laid
totals-totals-requires-clause-laid c = λ j lj. record {
  volume = c.samples-sample.ensures.volume;
  stands = c.requires.over;
  fits = record {
    some = c.holds_run.ensures.some c.if-not-holds_run.false;
    inside = c.requires.inside;
    sources = inner_held c.args.sample.now c.args.sums.now.rect (place_along c.args.from j) c.args.rect.now.size (c.holds_run.ensures.inside c.if-not-holds_run.false j lj) c.requires.sums.inside;
  };
}

pub totals-totals-requires-clause-inside : goal.totals-totals-requires-clause-inside
totals-totals-requires-clause-inside c = c.holds_run.ensures.inside c.if-not-holds_run.false

pub totals-totals-requires-clause-blocks : goal.totals-totals-requires-clause-blocks
totals-totals-requires-clause-blocks c = grind (arith, common_steps)

pub totals-totals-requires-clause-some : goal.totals-totals-requires-clause-some
totals-totals-requires-clause-some c = omega arith

pub totals-totals-requires-clause-few : goal.totals-totals-requires-clause-few
totals-totals-requires-clause-few c = c.requires.few
