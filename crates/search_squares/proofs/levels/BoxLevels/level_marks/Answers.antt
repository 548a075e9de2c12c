use Rattle.std.proofs.Common.{◌≡◌, ◌<◌, ◌+◌, ◌*◌, ◌^◌, subst, sym, arith}
use Rattle.std.proofs.lemmas.Grind.{common_steps}
use Rattle.search_squares.specs.Blocks.{AreBoxBlocks, block_bytes}
use Rattle.search_squares.specs.Bounds.{place_along}
use Rattle.search_squares.specs.Sums.{AreBlockSums}
use Rattle.search_squares.proofs.PlaceRuns.{inner_held, none_marked}
use Rattle.search_squares.proofs.RunEntries.{above_limit}
use Rattle.search_squares.proofs.levels.BoxLevels.level_marks.Goals as goal

pub returns-in_default : goal.returns-in_default
returns-in_default c = λ j _ marked. absurd (none_marked j marked)

pub returns-in_default-get : goal.returns-in_default-get
returns-in_default-get c = λ j _ marked. absurd (none_marked j marked)

pub returns-in_default-scale_of : goal.returns-in_default-scale_of
returns-in_default-scale_of c = λ j _ marked. absurd (none_marked j marked)

pub returns-then-n-eq0 : goal.returns-then-n-eq0
returns-then-n-eq0 c = λ j _ marked. absurd (none_marked j marked)

pub totals-totals-requires-clause-blocks : goal.totals-totals-requires-clause-blocks
totals-totals-requires-clause-blocks c = grind (arith, common_steps)

pub totals-totals-requires-clause-sums : goal.totals-totals-requires-clause-sums
totals-totals-requires-clause-sums c = grind (arith, common_steps)

pub totals-totals-requires-clause-laid : goal.totals-totals-requires-clause-laid
totals-totals-requires-clause-laid c = λ j lj.
    let sums = c.in-Some-get.sums.now in
    let served : AreBlockSums c.args.sample.now sums = grind (arith, common_steps) in
    record {
      volume = c.samples.ensures.volume;
      stands = c.requires.over;
      fits = record {
        some = c.holds_run.ensures.some c.if-not-holds_run.false;
        inside = c.requires.inside;
        sources = inner_held c.args.sample.now sums.rect (place_along c.args.from j) c.args.rect.now.size (c.holds_run.ensures.inside c.if-not-holds_run.false j lj) served.inside;
      };
    }

pub totals-totals-requires-clause-inside : goal.totals-totals-requires-clause-inside
totals-totals-requires-clause-inside c = c.holds_run.ensures.inside c.if-not-holds_run.false

pub totals-totals-requires-clause-few : goal.totals-totals-requires-clause-few
totals-totals-requires-clause-few c = c.requires.few

pub totals-totals-requires-clause-side : goal.totals-totals-requires-clause-side
totals-totals-requires-clause-side c = grind (arith, common_steps)

pub scale_of-requires-clause-few : goal.scale_of-requires-clause-few
scale_of-requires-clause-few c =
    let blocks : AreBoxBlocks c.args.canvas.now c.args.rect.now c.in-Some.blocks.now = grind (arith, common_steps) in
    let sums : AreBlockSums c.args.sample.now c.in-Some-get.sums.now = grind (arith, common_steps) in
    let side : c.in-Some.blocks.now.side ≡ c.in-Some-get.sums.now.side = omega arith in
    subst (λ s. 255 * block_bytes s c.samples.result < 2 ^ 16) (sym side)
    (subst (λ k. 255 * block_bytes c.in-Some-get.sums.now.side k < 2 ^ 16) (sym c.samples.ensures.samples) sums.few)

pub returns : goal.returns
returns c = λ j lj marked.
    let in_lanes : j < 32 = omega (arith, c.requires.few) in
    let sums = c.in-Some-get.sums.now in
    let served : AreBlockSums c.args.sample.now sums = grind (arith, common_steps) in
    let blocks : AreBoxBlocks c.args.canvas.now c.args.rect.now c.in-Some.blocks.now = grind (arith, common_steps) in
    let scale = c.in-Some-scale_of.scale in
    let most = subst (λ k. scale.factor * scale.factor * (block_bytes c.in-Some.blocks.now.side k * c.args.limit) < 65536 * (scale.most + 1)) c.samples.ensures.samples c.in-Some-scale_of.ensures in
    above_limit scale.factor (block_bytes c.in-Some.blocks.now.side c.args.sample.now.k) c.args.limit _ _ _ scale.most most (c.marks.ensures j in_lanes marked) (c.totals-totals.ensures j lj)
    (blocks.bound c.args.sample.now (place_along c.args.from j) (record {
      volume = c.samples.ensures.volume;
      stands = c.requires.over;
      fits = record {
        some = c.holds_run.ensures.some c.if-not-holds_run.false;
        inside = c.requires.inside;
        sources = inner_held c.args.sample.now sums.rect (place_along c.args.from j) c.args.rect.now.size (c.holds_run.ensures.inside c.if-not-holds_run.false j lj) served.inside;
      };
    }))
