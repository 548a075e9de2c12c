use Rattle.std.proofs.lemmas.Grind.{common_steps}
use Rattle.std.proofs.Common.{List, arith, subst, sym, ◌∙◌}
use Rattle.cells.specs.Distances.{distance}
use Rattle.boxes.proofs.PairNumbers.{pairs_small}
use Rattle.cut_check.specs.declared.record.Flow.{Flow}
use Rattle.cut_check.specs.Steps.{HoldsAlong, IsStill}
use Rattle.cut_check.proofs.Still.{still_holds}
use mathlib.Core.Bool.{false≢true}
use Rattle.cut_check.proofs.OneFrame.{each_axis, holds_in_one}
use Rattle.cut_check.proofs.bounds.first_axis.Goals as goal

pub is_still-requires : goal.is_still-requires
is_still-requires c =
    let at = c.args.walk.at in
    omega (arith, c.requires.inside.before, pairs_small c.args.cut.now.placement.rect.size at.x at.y at.f c.requires.lies.lies.small c.requires.inside.counts)

pub returns-then-is_still-clause-hold : goal.returns-then-is_still-clause-hold
returns-then-is_still-clause-hold c =
    let at = c.args.walk.at in
    still_holds (distance c.args.sample.now) c.args.map.now c.args.cut.now at.x at.y at.f c.args.walk.before c.requires.inside.before
    (subst (λ (flows : List Flow). IsStill flows c.args.walk.before) c.as_slice.ensures (c.is_still.ensures c.if-is_still.true))

pub returns-then-not-holds_along-2-clause-broken : goal.returns-then-not-holds_along-2-clause-broken
returns-then-not-holds_along-2-clause-broken c = record {
  before = c.holds_along.ensures.0 c.if-not-holds_along.false;
  here = λ is. false≢true (sym c.if-not-holds_along-2.true ∙ c.holds_along-2.ensures.1 is);
}

pub returns-then-not-holds_along-3-clause-broken : goal.returns-then-not-holds_along-3-clause-broken
returns-then-not-holds_along-3-clause-broken c = record {
  before = (c.holds_along.ensures.0 c.if-not-holds_along.false, c.holds_along-2.ensures.0 c.if-not-holds_along-2.false);
  here = λ is. false≢true (sym c.if-not-holds_along-3.true ∙ c.holds_along-3.ensures.1 is);
}

pub returns-then-size-eq1-clause-hold : goal.returns-then-size-eq1-clause-hold
returns-then-size-eq1-clause-hold c =
    let at = c.args.walk.at in
    each_axis (HoldsAlong (distance c.args.sample.now) c.args.map.now c.args.cut.now at.x at.y at.f) (c.holds_along.ensures.0 c.if-not-holds_along.false) (c.holds_along-2.ensures.0 c.if-not-holds_along-2.false)
    (holds_in_one (distance c.args.sample.now) c.args.map.now c.args.cut.now at.x at.y at.f c.if-size-eq1.true)

pub returns-clause-hold : goal.returns-clause-hold
returns-clause-hold c =
    let at = c.args.walk.at in
    each_axis (HoldsAlong (distance c.args.sample.now) c.args.map.now c.args.cut.now at.x at.y at.f) (c.holds_along.ensures.0 c.if-not-holds_along.false) (c.holds_along-2.ensures.0 c.if-not-holds_along-2.false)
    (c.holds_along-3.ensures.0 c.if-not-holds_along-3.false)

pub returns-then-not-holds_along-clause-broken : goal.returns-then-not-holds_along-clause-broken
returns-then-not-holds_along-clause-broken c = grind (arith, common_steps)

pub holds_along-requires-3-clause-lies : goal.holds_along-requires-3-clause-lies
holds_along-requires-3-clause-lies c = grind (arith, common_steps)

pub holds_along-requires-3-clause-number : goal.holds_along-requires-3-clause-number
holds_along-requires-3-clause-number c = grind (arith, common_steps)

pub holds_along-requires-2-clause-lies : goal.holds_along-requires-2-clause-lies
holds_along-requires-2-clause-lies c = grind (arith, common_steps)

pub holds_along-requires-3-clause-counts : goal.holds_along-requires-3-clause-counts
holds_along-requires-3-clause-counts c = grind (arith, common_steps)
