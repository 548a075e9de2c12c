use Rattle.std.proofs.Common.{refl}
use Rattle.map_canvas.specs.Choices.{laid_from}
use Rattle.patch_place.proofs.Known.{held_asked, hint_listed, hint_low}
use Rattle.patch_place.proofs.hints.least_hint.Goals as goal

pub sum_within-requires-clause-asked : goal.sum_within-requires-clause-asked
sum_within-requires-clause-asked g c =
    let b = g.E.BoxErrors in
    held_asked (b.error c.args.errors.now) (b.MayAsk c.args.errors.now) c.args.count c.requires.counted c.args.sample.now c.args.rect.now c.requires.cells c.requires.asked (laid_from c.args.rect.now c.in-Some.from) (record { box = refl; held = c.holds.ensures.0 c.if-not-holds.false })

pub hints-preserved : goal.hints-preserved
hints-preserved g c =
    let b = g.E.BoxErrors in
    record {
      listed = hint_listed (b.error c.args.errors.now) (b.MayAsk c.args.errors.now) c.args.count c.requires.counted c.args.sample.now c.args.rect.now c.requires.cells c.requires.asked (laid_from c.args.rect.now c.in-Some.from) (record { box = refl; held = c.holds.ensures.0 c.if-not-holds.false }) _ c.in-Some-sum_within.ensures.some;
      low = (
        c.requires.filled,
        hint_low (b.error c.args.errors.now) (b.MayAsk c.args.errors.now) c.args.count c.requires.counted c.args.sample.now c.args.rect.now c.requires.cells c.requires.asked (laid_from c.args.rect.now c.in-Some.from) (record { box = refl; held = c.holds.ensures.0 c.if-not-holds.false }) _ c.in-Some-sum_within.ensures.some,
      );
    }
