use Rattle.std.proofs.lemmas.Grind.{common_steps}
use Rattle.std.proofs.Common.{◌<◌, ◌*◌, ℕ, List, length, get_or, ap, sym, subst, arith}
use Rattle.std.proofs.Math.Nat.{mul-le-mul_left}
use Rattle.std.proofs.lemmas.List.{get_or-replicate}
use Rattle.std.proofs.lemmas.List.Sums.{sum_by-take-le}
use Rattle.std.specs.Prelude.{All, pos}
use Rattle.search_squares.specs.declared.sums.TheConstants.{LANES}
use Rattle.search_squares.specs.Blocks.{HasEntry}
use Rattle.search_squares.proofs.RunEntries.{difference_at, first_inside, fits, further, one_more, placed, room, short, small}
use Rattle.search_squares.proofs.blocks.BoxBlocks.totals_by.Goals as goal

pub index_of-first-requires-clause-small : goal.index_of-first-requires-clause-small
index_of-first-requires-clause-small c =
    let sums = c.args.sums.now in
    let rect = c.args.rect.now in
    let laid = c.requires.laid 0 (omega (arith, c.requires.some)) in
    let at = placed sums.rect c.args.from c.args.n rect.size c.requires.some c.requires.inside in
    small c.args.sample.now laid.volume sums c.requires.sums rect laid.fits.some c.args.from c.args.n c.requires.some at

pub index_of-first-requires-clause-fits : goal.index_of-first-requires-clause-fits
index_of-first-requires-clause-fits c =
    let sums = c.args.sums.now in
    let rect = c.args.rect.now in
    let laid = c.requires.laid 0 (omega (arith, c.requires.some)) in
    let at = placed sums.rect c.args.from c.args.n rect.size c.requires.some c.requires.inside in
    fits c.args.sample.now laid.volume sums c.requires.sums rect laid.fits.some c.args.from c.args.n c.requires.some at

pub index_of-first-requires-clause-inside : goal.index_of-first-requires-clause-inside
index_of-first-requires-clause-inside c =
    let sums = c.args.sums.now in
    let rect = c.args.rect.now in
    let laid = c.requires.laid 0 (omega (arith, c.requires.some)) in
    let at = placed sums.rect c.args.from c.args.n rect.size c.requires.some c.requires.inside in
    first_inside c.args.sample.now laid.volume sums c.requires.sums rect laid.fits.some c.args.from c.args.n c.requires.some at

pub stretches-init : goal.stretches-init
stretches-init c = λ j lj.
    let in_lanes : j < LANES = omega (arith, c.requires.few) in
    omega (arith, ap (λ (xs : List ℕ). get_or xs j 0) c.no_sums-totals.ensures, get_or-replicate {A = ℕ} LANES j 0 0 in_lanes)

pub loop-i-init : goal.loop-i-init
loop-i-init c = record { totals = c.stretches.invariant; reached = omega (arith, c.min-end.ensures, c.stretches-test.true) }

pub entry_in-requires-clause-rows : goal.entry_in-requires-clause-rows
entry_in-requires-clause-rows c =
    let sums = c.args.sums.now in
    let rect = c.args.rect.now in
    let laid = c.requires.laid 0 (omega (arith, c.requires.some)) in
    let at = placed sums.rect c.args.from c.args.n rect.size c.requires.some c.requires.inside in
    let axes = (small c.args.sample.now laid.volume sums c.requires.sums rect laid.fits.some c.args.from c.args.n c.requires.some at).axes in
    (axes.w.1, axes.h.1)

pub entry_in-requires-clause-step : goal.entry_in-requires-clause-step
entry_in-requires-clause-step c =
    let sums = c.args.sums.now in
    let rect = c.args.rect.now in
    let laid = c.requires.laid 0 (omega (arith, c.requires.some)) in
    let at = placed sums.rect c.args.from c.args.n rect.size c.requires.some c.requires.inside in
    let below : c.loop-i.i < length c.as_slice-blocks.result.now = omega (arith, c.loop-i-test.true, c.min-end.ensures) in
    short c.args.sample.now laid.volume sums c.requires.sums rect laid.fits.some c.args.from c.args.n c.requires.some at c.args.self.now.side c.requires.blocks.some c.requires.side c.as_slice-blocks.result.now c.args.self.now.blocks.items c.as_slice-blocks.ensures.value c.requires.blocks.inside c.loop-i.i _ below

pub entry_in-requires-clause-own : goal.entry_in-requires-clause-own
entry_in-requires-clause-own c = λ same.
    let blocks = c.args.self.now in
    let below : c.loop-i.i < length c.as_slice-blocks.result.now = omega (arith, c.loop-i-test.true, c.min-end.ensures) in
    let each = subst (All (HasEntry blocks.size)) (sym c.as_slice-blocks.ensures.value) c.requires.blocks.entries in
    subst (λ size. HasEntry size (get_or c.as_slice-blocks.result.now c.loop-i.i (record { entry = 0; step = record { x = pos 0; y = pos 0; f = pos 0 }; sum = 0 }))) (c.requires.own same) (each c.loop-i.i _ below)

pub overflow_add-first : goal.overflow_add-first
overflow_add-first c =
    let sums = c.args.sums.now in
    let rect = c.args.rect.now in
    let laid = c.requires.laid 0 (omega (arith, c.requires.some)) in
    let at = placed sums.rect c.args.from c.args.n rect.size c.requires.some c.requires.inside in
    let below : c.loop-i.i < length c.as_slice-blocks.result.now = omega (arith, c.loop-i-test.true, c.min-end.ensures) in
    omega (
      arith,
      room c.args.sample.now laid.volume sums c.requires.sums rect laid.fits.some c.args.from c.args.n c.requires.some at c.args.self.now.side c.requires.blocks.some c.requires.side c.as_slice-blocks.result.now c.args.self.now.blocks.items c.as_slice-blocks.ensures.value c.requires.blocks.inside c.loop-i.i _ below c.index_of-first.result c.entry_in.result c.index_of-first.ensures c.entry_in.ensures,
      c.args.sums.now.sums.small,
    )

pub run-run-requires : goal.run-run-requires
run-run-requires c =
    let sums = c.args.sums.now in
    let rect = c.args.rect.now in
    let laid = c.requires.laid 0 (omega (arith, c.requires.some)) in
    let at = placed sums.rect c.args.from c.args.n rect.size c.requires.some c.requires.inside in
    let below : c.loop-i.i < length c.as_slice-blocks.result.now = omega (arith, c.loop-i-test.true, c.min-end.ensures) in
    room c.args.sample.now laid.volume sums c.requires.sums rect laid.fits.some c.args.from c.args.n c.requires.some at c.args.self.now.side c.requires.blocks.some c.requires.side c.as_slice-blocks.result.now c.args.self.now.blocks.items c.as_slice-blocks.ensures.value c.requires.blocks.inside c.loop-i.i _ below c.index_of-first.result c.entry_in.result c.index_of-first.ensures c.entry_in.ensures

pub loop-i-preserved : goal.loop-i-preserved
loop-i-preserved c = record {
  totals = λ j lj.
      let sums = c.args.sums.now in
      let rect = c.args.rect.now in
      let laid = c.requires.laid 0 (omega (arith, c.requires.some)) in
      let at = placed sums.rect c.args.from c.args.n rect.size c.requires.some c.requires.inside in
      let below : c.loop-i.i < length c.as_slice-blocks.result.now = omega (arith, c.loop-i-test.true, c.min-end.ensures) in
      let in_lanes : j < LANES = omega (arith, c.requires.few) in
      one_more c.args.sample.now laid.volume sums c.requires.sums rect laid.fits.some c.args.from c.args.n c.requires.some at c.args.self.now.side c.requires.blocks.some c.requires.side c.as_slice-blocks.result.now c.args.self.now.blocks.items c.as_slice-blocks.ensures.value c.requires.blocks.inside c.loop-i.i _ below c.run-run.result.now c.index_of-first.result c.entry_in.result c.index_of-first.ensures c.entry_in.ensures c.run-run.ensures.run j lj c.requires.few _ _ c.args.scale.factor (c.with_block-totals.ensures j in_lanes) (c.loop-i.invariant.totals j lj);
  reached = omega (arith, c.loop-i-test.true);
}

pub returns-then-left_in-eq0 : goal.returns-then-left_in-eq0
returns-then-left_in-eq0 c = λ j lj.
    let whole = mul-le-mul_left (c.args.scale.factor * c.args.scale.factor) (sum_by-take-le (difference_at c.args.sample.now c.args.self.now.side c.args.from j) c.args.self.now.blocks.items c.loop-i.i) in
    omega (arith, c.loop-i.invariant.totals j lj, whole)

pub stretches-preserved : goal.stretches-preserved
stretches-preserved c = λ j lj.
    further (difference_at c.args.sample.now c.args.self.now.side c.args.from j) c.args.self.now.blocks.items c.loop-i.i _ (c.args.scale.factor * c.args.scale.factor) _ c.loop-i.invariant.reached (c.loop-i.invariant.totals j lj)

pub returns : goal.returns
returns c = λ j lj.
    let whole = mul-le-mul_left (c.args.scale.factor * c.args.scale.factor) (sum_by-take-le (difference_at c.args.sample.now c.args.self.now.side c.args.from j) c.args.self.now.blocks.items c.stretches.done) in
    omega (arith, c.stretches.invariant j lj, whole)

pub with_block-totals-requires : goal.with_block-totals-requires
with_block-totals-requires c = omega arith

pub bounds-blocks-i : goal.bounds-blocks-i
bounds-blocks-i c = omega arith

pub offset_bounds-blocks-i : goal.offset_bounds-blocks-i
offset_bounds-blocks-i c = omega arith

pub left_in-requires : goal.left_in-requires
left_in-requires c = omega arith

pub stretches-smaller : goal.stretches-smaller
stretches-smaller c = grind (arith, common_steps)
