use Rattle.std.proofs.lemmas.Grind.{common_steps}
use Rattle.std.proofs.Common.{◌≤◌, ℕ, length, arith}
use Rattle.std.proofs.Math.Nat.{mul-le-mul}
use Rattle.std.proofs.lemmas.List.{length-take}
use Rattle.limits.specs.declared.bounds.TheConstants.{GREATEST_AXIS}
use Rattle.cells.proofs.PartBoxes.{held_small}
use Rattle.match_error.proofs.gathered.FilledRuns.run_sum.Goals as goal

pub ssd-requires-clause-within_limit : goal.ssd-requires-clause-within_limit
ssd-requires-clause-within_limit c =
    let run = c.requires.run in
    let small = held_small c.args.sample.now c.args.placement.now.from c.args.placement.now.rect.size c.requires.volume c.requires.some c.requires.sources in
    let few : c.args.run.now.w ≤ GREATEST_AXIS = omega (arith, run.row.columns_in, small.axes.w) in
    let long : length c.new_bytes-new.result.now ≤ 24576 = omega (arith, c.new_bytes-new.ensures.len, mul-le-mul c.requires.volume.samples.1 few) in
    omega (arith, long, length-take {A = ℕ})

pub ssd-requires-clause-same_length : goal.ssd-requires-clause-same_length
ssd-requires-clause-same_length c = omega arith

pub returns : goal.returns
returns c = grind (arith, common_steps)
