use Rattle.std.proofs.Common.{◌≤◌, sym, subst}
use Rattle.cells.specs.Places.{IsSmall, cell_count}
use Rattle.cost_windows.specs.Slides.{HoldsBlock, block_size}
use Rattle.cost_windows.proofs.Reaches.{reach_is}
use Rattle.cost_windows.proofs.block.Block.reach.Goals as goal

pub returns-clause-reach : goal.returns-clause-reach
returns-clause-reach c = λ k. record { x = c.reach.ensures k; y = c.reach-2.ensures k; f = c.reach-3.ensures k }

pub returns-clause-inside : goal.returns-clause-inside
returns-clause-inside c =
    let is = reach_is c.args.output c.args.window c.args.self.now c.requires.small c.requires.window c.requires.some c.requires.inside in
    subst (HoldsBlock c.args.output) (λ k. record { x = sym c.reach.ensures k; y = sym c.reach-2.ensures k; f = sym c.reach-3.ensures k }) is.inside

pub returns-clause-small : goal.returns-clause-small
returns-clause-small c =
    let is = reach_is c.args.output c.args.window c.args.self.now c.requires.small c.requires.window c.requires.some c.requires.inside in
    subst (λ block. IsSmall (block_size block)) (λ k. record { x = sym c.reach.ensures k; y = sym c.reach-2.ensures k; f = sym c.reach-3.ensures k }) is.small

pub returns-clause-count : goal.returns-clause-count
returns-clause-count c =
    let is = reach_is c.args.output c.args.window c.args.self.now c.requires.small c.requires.window c.requires.some c.requires.inside in
    subst (λ block. cell_count (block_size block) ≤ cell_count c.args.output) (λ k. record { x = sym c.reach.ensures k; y = sym c.reach-2.ensures k; f = sym c.reach-3.ensures k }) is.count
