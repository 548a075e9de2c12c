use Rattle.std.proofs.Common.{arith}
use Rattle.std.proofs.lemmas.Grind.{common_steps}
use Rattle.std.proofs.Common.{◌<◌, ◌*◌, ◌^◌, subst, sym}
use Rattle.std.specs.Prelude.{All}
use Rattle.std.proofs.lemmas.List.Elements.{All-push}
use Rattle.search_squares.specs.Blocks.{block_bytes}
use Rattle.search_squares.specs.Sums.{AreBlockSums, AreCellSums}
use Rattle.search_squares.proofs.levels.SampleSums.add_part.Goals as goal

pub returns : goal.returns
returns c =
    subst (All (AreBlockSums c.args.sample.now)) (sym c.in_ok-push.ensures.items)
    (All-push (AreBlockSums c.args.sample.now) c.add_level-3.new.self.levels.items _ c.in_ok-add_level-3.ensures c.in_ok-cells.ensures.sums)

pub add_level-requires-clause-cells : goal.add_level-requires-clause-cells
add_level-requires-clause-cells c = λ _. c.in_ok-cells.ensures.cells

pub add_level-requires-2-clause-cells : goal.add_level-requires-2-clause-cells
add_level-requires-2-clause-cells c = λ some. subst (λ rect. AreCellSums c.args.sample.now rect c.in_ok-cells.cells.sums.items) (sym (c.box_of_all-all.ensures some)) c.in_ok-cells.ensures.cells

pub add_level-requires-3-clause-cells : goal.add_level-requires-3-clause-cells
add_level-requires-3-clause-cells c = λ some. subst (λ rect. AreCellSums c.args.sample.now rect c.in_ok-cells.cells.sums.items) (sym (c.box_of_all-all.ensures some)) c.in_ok-cells.ensures.cells

pub add_level-requires-clause-few : goal.add_level-requires-clause-few
add_level-requires-clause-few c = subst (λ k. 255 * block_bytes c.coarse_side-side.result k < 2 ^ 16) c.samples.ensures.samples c.coarse_side-side.ensures.few

pub add_level-requires-3-clause-few : goal.add_level-requires-3-clause-few
add_level-requires-3-clause-few c = grind (arith, common_steps)

pub of_cells-requires-clause-some : goal.of_cells-requires-clause-some
of_cells-requires-clause-some c = grind (arith, common_steps)

pub add_level-requires-2-clause-few : goal.add_level-requires-2-clause-few
add_level-requires-2-clause-few c = grind (arith, common_steps)

pub add_level-requires-clause-some : goal.add_level-requires-clause-some
add_level-requires-clause-some c = grind (arith, common_steps)

pub of_cells-requires-clause-inside : goal.of_cells-requires-clause-inside
of_cells-requires-clause-inside c = grind (arith, common_steps)

pub coarse_side-side-requires : goal.coarse_side-side-requires
coarse_side-side-requires c = grind (arith, common_steps)
