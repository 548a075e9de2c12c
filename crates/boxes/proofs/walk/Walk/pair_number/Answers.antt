use Rattle.std.proofs.Common.{◌≤◌, arith}
use Rattle.std.proofs.lemmas.Grind.{common_steps}
use Rattle.boxes.specs.Walks.{most_pairs}
use Rattle.boxes.proofs.PairNumbers.{walk_small}
use Rattle.boxes.proofs.walk.Walk.pair_number.Goals as goal

pub overflow_add-result : goal.overflow_add-result
overflow_add-result c = let few : c.args.self.before ≤ most_pairs = walk_small c.args.size c.args.self c.requires.small c.requires.inside in grind (arith, common_steps)

pub overflow_add-result-in-F : goal.overflow_add-result-in-F
overflow_add-result-in-F c = let few : c.args.self.before ≤ most_pairs = walk_small c.args.size c.args.self c.requires.small c.requires.inside in grind (arith, common_steps)

pub overflow_add-result-in-F-2 : goal.overflow_add-result-in-F-2
overflow_add-result-in-F-2 c = let few : c.args.self.before ≤ most_pairs = walk_small c.args.size c.args.self c.requires.small c.requires.inside in grind (arith, common_steps)

pub returns-in-F : goal.returns-in-F
returns-in-F c = grind (arith, common_steps)

pub returns-in-Y : goal.returns-in-Y
returns-in-Y c = grind (arith, common_steps)
