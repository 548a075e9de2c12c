use Rattle.std.proofs.Common.{◌+◌, ◌≤◌, sym, ◌∙◌, arith}
use Rattle.std.proofs.lemmas.Grind.{common_steps}
use Rattle.boxes.specs.Walks.{most_pairs}
use Rattle.boxes.proofs.PairNumbers.{pairs_on, walk_small}
use Rattle.boxes.proofs.walk.Walk.next.Goals as goal

pub returns : goal.returns
returns c = λ i here.
    let size = c.args.size in
    let at = c.args.self.at in
    record {
      at = c.next.ensures i here.at;
      before = (λ k. here.before k + (c.from.ensures ∙ c.pairs_from.ensures) k) ∙ sym (pairs_on size i at.x at.y at.f here.at);
    }

pub overflow_add-result : goal.overflow_add-result
overflow_add-result c = let few : c.args.self.before ≤ most_pairs = walk_small c.args.size c.args.self c.requires.small c.requires.inside in grind (arith, common_steps)
