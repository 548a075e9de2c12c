use Rattle.std.proofs.Common.{subst, sym}
use Rattle.std.specs.Prelude.{All}
use Rattle.std.proofs.lemmas.List.Elements.{All-push}
use Rattle.search_squares.specs.Blocks.{AreBoxBlocks}
use Rattle.search_squares.proofs.levels.BoxLevels.add_level.Goals as goal

pub returns : goal.returns
returns c =
    subst (All (AreBoxBlocks c.args.canvas.now c.args.rect.now)) (sym c.in_ok-push.ensures.items)
    (All-push (AreBoxBlocks c.args.canvas.now c.args.rect.now) c.args.self.now.levels.items _ c.requires.levels (c.put_far_first.ensures c.args.canvas.now c.args.rect.now c.in_ok-blocks.ensures.blocks))
