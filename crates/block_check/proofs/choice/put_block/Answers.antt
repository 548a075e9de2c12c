use Rattle.std.proofs.Common.{arith}
use Rattle.std.proofs.lemmas.Grind.{common_steps}
use Rattle.std.proofs.Common.{◌≡◌, length, ap, sym, ◌∙◌, subst}
use Rattle.std.proofs.lemmas.List.FromFn.{length-map-range_with_len}
use Rattle.cells.specs.Places.{cell_count}
use Rattle.map_canvas.specs.Choices.{map_after}
use Rattle.map_canvas.proofs.Filling.{fits_small}
use Rattle.block_check.specs.Blocks.{FillsBlock, after_block, is_new_at}
use Rattle.block_check.proofs.Filling.{fills_block}
use Rattle.block_check.proofs.choice.put_block.Goals as goal

pub new_cells-requires-clause-small : goal.new_cells-requires-clause-small
new_cells-requires-clause-small c = fits_small c.args.canvas.now.map.size c.args.sample.now c.args.block.now.placement c.requires.stands.right.fits c.map-map.ensures.canvas.map.small

pub put_choice-requires-clause-choices : goal.put_choice-requires-clause-choices
put_choice-requires-clause-choices c =
    ap length (c.deref.ensures.value ∙ c.in_ok-choice.ensures {u = tt})
    ∙ length-map-range_with_len (is_new_at c.args.block.now) 0 (cell_count c.args.block.now.placement.rect.size)

pub returns-clause-filled : goal.returns-clause-filled
returns-clause-filled c =
    let m = c.args.canvas.now.map in
    let block = c.args.block.now in
    let left : c.put_choice.new.self.map ≡ after_block m block =
    c.put_choice.ensures.map ∙ ap (map_after m block.placement) (c.deref.ensures.value ∙ c.in_ok-choice.ensures {u = tt}) in
    subst (FillsBlock m block) (sym left) (fills_block m c.args.sample.now block c.map-map.ensures.canvas.map c.requires.stands.right)

pub new_cells-requires-clause-top : goal.new_cells-requires-clause-top
new_cells-requires-clause-top c = grind (arith, common_steps)

pub new_cells-requires-clause-left : goal.new_cells-requires-clause-left
new_cells-requires-clause-left c = grind (arith, common_steps)
