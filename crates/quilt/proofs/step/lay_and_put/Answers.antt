use Rattle.std.proofs.Common.{◌⊎◌, ap, subst, ◌∙◌}
use Rattle.std.specs.Prelude.{◌↔◌}
use Rattle.cells.specs.Boxes.{IsInBox}
use Rattle.map_canvas.specs.declared.canvas.Placement.{Placement}
use Rattle.map_canvas.specs.Maps.{IsFilled, SourceMap}
use Rattle.quilt.proofs.step.lay_and_put.Goals as goal

pub returns-clause-laid : goal.returns-clause-laid
returns-clause-laid c =
    let m = c.args.canvas.now.map in
    let after = c.put_block.new.canvas.map in
    c.next_block_shares_strips.ensures.more after (ap (λ (m : SourceMap). m.size) c.in_ok-put_block.ensures.map)
    (λ p inside. subst (λ (placement : Placement). IsFilled after p ↔ (IsFilled m p ⊎ IsInBox placement.rect p)) c.in_ok-block.ensures.block.placed (c.in_ok-put_block.ensures.filled p))

pub returns-clause-pictures : goal.returns-clause-pictures
returns-clause-pictures c = record {
  over = c.put_block.ensures.over;
  samples = c.requires.pictures.samples;
  part = c.requires.pictures.part;
  output_frame = ap (λ (m : SourceMap). m.size.f) c.in_ok-put_block.ensures.map ∙ c.requires.pictures.output_frame;
  sample_frame = c.requires.pictures.sample_frame;
}
