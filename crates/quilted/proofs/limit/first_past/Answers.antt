use Rattle.std.proofs.Common.{◌≡◌, ◌+◌, ◌<◌, ◌≤◌, ap, ◌∙◌, subst}
use Rattle.cells.specs.Places.{cell_count}
use Rattle.boxes.specs.declared.spans.Span.{Span}
use Rattle.block_strips.specs.Blocks.{block_on, box_of}
use Rattle.quilted.proofs.Counting.{CanBeCounted, all_counted, counted_past, one_more}
use Rattle.quilted.proofs.limit.first_past.Goals as goal

pub returns-then-cells-gt-MOST_BOX_CELLS : goal.returns-then-cells-gt-MOST_BOX_CELLS
returns-then-cells-gt-MOST_BOX_CELLS c =
    let can : CanBeCounted c.args.plan.now c.args.output c.args.sample = record { block = c.requires.block; axes = c.requires.output; frame = c.requires.frame; some = c.requires.sample } in
    let cells = c.block_cells-cells.ensures.cells ∙ (λ i. cell_count (box_of (c.block_on-x.ensures.span i) (c.block_on-y.ensures.span i)).size) in
    counted_past c.args.plan.now c.args.output c.args.sample can c.counting.at.x c.counting.at.y c.counting.cells c.counting.invariant c.counting-test.true
    (c.counting.cells + c.block_cells-cells.result) (ap (λ n. c.counting.cells + n) cells) c.if-cells-gt-MOST_BOX_CELLS.true

pub counting-preserved : goal.counting-preserved
counting-preserved c =
    let can : CanBeCounted c.args.plan.now c.args.output c.args.sample = record { block = c.requires.block; axes = c.requires.output; frame = c.requires.frame; some = c.requires.sample } in
    let cells = c.block_cells-cells.ensures.cells ∙ (λ i. cell_count (box_of (c.block_on-x.ensures.span i) (c.block_on-y.ensures.span i)).size) in
    let output = c.args.output in
    let x = c.cell_after-at.result.x in
    let y = c.cell_after-at.result.y in
    one_more c.args.plan.now output c.args.sample can c.counting.at.x c.counting.at.y c.counting.cells c.counting.invariant c.counting-test.true
    (c.counting.cells + c.block_cells-cells.result) (ap (λ n. c.counting.cells + n) cells) c.if-cells-gt-MOST_BOX_CELLS.false x y
    (subst (λ (s : Span). s.corner + s.len < output.w → (x ≡ s.corner + s.len) × (y ≡ c.counting.at.y)) c.block_on-x.ensures.span c.cell_after-at.ensures.row)
    (subst (λ (t : Span). output.w ≤ (block_on output.w c.args.sample.w c.args.plan.now c.counting.at.x).corner + (block_on output.w c.args.sample.w c.args.plan.now c.counting.at.x).len → (x ≡ 0) × (y ≡ t.corner + t.len)) c.block_on-y.ensures.span
    (subst (λ (s : Span). output.w ≤ s.corner + s.len → (x ≡ 0) × (y ≡ c.block_on-y.result.corner + c.block_on-y.result.len)) c.block_on-x.ensures.span c.cell_after-at.ensures.below))

pub returns : goal.returns
returns c =
    let can : CanBeCounted c.args.plan.now c.args.output c.args.sample = record { block = c.requires.block; axes = c.requires.output; frame = c.requires.frame; some = c.requires.sample } in
    all_counted c.args.plan.now c.args.output c.args.sample can c.counting.at.x c.counting.at.y c.counting.cells c.counting.invariant c.counting-test.false
