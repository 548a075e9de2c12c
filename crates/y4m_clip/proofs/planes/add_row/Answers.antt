use Rattle.std.proofs.Common.{arith}
use Rattle.std.proofs.lemmas.Grind.{common_steps}
use Rattle.std.proofs.Common.{◌≡◌, ◌+◌, ◌-◌, ◌*◌, ◌++◌, ◌∙◌, subst}
use Rattle.std.specs.Prelude.{OnOk}
use Rattle.y4m_clip.specs.Spaces.{cell_width, cell_height, cell_bytes, joined_to}
use Rattle.y4m_clip.specs.Clips.{span, pixels_of}
use Rattle.y4m_clip.proofs.Rows.{row_has}
use Rattle.y4m_clip.proofs.planes.add_row.Goals as goal

pub add_cells-requires : goal.add_cells-requires
add_cells-requires c =
    let planes = c.args.planes.now in
    let w = c.args.w in
    let n = c.args.n in
    let before = c.args.before in
    let kind = c.args.space in
    let wide = c.cell_width-width.ensures in
    let high = c.cell_height-height.ensures in
    let upper : c.span-upper.result.now ≡ span planes (pixels_of kind before) (cell_width kind * w) = c.span-upper.ensures ∙ (λ i. span planes (wide i * high i * before) (wide i * w)) in
    let lower : c.span-lower.result.now ≡ span planes (pixels_of kind before + cell_width kind * w * (cell_height kind - 1)) (cell_width kind * w)
    = c.span-lower.ensures ∙ (λ i. span planes (wide i * high i * before + wide i * w * (high i - 1)) (wide i * w)) in
    let blue : c.span-blue.result.now ≡ span planes (pixels_of kind n + before) w = c.span-blue.ensures ∙ (λ i. span planes (wide i * high i * n + before) w) in
    let red : c.span-red.result.now ≡ span planes (pixels_of kind n + n + before) w = c.span-red.ensures ∙ (λ i. span planes (wide i * high i * n + n + before) w) in
    row_has kind w n before planes c.span-upper.result.now c.span-lower.result.now c.span-blue.result.now c.span-red.result.now c.requires.planes c.requires.inside upper lower blue red

pub returns : goal.returns
returns c =
    let planes = c.args.planes.now in
    let w = c.args.w in
    let n = c.args.n in
    let before = c.args.before in
    let kind = c.args.space in
    let wide = c.cell_width-width.ensures in
    let high = c.cell_height-height.ensures in
    let upper : c.span-upper.result.now ≡ span planes (pixels_of kind before) (cell_width kind * w) = c.span-upper.ensures ∙ (λ i. span planes (wide i * high i * before) (wide i * w)) in
    let lower : c.span-lower.result.now ≡ span planes (pixels_of kind before + cell_width kind * w * (cell_height kind - 1)) (cell_width kind * w)
    = c.span-lower.ensures ∙ (λ i. span planes (wide i * high i * before + wide i * w * (high i - 1)) (wide i * w)) in
    let blue : c.span-blue.result.now ≡ span planes (pixels_of kind n + before) w = c.span-blue.ensures ∙ (λ i. span planes (wide i * high i * n + before) w) in
    let red : c.span-red.result.now ≡ span planes (pixels_of kind n + n + before) w = c.span-red.ensures ∙ (λ i. span planes (wide i * high i * n + n + before) w) in
    subst (λ cells. OnOk c.add_cells.result (c.add_cells.new.cells.items ≡ c.args.cells.now.items ++ cells)) (λ i. joined_to w (cell_bytes kind (upper i) (lower i) (blue i) (red i))) c.add_cells.ensures

pub overflow_add-start : goal.overflow_add-start
overflow_add-start c = grind (arith, common_steps)

pub overflow_add-chroma-3 : goal.overflow_add-chroma-3
overflow_add-chroma-3 c = grind (arith, common_steps)

pub overflow_add-chroma : goal.overflow_add-chroma
overflow_add-chroma c = grind (arith, common_steps)

pub overflow_add-chroma-2 : goal.overflow_add-chroma-2
overflow_add-chroma-2 c = grind (arith, common_steps)

pub overflow_mul-width-3 : goal.overflow_mul-width-3
overflow_mul-width-3 c = grind (arith, common_steps)

pub overflow_mul-chroma-2 : goal.overflow_mul-chroma-2
overflow_mul-chroma-2 c = grind (arith, common_steps)

pub overflow_mul-start-2 : goal.overflow_mul-start-2
overflow_mul-start-2 c = grind (arith, common_steps)

pub overflow_sub-height : goal.overflow_sub-height
overflow_sub-height c = grind (arith, common_steps)

pub overflow_mul-width-4 : goal.overflow_mul-width-4
overflow_mul-width-4 c = grind (arith, common_steps)

pub overflow_mul-width-2 : goal.overflow_mul-width-2
overflow_mul-width-2 c = grind (arith, common_steps)
