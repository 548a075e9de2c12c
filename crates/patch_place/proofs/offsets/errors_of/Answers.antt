use Rattle.std.proofs.lemmas.Grind.{common_steps}
use Rattle.std.proofs.Common.{◌≡◌, ◌∙◌, suc, ap, refl, subst, to_z, arith}
use Rattle.std.proofs.Math.Facts.{to_z_pos}
use Rattle.std.proofs.lemmas.Int.{ints}
use Rattle.std.specs.Int.{w32}
use Rattle.std.specs.Prelude.{pos, ◌+ℤ◌, Some, slice_get}
use Rattle.cells.specs.Boxes.{HoldsBox}
use Rattle.cells.specs.Cells.{Holds, sizes_of}
use Rattle.cells.specs.Places.{spot}
use Rattle.cells.specs.SizeLists.{frames_to_part}
use Rattle.cells.proofs.BoxLaws.{box_small}
use Rattle.patch_picks.proofs.Stocks.{part_held, stock_moved}
use Rattle.patch_place.proofs.offsets.errors_of.Goals as goal

pub gather-requires-clause-held : goal.gather-requires-clause-held
gather-requires-clause-held c =
    let n = c.args.n in
    let part = c.part_after-size.result in
    let met = c.met_part-met.result in
    let within = c.met_part-met.ensures.within in
    let sample = c.args.sample.now in
    let at : slice_get (sizes_of sample) n ≡ Some part = subst (λ sizes. slice_get sizes n ≡ Some part) c.parts_of-sizes.ensures.sizes c.part_after-size.ensures.size in
    let whole : HoldsBox part (spot 0 0 0) met = record {
      x = record { from = omega (arith, ints); to = omega (arith, ints, within.0) };
      y = record { from = omega (arith, ints); to = omega (arith, ints, within.1) };
      f = record { from = omega (arith, ints); to = omega (arith, ints, within.2) };
    } in
    let frames : c.frames_before-f.result ≡ frames_to_part (sizes_of sample) n = c.frames_before-f.ensures.frames ∙ ap (λ sizes. frames_to_part sizes n) c.parts_of-sizes.ensures.sizes in
    let signed : to_z w32 c.frames_before-f.result ≡ pos c.frames_before-f.result = to_z_pos w32 (omega (arith, c.frames_before-f.ensures.few)) in
    let f : pos 0 +ℤ pos (frames_to_part (sizes_of sample) n) ≡ to_z w32 c.frames_before-f.result = omega (arith, ints, frames, signed) in
    subst (λ corner. Holds sample corner met) (stock_moved (sizes_of sample) (suc n) n (spot 0 0 0) refl ∙ (λ k. record { x = pos 0; y = pos 0; f = f k }))
    (part_held sample (suc n) n part (spot 0 0 0) met refl at whole)

pub gather-requires-clause-inside : goal.gather-requires-clause-inside
gather-requires-clause-inside c = grind (arith, common_steps)

pub frames_before-f-requires-clause-below : goal.frames_before-f-requires-clause-below
frames_before-f-requires-clause-below c = grind (arith, common_steps)

pub gather-requires-clause-rect : goal.gather-requires-clause-rect
gather-requires-clause-rect c = c.in-Some.ensures.rect

pub layout_for-requires-clause-rect : goal.layout_for-requires-clause-rect
layout_for-requires-clause-rect c = λ some. (box_small c.args.canvas.now.map.size c.args.around.now.rect.corner c.args.around.now.rect.size c.map-map.ensures.canvas.map.small some c.requires.held).axes

pub part_after-size-requires-clause-below : goal.part_after-size-requires-clause-below
part_after-size-requires-clause-below c = grind (arith, common_steps)

pub gather-requires-clause-over : goal.gather-requires-clause-over
gather-requires-clause-over c = grind (arith, common_steps)
