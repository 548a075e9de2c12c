use Rattle.std.proofs.Common.{◌≡◌, arith, w32, to_z, of_z}
use Rattle.std.proofs.lemmas.Int.{to_z-of_z}
use Rattle.std.specs.Prelude.{pos, ◌+ℤ◌}
use Rattle.costs.specs.Intersections.{IsRunOn}
use Rattle.costs.proofs.intersection.intersection.Goals as goal

pub returns : goal.returns
returns c =
    let size = c.args.size in
    let rect = c.args.rect.now in
    let columns : IsRunOn size.w rect.corner.x rect.size.w c.on_axis-x.result.skipped c.on_axis-x.result.taken = record {
      room = c.on_axis-x.ensures.room;
      inside = λ k le lt. grind (arith, to_z-of_z, c.on_axis-x.ensures.inside k le lt);
      outside = λ k lt out. grind (arith, to_z-of_z, c.on_axis-x.ensures.outside k lt out);
    } in
    let rows : IsRunOn size.h rect.corner.y rect.size.h c.on_axis-y.result.skipped c.on_axis-y.result.taken = record {
      room = c.on_axis-y.ensures.room;
      inside = λ k le lt. grind (arith, to_z-of_z, c.on_axis-y.ensures.inside k le lt);
      outside = λ k lt out. grind (arith, to_z-of_z, c.on_axis-y.ensures.outside k lt out);
    } in
    let frames : IsRunOn size.f rect.corner.f rect.size.f c.on_axis-f.result.skipped c.on_axis-f.result.taken = record {
      room = c.on_axis-f.ensures.room;
      inside = λ k le lt. grind (arith, to_z-of_z, c.on_axis-f.ensures.inside k le lt);
      outside = λ k lt out. grind (arith, to_z-of_z, c.on_axis-f.ensures.outside k lt out);
    } in
    let x : to_z w32 (of_z w32 c.from_corner.result) ≡ rect.corner.x +ℤ pos c.on_axis-x.result.skipped = grind (arith, to_z-of_z, c.from_corner.ensures) in
    let y : to_z w32 (of_z w32 c.from_corner-2.result) ≡ rect.corner.y +ℤ pos c.on_axis-y.result.skipped = grind (arith, to_z-of_z, c.from_corner-2.ensures) in
    let f : to_z w32 (of_z w32 c.from_corner-3.result) ≡ rect.corner.f +ℤ pos c.on_axis-f.result.skipped = grind (arith, to_z-of_z, c.from_corner-3.ensures) in
    record {
      x = c.on_axis-x.result.skipped;
      y = c.on_axis-y.result.skipped;
      f = c.on_axis-f.result.skipped;
      columns = columns;
      rows = rows;
      frames = frames;
      corner = λ k. record { x = x k; y = y k; f = f k };
    }
