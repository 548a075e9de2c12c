use Rattle.std.proofs.Common.{arith}
use Rattle.std.proofs.lemmas.Int.{to_z-of_z}
use Rattle.costs.specs.Enclosures.{IsEnclosedAlong}
use Rattle.costs.proofs.kept.is_enclosed.Goals as goal

pub returns : goal.returns
returns c is =
    let output = c.args.output in
    let rect = c.args.rect.now in
    let at = c.args.at in
    let x : IsEnclosedAlong output.w rect.corner.x rect.size.w at.x = grind (arith, to_z-of_z, c.is_enclosed_along.ensures c.if-not-is_enclosed_along.false) in
    let y : IsEnclosedAlong output.h rect.corner.y rect.size.h at.y = grind (arith, to_z-of_z, c.is_enclosed_along-2.ensures c.if-not-is_enclosed_along-2.false) in
    let f : IsEnclosedAlong output.f rect.corner.f rect.size.f at.f = grind (arith, to_z-of_z, c.is_enclosed_along-3.ensures is) in
    record { on_x = x; on_y = y; on_f = f }
