use Rattle.std.proofs.Common.{◌+◌, ◌-◌, arith, refl}
use Rattle.patch_place.specs.declared.spots.Spot.{Spot}
use Rattle.patch_place.proofs.Walking.{spot_after, spot_down, spot_further, spot_over}
use Rattle.patch_place.proofs.spots.Spot.after.Goals as goal

pub returns-then-x-n : goal.returns-then-x-n
returns-then-x-n c = λ frames i. spot_further c.args.size frames i c.args.n c.args.self _ (omega arith) refl refl refl

pub returns-then-y-size : goal.returns-then-y-size
returns-then-y-size c = λ frames i.
    let last : Spot = record { x = c.args.self.x + (c.args.n - 1); y = c.args.self.y; f = c.args.self.f } in
    spot_after c.args.size frames i c.args.n (c.args.n - 1) c.args.self last _ (omega (arith, c.requires.some)) (omega (arith, c.requires.some, c.requires.row)) refl refl refl
    (λ frames i. spot_down c.args.size frames i last _ c.requires.rows.0 c.requires.rows.1 (omega (arith, c.requires.some, c.if-x-n.false)) (omega arith) refl refl refl)

pub returns : goal.returns
returns c = λ frames i.
    let last : Spot = record { x = c.args.self.x + (c.args.n - 1); y = c.args.self.y; f = c.args.self.f } in
    spot_after c.args.size frames i c.args.n (c.args.n - 1) c.args.self last _ (omega (arith, c.requires.some)) (omega (arith, c.requires.some, c.requires.row)) refl refl refl
    (λ frames i. spot_over c.args.size frames i last _ c.requires.rows.0 c.requires.rows.1 (omega (arith, c.requires.some, c.if-x-n.false)) (omega arith) refl refl refl)
