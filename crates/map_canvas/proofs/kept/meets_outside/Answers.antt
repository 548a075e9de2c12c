use Rattle.std.proofs.Common.{◌∙◌, sym}
use mathlib.Core.Bool.{false≢true}
use Rattle.cells.specs.declared.place.Axis.TheVariants.{X, Y, F}
use Rattle.map_canvas.proofs.Keeping.{meets_of, meets_third}
use Rattle.map_canvas.proofs.kept.meets_outside.Goals as goal
use Rattle.map_canvas.proofs.kept.meets_outside.Goals.{then-meets_along, else-meets_along}

pub returns-then-meets_along-2 : goal.returns-then-meets_along-2
returns-then-meets_along-2 c =
    let m = c.args.map.now in
    let rect = c.args.rect.now in
    let p = c.args.p in (
      λ found. elim c.if-meets_along.branch [
        | then-meets_along w ↦ meets_of m rect p X (c.meets_along.ensures.0 w.if-meets_along.true)
        | else-meets_along w ↦ meets_of m rect p Y (w.meets_along-else-meets_along.ensures.0 (sym w.value-is ∙ c.if-meets_along-2.true))
      ],
      λ meets. c.if-meets_along-2.true,
    )

pub returns-else-meets_along-2 : goal.returns-else-meets_along-2
returns-else-meets_along-2 c =
    let m = c.args.map.now in
    let rect = c.args.rect.now in
    let p = c.args.p in
    let third = c.meets_along-else-meets_along-2 in (
      λ found. meets_of m rect p F (third.ensures.0 found),
      λ meets. elim c.if-meets_along.branch [
        | then-meets_along w ↦ absurd (false≢true (sym c.if-meets_along-2.false ∙ w.value-is ∙ w.if-meets_along.true))
        | else-meets_along w ↦
            meets_third m rect p c.meets_along.result w.meets_along-else-meets_along.result third.result c.meets_along.ensures.1 w.meets_along-else-meets_along.ensures.1 third.ensures.1
            w.if-meets_along.false (sym w.value-is ∙ c.if-meets_along-2.false) meets
      ],
    )
