use Rattle.std.proofs.Common.{arith}
use Rattle.std.proofs.lemmas.Grind.{common_steps}
use Rattle.std.proofs.Common.{◌≡◌, ◌∙◌, ap, sym, subst, get_or, true, false}
use Rattle.std.specs.Prelude.{Some}
use Rattle.cells.specs.Places.{SumFits, plus}
use Rattle.map_canvas.specs.Maps.{IsSource, map_at}
use Rattle.costs.proofs.Choosing.{step_fits, step_near, within_new, within_old}
use Rattle.costs.proofs.after.source_at.Goals as goal

pub plus-requires : goal.plus-requires
plus-requires c =
    let after = c.args.after.now in
    let placement = after.placement.now in
    let at = c.args.at in
    subst (SumFits placement.from) (sym c.place.ensures)
    (step_fits after.map.now.size after.sample.now placement at.x at.y at.f after.fits c.samples-sample.ensures.volume c.requires.counts)

pub returns-then-is_new-clause-source : goal.returns-then-is_new-clause-source
returns-then-is_new-clause-source c =
    let after = c.args.after.now in
    let placement = after.placement.now in
    let at = c.args.at in
    let new = subst (λ n. get_or after.choice.now n false ≡ true) c.requires.index (sym c.is_new.ensures ∙ c.if-is_new.true) in
    ap Some (c.plus.ensures ∙ ap (plus placement.from) c.place.ensures)
    ∙ sym (within_new after.map.now placement after.choice.now at.x at.y at.f c.requires.counts new)

pub returns-then-is_new-clause-near : goal.returns-then-is_new-clause-near
returns-then-is_new-clause-near c =
    let after = c.args.after.now in
    let placement = after.placement.now in
    let at = c.args.at in
    subst IsSource (sym (c.plus.ensures ∙ ap (plus placement.from) c.place.ensures))
    (step_near after.map.now.size after.sample.now placement at.x at.y at.f after.fits c.samples-sample.ensures.volume c.requires.counts)

pub returns-else-is_new-clause-source : goal.returns-else-is_new-clause-source
returns-else-is_new-clause-source c =
    let after = c.args.after.now in
    let at = c.args.at in
    let old = subst (λ n. get_or after.choice.now n false ≡ false) c.requires.index (sym c.is_new.ensures ∙ c.if-is_new.false) in
    c.at.ensures.named ∙ ap (map_at after.map.now) c.cell.ensures
    ∙ sym (within_old after.map.now after.placement.now after.choice.now at.x at.y at.f c.requires.counts old)

pub place-requires : goal.place-requires
place-requires c = grind (arith, common_steps)

pub cell-requires-clause-inside : goal.cell-requires-clause-inside
cell-requires-clause-inside c = grind (arith, common_steps)
