use Rattle.std.proofs.Common.{◌≡◌, ◌≤◌, ◌+◌, drop, length, ap, sym, subst, ◌∙◌, arith}
use Rattle.cells.specs.Boxes.{HasCells}
use Rattle.std.proofs.lemmas.List.{drop_all}
use Rattle.patch_picks.specs.Fitting.{HasRoomInEach}
use Rattle.patch_picks.specs.Modes.{least_of, least_part}
use Rattle.patch_picks.proofs.Stocks.{least_cells, least_room, least_step}
use Rattle.patch_picks.proofs.mode.least_part.Goals as goal

is_least : (c : goal.After-parts) → c.parts.least ≡ least_part c.args.sample.now
is_least c =
    let end : length c.parts_of-sizes.result ≤ c.parts.n = omega arith in
    ap (least_of c.parts.least) (sym (drop_all c.parts.n c.parts_of-sizes.result end)) ∙ c.parts.invariant

pub parts-preserved : goal.parts-preserved
parts-preserved c =
    (λ k. least_of (record { w = c.min.ensures k; h = c.min-in-parts.ensures k; f = c.min-in-parts-2.ensures k }) (drop (c.parts.n + 1) c.parts_of-sizes.result))
    ∙ least_step c.parts.least c.part_after-part.result c.parts.n c.parts_of-sizes.result c.part_after-part.ensures.size ∙ c.parts.invariant

pub returns-clause-least : goal.returns-clause-least
returns-clause-least c = is_least c

pub returns-clause-some : goal.returns-clause-some
returns-clause-some c = subst HasCells (sym (is_least c)) (least_cells c.args.sample.now c.samples-sample.ensures.volume)

pub returns-clause-parts : goal.returns-clause-parts
returns-clause-parts c = subst (HasRoomInEach c.args.sample.now) (sym (is_least c)) (least_room c.args.sample.now)
