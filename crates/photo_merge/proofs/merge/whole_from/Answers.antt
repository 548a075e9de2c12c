use Rattle.std.proofs.Common.{ap, sym, ◌∙◌, subst}
use Rattle.cells.specs.Places.{spot}
use Rattle.cells.specs.SizeLists.{IsInPart, stock_place}
use Rattle.map_canvas.specs.Choices.{Fits}
use Rattle.photo_merge.proofs.Wholes.{origin_inside, whole_fits}
use Rattle.photo_merge.proofs.merge.whole_from.Goals as goal

pub stock-requires-clause-inside : goal.stock-requires-clause-inside
stock-requires-clause-inside c =
    subst (λ sizes. IsInPart sizes c.args.number (spot 0 0 0)) (sym c.sizes.ensures)
    (origin_inside c.args.pictures.now c.samples-samples.ensures.volume c.requires.one_size c.args.number c.requires.from c.requires.to)

pub returns-clause-placement : goal.returns-clause-placement
returns-clause-placement c =
    let from = c.stock.ensures ∙ ap (λ sizes. stock_place sizes c.args.number (spot 0 0 0)) c.sizes.ensures in
    λ k. record { rect = record { corner = spot 0 0 0; size = c.args.size }; from = from k }

pub returns-clause-fits : goal.returns-clause-fits
returns-clause-fits c =
    subst (Fits c.args.size c.args.pictures.now) (sym (returns-clause-placement c))
    (whole_fits c.args.pictures.now c.samples-samples.ensures.volume c.requires.one_size c.args.number c.requires.from c.requires.to c.args.size c.requires.size)
