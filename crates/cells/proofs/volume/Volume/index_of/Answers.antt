use Rattle.std.proofs.Common.{arith}
use Rattle.std.proofs.lemmas.Grind.{common_steps}
use Rattle.std.proofs.Common.{◌<◌, ◌∙◌, sym, ap, subst}
use Rattle.cells.specs.Parts.{count_from}
use Rattle.cells.specs.Cells.{Cells, index_of}
use Rattle.cells.proofs.PartLaws.{small_of, index_front, index_from_below}
use Rattle.cells.proofs.volume.Volume.index_of.Goals as goal

pub index_of-requires : goal.index_of-requires
index_of-requires c = small_of c.self.inside.size c.self.inside.more c.self.invariant.parts

pub returns-in-Some-clause-index : goal.returns-in-Some-clause-index
returns-in-Some-clause-index c =
    sym (index_front c.self.inside.size c.self.inside.more c.args.at c.in-Some.i (sym c.in-Some.ensures.index))
    ∙ ap (λ (v : Cells). index_of v c.args.at) c.self.view_is

pub returns-in-Some-clause-below : goal.returns-in-Some-clause-below
returns-in-Some-clause-below c =
    subst (λ (v : Cells). c.in-Some.i < count_from v.size v.more) c.self.view_is
    (index_from_below c.self.inside.size c.self.inside.more c.args.at c.in-Some.i
    (index_front c.self.inside.size c.self.inside.more c.args.at c.in-Some.i (sym c.in-Some.ensures.index)))

pub index_along-requires : goal.index_along-requires
index_along-requires c = grind (arith, common_steps)

pub returns-in-None-clause-below : goal.returns-in-None-clause-below
returns-in-None-clause-below c = grind (arith, common_steps)
