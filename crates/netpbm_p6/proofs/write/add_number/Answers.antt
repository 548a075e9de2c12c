use Rattle.std.proofs.Common.{arith}
use Rattle.std.proofs.lemmas.Grind.{common_steps}
use Rattle.std.proofs.Common.{◌∙◌, decimal}
use Rattle.std.proofs.lemmas.Result.{on_ok_weaker, on_err_weaker}
use Rattle.shelf_traits.specs.Files.{Changes}
use Rattle.netpbm_p6.proofs.Writing.{Adds, AddsPart, one_added_part, two_added, two_added_part, on_err}
use Rattle.netpbm_p6.proofs.write.add_number.Goals as goal

pub returns-in_err-add-clause-part : goal.returns-in_err-add-clause-part
returns-in_err-add-clause-part g c =
    on_err _ _
    (one_added_part c.args.name.now c.as_bytes.result.now (decimal c.args.number) c.args.end.now (g.S.Shelf.state c.args.shelf.now) (g.S.Shelf.state c.add.new.self) (c.as_bytes.ensures.value ∙ c.format.ensures.text)
    c.in_err-add.ensures.part)

pub returns-clause-added : goal.returns-clause-added
returns-clause-added g c =
    on_ok_weaker {P = Changes (g.S.Shelf.state c.add.new.self) (g.S.Shelf.state c.add-2.new.self) (Adds c.args.name.now c.args.end.now)} _
    (two_added c.args.name.now c.as_bytes.result.now (decimal c.args.number) c.args.end.now (g.S.Shelf.state c.args.shelf.now) (g.S.Shelf.state c.add.new.self) (g.S.Shelf.state c.add-2.new.self)
    (c.as_bytes.ensures.value ∙ c.format.ensures.text) c.in_ok-add.ensures.added)
    c.add-2.ensures.added

pub returns-clause-part : goal.returns-clause-part
returns-clause-part g c =
    on_err_weaker {P = Changes (g.S.Shelf.state c.add.new.self) (g.S.Shelf.state c.add-2.new.self) (AddsPart c.args.name.now c.args.end.now)} _
    (two_added_part c.args.name.now c.as_bytes.result.now (decimal c.args.number) c.args.end.now (g.S.Shelf.state c.args.shelf.now) (g.S.Shelf.state c.add.new.self) (g.S.Shelf.state c.add-2.new.self)
    (c.as_bytes.ensures.value ∙ c.format.ensures.text) c.in_ok-add.ensures.added)
    c.add-2.ensures.part

pub returns-clause-writes : goal.returns-clause-writes
returns-clause-writes g c = grind (arith, common_steps)

pub returns-clause-failed : goal.returns-clause-failed
returns-clause-failed g c = grind (arith, common_steps)
