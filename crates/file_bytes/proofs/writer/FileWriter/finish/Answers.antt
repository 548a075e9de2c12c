use Rattle.std.proofs.Common.{arith}
use Rattle.std.proofs.lemmas.Grind.{common_steps}
use Rattle.std.proofs.Common.{◌≡◌, [], sym, ◌∙◌, subst}
use Rattle.std.proofs.lemmas.List.{append-nil}
use Rattle.std.specs.Prelude.{true}
use Rattle.shelf_traits.specs.Files.{Changes}
use Rattle.shelf_traits.specs.Written.{HoldsPart}
use Rattle.file_bytes.proofs.writer.FileWriter.finish.Goals as goal

pub returns-then-self-clause-err : goal.returns-then-self-clause-err
returns-then-self-clause-err g c was text put =
    let failed : c.flush.new.self.failed ≡ true = sym (λ i. (c.self.view_is i).failed) ∙ c.if-self.true in
    subst (λ whole. Changes was (g.S.Shelf.state c.flush.new.shelf) (HoldsPart c.args.name.now whole)) (append-nil text)
    (((c.flush.ensures.put was text put).broken failed).part [])

pub returns-then-self-clause-writes : goal.returns-then-self-clause-writes
returns-then-self-clause-writes g c = grind (arith, common_steps)

pub returns-else-self-clause-writes : goal.returns-else-self-clause-writes
returns-else-self-clause-writes g c = grind (arith, common_steps)

pub returns-then-self-clause-failed : goal.returns-then-self-clause-failed
returns-then-self-clause-failed g c = grind (arith, common_steps)

pub returns-else-self-clause-ok : goal.returns-else-self-clause-ok
returns-else-self-clause-ok g c = grind (arith, common_steps)
