use Rattle.std.proofs.Common.{arith}
use Rattle.std.proofs.lemmas.Grind.{common_steps}
use Rattle.std.proofs.Common.{ap, ◌∙◌}
use Rattle.y4m_clip.specs.Writing.{Writer}
use Rattle.y4m_clip.proofs.Writes.{begun_with, begun_with_part, on_err}
use Rattle.y4m_clip.proofs.write.ClipWriter.start.Goals as goal

pub returns-in_err-add-clause-err : goal.returns-in_err-add-clause-err
returns-in_err-add-clause-err g c =
    on_err _ _
    (begun_with_part c.args.name.now c.deref.result.now c.args.self.now.line (g.S.Shelf.state c.args.shelf.now) (g.S.Shelf.state c.begin.new.self) (g.S.Shelf.state c.add.new.self)
    (c.deref.ensures.value ∙ ap (λ (w : Writer). w.line) c.self.view_is) c.in_ok-begin.ensures.begun c.in_err-add.ensures.part)

pub returns-clause-ok : goal.returns-clause-ok
returns-clause-ok g c =
    begun_with c.args.name.now c.deref.result.now c.args.self.now.line (g.S.Shelf.state c.args.shelf.now) (g.S.Shelf.state c.begin.new.self) (g.S.Shelf.state c.add.new.self)
    (c.deref.ensures.value ∙ ap (λ (w : Writer). w.line) c.self.view_is) c.in_ok-begin.ensures.begun c.in_ok-add.ensures.added

pub returns-clause-writes : goal.returns-clause-writes
returns-clause-writes g c = grind (arith, common_steps)
