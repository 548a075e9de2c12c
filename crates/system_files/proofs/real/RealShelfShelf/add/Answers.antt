use Rattle.std.proofs.Common.{◌∷◌, refl, ap, ◌∙◌}
use Rattle.system_calls.specs.Calls.{Added}
use Rattle.system_files.proofs.Asked.{asked_after}
use Rattle.system_files.proofs.Replaying.{add_after}
use Rattle.system_files.proofs.real.RealShelfShelf.add.Goals as goal

pub invariant_of-self : goal.invariant_of-self
invariant_of-self g c =
    asked_after c.args.name.now (Added c.args.name.now c.args.piece.now c.is_ok-done.result) c.self.inside.system c.add-answer.new.system
    c.self.inside.calls.calls c.note.new.self.calls refl c.add-answer.ensures c.self.invariant c.note.ensures

pub returns-clause-writes : goal.returns-clause-writes
returns-clause-writes g c =
    add_after g.S.Start.files g.S.Start.left c.args.self.now.calls c.args.name.now c.args.piece.now c.is_ok-done.result c.note.new.self.calls
    (c.note.ensures ∙ ap (λ was. Added c.args.name.now c.args.piece.now c.is_ok-done.result ∷ was.calls) c.self.view_is)
