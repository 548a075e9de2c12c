use Rattle.std.proofs.Common.{◌∷◌, refl, ap, ◌∙◌}
use Rattle.system_calls.specs.Calls.{Begun}
use Rattle.system_files.proofs.Asked.{asked_after}
use Rattle.system_files.proofs.Replaying.{begin_after}
use Rattle.system_files.proofs.real.RealShelfShelf.begin.Goals as goal

pub invariant_of-self : goal.invariant_of-self
invariant_of-self g c =
    asked_after c.args.name.now (Begun c.args.name.now c.is_ok-done.result) c.self.inside.system c.begin-answer.new.system
    c.self.inside.calls.calls c.note.new.self.calls refl c.begin-answer.ensures.opens c.self.invariant c.note.ensures

pub returns-clause-writes : goal.returns-clause-writes
returns-clause-writes g c =
    begin_after g.S.Start.files g.S.Start.left c.args.self.now.calls c.args.name.now c.is_ok-done.result c.note.new.self.calls
    (c.note.ensures ∙ ap (λ was. Begun c.args.name.now c.is_ok-done.result ∷ was.calls) c.self.view_is)
