use Rattle.std.proofs.Common.{◌∷◌, ap, ◌∙◌}
use Rattle.system_calls.specs.Calls.{Opened}
use Rattle.system_calls.proofs.Opens.{opens_one}
use Rattle.system_calls.proofs.system.System.open.Goals as goal

pub returns-clause-only : goal.returns-clause-only
returns-clause-only c =
    let answered = c.is_ok-answered.result in
    opens_one c.args.opening c.args.name.now answered c.args.self.now c.note.new.self.calls
    (c.note.ensures ∙ ap (λ was. Opened c.args.opening c.args.name.now answered ∷ was) c.self.view_is)
