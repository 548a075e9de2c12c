use Rattle.shelf_traits.proofs.FileLaws.{asks_one}
use Rattle.shelf_core.proofs.calls.Calls.note.Goals as goal

pub returns-clause-only : goal.returns-clause-only
returns-clause-only c = asks_one c.args.name.now c.args.self.now c.put.new.self c.put.ensures
