use Rattle.costs.proofs.Existence.{old_lawful, some_lawful}
use Rattle.costs.proofs.laws.some_choice_is_lawful.Goals as goal

pub returns-clause-some : goal.returns-clause-some
returns-clause-some c m held are = some_lawful m c.args.placement.now held are

pub returns-clause-old : goal.returns-clause-old
returns-clause-old c m full holds choice old = old_lawful m c.args.placement.now full holds choice old
