use Rattle.map_canvas.proofs.Afters.{after_one, map_after_is}
use Rattle.map_canvas.proofs.laws.after_is_one.Goals as goal

pub returns-clause-after : goal.returns-clause-after
returns-clause-after c = map_after_is

pub returns-clause-one : goal.returns-clause-one
returns-clause-one c = after_one
