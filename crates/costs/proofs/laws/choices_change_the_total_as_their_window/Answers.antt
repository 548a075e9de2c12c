use Rattle.costs.proofs.Locality.{changes_as_window}
use Rattle.costs.proofs.laws.choices_change_the_total_as_their_window.Goals as goal

pub returns : goal.returns
returns c d m = changes_as_window d m c.args.placement.now
