use Rattle.boxes.proofs.SpanLaws.{grid_corner_at}
use Rattle.boxes.proofs.spans.grid_on.Goals as goal

pub returns-clause-corner : goal.returns-clause-corner
returns-clause-corner c = grid_corner_at c.args.size c.args.overlap c.args.q c.min-overlap.result c.saturating_sub.result c.requires.size.0 c.min-overlap.ensures c.saturating_sub.ensures
