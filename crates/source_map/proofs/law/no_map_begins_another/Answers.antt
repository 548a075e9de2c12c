use Rattle.source_map.proofs.MapsAgain.{begins_alone}
use Rattle.source_map.proofs.law.no_map_begins_another.Goals as goal

pub returns : goal.returns
returns c = begins_alone
