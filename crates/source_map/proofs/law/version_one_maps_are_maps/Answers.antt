use Rattle.source_map.proofs.VersionOne.{version_one_is_read}
use Rattle.source_map.proofs.law.version_one_maps_are_maps.Goals as goal

pub returns : goal.returns
returns c = version_one_is_read
