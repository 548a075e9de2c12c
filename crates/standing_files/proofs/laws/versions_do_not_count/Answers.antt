use Rattle.standing_files.proofs.Versions.{any_versions}
use Rattle.standing_files.proofs.laws.versions_do_not_count.Goals as goal

pub returns : goal.returns
returns c = any_versions
