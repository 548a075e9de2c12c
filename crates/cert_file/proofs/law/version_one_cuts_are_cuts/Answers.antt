use Rattle.cert_file.proofs.VersionOne.{version_one_is_read}
use Rattle.cert_file.proofs.law.version_one_cuts_are_cuts.Goals as goal

pub returns : goal.returns
returns c = version_one_is_read
