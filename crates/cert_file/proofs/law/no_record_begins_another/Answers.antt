use Rattle.cert_file.proofs.NoPrefix.{begins_alone}
use Rattle.cert_file.proofs.law.no_record_begins_another.Goals as goal

pub returns : goal.returns
returns c = begins_alone
