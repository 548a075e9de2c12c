use Rattle.cert_file.proofs.CutsAgain.{cuts_again}
use Rattle.cert_file.proofs.law.cuts_read_again.Goals as goal

pub returns : goal.returns
returns c = cuts_again
