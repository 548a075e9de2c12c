use Rattle.cert_file.proofs.WalksAgain.{walk_again}
use Rattle.cert_file.proofs.law.walk_read_again.Goals as goal

pub returns : goal.returns
returns c = walk_again
