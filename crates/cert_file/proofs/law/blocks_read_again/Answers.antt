use Rattle.cert_file.proofs.BlocksAgain.{blocks_again}
use Rattle.cert_file.proofs.law.blocks_read_again.Goals as goal

pub returns : goal.returns
returns c = blocks_again
