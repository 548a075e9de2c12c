use Rattle.cert_file.proofs.BlocksSpelled.{blocks_spelled}
use Rattle.cert_file.proofs.law.blocks_have_one_spelling.Goals as goal

pub returns : goal.returns
returns c = blocks_spelled
