use Rattle.cert_file.proofs.WalksSpelled.{walk_spelled}
use Rattle.cert_file.proofs.law.walk_has_one_spelling.Goals as goal

pub returns : goal.returns
returns c = walk_spelled
