use Rattle.cert_file.proofs.CutsSpelled.{cuts_spelled}
use Rattle.cert_file.proofs.law.cuts_have_one_spelling.Goals as goal

pub returns : goal.returns
returns c = cuts_spelled
