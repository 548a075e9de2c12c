use Rattle.std.proofs.Common.{length}
use Rattle.cert_file.proofs.choices.+none_set.Given as goal

abbrev pub decreases-none_set : goal.decreases-none_set
decreases-none_set l = length l.bits.now
