use Rattle.patch_picks.proofs.OnePick.{one_next}
use Rattle.patch_picks.proofs.laws.there_is_one_next_placement.Goals as goal

pub returns : goal.returns
returns c = one_next
