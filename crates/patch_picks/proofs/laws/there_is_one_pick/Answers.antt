use Rattle.patch_picks.proofs.OnePick.{one_pick}
use Rattle.patch_picks.proofs.laws.there_is_one_pick.Goals as goal

pub returns : goal.returns
returns c = one_pick
