use Rattle.block_check.proofs.Faults.{standing_breaks_none}
use Rattle.block_check.proofs.Standing.{standing_is_least}
use Rattle.block_check.proofs.laws.standing_blocks_are_least.Goals as goal

pub returns-clause-least : goal.returns-clause-least
returns-clause-least c = standing_is_least

pub returns-clause-unbroken : goal.returns-clause-unbroken
returns-clause-unbroken c = standing_breaks_none
