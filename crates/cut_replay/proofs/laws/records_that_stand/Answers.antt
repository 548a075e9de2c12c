use Rattle.cut_replay.proofs.Standing.{each_fits, each_keeps, each_least, left_is_map}
use Rattle.cut_replay.proofs.laws.records_that_stand.Goals as goal

pub returns-clause-least : goal.returns-clause-least
returns-clause-least c = each_least

pub returns-clause-fit : goal.returns-clause-fit
returns-clause-fit c = each_fits

pub returns-clause-keep : goal.returns-clause-keep
returns-clause-keep c = each_keeps

pub returns-clause-map : goal.returns-clause-map
returns-clause-map c = left_is_map
