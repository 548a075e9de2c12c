use Rattle.patch_picks.proofs.BoxLists.{all_in_room, each_in_room, some_room}
use Rattle.patch_picks.proofs.laws.box_list_is_all_that_fit.Goals as goal

pub returns-clause-fit : goal.returns-clause-fit
returns-clause-fit c = all_in_room c.args.output c.args.sample.now c.args.rect.now c.requires.some c.requires.inside

pub returns-clause-each : goal.returns-clause-each
returns-clause-each c = λ from. each_in_room c.args.output c.args.sample.now c.args.rect.now from

pub returns-clause-some : goal.returns-clause-some
returns-clause-some c = λ number part. some_room c.args.sample.now c.args.rect.now number part
