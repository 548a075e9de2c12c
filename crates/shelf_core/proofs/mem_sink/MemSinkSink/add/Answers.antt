use Rattle.std.proofs.Common.{arith}
use Rattle.std.proofs.lemmas.Grind.{common_steps}
use Rattle.shelf_core.proofs.mem_sink.MemSinkSink.add.Goals as goal

pub returns-in-Some-clause-part : goal.returns-in-Some-clause-part
returns-in-Some-clause-part c = grind (arith, common_steps)

pub returns-in_default-extend-clause-part : goal.returns-in_default-extend-clause-part
returns-in_default-extend-clause-part c = grind (arith, common_steps)

pub returns-in-Some-clause-kept : goal.returns-in-Some-clause-kept
returns-in-Some-clause-kept c = grind (arith, common_steps)

pub returns-in_default-extend-clause-counted : goal.returns-in_default-extend-clause-counted
returns-in_default-extend-clause-counted c = grind (arith, common_steps)

pub returns-in-Some-clause-counted : goal.returns-in-Some-clause-counted
returns-in-Some-clause-counted c = grind (arith, common_steps)

pub returns-in-Some-clause-failed : goal.returns-in-Some-clause-failed
returns-in-Some-clause-failed c = grind (arith, common_steps)

pub returns-clause-counted : goal.returns-clause-counted
returns-clause-counted c = grind (arith, common_steps)

pub returns-in_default-extend-clause-failed : goal.returns-in_default-extend-clause-failed
returns-in_default-extend-clause-failed c = grind (arith, common_steps)

pub returns-in_default-extend-clause-kept : goal.returns-in_default-extend-clause-kept
returns-in_default-extend-clause-kept c = grind (arith, common_steps)

pub returns-clause-ok : goal.returns-clause-ok
returns-clause-ok c = grind (arith, common_steps)

pub returns-clause-added : goal.returns-clause-added
returns-clause-added c = grind (arith, common_steps)
