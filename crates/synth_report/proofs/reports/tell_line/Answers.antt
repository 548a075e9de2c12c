use Rattle.std.proofs.Common.{arith}
use Rattle.std.proofs.lemmas.Grind.{common_steps}
use Rattle.synth_report.proofs.reports.tell_line.Goals as goal

pub returns-in-Count : goal.returns-in-Count
returns-in-Count g c = grind (arith, common_steps)
