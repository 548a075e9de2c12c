use Rattle.std.proofs.Common.{take}
use Rattle.std.specs.Prelude.{All}
use Rattle.cert_file.specs.CutForms.{IsShortFlow}
use Rattle.command_files.proofs.flows.flows_fit.Given as goal

abbrev pub invariant-loop-flow : goal.invariant-loop-flow
invariant-loop-flow l = All IsShortFlow (take l.flow-index l.flows)
