use Rattle.std.proofs.Common.{take}
use Rattle.std.specs.Prelude.{All}
use Rattle.cert_file.specs.CutForms.{HasShortFlows}
use Rattle.command_files.proofs.flows.records_fit.Given as goal

abbrev pub invariant-loop-cut : goal.invariant-loop-cut
invariant-loop-cut l = All HasShortFlows (take l.cut-index l.cuts)
