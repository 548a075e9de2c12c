use Rattle.synth_report.specs.Lines.{line_text}
use Rattle.synth_report.proofs.Pieces.{SoFar}
use Rattle.synth_report.proofs.reports.tell_lines.Given as goal

abbrev pub invariant-loop-line : goal.invariant-loop-line
invariant-loop-line g l = SoFar line_text l.lines l.line-index (g.O.Sink.state l.fn.sink) (g.O.Sink.state l.sink)
