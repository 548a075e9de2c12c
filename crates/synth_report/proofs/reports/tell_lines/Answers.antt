use Rattle.synth_report.specs.Lines.{line_text}
use Rattle.synth_report.proofs.Pieces.{none_told, one_told, stopped, all_told}
use Rattle.synth_report.proofs.reports.tell_lines.Goals as goal

pub loop-line-init : goal.loop-line-init
loop-line-init g c = none_told line_text _ _

pub loop-line-preserved : goal.loop-line-preserved
loop-line-preserved g c = one_told line_text _ _ _ _ _ _ c.loop-line-test.true c.loop-line.invariant (c.in_ok-tell_line.ensures)

pub returns-in_err-tell_line : goal.returns-in_err-tell_line
returns-in_err-tell_line g c =
    stopped line_text c.args.lines.now c.loop-line.line-index _ _ _ _ _ c.from_residual.result c.from_residual.ensures.0 c.loop-line-test.true c.loop-line.invariant (c.in_err-tell_line.ensures {u = tt})

pub returns : goal.returns
returns g c = all_told line_text _ _ _ _ c.loop-line-test.false c.loop-line.invariant
