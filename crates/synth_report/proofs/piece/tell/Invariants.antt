use Rattle.synth_report.specs.Telling.{piece_text}
use Rattle.synth_report.proofs.Pieces.{SoFar}
use Rattle.synth_report.proofs.piece.tell.Given as goal

abbrev pub invariant-loop-piece : goal.invariant-loop-piece
invariant-loop-piece g l = SoFar piece_text l.pieces l.piece-index (g.E.Sink.state l.fn.sink) (g.E.Sink.state l.sink)
