use Rattle.synth_report.specs.Telling.{piece_text}
use Rattle.synth_report.proofs.Pieces.{none_told, one_told, stopped, all_told}
use Rattle.synth_report.proofs.piece.tell.Goals as goal

pub loop-piece-init : goal.loop-piece-init
loop-piece-init g c = none_told piece_text _ _

pub loop-piece-preserved : goal.loop-piece-preserved
loop-piece-preserved g c = one_told piece_text _ _ _ _ _ _ c.loop-piece-test.true c.loop-piece.invariant (c.in_ok-tell_piece.ensures)

pub returns-in_err-tell_piece : goal.returns-in_err-tell_piece
returns-in_err-tell_piece g c =
    stopped piece_text c.args.pieces.now c.loop-piece.piece-index _ _ _ _ _ c.from_residual.result c.from_residual.ensures.0 c.loop-piece-test.true c.loop-piece.invariant (c.in_err-tell_piece.ensures {u = tt})

pub returns : goal.returns
returns g c = all_told piece_text _ _ _ _ c.loop-piece-test.false c.loop-piece.invariant
