use Rattle.std.proofs.Common.{◌∷◌, ◌∙◌}
use Rattle.system_calls.specs.Calls.{Said}
use Rattle.system_files.proofs.Replaying.{part_left}
use Rattle.system_files.proofs.streams.ErrorOutputSink.add.Goals as goal

pub returns-clause-part : goal.returns-clause-part
returns-clause-part g c =
    part_left g.S.Start.left_err c.args.self.now c.note.new.self.calls c.args.piece.now c.write_all_of-answer.result
    (c.note.ensures ∙ (λ i. Said c.args.piece.now (c.is_ok-done.ensures.value i) ∷ c.self.view_is i))
