use Rattle.std.proofs.Common.{ap, ◌∙◌}
use Rattle.cells.specs.declared.place.Size.{Size}
use Rattle.targets.proofs.Rooms.{both_have_room}
use Rattle.transfer.proofs.steps.next_transfer.Goals as goal

pub make-requires-clause-room : goal.make-requires-clause-room
make-requires-clause-room c =
    both_have_room c.args.sample.now c.args.target.now c.samples-sample.ensures.volume c.samples-target.ensures.volume c.requires.pictures.part c.requires.target.part c.requires.pictures.sample_frame
    (ap (λ (s : Size). s.f) c.requires.target.size ∙ c.requires.pictures.output_frame)
