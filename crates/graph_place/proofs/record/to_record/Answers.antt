use Rattle.std.proofs.Common.{◌∙◌}
use Rattle.graph_place.proofs.Recording.{nodes_in, record_of}
use Rattle.graph_place.proofs.record.to_record.Goals as goal

pub choice_of-requires : goal.choice_of-requires
choice_of-requires c = rw (c.as_slice.ensures, c.as_slice-2.ensures) (nodes_in c.args.canvas.now.map c.args.placement c.args.places.now c.args.solved.now c.requires.solved c.requires.cells)

pub returns : goal.returns
returns c =
    record_of c.args.canvas.now.map c.args.placement c.args.places.now c.args.solved.now c.requires.solved c.requires.cells c.from_vec.result c.from_vec-2.result
    (rw (c.from_vec.ensures, ← c.as_slice.ensures, ← c.as_slice-2.ensures) c.in_ok-choice.ensures) (c.from_vec-2.ensures ∙ c.in_ok-flows.ensures)
