use Rattle.std.proofs.Common.{ap, ◌∙◌}
use Rattle.cells.specs.Cells.{volume_of}
use Rattle.outputs.specs.declared.trial.TheConstants.{CELL_BYTES, SIZE}
use Rattle.outputs.proofs.trial.trial_sample.Goals as goal

pub returns : goal.returns
returns c = c.from_bytes.ensures.volume ∙ ap (volume_of SIZE CELL_BYTES) (c.in_ok-bytes.ensures {u = tt}).bytes
