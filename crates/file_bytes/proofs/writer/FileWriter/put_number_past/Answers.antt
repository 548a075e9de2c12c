use Rattle.std.proofs.Common.{arith}
use Rattle.std.proofs.lemmas.Grind.{common_steps}
use Rattle.file_bytes.proofs.writer.FileWriter.put_number_past.Goals as goal

pub slice_bounds-put_past-end : goal.slice_bounds-put_past-end
slice_bounds-put_past-end g c = grind (arith, common_steps)

pub returns : goal.returns
returns g c = grind (arith, common_steps)

pub slice_bounds-field-end-2 : goal.slice_bounds-field-end-2
slice_bounds-field-end-2 g c = grind (arith, common_steps)
