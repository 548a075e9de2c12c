use Rattle.std.proofs.Common.{arith}
use Rattle.std.proofs.lemmas.Grind.{common_steps}
use Rattle.file_bytes.proofs.writer.FileWriter.put_number.Goals as goal

pub slice_bounds-keep-end : goal.slice_bounds-keep-end
slice_bounds-keep-end g c = grind (arith, common_steps)

pub keep-requires : goal.keep-requires
keep-requires g c = grind (arith, common_steps)

pub returns-then-WIDTH-self : goal.returns-then-WIDTH-self
returns-then-WIDTH-self g c = grind (arith, common_steps)

pub slice_bounds-field-end-then-WIDTH-self : goal.slice_bounds-field-end-then-WIDTH-self
slice_bounds-field-end-then-WIDTH-self g c = grind (arith, common_steps)
