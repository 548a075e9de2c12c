use Rattle.std.proofs.Common.{arith}
use Rattle.std.proofs.lemmas.Grind.{common_steps}
use Rattle.file_bytes.proofs.writer.FileWriter.put.Goals as goal

pub returns-then-piece-self : goal.returns-then-piece-self
returns-then-piece-self g c = grind (arith, common_steps)
