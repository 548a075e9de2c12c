use Rattle.std.proofs.Common.{arith}
use Rattle.std.proofs.lemmas.Grind.{common_steps}
use Rattle.file_bytes.proofs.reader.FileReader.end.Goals as goal

pub returns-then-not-is_empty-clause-stops : goal.returns-then-not-is_empty-clause-stops
returns-then-not-is_empty-clause-stops g c = grind (arith, common_steps)

pub returns-clause-stops : goal.returns-clause-stops
returns-clause-stops g c = grind (arith, common_steps)
