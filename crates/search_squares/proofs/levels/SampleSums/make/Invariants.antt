use Rattle.search_squares.specs.Eliminations.{AreSampleSums}
use Rattle.search_squares.proofs.levels.SampleSums.make.Given as goal

abbrev pub invariant-loop-n : goal.invariant-loop-n
invariant-loop-n l = AreSampleSums l.sample l.sums
