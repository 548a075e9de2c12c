-- What the picks of a transfer go by, for the contracts of this crate; of it a reader has to trust
-- that it serves the picks. (Own.)
use Rattle.std.specs.Prelude.{◌≡◌}
use Rattle.cells.specs.Cells.{Cells, with_part}
use Rattle.search_squares.specs.Eliminations.{AreSampleSums}
use Rattle.transfer.specs.declared.search.TargetSearch.{TargetSearch}

-- it is that of this sample and this target
pub record ServesTransfer (sample target : Cells) (search : TargetSearch) : Type 0 where
  pub joined : search.joined ≡ with_part sample target
  pub sums : AreSampleSums sample search.sums
