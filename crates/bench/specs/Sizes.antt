-- What can be grown. A reader need not trust this file: it says which cases the program has. (Own.)
use Rattle.cells.specs.Places.{IsSmall}
use Rattle.patch_picks.specs.Fitting.{HasPatch}
use Rattle.bench.specs.declared.growths.GrowthCase.{GrowthCase}

-- sample and output are volumes of one frame, and a patch has a cell
pub record IsGrowthCase (growth : GrowthCase) : Type 0 where
  pub sample : IsSmall (record { w = growth.sample; h = growth.sample; f = 1 })
  pub output : IsSmall (record { w = growth.w; h = growth.h; f = 1 })
  pub patch : HasPatch growth.mode
