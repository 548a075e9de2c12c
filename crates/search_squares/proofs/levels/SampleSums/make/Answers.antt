use Rattle.std.proofs.Common.{◌≡◌, subst, ◌∙◌}
use Rattle.std.specs.Prelude.{Some}
use Rattle.cells.specs.declared.place.Size.{Size}
use Rattle.cells.specs.Places.{HasAxes}
use Rattle.search_squares.proofs.PlaceRuns.{first_inside}
use Rattle.search_squares.proofs.levels.SampleSums.make.Goals as goal

same_some : (x y : Size) → Some x ≡ Some y → x ≡ y
same_some x y e = cc

pub stock-corner-requires-clause-inside : goal.stock-corner-requires-clause-inside
stock-corner-requires-clause-inside c = λ size is.
    first_inside size (subst HasAxes (same_some _ size (c.at-size.ensures.size ∙ is)) c.at-size.ensures.axes)
