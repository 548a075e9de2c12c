-- A box that has a cell has some.
use Rattle.std.proofs.Common.{ℕ, ◌*◌, ◌+◌, ◌<◌, arith}
use Rattle.std.proofs.lemmas.Nat.{mul-add-lt}
use Rattle.cells.specs.declared.place.Size.{Size}
use Rattle.cells.specs.Boxes.{HasCells}
use Rattle.cells.specs.Places.{cell_count}

pub some_cells : (size : Size) → HasCells size → 0 < cell_count size
some_cells size has =
    let inner : 0 * size.h + 0 < size.h * size.f = mul-add-lt 0 size.h 0 size.f has.f has.h in
    omega (arith, mul-add-lt 0 size.w 0 (size.h * size.f) (omega (arith, inner)) has.w)
