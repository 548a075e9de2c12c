-- What a change touches, and tables that are right after it.
use Rattle.std.proofs.Common.{◌≡◌, ◌≤◌, ◌<◌, ◌+◌, ◌*◌, ◌⊎◌, ℕ, List, get_or, ap, sym, ◌∙◌, subst, arith, ⊎_elim, inl, inr}
use Rattle.std.proofs.lemmas.Bool.{cases_lt}
use Rattle.std.proofs.lemmas.Int.{ints}
use Rattle.std.specs.Prelude.{ℤ, pos, ◌-ℤ◌, Option, IsSome}
use Rattle.cells.specs.declared.place.At.{At}
use Rattle.cells.specs.declared.place.Size.{Size}
use Rattle.cells.specs.declared.place.Box3.{Box3}
use Rattle.cells.specs.Boxes.{HasCells}
use Rattle.cells.specs.Places.{index_in, minus, on_axis, raster_index, spot}
use Rattle.cells.proofs.BoxTests.{of_inside, on_axis_bounds}
use Rattle.cells.proofs.Raster.{index_parts}
use Rattle.cost_windows.specs.declared.block.Block.{Block}
use Rattle.cost_windows.specs.declared.block.Run.{Run}
use Rattle.cost_windows.specs.Windows.{window_at}
use Rattle.boxes.specs.Pairs.{AreCounts}
use Rattle.cost_windows.specs.Slides.{AreApart, AreOthers, HoldsBlock, IsInBlock, IsOnRun, block_size}
use Rattle.cost_windows.specs.Tables.{IsRight, IsRightAt, Touches, corners}
use Rattle.cost_windows.proofs.Rows.{one_row}

-- then they share no cell
apart : (c window : ℕ) (z from : ℤ) (len : ℕ) → IsSome (on_axis window (z -ℤ pos c)) → IsSome (on_axis len (z -ℤ from)) → AreApart c window from len → ⊥
apart c window z from len own other out =
    let a = on_axis_bounds window (z -ℤ pos c) own in
    let b = on_axis_bounds len (z -ℤ from) other in
    ⊎_elim (λ before. absurd (omega (arith, ints, a.0, a.1, b.0, b.1, before))) (λ past. absurd (omega (arith, ints, a.0, a.1, b.0, b.1, past))) out

-- a count is on a run, or before it or past it
on_run : (run : Run) (c : ℕ) → IsOnRun run c ⊎ ((c < run.from) ⊎ (run.from + run.len ≤ c))
on_run run c = ⊎_elim
    (λ before. inr (inl before))
    (λ from. ⊎_elim (λ lt. inl (from, lt)) (λ past. inr (inr past)) (cases_lt c (run.from + run.len)))
    (cases_lt c run.from)

off_run : (run : Run) (c : ℕ) → (c < run.from) ⊎ (run.from + run.len ≤ c) → IsOnRun run c → ⊥
off_run run c out on = ⊎_elim (λ before. absurd (omega (arith, on.0))) (λ past. absurd (omega (arith, on.1))) out

pub in_block : (block : Block) (x y f : ℕ) → IsInBlock block x y f ⊎ (IsInBlock block x y f → ⊥)
in_block block x y f = ⊎_elim
    (λ column. ⊎_elim
    (λ row. ⊎_elim
    (λ frame. inl (record { column = column; row = row; frame = frame }))
    (λ out. inr (λ inside. off_run block.f f out inside.frame))
    (on_run block.f f))
    (λ out. inr (λ inside. off_run block.y y out inside.row))
    (on_run block.y y))
    (λ out. inr (λ inside. off_run block.x x out inside.column))
    (on_run block.x x)

-- a block with a cell has cells on each axis
pub cells_of_block : (block : Block) (x y f : ℕ) → IsInBlock block x y f → HasCells (block_size block)
cells_of_block block x y f inside = record { w = omega (arith, inside.column); h = omega (arith, inside.row); f = omega (arith, inside.frame) }

pub others_beside : (size window : Size) (changed : Box3) (block : Block)
    → AreOthers size.w window.w changed.corner.x changed.size.w block.x → AreOthers size.h window.h changed.corner.y changed.size.h block.y
    → AreOthers size.f window.f changed.corner.f changed.size.f block.f
    → (x y f : ℕ) → AreCounts size x y f → (IsInBlock block x y f → ⊥) → Touches window changed (spot x y f) → ⊥
others_beside size window changed block ox oy of x y f are out touches =
    let own = of_inside window (minus touches.cell (spot x y f)) touches.in_window in
    let other = of_inside changed.size (minus touches.cell changed.corner) touches.in_box in
    ⊎_elim
    (λ column. ⊎_elim
    (λ row. ⊎_elim
    (λ frame. out (record { column = column; row = row; frame = frame }))
    (λ off. apart f window.f touches.cell.f changed.corner.f changed.size.f own.f other.f (of f are.frame off))
    (on_run block.f f))
    (λ off. apart y window.h touches.cell.y changed.corner.y changed.size.h own.y other.y (oy y are.row off))
    (on_run block.y y))
    (λ off. apart x window.w touches.cell.x changed.corner.x changed.size.w own.x other.x (ox x are.column off))
    (on_run block.x x)

-- three counts by their index
one_index : (size : Size) (x y f a b c : ℕ) → AreCounts size x y f → AreCounts size a b c → raster_index size x y f ≡ raster_index size a b c → (x ≡ a) × (y ≡ b) × (f ≡ c)
one_index size x y f a b c p q e =
    let rows = one_row size.w x (y + size.h * f) a (b + size.h * c) p.column q.column e in
    let frames = one_row size.h y f b c p.row q.row rows in
    (omega (arith, e, ap (λ n. size.w * n) rows), omega (arith, rows, ap (λ n. size.h * n) frames), frames)

-- a table is right where the sums of a block are, and no other sum has changed that wasn't right
pub right_of : (d : At → At → ℕ) (m : At → Option At) (output window : Size) (block : Block) (old sums : List ℕ) → HoldsBlock (corners output window) block
    → ((x y f : ℕ) → IsInBlock block x y f → get_or sums (raster_index (corners output window) x y f) 0 ≡ window_at d window m (spot x y f))
    → ((i : ℕ) → ((x y f : ℕ) → IsInBlock block x y f → i ≡ raster_index (corners output window) x y f → ⊥) → get_or sums i 0 ≡ get_or old i 0)
    → ((x y f : ℕ) → AreCounts (corners output window) x y f → (IsInBlock block x y f → ⊥) → IsRightAt d m (record { output = output; window = window; sums = old }) (spot x y f))
    → IsRight d m (record { output = output; window = window; sums = sums })
right_of d m output window block old sums holds put others beside corner i at =
    let size = corners output window in
    let on = index_parts size corner i at in
    let here : corner ≡ spot on.x on.y on.f = λ k. record { x = on.x_on.is k; y = on.y_on.is k; f = on.f_on.is k } in
    let are : AreCounts size on.x on.y on.f = record { column = on.x_on.below; row = on.y_on.below; frame = on.f_on.below } in
    ⊎_elim
    (λ inside. ap (λ n. get_or sums n 0) on.index ∙ put on.x on.y on.f inside ∙ ap (window_at d window m) (sym here))
    (λ out.
    others i (λ x y f inside e.
    let same = one_index size on.x on.y on.f x y f are (record { column = omega (arith, inside.column, holds.x); row = omega (arith, inside.row, holds.y); frame = omega (arith, inside.frame, holds.f) }) (sym on.index ∙ e) in
    out (moved x y f on.x on.y on.f same inside))
    ∙ beside on.x on.y on.f are out i (ap (index_in size) (sym here) ∙ at) ∙ ap (window_at d window m) (sym here))
    (in_block block on.x on.y on.f)
  where
    moved : (x y f a b c : ℕ) → (a ≡ x) × (b ≡ y) × (c ≡ f) → IsInBlock block x y f → IsInBlock block a b c
    moved x y f a b c same inside = record {
      column = subst (IsOnRun block.x) (sym same.0) inside.column;
      row = subst (IsOnRun block.y) (sym same.1) inside.row;
      frame = subst (IsOnRun block.f) (sym same.2) inside.frame;
    }
