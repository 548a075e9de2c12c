-- The cells of a block of one frame, by their rows and by their indices.
use Rattle.std.proofs.Common.{◌≡◌, ℕ, ◌+◌, ◌-◌, ◌*◌, ◌/◌, ◌%◌, ◌<◌, ◌≤◌, ap, sym, ◌∙◌, subst, arith, ⊎_elim}
use Rattle.std.proofs.Math.Nat.{div-eq_of_lt, mod-eq_of_lt, mul-add, mul-one}
use Rattle.std.proofs.lemmas.Bool.{cases_lt}
use Rattle.std.proofs.lemmas.Nat.{div-mul-add, mod-mul-add}
use Rattle.std.specs.Prelude.{◌⊎◌, ◌↔◌}
use Rattle.cells.specs.Firsts.{Each, IsFirstWithout}
use Rattle.cells.specs.declared.place.Size.{Size}
use Rattle.cells.specs.Cells.{Cells}
use Rattle.cells.specs.Places.{HasAxes, SumFits, cell_count, place_of, plus, spot}
use Rattle.cells.proofs.Raster.{in_rows}
use Rattle.map_canvas.specs.declared.canvas.Placement.{Placement}
use Rattle.map_canvas.specs.Choices.{Fits}
use Rattle.map_canvas.specs.Maps.{IsFilled, SourceMap}
use Rattle.map_canvas.proofs.Filling.{fits_cell_sum}
use Rattle.block_check.specs.declared.block.BlockRecord.{BlockRecord}
use Rattle.block_check.specs.Blocks.{block_lets_new, is_new_at}
use Rattle.block_check.specs.Steps.{IsSharedAt, IsSharedCell}

-- the column and the row of an index
is_column : (w x y : ℕ) → x < w → (x + w * y) % w ≡ x
is_column w x y lt = ap (λ n. n % w) (let e : x + w * y ≡ y * w + x = omega arith in e) ∙ mod-mul-add y w x lt

is_row : (w x y : ℕ) → x < w → (x + w * y) / w ≡ y
is_row w x y lt = ap (λ n. n / w) (let e : x + w * y ≡ y * w + x = omega arith in e) ∙ div-mul-add y w x lt

-- the place of the cell in a column and a row
spot_of : (size : Size) (x y : ℕ) → x < size.w → y < size.h → place_of size (x + size.w * y) ≡ spot x y 0
spot_of size x y x_below y_below =
    let column = is_column size.w x y x_below in
    let row : (x + size.w * y) / size.w % size.h ≡ y = ap (λ n. n % size.h) (is_row size.w x y x_below) ∙ mod-eq_of_lt y_below in
    let frame : (x + size.w * y) / size.w / size.h ≡ 0 = ap (λ n. n / size.h) (is_row size.w x y x_below) ∙ div-eq_of_lt y_below in
    λ k. spot (column k) (row k) (frame k)

-- the cell in a column and a row is as far from the corner
pub row_sum : (output : Size) (sample : Cells) (placement : Placement) → Fits output sample placement → HasAxes output → (x y : ℕ) → x < placement.rect.size.w → y < placement.rect.size.h
    → SumFits placement.rect.corner (spot x y 0)
row_sum output sample placement fits axes x y x_below y_below =
    let size = placement.rect.size in
    let frames : size.f ≡ 1 + (size.f - 1) = omega (arith, fits.some.f) in
    let more : size.h * size.f ≡ size.h * 1 + size.h * (size.f - 1) = ap (λ n. size.h * n) frames ∙ mul-add size.h 1 (size.f - 1) in
    let high : y < size.h * size.f = omega (arith, more, mul-one size.h) in
    subst (SumFits placement.rect.corner) (spot_of size x y x_below y_below)
    (fits_cell_sum output sample placement fits axes (x + size.w * y) (in_rows size.w (size.h * size.f) y x x_below high))

-- so is whether it is new
pub new_at_index : (block : BlockRecord) (x y : ℕ) → x < block.placement.rect.size.w → y < block.placement.rect.size.h
    → block_lets_new block x y ≡ is_new_at block (x + block.placement.rect.size.w * y)
new_at_index block x y x_below y_below =
    let w = block.placement.rect.size.w in
    let h = block.placement.rect.size.h in
    let column = sym (is_column w x y x_below) in
    let row : y ≡ (x + w * y) / w % h = sym (ap (λ n. n % h) (is_row w x y x_below) ∙ mod-eq_of_lt y_below) in
    λ k. block_lets_new block (column k) (row k)

module _ (m : SourceMap) (placement : Placement) (left top : ℕ) where
  same_cell : (x y : ℕ) → x < placement.rect.size.w → y < placement.rect.size.h
      → IsSharedAt m placement left top (x + placement.rect.size.w * y) ≡ IsSharedCell m placement left top x y
  same_cell x y x_below y_below =
      let w = placement.rect.size.w in
      let h = placement.rect.size.h in
      let column = is_column w x y x_below in
      let row : (x + w * y) / w % h ≡ y = ap (λ n. n % h) (is_row w x y x_below) ∙ mod-eq_of_lt y_below in
      let there = spot_of placement.rect.size x y x_below y_below in
      λ k. IsFilled m (plus placement.rect.corner (there k)) ↔ ((column k < left) ⊎ (row k < top))

  pub shared_index : (x y : ℕ) → x < placement.rect.size.w → y < placement.rect.size.h
      → IsSharedCell m placement left top x y → IsSharedAt m placement left top (x + placement.rect.size.w * y)
  shared_index x y x_below y_below = subst (λ T. T) (sym (same_cell x y x_below y_below))

  pub shared_cell : (x y : ℕ) → x < placement.rect.size.w → y < placement.rect.size.h
      → IsSharedAt m placement left top (x + placement.rect.size.w * y) → IsSharedCell m placement left top x y
  shared_cell x y x_below y_below = subst (λ T. T) (same_cell x y x_below y_below)

  -- all cells before one, if those of its row before it and of all rows before are
  pub shared_before : (y n : ℕ) → y < placement.rect.size.h → n ≤ placement.rect.size.w → Each (placement.rect.size.w * y) (IsSharedAt m placement left top)
      → Each n (λ x. IsSharedCell m placement left top x y) → Each (n + placement.rect.size.w * y) (IsSharedAt m placement left top)
  shared_before y n y_below most rows row k lt = ⊎_elim (λ less. rows k less) (λ ge. here ge) (cases_lt k (placement.rect.size.w * y))
    where
      here : placement.rect.size.w * y ≤ k → IsSharedAt m placement left top k
      here ge =
          let x = k - placement.rect.size.w * y in
          let within : x < n = omega arith in
          let x_below : x < placement.rect.size.w = omega arith in
          let is : x + placement.rect.size.w * y ≡ k = omega arith in
          subst (IsSharedAt m placement left top) is (shared_index x y x_below y_below (row x within))

  pub shared_rows : (y : ℕ) → y < placement.rect.size.h → Each (placement.rect.size.w * y) (IsSharedAt m placement left top)
      → Each placement.rect.size.w (λ x. IsSharedCell m placement left top x y) → Each (placement.rect.size.w * (y + 1)) (IsSharedAt m placement left top)
  shared_rows y y_below rows row =
      let next : placement.rect.size.w + placement.rect.size.w * y ≡ placement.rect.size.w * (y + 1) = omega (arith, mul-add placement.rect.size.w y 1, mul-one placement.rect.size.w) in
      let whole : placement.rect.size.w ≤ placement.rect.size.w = omega arith in
      subst (λ n. Each n (IsSharedAt m placement left top)) next (shared_before y placement.rect.size.w y_below whole rows row)

  -- the first unlike cell of a row is the first of the block, if those of all rows before are alike
  pub first_of_row : (x y : ℕ) → placement.rect.size.f ≡ 1 → y < placement.rect.size.h → Each (placement.rect.size.w * y) (IsSharedAt m placement left top)
      → IsFirstWithout placement.rect.size.w (λ x. IsSharedCell m placement left top x y) x
      → IsFirstWithout (cell_count placement.rect.size) (IsSharedAt m placement left top) (x + placement.rect.size.w * y)
  first_of_row x y one y_below rows first =
      let most : x ≤ placement.rect.size.w = omega (arith, first.below) in
      let height : placement.rect.size.h ≡ placement.rect.size.h * placement.rect.size.f = sym (ap (λ f. placement.rect.size.h * f) one ∙ mul-one placement.rect.size.h) in
      record {
        below = subst (λ h. x + placement.rect.size.w * y < placement.rect.size.w * h) height (in_rows placement.rect.size.w placement.rect.size.h y x first.below y_below);
        before = shared_before y x y_below most rows first.before;
        here = λ shared. first.here (shared_cell x y first.below y_below shared);
      }
