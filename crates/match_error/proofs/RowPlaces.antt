-- Where the cells of a row of a box are, and what is in them.
use Rattle.std.proofs.Common.{◌≡◌, ℕ, ◌+◌, ◌*◌, ◌<◌, ◌≤◌, [], refl, ap, sym, ◌∙◌, subst, arith, rules}
use Rattle.std.proofs.lemmas.Int.{ints}
use Rattle.std.specs.Prelude.{ℤ, pos, negsuc, ◌+ℤ◌, ◌≤ℤ◌, Some, FitsSigned, IsSome, length, unwrap_or}
use Rattle.std.specs.Int.{w32}
use Rattle.limits.specs.declared.bounds.TheConstants.{GREATEST_AXIS}
use Rattle.cells.specs.declared.place.At.{At}
use Rattle.cells.specs.declared.place.Size.{Size}
use Rattle.cells.specs.Boxes.{AxisHolds, HoldsBox}
use Rattle.cells.specs.Cells.{Cells, HasRun, Holds, IsVolume, index_of, row_at, run_from}
use Rattle.cells.specs.Places.{HasAxes, IsInside, SumFits, cell_count, index_in, plus, spot}
use Rattle.cells.proofs.Raster.{has_index, in_rows, index_of_spot, run_in_rows}
use Rattle.cells.proofs.PartBoxes.{held_run, inside_sum_fits, row_step, run_cells, run_of_volume}
use Rattle.match_error.proofs.Runs.{HaveSamples, run}

-- a run of cells along one axis, from a number on
record Run (n : ℕ) (corner : ℤ) (len : ℕ) : Type 0 where
  pub from : ℕ
  pub is : corner ≡ pos from
  pub to : from + len ≤ n

run_of : (n : ℕ) (corner : ℤ) (len : ℕ) → AxisHolds n corner len → Run n corner len
run_of n (pos a) len holds = record { from = a; is = refl; to = omega (arith, ints, holds.to) }
run_of n (negsuc a) len holds = absurd (omega (arith, ints, holds.from))

-- where a row of the box begins: its cells follow one another
pub record IsRow (size : Size) (corner : At) (w y f : ℕ) : Type 0 where
  pub first : ℕ
  pub fits : first + w ≤ cell_count size
  pub cell : (x : ℕ) → x < w → index_in size (plus corner (spot x y f)) ≡ Some (first + x)
  pub inside : IsInside size (plus corner (spot 0 y f))
  pub start : index_in size (plus corner (spot 0 y f)) ≡ Some first
  pub room : ((plus corner (spot 0 y f)).x +ℤ pos w) ≤ℤ pos size.w
  pub sum : HasAxes size → SumFits corner (spot 0 y f)
  pub small : HasAxes size → (y < GREATEST_AXIS) × (f < GREATEST_AXIS) × (w ≤ GREATEST_AXIS)

pub row_of : (size : Size) (corner : At) (inner : Size) (y f : ℕ) → HoldsBox size corner inner → 1 ≤ inner.w → y < inner.h → f < inner.f → IsRow size corner inner.w y f
row_of size corner inner y f box some ly lf =
    let a = run_of size.w corner.x inner.w box.x in
    let b = run_of size.h corner.y inner.h box.y in
    let c = run_of size.f corner.f inner.f box.f in
    let rest = size.w * ((b.from + y) + size.h * (c.from + f)) in
    let is : corner ≡ spot a.from b.from c.from = λ k. record { x = a.is k; y = b.is k; f = c.is k } in
    let cell = λ (x : ℕ) (lx : x < inner.w). ap (λ p. index_in size (plus p (spot x y f))) is
    ∙ index_of_spot size (a.from + x) (b.from + y) (c.from + f) (omega (arith, a.to)) (omega (arith, b.to)) (omega (arith, c.to))
    ∙ ap Some (turned a.from x rest) in
    let start = cell 0 (omega (arith, some)) ∙ ap Some (none (a.from + rest)) in
    record {
      first = a.from + rest;
      fits = run_in_rows size.w (size.h * size.f) ((b.from + y) + size.h * (c.from + f)) a.from inner.w a.to
          (in_rows size.h size.f (c.from + f) (b.from + y) (omega (arith, b.to)) (omega (arith, c.to)));
      cell = cell;
      inside = subst IsSome (sym start) refl;
      start = start;
      room = omega (arith, ints, a.is, a.to);
      sum = λ axes. record {
        x = sum_fits corner.x a.from 0 a.is (omega (arith, axes.w, a.to, some));
        y = sum_fits corner.y b.from y b.is (omega (arith, axes.h, b.to));
        f = sum_fits corner.f c.from f c.is (omega (arith, axes.f, c.to));
      };
      small = λ axes. (omega (arith, axes.h, b.to), omega (arith, axes.f, c.to), omega (arith, axes.w, a.to));
    }
  where
    turned : (a x r : ℕ) → (a + x) + r ≡ (a + r) + x
    turned a x r = omega arith

    none : (a : ℕ) → a + 0 ≡ a
    none a = omega arith

    small_fits : (d : ℕ) → d < 8192 → FitsSigned w32 (pos d)
    small_fits d lt = search rules

    sum_fits : (z : ℤ) (a c : ℕ) → z ≡ pos a → a + c < 8192 → FitsSigned w32 (z +ℤ pos c)
    sum_fits z a c is lt = subst (λ t. FitsSigned w32 (t +ℤ pos c)) (sym is) (small_fits (a + c) lt)

-- the volume's cells have as many samples as it says, and a row of them is a run
module _ (v : Cells) (is : IsVolume v) where
  pub have_samples : HaveSamples v.k v.cells
  have_samples n lt = (is.cells n [] lt).samples

  pub row_is_run : (p : At) (i w : ℕ) → index_of v p ≡ Some i → row_at v p w ≡ run v.cells i w
  row_is_run p i w at = ap (run_from v.cells w) at

-- where a row of a box that the volume holds begins in it, in whichever part
pub record IsVolumeRow (v : Cells) (corner : At) (w y f : ℕ) : Type 0 where
  pub first : ℕ
  pub fits : first + w ≤ length v.cells
  pub cell : (x : ℕ) → x < w → index_of v (plus corner (spot x y f)) ≡ Some (first + x)
  pub start : index_of v (plus corner (spot 0 y f)) ≡ Some first
  pub run : HasRun v (plus corner (spot 0 y f)) w
  pub sum : SumFits corner (spot 0 y f)

pub row_in_volume : (v : Cells) → IsVolume v → (corner : At) (inner : Size) (y f : ℕ) → Holds v corner inner → 1 ≤ inner.w → y < inner.h → f < inner.f → IsVolumeRow v corner inner.w y f
row_in_volume v is corner inner y f holds some ly lf =
    let run = held_run v corner inner y f holds some ly lf in
    let first = unwrap_or (index_of v (plus corner (spot 0 y f))) 0 in
    let start : index_of v (plus corner (spot 0 y f)) ≡ Some first = has_index (index_of v (plus corner (spot 0 y f))) 0 run.first in
    record {
      first = first;
      fits = omega (arith, is.count, run_of_volume v (plus corner (spot 0 y f)) first inner.w start run);
      cell = λ x lx. ap (index_of v) (row_step corner x y f) ∙ run_cells v (plus corner (spot 0 y f)) first inner.w start run x lx;
      start = start;
      run = run;
      sum = inside_sum_fits v is corner (spot 0 y f) run.first;
    }
