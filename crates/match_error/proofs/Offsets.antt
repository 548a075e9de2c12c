-- Runs of a box in the first part of a sample, by the index of the box's first cell.
use Rattle.std.proofs.Common.{◌≡◌, ℕ, ◌+◌, ◌*◌, ◌<◌, ◌≤◌, List, [], ◌∷◌, ◌++◌, inl, inr, length, take, drop, ap, sym, ◌∙◌, arith, length-append}
use Rattle.std.proofs.Math.Nat.{mul-le-mul}
use Rattle.std.proofs.lemmas.Int.{ints}
use Rattle.std.proofs.lemmas.List.{drop_at, take-append-drop, take_at}
use Rattle.std.proofs.lemmas.List.Folds.{concat-append}
use Rattle.std.specs.Prelude.{IfSome, None, Option, Some}
use Rattle.std.specs.List.{concat}
use Rattle.cells.specs.declared.place.At.{At}
use Rattle.cells.specs.declared.place.Box3.{Box3}
use Rattle.cells.specs.declared.place.Size.{Size}
use Rattle.limits.specs.declared.bounds.TheConstants.{MOST_CELLS, MOST_CHANNELS}
use Rattle.cells.specs.Boxes.{HasCells, HoldsBox}
use Rattle.cells.specs.Cells.{Cells, Holds, IsVolume, bytes_of, index_of}
use Rattle.cells.specs.Parts.{HoldsFrom}
use Rattle.cells.specs.Places.{index_in, plus, raster_index, spot}
use Rattle.cells.proofs.PartBoxes.{held_run, not_before, of_held, run_of_volume}
use Rattle.cells.proofs.PartLaws.{index_front}
use Rattle.cells.proofs.Raster.{index_of_spot, index_parts}
use Rattle.match_error.specs.declared.fronts.Front.{Front}
use Rattle.match_error.specs.declared.gathered.FilledRun.{FilledRun}
use Rattle.match_error.specs.LaidRows.{IsFront}
use Rattle.match_error.specs.Runs.{IsFrontIndex, IsRunIn}
use Rattle.match_error.proofs.RowPlaces.{have_samples}
use Rattle.match_error.proofs.RunLists.{run_held}
use Rattle.match_error.proofs.Runs.{HaveSamples, length-run, run}

-- cells are joined where they are parted
parted : (n : ℕ) (cells : List (List ℕ)) → concat cells ≡ concat (take n cells) ++ concat (drop n cells)
parted n cells = ap concat (sym (take-append-drop n cells)) ∙ concat-append (take n cells) (drop n cells)

length-before : (k : ℕ) (cells : List (List ℕ)) → HaveSamples k cells → (i : ℕ) → i ≤ length cells → length (concat (take i cells)) ≡ k * i
length-before k cells all i le = omega (arith, length-run k cells all 0 i (omega arith))

-- the bytes of a run among those of all cells
pub run_in_bytes : (k : ℕ) (cells : List (List ℕ)) → HaveSamples k cells → (i w : ℕ) → i + w ≤ length cells → take (k * w) (drop (k * i) (concat cells)) ≡ run cells i w
run_in_bytes k cells all i w le =
    ap (λ bytes. take (k * w) (drop (k * i) bytes)) (parted i cells)
    ∙ ap (take (k * w)) (drop_at (concat (take i cells)) (concat (drop i cells)) (k * i) (length-before k cells all i (omega arith)))
    ∙ ap (take (k * w)) (parted w (drop i cells))
    ∙ take_at (run cells i w) (concat (drop w (drop i cells))) (k * w) (let e : length (run cells i w) ≡ k * w = omega (arith, length-run k cells all i w le) in e)

pub run_within : (k : ℕ) (cells : List (List ℕ)) → HaveSamples k cells → (i w : ℕ) → i + w ≤ length cells → k * i + k * w ≤ length (concat cells)
run_within k cells all i w le =
    let rest = concat (drop i cells) in
    let whole : length (concat cells) ≡ length (concat (take i cells)) + length rest = ap length (parted i cells) ∙ length-append (concat (take i cells)) rest in
    let behind : length rest ≡ length (run cells i w) + length (concat (drop w (drop i cells))) = ap length (parted w (drop i cells)) ∙ length-append (run cells i w) (concat (drop w (drop i cells))) in
    omega (arith, whole, behind, length-before k cells all i (omega arith), length-run k cells all i w le)

-- a volume's run of cells, by its index
pub few_cells : (v : Cells) → IsVolume v → length v.cells ≤ MOST_CELLS
few_cells v is = omega (arith, is.count, is.parts.cells)

-- an index times the count of samples is a small number
pub few_bytes : (v : Cells) → IsVolume v → (n : ℕ) → n ≤ length v.cells → v.k * n ≤ MOST_CHANNELS * MOST_CELLS
few_bytes v is n le = mul-le-mul is.samples.1 (let few : n ≤ MOST_CELLS = omega (arith, le, few_cells v is) in few)

pub run_in_volume : (v : Cells) → IsVolume v → (i w : ℕ) → i + w ≤ length v.cells → take (v.k * w) (drop (v.k * i) (bytes_of v)) ≡ run v.cells i w
run_in_volume v is i w le = run_in_bytes v.k v.cells (have_samples v is) i w le

pub within_bytes : (v : Cells) → IsVolume v → (i w : ℕ) → i + w ≤ length v.cells → v.k * i + v.k * w ≤ length (bytes_of v)
within_bytes v is i w le = run_within v.k v.cells (have_samples v is) i w le

-- an index in a first part whose rows and frames are as long as those of a size
pub front_found : (part first : Size) (v : Cells) (at : At) (o : Option ℕ) → first ≡ v.size → first.w ≡ part.w → first.h ≡ part.h → o ≡ index_in first at → IfSome o (IsFrontIndex part v at)
front_found part first v at None same w h is = tt
front_found part first v at (Some i) same w h is = record {
  w = ap (λ (s : Size). s.w) (sym same) ∙ w;
  h = ap (λ (s : Size). s.h) (sym same) ∙ h;
  index = ap (λ (s : Size). index_in s at) (sym same) ∙ sym is;
}

-- a box that begins in the first part lies in it
in_front : (v : Cells) (corner : At) (inner : Size) (i : ℕ) → HasCells inner → Holds v corner inner → index_in v.size corner ≡ Some i → HoldsBox v.size corner inner
in_front v corner inner i some holds at = by v.more (of_held v corner inner some holds)
  where
    by : (more : List Size) → HoldsFrom v.size more corner inner → HoldsBox v.size corner inner
    by [] here = here
    by (next ∷ more) (inl here) = here
    by (next ∷ more) (inr behind) =
        let on = index_parts v.size corner i at in
        absurd (not_before next more _ inner (omega (arith, ints, on.f_on.is, on.f_on.below)) behind)

-- the index of a cell of such a box
front_spot : (size : Size) (corner : At) (inner : Size) (i x y f : ℕ) → HoldsBox size corner inner → index_in size corner ≡ Some i → x < inner.w → y < inner.h → f < inner.f
    → index_in size (plus corner (spot x y f)) ≡ Some (i + raster_index size x y f)
front_spot size corner inner i x y f box at lx ly lf =
    let a = index_parts size corner i at in
    let is : corner ≡ spot a.x a.y a.f = λ k. record { x = a.x_on.is k; y = a.y_on.is k; f = a.f_on.is k } in
    ap (λ p. index_in size (plus p (spot x y f))) is
    ∙ index_of_spot size (a.x + x) (a.y + y) (a.f + f) (omega (arith, ints, a.x_on.is, box.x.to)) (omega (arith, ints, a.y_on.is, box.y.to)) (omega (arith, ints, a.f_on.is, box.f.to))
    ∙ ap Some (further a.x a.y a.f ∙ ap (λ n. n + raster_index size x y f) (sym a.index))
  where
    further : (a b c : ℕ) → (a + x) + size.w * ((b + y) + size.h * (c + f)) ≡ (a + size.w * (b + size.h * c)) + (x + size.w * (y + size.h * f))
    further a b c = omega arith

-- the index of a run
module _ (v : Cells) (is : IsVolume v) (rect : Box3) (from : At) (part : Size) (bytes : ℕ) (r : FilledRun) (in_box : IsRunIn v.k rect part bytes r) (some : HasCells rect.size) (holds : Holds v from rect.size) (i : ℕ) (front : IsFrontIndex part v from i) where
  pub run_index : index_of v (plus from r.step) ≡ Some (i + r.offset)
  run_index =
      let x = in_box.x in
      let y = in_box.y in
      let f = in_box.f in
      ap (λ step. index_of v (plus from step)) in_box.step
      ∙ index_front v.size v.more (plus from (spot x y f)) (i + raster_index v.size x y f)
      (front_spot v.size from rect.size i x y f (in_front v from rect.size i some holds front.index) front.index (omega (arith, in_box.some, in_box.row.columns_in)) in_box.row.row_in in_box.row.frame_in)
      ∙ (λ t. Some (i + (x + front.w t * (y + front.h t * f))))
      ∙ ap (λ n. Some (i + n)) (sym in_box.offset)

  pub run_fits : (i + r.offset) + r.w ≤ length v.cells
  run_fits =
      let at : index_of v (plus from (spot in_box.x in_box.y in_box.f)) ≡ Some (i + r.offset) = ap (λ step. index_of v (plus from step)) (sym in_box.step) ∙ run_index in
      let held = run_held v from rect.size in_box.x r.w in_box.y in_box.f holds in_box.some in_box.row.columns_in in_box.row.row_in in_box.row.frame_in in
      omega (arith, is.count, run_of_volume v (plus from (spot in_box.x in_box.y in_box.f)) (i + r.offset) r.w at held)

-- and that of a row
module _ (v : Cells) (is : IsVolume v) (corner : At) (inner : Size) (some : HasCells inner) (holds : Holds v corner inner) (front : Front) (begins : IsFront v corner front) (y f offset : ℕ) (is_offset : offset ≡ raster_index front.part 0 y f) (ly : y < inner.h) (lf : f < inner.f) where
  pub row_index : index_of v (plus corner (spot 0 y f)) ≡ Some (front.index + offset)
  row_index =
      index_front v.size v.more (plus corner (spot 0 y f)) (front.index + raster_index v.size 0 y f)
      (front_spot v.size corner inner front.index 0 y f (in_front v corner inner front.index some holds begins.index) begins.index (omega (arith, some.w)) ly lf)
      ∙ ap (λ n. Some (front.index + n)) (sym (is_offset ∙ ap (λ (size : Size). raster_index size 0 y f) begins.part))

  pub row_fits : (front.index + offset) + inner.w ≤ length v.cells
  row_fits = omega (arith, is.count, run_of_volume v (plus corner (spot 0 y f)) (front.index + offset) inner.w row_index (held_run v corner inner y f holds some.w ly lf))
