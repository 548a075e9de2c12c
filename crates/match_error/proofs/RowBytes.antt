-- The bytes of a run in those of its row.
use Rattle.std.proofs.Common.{◌≡◌, ℕ, ◌+◌, ◌-◌, ◌*◌, ◌<◌, ◌≤◌, List, length, take, drop, ap, sym, ◌∙◌, subst, arith}
use Rattle.std.proofs.Math.Nat.{mul-le-mul_left, mul-sub}
use Rattle.std.proofs.lemmas.List.{drop-drop, drop-take, take-take}
use Rattle.std.specs.Prelude.{Some}
use Rattle.std.specs.List.{concat}
use Rattle.cells.specs.declared.place.At.{At}
use Rattle.cells.specs.Cells.{Cells, IsVolume, index_of, row_at}
use Rattle.cells.specs.Places.{index_in, plus, spot}
use Rattle.cells.proofs.PartLaws.{index_front}
use Rattle.lane_kernels.specs.Sums.{sum_of_squared_differences}
use Rattle.boxes.specs.Sums.{sum_to}
use Rattle.map_canvas.specs.declared.canvas.Placement.{Placement}
use Rattle.map_canvas.specs.Canvases.{CanvasState, IsCanvas, StandsOver}
use Rattle.map_canvas.specs.Choices.{Fits}
use Rattle.map_canvas.specs.Maps.{IsFilled}
use Rattle.map_canvas.specs.CellErrors.{spot_error}
use Rattle.match_error.specs.LaidRows.{AreRowBytes}
use Rattle.match_error.proofs.Offsets.{run_in_volume}
use Rattle.match_error.proofs.Overlaps.{in_output, in_sample, picture_count, run_is_error}
use Rattle.match_error.proofs.RowPlaces.{row_is_run}
use Rattle.match_error.proofs.Runs.{run}

-- a piece of a piece
piece_of_piece : (i w x n : ℕ) (l : List ℕ) → x + n ≤ w → take n (drop x (take w (drop i l))) ≡ take n (drop (i + x) l)
piece_of_piece i w x n l le =
    ap (λ m. take n (drop x (take m (drop i l)))) (let e : w ≡ x + (w - x) = omega arith in e)
    ∙ ap (take n) (drop-take x (w - x) (drop i l))
    ∙ take-take n (w - x) (drop x (drop i l)) (omega arith)
    ∙ ap (take n) (drop-drop x i l)

-- of n cells from the xth of w cells on
part_of_run : (v : Cells) → IsVolume v → (i w x n : ℕ) → i + w ≤ length v.cells → x + n ≤ w → take (v.k * n) (drop (v.k * x) (run v.cells i w)) ≡ run v.cells (i + x) n
part_of_run v is i w x n within le =
    ap (λ bytes. take (v.k * n) (drop (v.k * x) bytes)) (sym (run_in_volume v is i w within))
    ∙ piece_of_piece (v.k * i) (v.k * w) (v.k * x) (v.k * n) (concat v.cells) (shorter v.k)
    ∙ ap (λ m. take (v.k * n) (drop m (concat v.cells))) (let e : v.k * i + v.k * x ≡ v.k * (i + x) = omega arith in e)
    ∙ run_in_volume v is (i + x) n (omega arith)
  where
    shorter : (k : ℕ) → k * x + k * n ≤ k * w
    shorter k = omega (arith, mul-le-mul_left k le)

pub part_of_row : (v : Cells) → IsVolume v → (p q : At) (i w x n : ℕ) → index_of v p ≡ Some i → index_of v q ≡ Some (i + x) → i + w ≤ length v.cells → x + n ≤ w → take (v.k * n) (drop (v.k * x) (row_at v p w)) ≡ row_at v q n
part_of_row v is p q i w x n at there within le =
    ap (λ bytes. take (v.k * n) (drop (v.k * x) bytes)) (row_is_run v is p i w at)
    ∙ part_of_run v is i w x n within le
    ∙ sym (row_is_run v is q (i + x) n there)

-- the squared differences of a run, from the bytes of its row
module _ (canvas : CanvasState) (sample : Cells) (placement : Placement) (is : IsCanvas canvas) (volume : IsVolume sample) (stands : StandsOver canvas sample) (fits : Fits canvas.map.size sample placement) (y f : ℕ) (ly : y < placement.rect.size.h) (lf : f < placement.rect.size.f) (old new : List ℕ) (bytes : AreRowBytes canvas sample placement y f old new) where
  old_index : (x : ℕ) → x < placement.rect.size.w → index_of canvas.picture (plus placement.rect.corner (spot x y f)) ≡ Some ((in_output canvas sample placement is volume stands fits y f ly lf).first + x)
  old_index x lx =
      let row = in_output canvas sample placement is volume stands fits y f ly lf in
      index_front canvas.picture.size canvas.picture.more (plus placement.rect.corner (spot x y f)) (row.first + x)
      (subst (λ size. index_in size (plus placement.rect.corner (spot x y f)) ≡ Some (row.first + x)) (sym is.size) (row.cell x lx))

  old_start : index_of canvas.picture (plus placement.rect.corner (spot 0 y f)) ≡ Some (in_output canvas sample placement is volume stands fits y f ly lf).first
  old_start =
      let row = in_output canvas sample placement is volume stands fits y f ly lf in
      index_front canvas.picture.size canvas.picture.more (plus placement.rect.corner (spot 0 y f)) row.first
      (subst (λ size. index_in size (plus placement.rect.corner (spot 0 y f)) ≡ Some row.first) (sym is.size) row.start)

  pub part_is_error : (x n : ℕ) → 1 ≤ n → x + n ≤ placement.rect.size.w → ((j : ℕ) → j < n → IsFilled canvas.map (plus placement.rect.corner (spot (x + j) y f)))
      → sum_of_squared_differences (take (sample.k * n) (drop (sample.k * x) old)) (take (sample.k * n) (drop (sample.k * x) new)) ≡ sum_to n (λ j. spot_error canvas.map sample placement (x + j) y f)
  part_is_error x n some le filled =
      let w = placement.rect.size.w in
      let out = in_output canvas sample placement is volume stands fits y f ly lf in
      let into = in_sample canvas sample placement is volume stands fits y f ly lf in
      let lx : x < w = omega arith in
      let old_part : take (sample.k * n) (drop (sample.k * x) old) ≡ row_at canvas.picture (plus placement.rect.corner (spot x y f)) n =
      (λ t. take (sym stands.samples t * n) (drop (sym stands.samples t * x) (bytes.is_old t)))
      ∙ part_of_row canvas.picture is.picture (plus placement.rect.corner (spot 0 y f)) (plus placement.rect.corner (spot x y f)) out.first w x n old_start (old_index x lx)
      (omega (arith, picture_count canvas sample placement is volume stands fits y f ly lf, out.fits)) le in
      let new_part : take (sample.k * n) (drop (sample.k * x) new) ≡ row_at sample (plus placement.from (spot x y f)) n =
      ap (λ row. take (sample.k * n) (drop (sample.k * x) row)) bytes.is_new
      ∙ part_of_row sample volume (plus placement.from (spot 0 y f)) (plus placement.from (spot x y f)) into.first w x n into.start (into.cell x lx) into.fits le in
      (λ t. sum_of_squared_differences (old_part t) (new_part t))
      ∙ run_is_error canvas sample placement is volume stands fits y f ly lf x n some le filled

-- the bytes of columns from one on and before another
pub piece_of_row : (k k' first end : ℕ) (row : List ℕ) → k ≡ k' → take (k * end - k * first) (drop (k * first) row) ≡ take (k' * (end - first)) (drop (k' * first) row)
piece_of_row k k' first end row same =
    (λ t. take (same t * end - same t * first) (drop (same t * first) row))
    ∙ ap (λ n. take n (drop (k' * first) row)) (sym (mul-sub k' end first))
