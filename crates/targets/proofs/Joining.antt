-- A sample and a target in one volume: where each has its cells.
use Rattle.std.proofs.Common.{◌≡◌, ℕ, ◌+◌, ◌<◌, ◌≤◌, [], ◌∷◌, ◌++◌, length, take, drop, inr, refl, ap, sym, ◌∙◌, subst, arith}
use Rattle.std.proofs.lemmas.Int.{ints}
use Rattle.std.proofs.lemmas.List.{drop-append-le, get_or_append_left, length-append, length-drop, take-append-le}
use Rattle.std.proofs.lemmas.Option.{slice_get-get_or}
use Rattle.std.specs.Prelude.{ℤ, pos, ◌+ℤ◌, Some, IsSome, slice_get, unwrap_or}
use Rattle.std.specs.List.{concat}
use Rattle.cells.specs.declared.place.At.{At}
use Rattle.cells.specs.declared.place.Size.{Size}
use Rattle.cells.specs.Boxes.{HoldsBox}
use Rattle.cells.specs.Cells.{Cells, HasRun, Holds, IsInsideOf, IsOnePart, IsVolume, cell_at, index_of, row_at, run_from, sizes_of, with_part}
use Rattle.cells.specs.PartLists.{one_part_of, part_numbered, parts_of}
use Rattle.cells.specs.Parts.{HoldsFrom, index_from, past}
use Rattle.cells.specs.Places.{IsInside, plus}
use Rattle.cells.specs.SizeLists.{frames_to_part, stock_place}
use Rattle.cells.proofs.CellLaws.{cell_at-index}
use Rattle.cells.proofs.PartBoxes.{held, run_of_volume}
use Rattle.cells.proofs.PartLaws.{index_from_below, index_front}
use Rattle.cells.proofs.PartLists.{joined_parts, stands_in}
use Rattle.cells.proofs.Raster.{has_index}
use Rattle.targets.specs.Joined.{CanBeJoined, target_place}

-- a volume of one part, with its parts written out
pub single : (v : Cells) → IsOnePart v → v ≡ one_part_of v.size v.k v.cells
single v one = λ i. record { size = v.size; more = one i; k = v.k; cells = v.cells }

module _ (sample target : Cells) (volume : IsVolume sample) (can : CanBeJoined sample target) where
  -- a place of the sample has its index in both
  pub same_index : (p : At) (i : ℕ) → index_of sample p ≡ Some i → index_of (with_part sample target) p ≡ Some i
  same_index p i e = index_front sample.size (with_part sample target).more p i (ap (λ more. index_from sample.size more p) (sym can.sample_part) ∙ e)

  pub stays_inside : (p : At) → IsInsideOf sample p → IsInsideOf (with_part sample target) p
  stays_inside p inside = subst IsSome (sym (same_index p _ (has_index (index_of sample p) 0 inside))) refl

  pub stays_held : (corner : At) (inner : Size) → Holds sample corner inner → Holds (with_part sample target) corner inner
  stays_held corner inner holds = λ p has. stays_inside p (holds p has)

  -- and its cell
  pub same_cell : (p : At) → IsInsideOf sample p → cell_at (with_part sample target) p ≡ cell_at sample p
  same_cell p inside =
      let i = unwrap_or (index_of sample p) 0 in
      let e = has_index (index_of sample p) 0 inside in
      let below : i < length sample.cells = omega (arith, index_from_below sample.size sample.more p i e, volume.count) in
      cell_at-index (with_part sample target) p i (same_index p i e)
      ∙ slice_get-get_or (sample.cells ++ target.cells) i [] (omega (arith, below, length-append sample.cells target.cells))
      ∙ ap Some (get_or_append_left sample.cells target.cells [] i below)
      ∙ sym (cell_at-index sample p i e ∙ slice_get-get_or sample.cells i [] below)

  -- and a run its bytes
  pub same_row : (p : At) (w : ℕ) → HasRun sample p w → row_at (with_part sample target) p w ≡ row_at sample p w
  same_row p w has =
      let i = unwrap_or (index_of sample p) 0 in
      let e = has_index (index_of sample p) 0 has.first in
      let end : i + w ≤ length sample.cells = omega (arith, run_of_volume sample p i w e has, volume.count) in
      ap (run_from (sample.cells ++ target.cells) w) (same_index p i e)
      ∙ ap (λ cells. concat (take w cells)) (drop-append-le i sample.cells target.cells (omega (arith, end)))
      ∙ ap concat (take-append-le w (drop i sample.cells) target.cells (omega (arith, end, length-drop i sample.cells)))
      ∙ sym (ap (run_from sample.cells w) e)

  -- a place of the target has its cell in the second part
  second_is : (same : target.k ≡ sample.k) → part_numbered (with_part sample target) 2 ≡ Some target
  second_is same =
      ap (λ parts. slice_get parts 1) (joined_parts sample target volume.count can.target_part same ∙ ap (λ v. parts_of v ++ target ∷ []) (single sample can.sample_part))

  pub both_sizes : sizes_of (with_part sample target) ≡ sample.size ∷ target.size ∷ []
  both_sizes = ap (λ more. sample.size ∷ (more ++ target.size ∷ [])) can.sample_part

  pub target_cell : (p : At) → IsInside target.size p → cell_at (with_part sample target) (target_place sample target p) ≡ cell_at target p
  target_cell p inside =
      ap (λ sizes. cell_at (with_part sample target) (stock_place sizes 2 p)) (sym both_sizes)
      ∙ stands_in (with_part sample target) 2 target (second_is can.samples) p inside

  -- a box of it lies there
  pub target_held : (corner : At) (inner : Size) → HoldsBox target.size corner inner → Holds (with_part sample target) (target_place sample target corner) inner
  target_held corner inner box =
      let there : HoldsBox target.size (past sample.size (target_place sample target corner)) inner = record {
        x = box.x;
        y = box.y;
        f = record { from = omega (arith, ints, box.f.from); to = omega (arith, ints, box.f.to) };
      } in
      let from : HoldsFrom sample.size (target.size ∷ []) (target_place sample target corner) inner = inr there in
      held (with_part sample target) (target_place sample target corner) inner
      (subst (λ more. HoldsFrom sample.size (more ++ target.size ∷ []) (target_place sample target corner) inner) (sym can.sample_part) from)

-- a step from a place of the target goes to the place of that step
pub target_step : (sample target : Cells) (p q : At) → plus (target_place sample target p) q ≡ target_place sample target (plus p q)
target_step sample target p q = λ k. record { x = p.x +ℤ q.x; y = p.y +ℤ q.y; f = turned p.f q.f (pos (frames_to_part (sample.size ∷ target.size ∷ []) 1)) k }
  where
    turned : (a b n : ℤ) → (a +ℤ n) +ℤ b ≡ (a +ℤ b) +ℤ n
    turned a b n = omega (arith, ints)
