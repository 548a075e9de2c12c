-- What a full canvas over samples has is in the ranges of the files: its picture, its map, and the places of its records.
use Rattle.std.proofs.Common.{◌≡◌, ℕ, ◌≤◌, ◌<◌, ◌^◌, List, [], ◌∷◌, length, refl, ap, sym, ◌∙◌, subst, arith}
use Rattle.std.proofs.lemmas.Int.{ints}
use Rattle.std.specs.Prelude.{All, ℤ, pos, negsuc, ◌+ℤ◌, ◌≤ℤ◌, ◌<ℤ◌}
use Rattle.limits.specs.declared.bounds.TheConstants.{GREATEST_AXIS}
use Rattle.cells.specs.declared.place.At.{At}
use Rattle.cells.specs.declared.place.Size.{Size}
use Rattle.cells.specs.Boxes.{AxisHolds, HasCells}
use Rattle.cells.specs.Cells.{Cells, Holds, IsInsideOf, IsOnePart, IsVolume, bytes_of, sizes_of}
use Rattle.cells.specs.Places.{IsInside, plus, spot}
use Rattle.cells.specs.SizeLists.{AreSizes}
use Rattle.cells.proofs.BoxTests.{of_inside, on_axis_bounds}
use Rattle.cells.proofs.CellLaws.{cell_is_inside, indexed_has_cell}
use Rattle.cells.proofs.PartBoxes.{held_run}
use Rattle.cells.proofs.PartLists.{one_part_has}
use Rattle.map_canvas.specs.Canvases.{CanvasState, IsCanvas, StandsOver}
use Rattle.map_canvas.specs.Maps.{IsFull}
use Rattle.map_canvas.proofs.Pictures.{full_picture}
use Rattle.netpbm_p6.specs.Pictures.{IsPicture}
use Rattle.source_map.specs.MapFiles.{IsInSamples, IsShort, IsShortCoordinate}
use Rattle.command_files.proofs.Pictures.{picture_bytes}

-- the picture of a full canvas of one frame over a sample with no byte above maxval can be written with it
pub picture_stands : (maxval : ℕ) (sample : Cells) (canvas : CanvasState) → 1 ≤ maxval → maxval ≤ 255 → sample.k ≡ 3 → All (λ b. b ≤ maxval) (bytes_of sample) → IsVolume sample → IsFull canvas.map
    → canvas.map.size.f ≡ 1 → IsCanvas canvas → StandsOver canvas sample → IsPicture maxval canvas.picture
picture_stands maxval sample canvas positive fits colours samples volume full frames is stands = record {
  positive = positive;
  fits = fits;
  volume_is = is.picture;
  one = is.part;
  frames = ap (λ (size : Size). size.f) is.size ∙ frames;
  colours = stands.samples ∙ colours;
  samples = subst (λ (v : Cells). All (λ b. b ≤ maxval) (bytes_of v)) (sym (full_picture canvas sample is stands full))
      (picture_bytes (λ b. b ≤ maxval) sample volume samples canvas.map is.map full stands.over);
}

-- the sizes of the parts of a volume
pub volume_sizes : (sample : Cells) → IsVolume sample → AreSizes (sizes_of sample)
volume_sizes sample volume = record {
  some = omega arith;
  few = omega (arith, volume.parts.few);
  axes = (volume.parts.first, volume.parts.others);
}

-- a place with a cell is in one of the parts
pub in_samples : (sample : Cells) (p : At) → IsInsideOf sample p → IsInSamples (sizes_of sample) p
in_samples sample p inside = (one_part_has sample p).inside.0 inside

-- a box in an output has a corner and a size of 16 bits
pub short_axis : (z : ℤ) (len n : ℕ) → AxisHolds n z len → 1 ≤ len → n ≤ GREATEST_AXIS → IsShortCoordinate z × (len < 2 ^ 16)
short_axis (pos c) len n box some le = ((omega (arith, ints), omega (arith, ints, box.to, some, le)), omega (arith, ints, box.to, le))
short_axis (negsuc c) len n box some le = absurd (omega (arith, ints, box.from))

-- the corner of a box that lies in the parts is in one of them
pub corner_inside : (sample : Cells) (corner : At) (inner : Size) → Holds sample corner inner → HasCells inner → IsInsideOf sample corner
corner_inside sample corner inner holds some = subst (IsInsideOf sample) here (held_run sample corner inner 0 0 holds some.w (omega (arith, some.h)) (omega (arith, some.f))).first
  where
    none_on : (z : ℤ) → z +ℤ pos 0 ≡ z
    none_on z = omega (arith, ints)

    here : plus corner (spot 0 0 0) ≡ corner
    here = λ k. record { x = none_on corner.x k; y = none_on corner.y k; f = none_on corner.f k }

-- in a sample of one part it has coordinates of 16 bits, and frame 0 where there is one frame
short_from : (z : ℤ) (n : ℕ) → pos 0 ≤ℤ z → z <ℤ pos n → n ≤ GREATEST_AXIS → IsShortCoordinate z
short_from z n low high le = (low, omega (arith, ints, high, le))

first_of_one : (z : ℤ) (n : ℕ) → pos 0 ≤ℤ z → z <ℤ pos n → n ≡ 1 → z ≡ pos 0
first_of_one (pos c) n low high one = ap pos (omega (arith, ints, high, one))
first_of_one (negsuc c) n low high one = absurd (omega (arith, ints, low))

module _ (sample : Cells) (volume : IsVolume sample) (one : IsOnePart sample) (p : At) (inside : IsInsideOf sample p) where
  in_part : IsInside sample.size p
  in_part = cell_is_inside sample one p (indexed_has_cell sample volume.count p inside)

  pub short_place : IsShort p
  short_place =
      let on = of_inside sample.size p in_part in
      let x = on_axis_bounds sample.size.w p.x on.x in
      let y = on_axis_bounds sample.size.h p.y on.y in
      let f = on_axis_bounds sample.size.f p.f on.f in
      record {
        x = short_from p.x sample.size.w x.0 x.1 (omega (arith, volume.small.axes.w.1));
        y = short_from p.y sample.size.h y.0 y.1 (omega (arith, volume.small.axes.h.1));
        f = short_from p.f sample.size.f f.0 f.1 (omega (arith, volume.small.axes.f.1));
      }

  pub frame_0 : sample.size.f ≡ 1 → p.f ≡ pos 0
  frame_0 frames =
      let f = on_axis_bounds sample.size.f p.f (of_inside sample.size p in_part).f in
      first_of_one p.f sample.size.f f.0 f.1 frames
