-- The whole output, laid from the same place of a picture: it fits, each cell's new source is its own place of the picture, and a list over its cells is read at a cell's own index.
use Rattle.std.proofs.Common.{◌≡◌, ℕ, zero, suc, ◌<◌, ◌≤◌, Bool, false, List, [], ◌∷◌, get_or, length, refl, ap, sym, ◌∙◌, subst, arith}
use Rattle.std.proofs.lemmas.Int.{ints}
use Rattle.std.specs.Prelude.{ℤ, pos, ◌+ℤ◌, ◌-ℤ◌, Some, IsSome, slice_get}
use Rattle.std.specs.List.{AllByRecursion}
use Rattle.cells.specs.declared.place.At.{At}
use Rattle.cells.specs.declared.place.Size.{Size}
use Rattle.cells.specs.declared.sizes.PartPlace.{PartPlace}
use Rattle.cells.specs.Boxes.{IsInBox}
use Rattle.cells.specs.Cells.{Cells, Holds, IsInsideOf, IsVolume, sizes_of}
use Rattle.cells.specs.Places.{HasAxes, IsInside, index_in, minus, plus, spot}
use Rattle.cells.specs.SizeLists.{IsInPart, IsPartPlace, frames_to_part, size_of_part, stock_place}
use Rattle.cells.proofs.PartLists.{one_part_has}
use Rattle.cells.proofs.Raster.{index_of_spot}
use Rattle.map_canvas.specs.Choices.{Fits, box_index, chosen, new_source}
use Rattle.photo_merge.specs.Merges.{AreOneSize, same_place, whole_from}
use Rattle.photo_merge.proofs.MapsOver.{IsPlaceAt}

-- a place is as far from the first cell as it is
pub from_first : (p : At) → minus p (spot 0 0 0) ≡ p
from_first p = λ k. record { x = same p.x k; y = same p.y k; f = same p.f k }
  where
    same : (z : ℤ) → z -ℤ pos 0 ≡ z
    same z = omega (arith, ints)

to_first : (p : At) → plus (spot 0 0 0) p ≡ p
to_first p = λ k. record { x = same p.x k; y = same p.y k; f = same p.f k }
  where
    same : (z : ℤ) → pos 0 +ℤ z ≡ z
    same z = omega (arith, ints)

-- a step from the same place as the first cell leads to the same place as the step
step_of_place : (sizes : List Size) (number : ℕ) (p : At) → plus (stock_place sizes number (spot 0 0 0)) p ≡ stock_place sizes number p
step_of_place sizes zero p = to_first p
step_of_place sizes (suc n) p = λ k. record { x = same p.x k; y = same p.y k; f = on (pos (frames_to_part sizes n)) p.f k }
  where
    same : (z : ℤ) → pos 0 +ℤ z ≡ z
    same z = omega (arith, ints)

    on : (n z : ℤ) → (pos 0 +ℤ n) +ℤ z ≡ z +ℤ n
    on n z = omega (arith, ints)

module _ (pictures : Cells) (number : ℕ) (size : Size) where
  pub source_of_cell : (p : At) → new_source (whole_from pictures number size) p ≡ same_place pictures number p
  source_of_cell p = ap (plus (same_place pictures number (spot 0 0 0))) (from_first p) ∙ step_of_place (sizes_of pictures) number p

  pub in_whole : (p : At) → IsInside size p → IsInBox (whole_from pictures number size).rect p
  in_whole p inside = subst (IsInside size) (sym (from_first p)) inside

  pub of_whole : (p : At) → IsInBox (whole_from pictures number size).rect p → IsInside size p
  of_whole p inside = subst (IsInside size) (from_first p) inside

  -- what a list says of a cell is at the cell's index
  pub said_of : (says : List Bool) (p : At) (i : ℕ) → IsPlaceAt size p i → chosen says (box_index (whole_from pictures number size) p) ≡ get_or says i false
  said_of says p i at = ap (λ q. chosen says (index_in size q)) (from_first p) ∙ ap (chosen says) at.index

-- The same places of pictures of one size are inside them.

-- a size of a list of which all are one
size_at : (size : Size) (sizes : List Size) → AllByRecursion (λ its. its ≡ size) sizes → (n : ℕ) → n < length sizes → slice_get sizes n ≡ Some size
size_at size [] all n lt = absurd (omega arith)
size_at size (its ∷ sizes) all zero lt = ap Some all.0
size_at size (its ∷ sizes) all (suc n) lt = size_at size sizes all.1 n (omega arith)

pub numbered_size : (pictures : Cells) → AreOneSize pictures → (n : ℕ) → n < length (sizes_of pictures) → slice_get (sizes_of pictures) n ≡ Some pictures.size
numbered_size pictures one zero lt = refl
numbered_size pictures one (suc n) lt = size_at pictures.size pictures.more one n (omega arith)

-- the size that a list of sizes gives the first picture
pub size_of_first : (pictures : Cells) (sizes : List Size) (size : Size) → sizes ≡ sizes_of pictures → Some size ≡ size_of_part sizes 1 → size ≡ pictures.size
size_of_first pictures sizes size is first = let both : Some size ≡ Some pictures.size = first ∙ ap (λ s. size_of_part s 1) is in cc

-- the first cell is inside each picture
pub origin_inside : (pictures : Cells) → IsVolume pictures → AreOneSize pictures → (number : ℕ) → 1 ≤ number → number ≤ length (sizes_of pictures) → IsInPart (sizes_of pictures) number (spot 0 0 0)
origin_inside pictures volume one zero from to = absurd (omega arith)
origin_inside pictures volume one (suc n) from to = λ size is.
    let both : Some pictures.size ≡ Some size = sym (numbered_size pictures one n (omega arith)) ∙ is in
    let same : pictures.size ≡ size = cc in
    let axes = volume.small.axes in
    subst (λ s. IsInside s (spot 0 0 0)) same (subst IsSome (sym (index_of_spot pictures.size 0 0 0 (omega (arith, axes.w.0)) (omega (arith, axes.h.0)) (omega (arith, axes.f.0)))) refl)

pub same_inside : (pictures : Cells) → AreOneSize pictures → (number : ℕ) → 1 ≤ number → number ≤ length (sizes_of pictures) → (p : At) → IsInside pictures.size p → IsInsideOf pictures (same_place pictures number p)
same_inside pictures one zero from to p inside = absurd (omega arith)
same_inside pictures one (suc n) from to p inside = (one_part_has pictures (same_place pictures (suc n) p)).inside.1 (there, is)
  where
    there : PartPlace
    there = record { part = suc n; at = p }

    is : IsPartPlace (sizes_of pictures) (same_place pictures (suc n) p) there
    is = record {
      before = n;
      part = omega arith;
      size = pictures.size;
      is = numbered_size pictures one n (omega arith);
      inside = inside;
      stock = refl;
    }

pub whole_fits : (pictures : Cells) → IsVolume pictures → AreOneSize pictures → (number : ℕ) → 1 ≤ number → number ≤ length (sizes_of pictures) → (size : Size) → size ≡ pictures.size → Fits size pictures (whole_from pictures number size)
whole_fits pictures volume one number from to size is = record {
  some = record { w = axes.w.0; h = axes.h.0; f = axes.f.0 };
  inside = record { x = record { from = omega (arith, ints); to = omega (arith, ints) }; y = record { from = omega (arith, ints); to = omega (arith, ints) }; f = record { from = omega (arith, ints); to = omega (arith, ints) } };
  sources = λ p inside. held p inside;
}
  where
    axes : HasAxes size
    axes = subst HasAxes (sym is) volume.small.axes

    held : Holds pictures (same_place pictures number (spot 0 0 0)) size
    held p inside =
        let step = minus p (same_place pictures number (spot 0 0 0)) in
        let there : same_place pictures number step ≡ p = sym (step_of_place (sizes_of pictures) number step) ∙ ahead (same_place pictures number (spot 0 0 0)) p in
        subst (IsInsideOf pictures) there (same_inside pictures one number from to step (subst (λ s. IsInside s step) is inside))
      where
        back : (a z : ℤ) → a +ℤ (z -ℤ a) ≡ z
        back a z = omega (arith, ints)

        ahead : (q p : At) → plus q (minus p q) ≡ p
        ahead q p = λ k. record { x = back q.x p.x k; y = back q.y p.y k; f = back q.f p.f k }
