-- The sizes of the parts of a sample.
use Rattle.std.proofs.Common.{◌≡◌, ℕ, zero, suc, ◌+◌, ◌*◌, ◌≤◌, List, [], ◌∷◌, length, ap, sym, ◌∙◌, arith}
use Rattle.std.proofs.lemmas.Option.{none-some, same_Some}
use Rattle.std.specs.Prelude.{Some, pos, ◌+ℤ◌, slice_get}
use Rattle.std.proofs.lemmas.Int.{ints}
use Rattle.std.specs.List.{AllByRecursion}
use Rattle.cells.specs.declared.place.At.{At}
use Rattle.cells.specs.declared.place.Size.{Size}
use Rattle.cells.specs.Cells.{Cells, IsVolume, sizes_of}
use Rattle.cells.specs.Parts.{count_from}
use Rattle.cells.specs.Places.{HasAxes, IsSmall, cell_count, spot}
use Rattle.cells.specs.SizeLists.{frames_to_part, size_of_part, stock_place}
use Rattle.patch_picks.specs.Counts.{AreVolumeParts, part_cells}

count_parts : (size : Size) (more : List Size) → part_cells (size ∷ more) ≡ count_from size more
count_parts size [] = omega arith
count_parts size (next ∷ more) = ap (λ n. cell_count size + n) (count_parts next more)

-- the parts of a volume
pub volume_parts : (v : Cells) → IsVolume v → AreVolumeParts (sizes_of v)
volume_parts v is = record {
  few = omega (arith, is.parts.few);
  axes = (is.parts.first, is.parts.others);
  cells = omega (arith, count_parts v.size v.more, is.parts.cells);
}

-- each has at most as many cells as all
pub part_within : (sizes : List Size) (n : ℕ) (part : Size) → slice_get sizes n ≡ Some part → cell_count part ≤ part_cells sizes
part_within [] n part at = absurd (none-some part at)
part_within (size ∷ sizes) zero part at = omega (arith, ap cell_count (same_Some size part at))
part_within (size ∷ sizes) (suc n) part at = omega (arith, part_within sizes n part at)

pub frames_few : (sizes : List Size) (n : ℕ) → AllByRecursion HasAxes sizes → frames_to_part sizes n ≤ 4097 * length sizes
frames_few [] n axes = omega arith
frames_few (size ∷ sizes) zero axes = omega arith
frames_few (size ∷ sizes) (suc n) axes = let first = axes.0 in omega (arith, first.f, frames_few sizes n axes.1)

-- one of them is a small size
pub part_small : (sizes : List Size) (n : ℕ) (part : Size) → AreVolumeParts sizes → Some part ≡ size_of_part sizes (n + 1) → HasAxes part → IsSmall part
part_small sizes n part are at axes =
    let number : n + 1 ≡ suc n = omega arith in
    record { axes = axes; cells = omega (arith, part_within sizes n part (sym (at ∙ ap (size_of_part sizes) number)), are.cells) }

-- the first cell of a part is at its first frame
pub stock_frames : (sizes : List Size) (n : ℕ) (p : At) → p ≡ stock_place sizes (n + 1) (spot 0 0 0) → p.f ≡ pos (frames_to_part sizes n)
stock_frames sizes n p e =
    let number : n + 1 ≡ suc n = omega arith in
    let plain : pos 0 +ℤ pos (frames_to_part sizes n) ≡ pos (frames_to_part sizes n) = omega (arith, ints) in
    ap (λ (q : At). q.f) (e ∙ ap (λ m. stock_place sizes m (spot 0 0 0)) number) ∙ plain
