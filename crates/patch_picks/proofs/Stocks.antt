-- Boxes of a part, as the joined volume counts their places.
use Rattle.std.proofs.Common.{◌≡◌, ℕ, zero, suc, ◌+◌, List, [], ◌∷◌, inl, inr, drop, refl, ap, sym, subst, arith}
use Rattle.std.proofs.lemmas.Int.{ints}
use Rattle.std.proofs.lemmas.Option.{none-some, same_Some}
use Rattle.std.specs.Prelude.{ℤ, pos, ◌+ℤ◌, ◌-ℤ◌, Some, slice_get}
use Rattle.std.specs.List.{AllByRecursion}
use Rattle.cells.specs.declared.place.At.{At}
use Rattle.cells.specs.declared.place.Size.{Size}
use Rattle.cells.specs.Boxes.{HasCells, HoldsBox}
use Rattle.cells.specs.Cells.{Cells, Holds, IsVolume, sizes_of}
use Rattle.cells.specs.Parts.{HoldsFrom, past}
use Rattle.cells.specs.Places.{HasAxes}
use Rattle.cells.specs.SizeLists.{frames_to_part, stock_place}
use Rattle.cells.proofs.PartBoxes.{held, holds_front, of_held}
use Rattle.boxes.specs.Rooms.{HasRoom}
use Rattle.patch_picks.specs.Fitting.{HasRoomInEach}
use Rattle.patch_picks.specs.Modes.{least_of, least_part, lesser}
use Rattle.patch_picks.proofs.PartLists.{drop_part}

-- a place so many frames further
abbrev pub moved : ℕ → At → At
moved n p = record { x = p.x; y = p.y; f = p.f +ℤ pos n }

moved_none : (p : At) → p ≡ moved 0 p
moved_none p = λ k. record { x = p.x; y = p.y; f = same p.f k }
  where
    same : (z : ℤ) → z ≡ z +ℤ pos 0
    same z = omega (arith, ints)

past_moved : (size : Size) (n : ℕ) (p : At) → moved n p ≡ past size (moved (size.f + 1 + n) p)
past_moved size n p = λ k. record { x = p.x; y = p.y; f = back p.f k }
  where
    back : (z : ℤ) → z +ℤ pos n ≡ (z +ℤ pos (size.f + 1 + n)) -ℤ pos (size.f + 1)
    back z = omega (arith, ints)

moved_past : (size : Size) (n : ℕ) (p q : At) → past size q ≡ moved n p → q ≡ moved (size.f + 1 + n) p
moved_past size n p q e = λ k. record { x = (e k).x; y = (e k).y; f = forth q.f p.f (λ j. (e j).f) k }
  where
    forth : (a b : ℤ) → a -ℤ pos (size.f + 1) ≡ b +ℤ pos n → a ≡ b +ℤ pos (size.f + 1 + n)
    forth a b is = omega (arith, ints, is)

pub stock_moved : (sizes : List Size) (number n : ℕ) (p : At) → number ≡ suc n → stock_place sizes number p ≡ moved (frames_to_part sizes n) p
stock_moved sizes number n p e = ap (λ m. stock_place sizes m p) e

-- a box that lies inside a part lies inside the volume
holds_in_part : (size : Size) (more : List Size) (n : ℕ) (part : Size) (p : At) (inner : Size) → slice_get (size ∷ more) n ≡ Some part → HoldsBox part p inner → HoldsFrom size more (moved (frames_to_part (size ∷ more) n) p) inner
holds_in_part size more zero part p inner at box =
    subst (λ q. HoldsFrom size more q inner) (moved_none p)
    (holds_front size more p inner (subst (λ s. HoldsBox s p inner) (sym (same_Some size part at)) box))
holds_in_part size [] (suc n) part p inner at box = absurd (none-some part at)
holds_in_part size (next ∷ more) (suc n) part p inner at box =
    inr (subst (λ q. HoldsFrom next more q inner) (past_moved size (frames_to_part (next ∷ more) n) p) (holds_in_part next more n part p inner at box))

pub part_held : (v : Cells) (number n : ℕ) (part : Size) (p : At) (inner : Size) → number ≡ suc n → slice_get (sizes_of v) n ≡ Some part → HoldsBox part p inner → Holds v (stock_place (sizes_of v) number p) inner
part_held v number n part p inner e at box =
    subst (λ q. Holds v q inner) (sym (stock_moved (sizes_of v) number n p e))
    (held v (moved (frames_to_part (sizes_of v) n) p) inner (holds_in_part v.size v.more n part p inner at box))

-- and one that lies inside the volume lies inside a part
pub record IsInPart (sizes : List Size) (corner : At) (inner : Size) : Type 0 where
  pub n : ℕ
  pub part : Size
  pub is : slice_get sizes n ≡ Some part
  pub from : At
  pub stock : corner ≡ moved (frames_to_part sizes n) from
  pub box : HoldsBox part from inner

in_first : (size : Size) (more : List Size) (corner : At) (inner : Size) → HoldsBox size corner inner → IsInPart (size ∷ more) corner inner
in_first size more corner inner box = record { n = 0; part = size; is = refl; from = corner; stock = moved_none corner; box = box }

in_some_part : (size : Size) (more : List Size) (corner : At) (inner : Size) → HoldsFrom size more corner inner → IsInPart (size ∷ more) corner inner
in_some_part size [] corner inner box = in_first size [] corner inner box
in_some_part size (next ∷ more) corner inner (inl box) = in_first size (next ∷ more) corner inner box
in_some_part size (next ∷ more) corner inner (inr box) =
    let there = in_some_part next more (past size corner) inner box in
    record {
      n = suc there.n;
      part = there.part;
      is = there.is;
      from = there.from;
      stock = moved_past size (frames_to_part (next ∷ more) there.n) there.from corner there.stock;
      box = there.box;
    }

pub held_in_part : (v : Cells) (corner : At) (inner : Size) → HasCells inner → Holds v corner inner → IsInPart (sizes_of v) corner inner
held_in_part v corner inner some holds = in_some_part v.size v.more corner inner (of_held v corner inner some holds)

-- each part has axes
pub axes_at : (sizes : List Size) (n : ℕ) (part : Size) → AllByRecursion HasAxes sizes → slice_get sizes n ≡ Some part → HasAxes part
axes_at [] n part axes at = absurd (none-some part at)
axes_at (size ∷ sizes) zero part axes at = subst HasAxes (same_Some size part at) axes.0
axes_at (size ∷ sizes) (suc n) part axes at = axes_at sizes n part axes.1 at

-- and room for what is the least of all
least_first : (size : Size) (more : List Size) → HasRoom size (least_of size more)
least_first size [] = record { w = omega arith; h = omega arith; f = omega arith }
least_first size (next ∷ more) =
    let rest = least_first (lesser size next) more in
    record { w = omega (arith, rest.w); h = omega (arith, rest.h); f = omega (arith, rest.f) }

least_other : (size : Size) (more : List Size) (n : ℕ) (part : Size) → slice_get more n ≡ Some part → HasRoom part (least_of size more)
least_other size [] n part at = absurd (none-some part at)
least_other size (next ∷ more) zero part at =
    let rest = least_first (lesser size next) more in
    subst (λ s. HasRoom s (least_of (lesser size next) more)) (same_Some next part at)
    (record { w = omega (arith, rest.w); h = omega (arith, rest.h); f = omega (arith, rest.f) })
least_other size (next ∷ more) (suc n) part at = least_other (lesser size next) more n part at

pub least_within : (v : Cells) (n : ℕ) (part : Size) → slice_get (sizes_of v) n ≡ Some part → HasRoom part (least_part v)
least_within v zero part at = subst (λ s. HasRoom s (least_part v)) (same_Some v.size part at) (least_first v.size v.more)
least_within v (suc n) part at = least_other v.size v.more n part at

-- which has cells
pub least_some : (size : Size) (more : List Size) → HasCells size → AllByRecursion HasAxes more → HasCells (least_of size more)
least_some size [] some axes = some
least_some size (next ∷ more) some axes =
    let first = axes.0 in
    least_some (lesser size next) more (record { w = omega (arith, some.w, first.w); h = omega (arith, some.h, first.h); f = omega (arith, some.f, first.f) }) axes.1

pub least_room : (v : Cells) → HasRoomInEach v (least_part v)
least_room v zero part at = absurd (none-some part at)
least_room v (suc n) part at = least_within v n part at

pub least_cells : (v : Cells) → IsVolume v → HasCells (least_part v)
least_cells v is = let first = is.parts.first in least_some v.size v.more (record { w = first.w.0; h = first.h.0; f = first.f.0 }) is.parts.others

-- the next of the parts
pub least_step : (least next : Size) (n : ℕ) (sizes : List Size) → slice_get sizes n ≡ Some next → least_of (lesser least next) (drop (n + 1) sizes) ≡ least_of least (drop n sizes)
least_step least next n sizes at = ap (least_of least) (sym (drop_part sizes n next at))
