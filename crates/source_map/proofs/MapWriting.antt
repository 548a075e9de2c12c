-- What is known of the sources of a map that can be written.
use Rattle.std.proofs.Common.{◌≡◌, ℕ, zero, suc, ◌<◌, ◌≤◌, ◌^◌, List, [], ◌∷◌, get_or, length, refl, sym, ap, ◌∙◌, subst, arith}
use Rattle.std.proofs.lemmas.List.{get_or_default}
use Rattle.std.proofs.lemmas.Option.{slice_get_within}
use mathlib.Core.Bool.{false≢true}
use Rattle.std.proofs.lemmas.Int.{ints}
use Rattle.std.specs.Prelude.{ℤ, pos, ◌+ℤ◌, Option, Some, None, IsSome, IsSomeAnd, All, slice_get}
use Rattle.std.specs.List.{AllByRecursion}
use Rattle.limits.specs.declared.bounds.TheConstants.{GREATEST_AXIS}
use Rattle.cells.specs.declared.place.At.{At}
use Rattle.cells.specs.declared.place.Size.{Size}
use Rattle.cells.specs.declared.sizes.PartPlace.{PartPlace}
use Rattle.cells.specs.Places.{HasAxes, IsInside, index_in, place_of}
use Rattle.cells.specs.SizeLists.{AreSizes, IsPartPlace, frames_on, frames_to_part}
use Rattle.cells.proofs.Raster.{OnAxis, index_parts, has_index, place_at}
use Rattle.map_canvas.specs.Maps.{SourceMap, IsMap, map_at}
use Rattle.map_canvas.proofs.AfterLaws.{source_of_place}
use Rattle.source_map.specs.declared.head.Version.{Version}
use Rattle.source_map.specs.MapFiles.{IsInSamples, IsShort, IsShortCoordinate, IsWritable}

short_inside : (size : Size) → HasAxes size → (p : At) → IsInside size p → IsShort p
short_inside size axes p inside =
    let at = index_parts size p _ (has_index (index_in size p) 0 inside) in
    record {
      x = short p.x at.x size.w at.x_on axes.w.1;
      y = short p.y at.y size.h at.y_on axes.h.1;
      f = short p.f at.f size.f at.f_on axes.f.1;
    }
  where
    short : (z : ℤ) (c n : ℕ) → OnAxis n z c → n ≤ GREATEST_AXIS → IsShortCoordinate z
    short z c n on le = subst IsShortCoordinate (sym on.is) (omega (arith, ints), omega (arith, ints, on.below))

pub axes_of : (sizes : List Size) (i : ℕ) (size : Size) → AllByRecursion HasAxes sizes → slice_get sizes i ≡ Some size → HasAxes size
axes_of [] i size all is = absurd (cc)
axes_of (s ∷ sizes) zero size all is = subst HasAxes (some_is is) all.0
  where
    some_is : Some s ≡ Some size → s ≡ size
    some_is e = cc
axes_of (s ∷ sizes) (suc i) size all is = axes_of sizes i size all.1 is

-- a place of a part is one of 16 bits, and so is the part's number
pub part_short : (sizes : List Size) (p : At) (there : PartPlace) → AreSizes sizes → IsPartPlace sizes p there → IsShort there.at
part_short sizes p there are has = short_inside has.size (axes_of sizes has.before has.size are.axes has.is) there.at has.inside

pub part_low : (sizes : List Size) (p : At) (there : PartPlace) → AreSizes sizes → IsPartPlace sizes p there → there.part < 2 ^ 16
part_low sizes p there are has =
    let within = slice_get_within sizes has.before has.size has.is in
    omega (arith, within, has.part, are.few)

no_frames : (sizes : List Size) (n : ℕ) → n ≡ 0 → frames_to_part sizes n ≡ 0
no_frames [] n e = refl
no_frames (size ∷ sizes) n e = ap (frames_to_part (size ∷ sizes)) e

-- in one sample a place is that of the joined samples
pub one_place : (sizes : List Size) (p : At) (there : PartPlace) → length sizes ≡ 1 → IsPartPlace sizes p there → there.at ≡ p
one_place sizes p there one has =
    let within = slice_get_within sizes has.before has.size has.is in
    let first : has.before ≡ 0 = omega (arith, within, one) in
    let none = no_frames sizes has.before first in
    let f : there.at.f ≡ there.at.f +ℤ pos 0 = omega (arith, ints) in
    (λ i. record { x = there.at.x; y = there.at.y; f = f i }) ∙ ap (λ n. frames_on n there.at) (sym none) ∙ has.stock

-- and its part is the first
pub one_part : (sizes : List Size) (p : At) (there : PartPlace) → length sizes ≡ 1 → IsPartPlace sizes p there → there ≡ record { part = 1; at = p }
one_part sizes p there one has =
    let within = slice_get_within sizes has.before has.size has.is in
    let number : there.part ≡ 1 = omega (arith, within, has.part, one) in
    λ i. record { part = number i; at = one_place sizes p there one has i }

pub one_short : (sizes : List Size) (p : At) (there : PartPlace) → AreSizes sizes → length sizes ≡ 1 → IsPartPlace sizes p there → IsShort p
one_short sizes p there are one has = subst IsShort (one_place sizes p there one has) (part_short sizes p there are has)

-- each source of a map that can be written is in a sample
pub all_inside : (m : SourceMap) (samples : List Size) (version : Version) → IsMap m → IsWritable m samples version → All (λ source. IsSomeAnd source (IsInSamples samples)) m.sources
all_inside m samples version is writable i d lt =
    subst (λ source. IsSomeAnd source (IsInSamples samples)) (get_or_default m.sources i None d lt) (by (get_or m.sources i None) refl)
  where
    p : At
    p = place_of m.size i

    inside : IsInside m.size p
    inside = subst IsSome (sym (place_at m.size i is.small.axes.w.0 is.small.axes.h.0 (subst (λ n. i < n) is.count lt))) refl

    source : map_at m p ≡ get_or m.sources i None
    source = source_of_place m is i lt

    by : (o : Option At) → get_or m.sources i None ≡ o → IsSomeAnd o (IsInSamples samples)
    by None e = absurd (false≢true (subst IsSome (source ∙ e) (writable.full p inside)))
    by (Some from) e = writable.sources p from (source ∙ e)
