-- Places that were read are sources.
use Rattle.std.proofs.Common.{◌≡◌, ℕ, zero, suc, ◌+◌, ◌*◌, ◌<◌, ◌≤◌, List, [], ◌∷◌, get_or, length, refl, sym, ap, ◌∙◌, subst, arith}
use Rattle.std.proofs.lemmas.Int.{ints}
use Rattle.std.specs.Prelude.{ℤ, pos, ◌+ℤ◌, Option, Some, None, All, IsSome, IsSomeAnd, unwrap_or}
use Rattle.std.specs.List.{AllByRecursion}
use Rattle.limits.specs.declared.bounds.TheConstants.{GREATEST_AXIS, MOST_MAP_CELLS}
use Rattle.cells.specs.declared.place.At.{At}
use Rattle.cells.specs.declared.place.Size.{Size}
use Rattle.cells.specs.Places.{HasAxes, IsInside, cell_count, index_in, index_on_axes, on_axis, raster_index, spot}
use Rattle.cells.specs.SizeLists.{AreSizes, frames_on, frames_to_part, size_of_part, stock_place}
use Rattle.cells.proofs.Raster.{OnAxis, index_below, index_parts, has_index, on_axis_in}
use Rattle.map_canvas.specs.Maps.{IsCoordinate, IsMap, IsSource, SourceMap, map_at, source_at}
use Rattle.source_map.specs.declared.head.Version.{Version}
use Rattle.source_map.specs.Heads.{AreSamples}
use Rattle.source_map.specs.MapFiles.{IsInSamples, IsWritable}

pub inside_source : (size : Size) → HasAxes size → (p : At) → IsInside size p → IsSource p
inside_source size axes p inside =
    let at = index_parts size p _ (has_index (index_in size p) 0 inside) in
    record {
      x = short p.x at.x size.w at.x_on axes.w.1;
      y = short p.y at.y size.h at.y_on axes.h.1;
      f = short p.f at.f size.f at.f_on axes.f.1;
    }
  where
    short : (z : ℤ) (c n : ℕ) → OnAxis n z c → n ≤ GREATEST_AXIS → IsCoordinate z
    short z c n on le = subst IsCoordinate (sym on.is) (omega (arith, ints), omega (arith, ints, on.below))

few_frames : (sizes : List Size) (n : ℕ) → AllByRecursion HasAxes sizes → frames_to_part sizes n ≤ 4097 * length sizes
few_frames [] n axes = omega arith
few_frames (size ∷ sizes) zero axes = omega arith
few_frames (size ∷ sizes) (suc n) axes =
    let rest = few_frames sizes n axes.1 in
    let here = axes.0.f.1 in
    omega (arith, rest, here)

pub stock_source : (samples : List Size) (part : ℕ) (size : Size) (p : At) → AreSizes samples → HasAxes size → Some size ≡ size_of_part samples part → IsInside size p
    → IsSource (stock_place samples part p)
stock_source samples zero size p are axes is inside = inside_source size axes p inside
stock_source samples (suc n) size p are axes is inside =
    let at = index_parts size p _ (has_index (index_in size p) 0 inside) in
    let plain = inside_source size axes p inside in
    record { x = plain.x; y = plain.y; f = later p.f at.f size.f (frames_to_part samples n) at.f_on axes.f.1 (low (few_frames samples n are.axes) are.few) }
  where
    low : {a b : ℕ} → a ≤ 4097 * b → b ≤ 16 → a ≤ 65552
    low {a} {b} le few = omega arith

    later : (z : ℤ) (c n k : ℕ) → OnAxis n z c → n ≤ GREATEST_AXIS → k ≤ 65552 → IsCoordinate (z +ℤ pos k)
    later z c n k on le few = subst (λ z. IsCoordinate (z +ℤ pos k)) (sym on.is) (omega (arith, ints), omega (arith, ints, on.below))

pub spot_inside : (size : Size) (x y f : ℕ) → x < size.w → y < size.h → f < size.f → IsInside size (spot x y f)
spot_inside size x y f w h t = subst IsSome (sym is) refl
  where
    is : index_in size (spot x y f) ≡ Some (raster_index size x y f)
    is = ap (λ o. index_on_axes size o (on_axis size.h (pos y)) (on_axis size.f (pos f))) (on_axis_in size.w x w)
        ∙ ap (λ o. index_on_axes size (Some x) o (on_axis size.f (pos f))) (on_axis_in size.h y h)
        ∙ ap (index_on_axes size (Some x) (Some y)) (on_axis_in size.f f t)

-- a place of a part is in the samples
pub stock_in : (samples : List Size) (part : ℕ) (size : Size) (p : At) → 1 ≤ part → Some size ≡ size_of_part samples part → IsInside size p → IsInSamples samples (stock_place samples part p)
stock_in samples zero size p from is inside = absurd (omega arith)
stock_in samples (suc n) size p from is inside = (
  record { part = suc n; at = p },
  record {
    before = n;
    part = (let e : suc n ≡ 1 + n = omega arith in e);
    size = size;
    is = sym is;
    inside = inside;
    stock = refl;
  },
)

pub one_in : (samples : List Size) (part : ℕ) (size : Size) (p : At) → part ≡ 1 → Some size ≡ size_of_part samples part → IsInside size p → IsInSamples samples p
one_in samples part size p one is inside =
    let f : p.f +ℤ pos 0 ≡ p.f = omega (arith, ints) in
    let here : stock_place samples 1 p ≡ p = ap (λ n. frames_on n p) (no_frames samples) ∙ (λ i. record { x = p.x; y = p.y; f = f i }) in
    let le : 1 ≤ 1 = omega arith in
    subst (IsInSamples samples) here (stock_in samples 1 size p le (is ∙ ap (size_of_part samples) one) inside)
  where
    no_frames : (sizes : List Size) → frames_to_part sizes 0 ≡ 0
    no_frames [] = refl
    no_frames (s ∷ sizes) = refl

-- a map whose sources are all in the samples can be written
pub writable_of : (m : SourceMap) (samples : List Size) (version : Version) → IsMap m → AreSamples version samples → cell_count m.size ≤ MOST_MAP_CELLS
    → All (λ source. IsSomeAnd source (IsInSamples samples)) m.sources → IsWritable m samples version
writable_of m samples version is are few all = record {
  full = λ p inside. (found p inside).0;
  cells = few;
  samples_are = are;
  sources = λ p from e. (found p (inside_of p from e)).1 from e;
}
  where
    inside_of : (p from : At) → map_at m p ≡ Some from → IsInside m.size p
    inside_of p from e = by (index_in m.size p) e
      where
        by : (o : Option ℕ) → source_at m.sources o ≡ Some from → IsSome o
        by None e = absurd (cc)
        by (Some i) e = refl

    found : (p : At) → IsInside m.size p → IsSome (map_at m p) × ((from : At) → map_at m p ≡ Some from → IsInSamples samples from)
    found p inside =
        let i = unwrap_or (index_in m.size p) 0 in
        let at : index_in m.size p ≡ Some i = has_index (index_in m.size p) 0 inside in
        let here : map_at m p ≡ get_or m.sources i None = ap (source_at m.sources) at in
        by p (get_or m.sources i None) here (all i None (subst (λ n. i < n) (sym is.count) (index_below m.size p i at)))
      where
        by : (p : At) (o : Option At) → map_at m p ≡ o → IsSomeAnd o (IsInSamples samples) → IsSome (map_at m p) × ((from : At) → map_at m p ≡ Some from → IsInSamples samples from)
        by p None e so = absurd so
        by p (Some s) e so = (subst IsSome (sym e) refl, λ from e'. let same : s ≡ from = cc (sym e ∙ e') in subst (IsInSamples samples) same so)
