-- The entries of a map over turned samples.
use Rattle.std.proofs.Common.{◌≡◌, ℕ, suc, ◌<◌, ◌≤◌, ◌^◌, List, length, sym, subst, arith}
use Rattle.std.proofs.lemmas.Int.{ints}
use Rattle.std.specs.Prelude.{ℤ, pos, ◌≤ℤ◌, ◌<ℤ◌, All, IsSomeAnd}
use Rattle.cells.specs.declared.place.At.{At}
use Rattle.cells.specs.declared.place.Size.{Size}
use Rattle.cells.specs.Places.{cell_count}
use Rattle.cells.specs.SizeLists.{AreSizes}
use Rattle.cells.proofs.BoxTests.{of_inside, on_axis_bounds}
use Rattle.map_canvas.specs.Maps.{IsMap, IsSource, SourceMap}
use Rattle.source_map.specs.declared.head.Version.TheVariants.{Two}
use Rattle.source_map.specs.Heads.{AreSamples}
use Rattle.source_map.specs.MapFiles.{IsShort, IsShortCoordinate}
use Rattle.source_map.proofs.MapWriting.{axes_of}
use Rattle.source_map.proofs.PartLaws.{part_is}
use Rattle.source_map.proofs.Sources.{stock_source, writable_of}
use Rattle.turned.specs.declared.places.Turned.{Turned}
use Rattle.turned.specs.TurnedParts.{turned_sizes_of}
use Rattle.turned.specs.TurnedPlaces.{IsInTurned, IsTurned, IsUntouched, sample_size, turned_place}
use Rattle.turned.proofs.TurnedPlaces.{found_untouched, place_is_part, place_untouched, untouched_one}
use Rattle.turned.proofs.TurnedLists.{sample_axes, sample_bounds, turned_are}
use Rattle.turned_map.specs.TurnedFiles.{IsTurnedMap, untouched_in, untouched_of}

-- the cell that an entry is spelled by is the one that comes to the place
pub untouched_is : (samples : List Size) (from : At) → IsInTurned samples from → IsUntouched samples from (untouched_of samples from)
untouched_is samples from inside =
    subst (λ there. IsUntouched samples from (untouched_in samples there)) (sym (part_is (turned_sizes_of samples) from inside.0 inside.1)) (found_untouched samples from inside.0 inside.1)

pub untouched_same : (samples : List Size) (from : At) (there : Turned) → IsInTurned samples from → IsUntouched samples from there → there ≡ untouched_of samples from
untouched_same samples from there inside is = untouched_one samples from there (untouched_of samples from) is (untouched_is samples from inside)

pub place_in_turned : (samples : List Size) (there : Turned) → IsTurned samples there → IsInTurned samples (turned_place samples there)
place_in_turned samples there is = (_, place_is_part samples there is)

pub entry_of_place : (samples : List Size) (there : Turned) → IsTurned samples there → there ≡ untouched_of samples (turned_place samples there)
entry_of_place samples there is = untouched_same samples (turned_place samples there) there (place_in_turned samples there is) (place_untouched samples there is)

-- its numbers are of 16 bits
short_axis : (n : ℕ) (z : ℤ) → n ≤ 4096 → (pos 0 ≤ℤ z) × (z <ℤ pos n) → IsShortCoordinate z
short_axis n z le b = (b.0, omega (arith, ints, b.1, le))

pub turned_short : (samples : List Size) (there : Turned) → AreSizes samples → IsTurned samples there → IsShort there.at
turned_short samples there are is =
    let size = sample_size samples there.sample in
    let axes = sample_axes samples there.sample size are.axes is.sample in
    let on = of_inside size there.at is.inside in
    record {
      x = short_axis size.w there.at.x axes.w.1 (on_axis_bounds size.w there.at.x on.x);
      y = short_axis size.h there.at.y axes.h.1 (on_axis_bounds size.h there.at.y on.y);
      f = short_axis size.f there.at.f axes.f.1 (on_axis_bounds size.f there.at.f on.f);
    }

pub turned_low : (samples : List Size) (there : Turned) → length samples ≤ 2 → IsTurned samples there → there.sample < 2 ^ 16
turned_low samples there few is = let bounds = sample_bounds samples there.sample (sample_size samples there.sample) is.sample in omega (arith, bounds.1, few)

-- a place of the turned samples may be a source
pub turned_source_is : (samples : List Size) (p : At) → AreSizes samples → length samples ≤ 2 → IsInTurned samples p → IsSource p
turned_source_is samples p are few inside =
    let has = inside.1 in
    let all = turned_are samples are few in
    subst IsSource has.stock
    (stock_source (turned_sizes_of samples) (suc has.before) has.size inside.0.at all (axes_of (turned_sizes_of samples) has.before has.size all.axes has.is) (sym has.is) has.inside)

pub turned_samples : (samples : List Size) → AreSizes samples → length samples ≤ 2 → AreSamples Two (turned_sizes_of samples)
turned_samples samples are few = record { sizes_are = turned_are samples are few; one = λ e. absurd (cc) }

pub turned_map_of : (m : SourceMap) (samples : List Size) → IsMap m → AreSizes samples → length samples ≤ 2 → cell_count m.size ≤ 1048576
    → All (λ source. IsSomeAnd source (IsInTurned samples)) m.sources → IsTurnedMap m samples
turned_map_of m samples is are few cells all = record {
  few = few;
  sizes = are;
  map = is;
  writable = writable_of m (turned_sizes_of samples) Two is (turned_samples samples are few) cells all;
}
