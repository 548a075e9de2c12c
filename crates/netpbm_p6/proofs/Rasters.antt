-- From the bytes after a header, as they were read, to the raster or its refusal.
use Rattle.std.proofs.Common.{◌≡◌, ℕ, ◌≤◌, ◌<◌, ◌+◌, ◌*◌, List, length, take, drop, get_or, refl, sym, ap, ◌∙◌, subst, arith}
use Rattle.std.specs.Prelude.{All, Ok, Err}
use Rattle.std.proofs.lemmas.List.{length-drop, length-take-le, take_all, take-take, get_or-take}
use Rattle.cells.specs.declared.place.Size.{Size}
use Rattle.cells.specs.Places.{cell_count}
use Rattle.cells.specs.Cells.{Cells, volume_of}
use Rattle.shelf_traits.specs.Files.{ShelfState, OnlyReads, Reads, content_of}
use Rattle.shelf_traits.specs.declared.fault.ReadError.{ReadError}
use Rattle.shelf_traits.specs.declared.fault.ReadError.TheVariants.{ReadFault, Bad, Limit, NoMemory}
use Rattle.shelf_traits.specs.declared.fault.FormFault.TheVariants.{Form, Depth, Space, Cell, NoFrames, Sample, Trailing}
use Rattle.netpbm_p6.specs.Reading.{IsFirstAbove, IsAboveIn, EndsShort, RasterRefuses, BeginsWith, GoesPast, FillsAs, StopsAs, IsRaster, RastersAs}
use Rattle.shelf_traits.proofs.Sees.{Sees, sees_then, sees_weaker, fault_later}

-- A read of the raster.

pub above_in : (maxval start n i : ℕ) (into bytes : List ℕ) → IsFirstAbove maxval (take n into) i → Reads bytes start into n → IsAboveIn (drop start bytes) start maxval (length into) (start + i)
above_in maxval start n i into bytes above reads =
    let rest = drop start bytes in
    let room : n ≤ length into = omega (arith, reads.count) in
    let early : i < n = omega (arith, above.inside, length-take-le n into room) in
    record {
      index = i;
      early = omega (arith, early, room);
      first = record {
        inside = omega (arith, early, reads.count, length-drop start bytes);
        before = subst (All (λ b. b ≤ maxval)) (ap (take i) reads.read ∙ take-take i n rest (omega (arith, early))) above.before;
        above = subst (λ b. maxval < b) (ap (λ t. get_or t i 0) reads.read ∙ get_or-take n rest i 0 early) above.above;
      };
      place_is = refl;
    }

pub ends_short : (maxval start n : ℕ) (into bytes : List ℕ) → n < length into → All (λ b. b ≤ maxval) (take n into) → Reads bytes start into n → EndsShort (drop start bytes) start maxval (length into) (start + n)
ends_short maxval start n into bytes few within reads =
    let rest = drop start bytes in
    let all : length rest ≡ n = omega (arith, few, reads.count, length-drop start bytes) in
    record {
      short = omega (arith, all, few);
      samples = subst (All (λ b. b ≤ maxval)) (reads.read ∙ take_all n rest (omega (arith, all))) within;
      place_is = ap (λ m. start + m) (sym all);
    }

pub all_within : (maxval n : ℕ) (into : List ℕ) → length into ≤ n → All (λ b. b ≤ maxval) (take n into) → All (λ b. b ≤ maxval) into
all_within maxval n into whole within = subst (All (λ b. b ≤ maxval)) (take_all n into whole) within

pub begins_with : (maxval start n : ℕ) (into bytes : List ℕ) → length into ≤ n → All (λ b. b ≤ maxval) (take n into) → Reads bytes start into n → BeginsWith (drop start bytes) into maxval
begins_with maxval start n into bytes whole within reads =
    let rest = drop start bytes in
    let count : n ≡ length into = omega (arith, whole, reads.count) in
    record {
      long = omega (arith, count, reads.count, length-drop start bytes);
      is = sym (take_all n into whole) ∙ reads.read ∙ ap (λ m. take m rest) count;
      samples = all_within maxval n into whole within;
    }

-- The whole raster.

-- a raster that isn't whole
pub fill_refused : (name : List ℕ) (start maxval : ℕ) (size : Size) (raster : List ℕ) (e : ReadError) (a b : ShelfState) → length raster ≡ 3 * cell_count size → FillsAs name start maxval raster a b (Err e) → RastersAs name start maxval size a b (Err e)
fill_refused name start maxval size raster ReadFault a b whole fills = fills
fill_refused name start maxval size raster NoMemory a b whole fills = tt
fill_refused name start maxval size raster (Bad why) a b whole fills =
    subst (λ want. Sees a b (λ files. RasterRefuses (drop start (content_of files name)) start maxval want (Bad why))) whole fills
fill_refused name start maxval size raster (Limit what number bound) a b whole fills =
    subst (λ want. Sees a b (λ files. RasterRefuses (drop start (content_of files name)) start maxval want (Limit what number bound))) whole fills

goes_past : (bytes raster : List ℕ) (start maxval want place : ℕ) → length raster ≡ want → BeginsWith (drop start bytes) raster maxval → start + length raster < length bytes → place ≡ start + length raster → GoesPast (drop start bytes) start maxval want place
goes_past bytes raster start maxval want place whole begins more is = record {
  longer = omega (arith, whole, more, length-drop start bytes);
  samples = subst (All (λ b. b ≤ maxval)) (begins.is ∙ ap (λ n. take n (drop start bytes)) whole) begins.samples;
  place_is = is ∙ ap (λ n. start + n) whole;
}

-- a raster that something follows
pub stops_there : (name : List ℕ) (end n : ℕ) (next : List ℕ) (a b : ShelfState) → length next ≡ 1 → n ≤ 0 → Sees a b (λ files. Reads (content_of files name) end next n) → StopsAs name end a b (Ok tt)
stops_there name end n next a b one none read = sees_weaker (λ files. Reads (content_of files name) end next n) (λ files. length (content_of files name) ≤ end) a b (λ files reads. omega (arith, reads.count, one, none)) read

pub goes_on : (name : List ℕ) (end n : ℕ) (next : List ℕ) (a b : ShelfState) → length next ≡ 1 → 0 < n → Sees a b (λ files. Reads (content_of files name) end next n) → StopsAs name end a b (Err (Bad (Trailing end)))
goes_on name end n next a b one some read = (refl, sees_weaker (λ files. Reads (content_of files name) end next n) (λ files. end < length (content_of files name)) a b (λ files reads. omega (arith, reads.count, one, some)) read)

pub stop_refused : {names : List (List ℕ)} (name : List ℕ) (start maxval end : ℕ) (size : Size) (raster : List ℕ) (e : ReadError) (a b c : ShelfState) → length raster ≡ 3 * cell_count size → end ≡ start + length raster
    → OnlyReads names a b → OnlyReads names b c → FillsAs name start maxval raster a b (Ok tt) → StopsAs name end b c (Err e) → RastersAs name start maxval size a c (Err e)
stop_refused name start maxval end size raster ReadFault a b c whole is first second fills stops = fault_later name a b c first stops
stop_refused name start maxval end size raster NoMemory a b c whole is first second fills stops = tt
stop_refused name start maxval end size raster (Bad (Trailing place)) a b c whole is first second fills stops =
    sees_then (λ files. BeginsWith (drop start (content_of files name)) raster maxval) (λ files. end < length (content_of files name))
    (λ files. RasterRefuses (drop start (content_of files name)) start maxval (3 * cell_count size) (Bad (Trailing place))) a b c
    (λ files begins more. goes_past (content_of files name) raster start maxval (3 * cell_count size) place whole begins (omega (arith, is, more)) (stops.0 ∙ is)) first second fills stops.1
stop_refused name start maxval end size raster (Bad (Form place)) a b c whole is first second fills stops = absurd stops
stop_refused name start maxval end size raster (Bad Depth) a b c whole is first second fills stops = absurd stops
stop_refused name start maxval end size raster (Bad Space) a b c whole is first second fills stops = absurd stops
stop_refused name start maxval end size raster (Bad Cell) a b c whole is first second fills stops = absurd stops
stop_refused name start maxval end size raster (Bad NoFrames) a b c whole is first second fills stops = absurd stops
stop_refused name start maxval end size raster (Bad (Sample place)) a b c whole is first second fills stops = absurd stops
stop_refused name start maxval end size raster (Limit what number bound) a b c whole is first second fills stops = absurd stops

is_raster : (bytes raster : List ℕ) (start maxval : ℕ) (size : Size) (volume : Cells) → length raster ≡ 3 * cell_count size → volume ≡ volume_of size 3 raster → BeginsWith (drop start bytes) raster maxval → length bytes ≤ start + length raster
    → IsRaster (drop start bytes) size maxval volume
is_raster bytes raster start maxval size volume whole is begins ends =
    let all : raster ≡ drop start bytes = begins.is ∙ take_all (length raster) (drop start bytes) (omega (arith, ends, length-drop start bytes)) in
    record {
      whole = sym (ap length all) ∙ whole;
      samples = subst (All (λ b. b ≤ maxval)) all begins.samples;
      volume_is = is ∙ ap (volume_of size 3) all;
    }

-- the whole rest of the file
pub raster_read : {names : List (List ℕ)} (name : List ℕ) (start maxval end : ℕ) (size : Size) (raster : List ℕ) (volume : Cells) (a b c : ShelfState) → length raster ≡ 3 * cell_count size → end ≡ start + length raster → volume ≡ volume_of size 3 raster
    → OnlyReads names a b → OnlyReads names b c → FillsAs name start maxval raster a b (Ok tt) → StopsAs name end b c (Ok tt) → RastersAs name start maxval size a c (Ok volume)
raster_read name start maxval end size raster volume a b c whole is made first second fills stops =
    sees_then (λ files. BeginsWith (drop start (content_of files name)) raster maxval) (λ files. length (content_of files name) ≤ end) (λ files. IsRaster (drop start (content_of files name)) size maxval volume) a b c
    (λ files begins ends. is_raster (content_of files name) raster start maxval size volume whole made begins (omega (arith, is, ends))) first second fills stops
