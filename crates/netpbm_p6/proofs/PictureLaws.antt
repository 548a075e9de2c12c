-- From the parts of a file, as the reader finds them, to the picture or the refusal of the grammar.
use Rattle.std.proofs.Common.{◌≡◌, ℕ, ◌≤◌, ◌<◌, ◌+◌, ◌*◌, ◌⊎◌, inl, inr, List, length, take, drop, sym, ap, ◌∙◌, subst, arith}
use Rattle.std.specs.Prelude.{All, Err}
use Rattle.std.proofs.lemmas.List.{length-append}
use Rattle.std.proofs.Math.Seq.{drop-append_seam}
use Rattle.cells.specs.declared.place.Size.{Size}
use Rattle.cells.specs.Places.{cell_count}
use Rattle.cells.specs.Cells.{Cells, IsOnePart, count_of, volume_of}
use Rattle.cells.specs.Parts.{count_from}
use Rattle.shelf_traits.specs.Files.{ShelfState, OnlyReads, content_of}
use Rattle.shelf_traits.specs.declared.fault.ReadError.{ReadError}
use Rattle.shelf_traits.specs.declared.fault.ReadError.TheVariants.{ReadFault, Bad, Limit, NoMemory}
use Rattle.shelf_traits.specs.declared.fault.FormFault.TheVariants.{Form, Depth, Space, Cell, NoFrames, Sample, Trailing}
use Rattle.shelf_traits.specs.declared.fault.What.TheVariants.{Axis, Cells as CellsLimit, Header as HeaderLimit, Frames, Output, Loop, Records, Parts}
use Rattle.limits.specs.declared.bounds.TheConstants.{GREATEST_AXIS, MOST_SAMPLE_CELLS}
use Rattle.netpbm_p6.specs.declared.scan.Header.{Header}
use Rattle.shelf_traits.specs.Decimals.{capped}
use Rattle.netpbm_p6.specs.Pictures.{picture_size, Headed, raster_length, IsRead, Within, AxisPasses, Refuses, ReadsAs}
use Rattle.netpbm_p6.specs.Reading.{HasHeader, Exceeds, HeaderFits, IsFirstAbove, RasterRefuses, IsRaster, RastersAs}
use Rattle.shelf_traits.proofs.Sees.{Sees, sees_weaker, sees_then, fault_later}

-- a number that passes a small bound as far as a u64 goes passes it, and one within it stands as it is
capped_above : (n bound : ℕ) → bound < capped n → bound < n
capped_above n bound more = omega arith

capped_small : (n given bound : ℕ) → given ≡ capped n → given ≤ bound → bound < 18446744073709551615 → given ≡ n
capped_small n given bound is le small = omega arith

-- The header's numbers.

axis_passes : (bytes : List ℕ) (header : Header) (number : ℕ) → (has : HasHeader bytes header)
    → ((GREATEST_AXIS < header.width) × (number ≡ header.width)) ⊎ ((header.width ≤ GREATEST_AXIS) × (GREATEST_AXIS < header.height) × (number ≡ header.height))
    → AxisPasses has.short.headed.width has.short.headed.height number
axis_passes bytes header number has (inl wide) = inl (capped_above has.short.headed.width GREATEST_AXIS (subst (λ n. GREATEST_AXIS < n) has.width_is wide.0), wide.1 ∙ has.width_is)
axis_passes bytes header number has (inr high) =
    let w = capped_small has.short.headed.width header.width GREATEST_AXIS has.width_is high.0 (omega arith) in
    inr (subst (λ n. n ≤ GREATEST_AXIS) w high.0, capped_above has.short.headed.height GREATEST_AXIS (subst (λ n. GREATEST_AXIS < n) has.height_is high.1), high.2 ∙ has.height_is)

depth_small : (bytes : List ℕ) (header : Header) → (has : HasHeader bytes header) → header.maxval ≤ 255 → has.short.headed.maxval ≤ 255
depth_small bytes header has le = subst (λ n. n ≤ 255) (capped_small has.short.headed.maxval header.maxval 255 has.maxval_is le (omega arith)) le

limits_refuse : (bytes : List ℕ) (header : Header) (e : ReadError) → HasHeader bytes header → Exceeds header e → Refuses bytes e
limits_refuse bytes header (Bad Depth) has exceeds = (has.short, capped_above has.short.headed.maxval 255 (subst (λ n. 255 < n) has.maxval_is exceeds))
limits_refuse bytes header (Limit Axis number bound) has exceeds = (has.short, depth_small bytes header has exceeds.0, axis_passes bytes header number has exceeds.1, exceeds.2)
limits_refuse bytes header (Limit CellsLimit number bound) has exceeds =
    let w = capped_small has.short.headed.width header.width GREATEST_AXIS has.width_is exceeds.1.width_fits (omega arith) in
    let h = capped_small has.short.headed.height header.height GREATEST_AXIS has.height_is exceeds.1.height_fits (omega arith) in
    let cells : header.width * header.height ≡ has.short.headed.width * has.short.headed.height = ap (λ n. n * header.height) w ∙ ap (λ n. has.short.headed.width * n) h in (
      has.short,
      depth_small bytes header has exceeds.0,
      record {
        width_fits = subst (λ n. n ≤ GREATEST_AXIS) w exceeds.1.width_fits;
        height_fits = subst (λ n. n ≤ GREATEST_AXIS) h exceeds.1.height_fits;
        passes = subst (λ n. MOST_SAMPLE_CELLS < n) cells exceeds.1.passes;
        number_is = exceeds.1.number_is ∙ cells;
      },
      exceeds.2,
    )
limits_refuse bytes header ReadFault has exceeds = absurd exceeds
limits_refuse bytes header NoMemory has exceeds = absurd exceeds
limits_refuse bytes header (Bad (Form place)) has exceeds = absurd exceeds
limits_refuse bytes header (Bad Space) has exceeds = absurd exceeds
limits_refuse bytes header (Bad Cell) has exceeds = absurd exceeds
limits_refuse bytes header (Bad NoFrames) has exceeds = absurd exceeds
limits_refuse bytes header (Bad (Sample place)) has exceeds = absurd exceeds
limits_refuse bytes header (Bad (Trailing place)) has exceeds = absurd exceeds
limits_refuse bytes header (Limit HeaderLimit number bound) has exceeds = absurd exceeds
limits_refuse bytes header (Limit Frames number bound) has exceeds = absurd exceeds
limits_refuse bytes header (Limit Output number bound) has exceeds = absurd exceeds
limits_refuse bytes header (Limit Loop number bound) has exceeds = absurd exceeds
limits_refuse bytes header (Limit Records number bound) has exceeds = absurd exceeds
limits_refuse bytes header (Limit Parts number bound) has exceeds = absurd exceeds

pub limits_as : (name : List ℕ) (header : Header) (e : ReadError) (a b : ShelfState) → Sees a b (λ files. HasHeader (content_of files name) header) → Exceeds header e → ReadsAs name a b (Err e)
limits_as name header ReadFault a b seen exceeds = absurd exceeds
limits_as name header NoMemory a b seen exceeds = tt
limits_as name header (Bad why) a b seen exceeds =
    sees_weaker (λ files. HasHeader (content_of files name) header) (λ files. Refuses (content_of files name) (Bad why)) a b (λ files has. limits_refuse (content_of files name) header (Bad why) has exceeds) seen
limits_as name header (Limit what number bound) a b seen exceeds =
    sees_weaker (λ files. HasHeader (content_of files name) header) (λ files. Refuses (content_of files name) (Limit what number bound)) a b
    (λ files has. limits_refuse (content_of files name) header (Limit what number bound) has exceeds) seen

-- The raster.

-- the header and the limits, in the grammar's terms
record Found (bytes : List ℕ) (header : Header) (size : Size) (maxval : ℕ) : Type 0 where
  within : Within bytes
  rest : drop header.length bytes ≡ within.headed.raster
  start : header.length ≡ length within.headed.header
  size_is : size ≡ picture_size within.headed.width within.headed.height
  maxval_is : maxval ≡ within.headed.maxval
  want : 3 * cell_count size ≡ raster_length within.headed

found : (bytes : List ℕ) (header : Header) (size : Size) (maxval : ℕ) → HasHeader bytes header → HeaderFits header size maxval → Found bytes header size maxval
found bytes header size maxval has fits =
    let headed = has.short.headed in
    let w = capped_small headed.width header.width GREATEST_AXIS has.width_is fits.width_fits (omega arith) in
    let h = capped_small headed.height header.height GREATEST_AXIS has.height_is fits.height_fits (omega arith) in
    let m = capped_small headed.maxval header.maxval 255 has.maxval_is fits.depth (omega arith) in
    let cells : header.width * header.height ≡ headed.width * headed.height = ap (λ n. n * header.height) w ∙ ap (λ n. headed.width * n) h in
    let size_is : size ≡ picture_size headed.width headed.height = fits.size_is ∙ ap (λ n. picture_size n header.height) w ∙ ap (picture_size headed.width) h in
    let one : headed.height * 1 ≡ headed.height = omega arith in
    record {
      within = record {
        headed = headed;
        depth = subst (λ n. n ≤ 255) m fits.depth;
        limits = record {
          header_fits = has.short.short;
          width_fits = subst (λ n. n ≤ GREATEST_AXIS) w fits.width_fits;
          height_fits = subst (λ n. n ≤ GREATEST_AXIS) h fits.height_fits;
          cells_fit = subst (λ n. n ≤ MOST_SAMPLE_CELLS) cells fits.cells_fit;
        };
      };
      rest = ap (λ n. drop n bytes) has.length_is ∙ ap (drop (length headed.header)) headed.is ∙ drop-append_seam headed.header headed.raster;
      start = has.length_is;
      size_is = size_is;
      maxval_is = fits.maxval_is ∙ m;
      want = ap (λ (s : Size). 3 * cell_count s) size_is ∙ ap (λ n. 3 * (headed.width * n)) one;
    }

raster_refuses : (bytes : List ℕ) (header : Header) (size : Size) (maxval : ℕ) (e : ReadError) → Found bytes header size maxval
    → RasterRefuses (drop header.length bytes) header.length maxval (3 * cell_count size) e → Refuses bytes e
raster_refuses bytes header size maxval (Bad (Sample place)) at refuses =
    let first : IsFirstAbove at.within.headed.maxval at.within.headed.raster refuses.index
    = subst (λ m. IsFirstAbove m at.within.headed.raster refuses.index) at.maxval_is (subst (λ r. IsFirstAbove maxval r refuses.index) at.rest refuses.first) in
    record {
      within = at.within;
      index = refuses.index;
      early = subst (λ n. refuses.index < n) at.want refuses.early;
      inside = first.inside;
      before = first.before;
      above = first.above;
      place = refuses.place_is ∙ ap (λ n. n + refuses.index) at.start;
    }
raster_refuses bytes header size maxval (Bad (Form place)) at refuses = inr (record {
  within = at.within;
  short = subst (λ n. length at.within.headed.raster < n) at.want (subst (λ r. length r < 3 * cell_count size) at.rest refuses.short);
  samples = subst (λ m. All (λ b. b ≤ m) at.within.headed.raster) at.maxval_is (subst (All (λ b. b ≤ maxval)) at.rest refuses.samples);
  place = let all : header.length + length at.within.headed.raster ≡ length bytes = ends bytes at.within.headed header.length at.start in refuses.place_is ∙ ap (λ r. header.length + length r) at.rest ∙ all;
})
  where
    ends : (bytes' : List ℕ) (headed : Headed bytes') (n : ℕ) → n ≡ length headed.header → n + length headed.raster ≡ length bytes'
    ends bytes' headed n is = omega (arith, is, ap length headed.is, length-append headed.header headed.raster)
raster_refuses bytes header size maxval (Bad (Trailing place)) at refuses = record {
  within = at.within;
  longer = subst (λ n. n < length at.within.headed.raster) at.want (subst (λ r. 3 * cell_count size < length r) at.rest refuses.longer);
  samples = subst (λ m. All (λ b. b ≤ m) (take (raster_length at.within.headed) at.within.headed.raster)) at.maxval_is
      (subst (λ n. All (λ b. b ≤ maxval) (take n at.within.headed.raster)) at.want (subst (λ r. All (λ b. b ≤ maxval) (take (3 * cell_count size) r)) at.rest refuses.samples));
  place = refuses.place_is ∙ ap (λ n. n + 3 * cell_count size) at.start ∙ ap (λ n. length at.within.headed.header + n) at.want;
}
raster_refuses bytes header size maxval ReadFault at refuses = absurd refuses
raster_refuses bytes header size maxval NoMemory at refuses = absurd refuses
raster_refuses bytes header size maxval (Bad Depth) at refuses = absurd refuses
raster_refuses bytes header size maxval (Bad Space) at refuses = absurd refuses
raster_refuses bytes header size maxval (Bad Cell) at refuses = absurd refuses
raster_refuses bytes header size maxval (Bad NoFrames) at refuses = absurd refuses
raster_refuses bytes header size maxval (Limit what number bound) at refuses = absurd refuses

pub raster_as : {names : List (List ℕ)} (name : List ℕ) (header : Header) (size : Size) (maxval : ℕ) (e : ReadError) (a b c : ShelfState) → OnlyReads names a b → OnlyReads names b c → Sees a b (λ files. HasHeader (content_of files name) header) → HeaderFits header size maxval
    → RastersAs name header.length maxval size b c (Err e) → ReadsAs name a c (Err e)
raster_as name header size maxval ReadFault a b c first second seen fits fault = fault_later name a b c first fault
raster_as name header size maxval NoMemory a b c first second seen fits refused = tt
raster_as name header size maxval (Bad why) a b c first second seen fits refused =
    sees_then (λ files. HasHeader (content_of files name) header) (λ files. RasterRefuses (drop header.length (content_of files name)) header.length maxval (3 * cell_count size) (Bad why))
    (λ files. Refuses (content_of files name) (Bad why)) a b c
    (λ files has. raster_refuses (content_of files name) header size maxval (Bad why) (found (content_of files name) header size maxval has fits)) first second seen refused
raster_as name header size maxval (Limit what number bound) a b c first second seen fits refused =
    sees_then (λ files. HasHeader (content_of files name) header) (λ files. RasterRefuses (drop header.length (content_of files name)) header.length maxval (3 * cell_count size) (Limit what number bound))
    (λ files. Refuses (content_of files name) (Limit what number bound)) a b c
    (λ files has. raster_refuses (content_of files name) header size maxval (Limit what number bound) (found (content_of files name) header size maxval has fits)) first second seen refused

is_read : (bytes : List ℕ) (header : Header) (size : Size) (maxval : ℕ) (volume : Cells) → Found bytes header size maxval → IsRaster (drop header.length bytes) size maxval volume
    → IsRead bytes (record { maxval = maxval; volume = volume })
is_read bytes header size maxval volume at raster = record {
  stands = record {
    headed = at.within.headed;
    depth = at.within.depth;
    whole = ap length (sym at.rest) ∙ raster.whole ∙ at.want;
    samples = subst (λ m. All (λ b. b ≤ m) at.within.headed.raster) at.maxval_is (subst (All (λ b. b ≤ maxval)) at.rest raster.samples);
    maxval = at.maxval_is;
    volume = raster.volume_is ∙ ap (λ r. volume_of size 3 r) at.rest ∙ ap (λ (s : Size). volume_of s 3 at.within.headed.raster) at.size_is;
  };
  limits = at.within.limits;
}

pub read_as : {names : List (List ℕ)} (name : List ℕ) (header : Header) (size : Size) (maxval : ℕ) (volume : Cells) (a b c : ShelfState) → OnlyReads names a b → OnlyReads names b c → Sees a b (λ files. HasHeader (content_of files name) header) → HeaderFits header size maxval
    → Sees b c (λ files. IsRaster (drop header.length (content_of files name)) size maxval volume) → Sees a c (λ files. IsRead (content_of files name) (record { maxval = maxval; volume = volume }))
read_as name header size maxval volume a b c first second seen fits raster =
    sees_then (λ files. HasHeader (content_of files name) header) (λ files. IsRaster (drop header.length (content_of files name)) size maxval volume)
    (λ files. IsRead (content_of files name) (record { maxval = maxval; volume = volume })) a b c
    (λ files has. is_read (content_of files name) header size maxval volume (found (content_of files name) header size maxval has fits)) first second seen raster

-- a volume of the size that a header allows has few enough cells
pub cells_allowed : (header : Header) (size : Size) (maxval : ℕ) (v : Cells) → HeaderFits header size maxval → v.size ≡ size → IsOnePart v → count_of v ≤ MOST_SAMPLE_CELLS
cells_allowed header size maxval v fits is one =
    let alone : count_of v ≡ cell_count v.size = ap (count_from v.size) one in
    let sized : cell_count v.size ≡ header.width * (header.height * 1) = ap cell_count (is ∙ fits.size_is) in
    let single : header.height * 1 ≡ header.height = omega arith in
    let cells : header.width * (header.height * 1) ≡ header.width * header.height = ap (λ n. header.width * n) single in
    omega (arith, fits.cells_fit, alone, sized, cells)
