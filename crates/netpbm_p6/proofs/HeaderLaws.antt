-- What the scanner's way through a file tells of the header of the grammar.
use Rattle.std.proofs.Common.{◌≡◌, ℕ, ◌≤◌, ◌<◌, ◌+◌, ◌⊎◌, inl, inr, List, length, take, drop, refl, sym, ap, ◌∙◌, subst, arith}
use Rattle.std.specs.Prelude.{Option, Some, None}
use Rattle.std.proofs.lemmas.List.{length-take-le, length-drop, take-append-drop}
use Rattle.std.proofs.Math.Seq.{take-add}
use Rattle.std.specs.Prelude.{Err}
use Rattle.limits.specs.declared.bounds.TheConstants.{MOST_HEADER_BYTES}
use Rattle.shelf_traits.specs.Files.{ShelfState, OnlyReads, content_of}
use Rattle.shelf_traits.specs.declared.fault.ReadError.{ReadError}
use Rattle.shelf_traits.specs.declared.fault.ReadError.TheVariants.{ReadFault, Bad, Limit, NoMemory}
use Rattle.netpbm_p6.specs.declared.scan.Scan.{Scan}
use Rattle.netpbm_p6.specs.declared.scan.Scan.TheVariants.{Start, Whole}
use Rattle.netpbm_p6.specs.declared.scan.Header.{Header}
use Rattle.netpbm_p6.specs.declared.scan.Scanned.{Scanned}
use Rattle.netpbm_p6.specs.declared.scan.Scanned.TheVariants.{Open, Broken, Ended}
use Rattle.netpbm_p6.specs.Header.{IsPrefix}
use Rattle.shelf_traits.specs.Decimals.{capped}
use Rattle.netpbm_p6.specs.Pictures.{BreaksAt, EndsEarly, HeaderTooLong, Refuses, ReadsAs}
use Rattle.netpbm_p6.specs.Scanning.{run_of, IsOpenScan, EndsIn, IsSoundHeader, IsSoundScanned}
use Rattle.netpbm_p6.specs.Reading.{Reached, BreaksOff, HasHeader, ScansOn, PassesAs, past_of}
use Rattle.shelf_traits.proofs.Sees.{Sees, sees_weaker, sees_then, fault_later}
use Rattle.netpbm_p6.proofs.Runs.{run_then}
use Rattle.netpbm_p6.proofs.Headers.{open_proper, run_is_prefix, broken_none, whole_header}

-- the way from the start, some bytes more
pub way_on : (bytes : List ℕ) (at n : ℕ) (scan : Scan) (o : Option Scan) → Reached bytes at scan → run_of capped scan (take n (drop at bytes)) ≡ o → run_of capped Start (take (at + n) bytes) ≡ o
way_on bytes at n scan o reached run = ap (run_of capped Start) (take-add at n bytes) ∙ run_then capped Start scan o (take at bytes) (take n (drop at bytes)) reached.run run

pub reached_start : (bytes : List ℕ) → Reached bytes 0 Start
reached_start bytes = record { inside = omega arith; run = refl }

pub reached_more : (bytes : List ℕ) (at n : ℕ) (scan next : Scan) → Reached bytes at scan → n ≤ length (drop at bytes) → run_of capped scan (take n (drop at bytes)) ≡ Some next → Reached bytes (at + n) next
reached_more bytes at n scan next reached inside run = record {
  inside = omega (arith, length-drop at bytes, reached.inside);
  run = way_on bytes at n scan (Some next) reached run;
}

pub breaks_at : (bytes : List ℕ) (at i : ℕ) (scan : Scan) → at + i ≤ MOST_HEADER_BYTES → Reached bytes at scan → BreaksOff (drop at bytes) scan i → BreaksAt bytes (at + i)
breaks_at bytes at i scan early reached breaks = record {
  early = early;
  inside = omega (arith, length-drop at bytes, reached.inside, breaks.inside);
  before = open_proper breaks.before.0 (take (at + i) bytes) (way_on bytes at i scan (Some breaks.before.0) reached breaks.before.1) breaks.before.2;
  here = there breaks.here;
}
  where
    there : (length (drop at bytes) ≡ i) ⊎ ((i < length (drop at bytes)) × (run_of capped scan (take (i + 1) (drop at bytes)) ≡ None))
        → (length bytes ≡ at + i) ⊎ ((at + i < length bytes) × (IsPrefix (take (at + i + 1) bytes) → ⊥))
    there (inl ends) = inl (omega (arith, length-drop at bytes, reached.inside, ends))
    there (inr wrong) =
        let regroup : at + (i + 1) ≡ at + i + 1 = omega arith in
        inr (
          omega (arith, length-drop at bytes, reached.inside, wrong.0),
          broken_none (take (at + i + 1) bytes) (ap (λ n. run_of capped Start (take n bytes)) (sym regroup) ∙ way_on bytes at (i + 1) scan None reached wrong.1),
        )

pub has_header : (bytes : List ℕ) (at : ℕ) (scan : Scan) (header : Header) → at + header.length ≤ MOST_HEADER_BYTES → Reached bytes at scan → EndsIn scan (drop at bytes) header
    → HasHeader bytes (record header { length = at + header.length })
has_header bytes at scan header early reached ends =
    let n : ℕ = at + header.length in
    let inside : n ≤ length bytes = omega (arith, length-drop at bytes, reached.inside, ends.inside) in
    let found = whole_header (take n bytes) header.width header.height header.maxval (way_on bytes at header.length scan (Some (Whole header.width header.height header.maxval)) reached ends.run) in
    record {
      short = record {
        headed = record {
          header = take n bytes;
          raster = drop n bytes;
          width = found.w;
          height = found.h;
          maxval = found.m;
          is_header = found.header;
          is = sym (take-append-drop n bytes);
        };
        short = omega (arith, length-take-le n bytes inside, early);
      };
      length_is = sym (length-take-le n bytes inside);
      width_is = found.width_is;
      height_is = found.height_is;
      maxval_is = found.maxval_is;
    }

pub too_long : (bytes : List ℕ) (scan next : Scan) → IsOpenScan scan → Reached bytes MOST_HEADER_BYTES scan → 1 ≤ length (drop MOST_HEADER_BYTES bytes) → run_of capped scan (take 1 (drop MOST_HEADER_BYTES bytes)) ≡ Some next → HeaderTooLong bytes
too_long bytes scan next is_open reached more run = record {
  longer = omega (arith, length-drop MOST_HEADER_BYTES bytes, more);
  starts = open_proper scan (take MOST_HEADER_BYTES bytes) reached.run is_open;
  lawful = run_is_prefix next (take (MOST_HEADER_BYTES + 1) bytes) (way_on bytes MOST_HEADER_BYTES 1 scan (Some next) reached run);
}

-- The same over several reads.

pub header_broken : {names : List (List ℕ)} (name : List ℕ) (at i room : ℕ) (scan : Scan) (scanned : Scanned) (a b c : ShelfState) → at + room ≤ MOST_HEADER_BYTES → scanned ≡ Broken i → IsSoundScanned room scanned → OnlyReads names a b → OnlyReads names b c
    → Sees a b (λ files. Reached (content_of files name) at scan) → Sees b c (λ files. ScansOn (drop at (content_of files name)) scan room scanned)
    → Sees a c (λ files. BreaksAt (content_of files name) (at + i) ⊎ EndsEarly (content_of files name) (at + i))
header_broken name at i room scan scanned a b c early is sound first second reached scans =
    let below : i < room = subst (IsSoundScanned room) is sound in
    sees_then (λ files. Reached (content_of files name) at scan) (λ files. ScansOn (drop at (content_of files name)) scan room scanned)
    (λ files. BreaksAt (content_of files name) (at + i) ⊎ EndsEarly (content_of files name) (at + i)) a b c
    (λ files came goes. inl (breaks_at (content_of files name) at i scan (omega arith) came (subst (ScansOn (drop at (content_of files name)) scan room) is goes)))
    first second reached scans

pub header_ended : {names : List (List ℕ)} (name : List ℕ) (at room : ℕ) (scan : Scan) (scanned : Scanned) (header : Header) (a b c : ShelfState) → at + room ≤ MOST_HEADER_BYTES → scanned ≡ Ended header → IsSoundScanned room scanned → OnlyReads names a b → OnlyReads names b c
    → Sees a b (λ files. Reached (content_of files name) at scan) → Sees b c (λ files. ScansOn (drop at (content_of files name)) scan room scanned)
    → Sees a c (λ files. HasHeader (content_of files name) (record header { length = at + header.length }))
header_ended name at room scan scanned header a b c early is sound first second reached scans =
    let whole : IsSoundHeader room header = subst (IsSoundScanned room) is sound in
    sees_then (λ files. Reached (content_of files name) at scan) (λ files. ScansOn (drop at (content_of files name)) scan room scanned)
    (λ files. HasHeader (content_of files name) (record header { length = at + header.length })) a b c
    (λ files came goes. has_header (content_of files name) at scan header (omega (arith, whole.fits)) came (subst (ScansOn (drop at (content_of files name)) scan room) is goes))
    first second reached scans

pub header_more : {names : List (List ℕ)} (name : List ℕ) (at room : ℕ) (scan next : Scan) (scanned : Scanned) (a b c : ShelfState) → scanned ≡ Open next → OnlyReads names a b → OnlyReads names b c
    → Sees a b (λ files. Reached (content_of files name) at scan) → Sees b c (λ files. ScansOn (drop at (content_of files name)) scan room scanned)
    → Sees a c (λ files. Reached (content_of files name) (at + room) next)
header_more name at room scan next scanned a b c is first second reached scans =
    sees_then (λ files. Reached (content_of files name) at scan) (λ files. ScansOn (drop at (content_of files name)) scan room scanned) (λ files. Reached (content_of files name) (at + room) next) a b c
    (λ files came goes. let on = subst (ScansOn (drop at (content_of files name)) scan room) is goes in reached_more (content_of files name) at room scan next came on.0 on.1)
    first second reached scans

-- what follows the first 65,536 bytes of a header, by what the scanner makes of the next one
refuses_open : (bytes : List ℕ) (scan next : Scan) → IsOpenScan scan → ScansOn (drop MOST_HEADER_BYTES bytes) scan 1 (Open next) → Reached bytes MOST_HEADER_BYTES scan → Refuses bytes (past_of (Open next))
refuses_open bytes scan next is_open on came = (too_long bytes scan next is_open came on.0 on.1, refl, refl)

refuses_broken : (bytes : List ℕ) (scan : Scan) (i : ℕ) → i < 1 → ScansOn (drop MOST_HEADER_BYTES bytes) scan 1 (Broken i) → Reached bytes MOST_HEADER_BYTES scan → Refuses bytes (past_of (Broken i))
refuses_broken bytes scan i below off came =
    inl (breaks_at bytes MOST_HEADER_BYTES 0 scan (omega arith) came (subst (BreaksOff (drop MOST_HEADER_BYTES bytes) scan) (none i below) off))
  where
    none : (k : ℕ) → k < 1 → k ≡ 0
    none k lt = omega arith

refuses_ended : (bytes : List ℕ) (scan : Scan) (header : Header) → header.length ≡ 1 → IsOpenScan scan → ScansOn (drop MOST_HEADER_BYTES bytes) scan 1 (Ended header) → Reached bytes MOST_HEADER_BYTES scan → Refuses bytes (past_of (Ended header))
refuses_ended bytes scan header one is_open ends came = (
  too_long bytes scan (Whole header.width header.height header.maxval) is_open came (subst (λ n. n ≤ length (drop MOST_HEADER_BYTES bytes)) one ends.inside)
      (subst (λ n. run_of capped scan (take n (drop MOST_HEADER_BYTES bytes)) ≡ Some (Whole header.width header.height header.maxval)) one ends.run),
  refl,
  refl,
)

pub passes : (name : List ℕ) (scan : Scan) (scanned : Scanned) (r : ReadError) (a b : ShelfState) → IsOpenScan scan → IsSoundScanned 1 scanned → r ≡ past_of scanned
    → Sees a b (λ files. ScansOn (drop MOST_HEADER_BYTES (content_of files name)) scan 1 scanned) → PassesAs name scan a b r
passes name scan scanned r a b is_open sound is scans = subst (PassesAs name scan a b) (sym is) (by_scanned scanned sound scans)
  where
    by_scanned : (s : Scanned) → IsSoundScanned 1 s → Sees a b (λ files. ScansOn (drop MOST_HEADER_BYTES (content_of files name)) scan 1 s) → PassesAs name scan a b (past_of s)
    by_scanned (Open next) sound' scans' =
        sees_weaker (λ files. ScansOn (drop MOST_HEADER_BYTES (content_of files name)) scan 1 (Open next)) (λ files. Reached (content_of files name) MOST_HEADER_BYTES scan → Refuses (content_of files name) (past_of (Open next))) a b
        (λ files on came. refuses_open (content_of files name) scan next is_open on came) scans'
    by_scanned (Broken i) sound' scans' =
        sees_weaker (λ files. ScansOn (drop MOST_HEADER_BYTES (content_of files name)) scan 1 (Broken i)) (λ files. Reached (content_of files name) MOST_HEADER_BYTES scan → Refuses (content_of files name) (past_of (Broken i))) a b
        (λ files off came. refuses_broken (content_of files name) scan i sound' off came) scans'
    by_scanned (Ended header) sound' scans' =
        let one : header.length ≡ 1 = only_one header.length sound'.some sound'.fits in
        sees_weaker (λ files. ScansOn (drop MOST_HEADER_BYTES (content_of files name)) scan 1 (Ended header)) (λ files. Reached (content_of files name) MOST_HEADER_BYTES scan → Refuses (content_of files name) (past_of (Ended header))) a b
        (λ files ends came. refuses_ended (content_of files name) scan header one is_open ends came) scans'
      where
        only_one : (n : ℕ) → 1 ≤ n → n ≤ 1 → n ≡ 1
        only_one n some fits = omega arith

pub passed : {names : List (List ℕ)} (name : List ℕ) (scan : Scan) (r : ReadError) (a b c : ShelfState) → OnlyReads names a b → OnlyReads names b c → Sees a b (λ files. Reached (content_of files name) MOST_HEADER_BYTES scan) → PassesAs name scan b c r → ReadsAs name a c (Err r)
passed name scan ReadFault a b c first second reached passes' = fault_later name a b c first passes'
passed name scan NoMemory a b c first second reached passes' = tt
passed name scan (Bad why) a b c first second reached passes' =
    sees_then (λ files. Reached (content_of files name) MOST_HEADER_BYTES scan) (λ files. Reached (content_of files name) MOST_HEADER_BYTES scan → Refuses (content_of files name) (Bad why)) (λ files. Refuses (content_of files name) (Bad why)) a b c
    (λ files came goes. goes came) first second reached passes'
passed name scan (Limit what number bound) a b c first second reached passes' =
    sees_then (λ files. Reached (content_of files name) MOST_HEADER_BYTES scan) (λ files. Reached (content_of files name) MOST_HEADER_BYTES scan → Refuses (content_of files name) (Limit what number bound))
    (λ files. Refuses (content_of files name) (Limit what number bound)) a b c (λ files came goes. goes came) first second reached passes'
