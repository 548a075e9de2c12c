-- What the scanner makes of a piece that was read of a file.
use Rattle.std.proofs.Common.{◌≡◌, ℕ, ◌≤◌, ◌<◌, ◌+◌, inl, inr, List, length, take, drop, Bool, true, false, cond, refl, sym, ap, ◌∙◌, subst, arith}
use Rattle.std.specs.Prelude.{Some, nat_lt}
use Rattle.std.proofs.lemmas.Bool.{ltb-true, ltb-false}
use Rattle.std.proofs.lemmas.List.{length-take-le, length-drop, take-take}
use Rattle.shelf_traits.specs.Files.{ShelfState, Reads, Changes, content_of}
use Rattle.shelf_traits.specs.Decimals.{capped}
use Rattle.shelf_traits.proofs.FileLaws.{told_weaker}
use Rattle.shelf_traits.proofs.Sees.{Sees}
use Rattle.netpbm_p6.specs.declared.scan.Scan.{Scan}
use Rattle.netpbm_p6.specs.declared.scan.Scanned.{Scanned}
use Rattle.netpbm_p6.specs.declared.scan.Scanned.TheVariants.{Open, Broken, Ended}
use Rattle.netpbm_p6.specs.Scanning.{run_of, RunsOn, IsOpenScan, IsScanned, IsSoundScanned}
use Rattle.netpbm_p6.specs.Reading.{ScansOn, cut_at}

-- the piece is short where the file ends in it
open_on : (rest : List ℕ) (scan next : Scan) (n room : ℕ) (short : Bool) → n ≤ length rest → (n < room → length rest ≡ n) → n ≤ room → run_of capped scan (take n rest) ≡ Some next → IsOpenScan next → nat_lt n room ≡ short
    → ScansOn rest scan room (cond short (Broken n) (Open next))
open_on rest scan next n room true inside ends within run is_open e =
    record { inside = inside; before = (next, run, is_open); here = inl (ends (ltb-true n room e)) }
open_on rest scan next n room false inside ends within run is_open e =
    let all : room ≡ n = omega (arith, within, ltb-false n room e) in
    (omega (arith, all, inside), ap (λ m. run_of capped scan (take m rest)) all ∙ run)

piece_on : (bytes : List ℕ) (at : ℕ) (scan : Scan) (into : List ℕ) (n : ℕ) (scanned : Scanned) → Reads bytes at into n → IsScanned scan (take n into) scanned → IsSoundScanned (length (take n into)) scanned
    → ScansOn (drop at bytes) scan (length into) (cut_at n (length into) scanned)
piece_on bytes at scan into n scanned reads is sound = by scanned is sound
  where
    rest : List ℕ
    rest = drop at bytes

    inside : n ≤ length rest
    inside = omega (arith, reads.count, length-drop at bytes)

    count : length (take n into) ≡ n
    count = length-take-le n into (omega (arith, reads.count))

    front : (k : ℕ) → k ≤ n → take k (take n into) ≡ take k rest
    front k le = ap (take k) reads.read ∙ take-take k n rest le

    by : (s : Scanned) → IsScanned scan (take n into) s → IsSoundScanned (length (take n into)) s → ScansOn rest scan (length into) (cut_at n (length into) s)
    by (Open next) run is_open =
        open_on rest scan next n (length into) (nat_lt n (length into)) inside (λ short. omega (arith, reads.count, length-drop at bytes, short)) (omega (arith, reads.count)) (ap (run_of capped scan) (sym reads.read) ∙ run) is_open refl
    by (Broken i) breaks below =
        let early : i < n = omega (arith, count, below) in
        record {
          inside = omega (arith, early, inside);
          before = subst (RunsOn scan) (front i (omega (arith, early))) breaks.before;
          here = inr (omega (arith, early, inside), ap (run_of capped scan) (sym (front (i + 1) (omega (arith, early)))) ∙ breaks.here);
        }
    by (Ended header) ends whole =
        let early : header.length ≤ n = omega (arith, count, ends.inside) in
        record { inside = omega (arith, early, inside); run = ap (run_of capped scan) (sym (front header.length early)) ∙ ends.run }

-- the same in the file as a shelf holds it
pub piece_scanned : (name : List ℕ) (at : ℕ) (scan : Scan) (into : List ℕ) (n : ℕ) (scanned : Scanned) (a b : ShelfState) → IsScanned scan (take n into) scanned → IsSoundScanned (length (take n into)) scanned
    → Changes a b (λ was now. Reads (content_of was name) at into n)
    → Sees a b (λ files. ScansOn (drop at (content_of files name)) scan (length into) (cut_at n (length into) scanned))
piece_scanned name at scan into n scanned a b is sound reads =
    told_weaker (λ x y. Reads (content_of x name) at into n) (λ x y. ScansOn (drop at (content_of x name)) scan (length into) (cut_at n (length into) scanned)) a.files b.files
    (λ x y read. piece_on (content_of x name) at scan into n scanned read is sound) reads

sound_open : (n room : ℕ) (next : Scan) (short : Bool) → IsOpenScan next → nat_lt n room ≡ short → IsSoundScanned room (cond short (Broken n) (Open next))
sound_open n room next true is_open e = ltb-true n room e
sound_open n room next false is_open e = is_open

-- what is sound of the piece is sound of the room
pub cut_sound : (n room : ℕ) (scanned : Scanned) → n ≤ room → IsSoundScanned n scanned → IsSoundScanned room (cut_at n room scanned)
cut_sound n room (Open next) within sound = sound_open n room next (nat_lt n room) sound refl
cut_sound n room (Broken i) within sound = omega (arith, within, sound)
cut_sound n room (Ended header) within sound = record {
  some = sound.some;
  fits = omega (arith, within, sound.fits);
  width = sound.width;
  height = sound.height;
  maxval = sound.maxval;
}
