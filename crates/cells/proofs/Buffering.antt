-- What a buffer tells of the volume.
use Rattle.std.proofs.Common.{◌≡◌, ℕ, ◌+◌, ◌*◌, ◌<◌, ◌≤◌, List, length, take, drop, ◌++◌, sym, ap, ◌∙◌, arith}
use Rattle.std.specs.Prelude.{Some, slice_index, slice_get, option_and_then}
use Rattle.std.proofs.lemmas.List.Elements.{All-from_recursion}
use Rattle.std.proofs.Math.Nat.{mul-le-mul_left}
use Rattle.cells.specs.declared.place.At.{At}
use Rattle.cells.specs.declared.place.Size.{Size}
use Rattle.cells.specs.Parts.{count_from, index_from}
use Rattle.cells.specs.Buffers.{IsBuffer}
use Rattle.cells.specs.Cells.{Cells, IsCell, IsVolume, volume_over, cell_at, row_at, put_cell, cells_of, run_from, set_nth}
use Rattle.cells.proofs.PartLaws.{small_of}
use Rattle.cells.proofs.Chunks.{length-cells_of, cells_of-are, cells_of-at, run-cells_of, set-cells_of}

pub is_volume : (size : Size) (more : List Size) (k : ℕ) (bytes : List ℕ) → IsBuffer size more k bytes → ((i : ℕ) → slice_index bytes i < 256) → IsVolume (volume_over size more k bytes)
is_volume size more k bytes buffer small = record {
  small = small_of size more buffer.parts;
  parts = buffer.parts;
  samples = buffer.samples;
  count = length-cells_of k (count_from size more) bytes;
  cells = All-from_recursion (IsCell k) (cells_of k (count_from size more) bytes) (cells_of-are k (count_from size more) bytes buffer.whole small);
}

-- the bytes of cell i lie in the buffer
pub fits : (size : Size) (more : List Size) (k : ℕ) (bytes : List ℕ) (i : ℕ) → IsBuffer size more k bytes → i < count_from size more → k * i + k ≤ length bytes
fits size more k bytes i buffer lt = omega (arith, buffer.whole, mul-le-mul_left k (let le : i + 1 ≤ count_from size more = omega arith in le))

pub fits_run : (size : Size) (more : List Size) (k : ℕ) (bytes : List ℕ) (i w : ℕ) → IsBuffer size more k bytes → i + w ≤ count_from size more → k * i + k * w ≤ length bytes
fits_run size more k bytes i w buffer le = omega (arith, buffer.whole, mul-le-mul_left k le)

pub cell_of : (size : Size) (more : List Size) (k : ℕ) (bytes : List ℕ) (p : At) (i : ℕ) → index_from size more p ≡ Some i → i < count_from size more → cell_at (volume_over size more k bytes) p ≡ Some (take k (drop (k * i) bytes))
cell_of size more k bytes p i at lt = ap (option_and_then (slice_get (cells_of k (count_from size more) bytes))) at ∙ cells_of-at k (count_from size more) i bytes lt

pub row_of : (size : Size) (more : List Size) (k : ℕ) (bytes : List ℕ) (p : At) (i w : ℕ) → IsBuffer size more k bytes → index_from size more p ≡ Some i → i + w ≤ count_from size more → take (k * w) (drop (k * i) bytes) ≡ row_at (volume_over size more k bytes) p w
row_of size more k bytes p i w buffer at le = sym (ap (run_from (cells_of k (count_from size more) bytes) w) at ∙ run-cells_of k (count_from size more) i w bytes le buffer.whole)

pub put_of : (size : Size) (more : List Size) (k : ℕ) (bytes cell : List ℕ) (p : At) (i : ℕ) → IsBuffer size more k bytes → index_from size more p ≡ Some i → i < count_from size more → length cell ≡ k
    → volume_over size more k (take (k * i) bytes ++ cell ++ drop (k * i + length cell) bytes) ≡ put_cell (volume_over size more k bytes) p cell
put_of size more k bytes cell p i buffer at lt long =
    let volume : List (List ℕ) → Cells = λ cells. record { size = size; more = more; k = k; cells = cells } in
    ap volume (set-cells_of k (count_from size more) i bytes cell lt long buffer.whole ∙ ap (λ o. set_nth (cells_of k (count_from size more) bytes) o cell) (sym at))
