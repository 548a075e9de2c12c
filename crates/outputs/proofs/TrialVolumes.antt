-- The sample of a number is a volume.
use Rattle.std.proofs.Common.{◌≡◌, ℕ, zero, suc, ◌+◌, ◌*◌, ◌%◌, ◌<◌, List, [], ◌∷◌, ◌∙◌, arith}
use Rattle.std.specs.Prelude.{All, slice_index}
use Rattle.std.specs.List.{AllByRecursion}
use Rattle.std.proofs.lemmas.List.Elements.{All-append, All-cons, All-nil, recursion_from_All}
use Rattle.cells.specs.Cells.{IsVolume}
use Rattle.cells.proofs.Buffering.{is_volume}
use Rattle.patch_picks.specs.Draws.{draw_word}
use Rattle.outputs.specs.declared.trial.TheConstants.{BYTES, CELL_BYTES, SIZE}
use Rattle.outputs.specs.TrialSamples.{trial_byte, trial_bytes, trial_sample}
use Rattle.outputs.proofs.TrialBytes.{length-bytes}

small : (m w : ℕ) → 96 * (m % 2) + w % 64 < 256
small m w = omega arith

all_small : (n j : ℕ) → All (λ b. b < 256) (trial_bytes n j)
unfolding trial_bytes
all_small n zero = All-nil (λ b. b < 256)
all_small n (suc j) = All-append (λ b. b < 256) (trial_bytes n j) (trial_byte n j ∷ []) (all_small n j) (All-cons (λ b. b < 256) (trial_byte n j) [] (small _ (draw_word n j)) (All-nil (λ b. b < 256)))

by_index : (xs : List ℕ) (i : ℕ) → AllByRecursion (λ b. b < 256) xs → slice_index xs i < 256
by_index [] i all = omega arith
by_index (x ∷ xs) zero all = all.0
by_index (x ∷ xs) (suc i) all = by_index xs i all.1

pub trial_is_volume : (n : ℕ) → IsVolume (trial_sample n)
trial_is_volume n = is_volume SIZE [] CELL_BYTES (trial_bytes n BYTES) (record {
  parts = record {
    few = omega arith;
    first = record { w = (omega arith, omega arith); h = (omega arith, omega arith); f = (omega arith, omega arith) };
    others = tt;
    cells = omega arith;
  };
  samples = (omega arith, omega arith);
  whole = length-bytes n BYTES;
}) (λ i. by_index (trial_bytes n BYTES) i (recursion_from_All (λ b. b < 256) (trial_bytes n BYTES) (all_small n BYTES)))
