-- An output has as many bytes as its target, few enough for one sum.
use Rattle.std.proofs.Common.{◌≡◌, ◌*◌, ◌^◌, ◌≤◌, length, refl, sym, ◌∙◌, arith}
use Rattle.cells.specs.declared.place.Size.{Size}
use Rattle.cells.specs.Cells.{Cells, IsOnePart, IsVolume, bytes_of}
use Rattle.cells.specs.Parts.{count_from}
use Rattle.cells.specs.Places.{cell_count}
use Rattle.job_words.specs.declared.transfer.TransferJob.{TransferJob}
use Rattle.sample_files.proofs.OneSample.{bytes_counted}
use Rattle.quilt_command.specs.declared.transfer_plan.Transferred.{Transferred}
use Rattle.quilt_command.specs.Transfers.{IsMadeTransfer}

-- three for each cell
three_each : (v : Cells) (size : Size) → IsVolume v → IsOnePart v → v.size ≡ size → v.k ≡ 3 → length (bytes_of v) ≡ 3 * cell_count size
three_each v size volume one size_is samples = bytes_counted v volume ∙ (λ i. samples i * count_from (size_is i) (one i))

module _ (job : TransferJob) (made : Transferred) (is : IsMadeTransfer job made) where
  abbrev size : Size
  size = made.target.volume.size

  abbrev output : Cells
  output = made.quilt.quilted.canvas.picture

  output_bytes : length (bytes_of output) ≡ 3 * cell_count size
  output_bytes =
      let quilt = is.quilt.quilt in
      three_each output size quilt.canvas.picture quilt.canvas.part (quilt.canvas.size ∙ quilt.size) (quilt.over.samples ∙ is.quilt.sound.form.colours)

  pub as_long : length (bytes_of output) ≡ length (bytes_of made.target.volume)
  as_long = let form = is.target.form in output_bytes ∙ sym (three_each made.target.volume size form.volume_is form.one refl form.colours)

  pub few_bytes : length (bytes_of output) ≤ 2 ^ 26
  few_bytes = omega (arith, output_bytes, is.quilt.within)
