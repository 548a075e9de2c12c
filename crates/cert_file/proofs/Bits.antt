-- Choices as bits.
use Rattle.std.proofs.Common.{◌≡◌, ◌+◌, ◌*◌, ◌++◌, ◌∷◌, [], ◌∙◌, ℕ, List, Bool, length, refl, ap, arith}
use Rattle.cells.specs.Places.{cell_count}
use Rattle.cut_check.specs.declared.record.CutRecord.{CutRecord}
use Rattle.cut_check.specs.Records.{box_cells}
use Rattle.block_check.specs.declared.block.BlockRecord.{BlockRecord}
use Rattle.block_check.specs.Blocks.{block_cells}
use Rattle.cert_file.specs.CutReading.{bits_of, byte_bits}
use Rattle.std.proofs.lemmas.List.{length-append}

eight : (piece : List ℕ) → length (bits_of piece) ≡ 8 * length piece
eight [] = refl
eight (b ∷ piece) = omega (arith, length-append (byte_bits b) (bits_of piece), eight piece)

-- a byte has eight bits
pub length-bits_of : (piece : List ℕ) (bits : List Bool) → bits ≡ bits_of piece → length bits ≡ 8 * length piece
length-bits_of piece bits is = ap length is ∙ eight piece

-- one record more
pub box_cells-append : (cuts : List CutRecord) (cut : CutRecord) → box_cells (cuts ++ cut ∷ []) ≡ box_cells cuts + cell_count cut.placement.rect.size
box_cells-append [] cut = omega arith
box_cells-append (first ∷ cuts) cut = omega (arith, box_cells-append cuts cut)

pub block_cells-append : (blocks : List BlockRecord) (block : BlockRecord) → block_cells (blocks ++ block ∷ []) ≡ block_cells blocks + cell_count block.placement.rect.size
block_cells-append [] block = omega arith
block_cells-append (first ∷ blocks) block = omega (arith, block_cells-append blocks block)
