-- Two outputs of one asking, over the same sample and by the same rating, are the same bytes.
use Rattle.std.proofs.Common.{◌≡◌, ℕ, List, ap, sym, ◌∙◌, subst}
use Rattle.cells.specs.Cells.{Cells, sizes_of}
use Rattle.cells.specs.Places.{IsSmall}
use Rattle.shelf_traits.specs.Files.{Files, content_of}
use Rattle.netpbm_p6.specs.declared.picture.Picture.{Picture}
use Rattle.netpbm_p6.specs.Pictures.{IsRead, p6_form}
use Rattle.netpbm_p6.proofs.OneReading.{one_picture}
use Rattle.map_canvas.specs.Maps.{SourceMap, picture_of}
use Rattle.source_map.specs.MapFiles.{cell_map_form}
use Rattle.source_map.specs.declared.head.Version.TheVariants.{One}
use Rattle.block_check.specs.declared.block.BlockRecord.{BlockRecord}
use Rattle.quilted.specs.Runs.{IsQuilted, Quilting, Rating, quilting}
use Rattle.quilted.proofs.OneQuilt.{one_quilt}
use Rattle.quilted.specs.declared.asked.QuiltRun.{QuiltRun}
use Rattle.cert_file.specs.RecordFiles.{blocks_form}
use Rattle.job_words.specs.declared.job.Names.{Names}
use Rattle.outputs.specs.BlockOutputs.{quilt_head}
use Rattle.outputs.specs.BlockHeadlines.{HaveSameQuilt, IsQuiltedBy}

module _ (rating : Cells → Rating) (asked : QuiltRun) (names : Names) (small : IsSmall asked.size) (before after earlier later : Files) (same : content_of earlier names.sample ≡ content_of before names.sample)
    (run : IsQuiltedBy rating asked names before after) (other : IsQuiltedBy rating asked names earlier later) where
  abbrev sample : Picture
  sample = run.output.sample

  pub one_sample : other.output.sample ≡ sample
  one_sample = one_picture (content_of before names.sample) other.output.sample sample (subst (λ bytes. IsRead bytes other.output.sample) same other.output.read).stands run.output.read.stands

  one_run : (run.records.blocks ≡ other.records.blocks) × (quilting run.output.map run.records.draws ≡ quilting other.output.map other.records.draws)
  one_run = one_quilt asked.plan sample.volume asked.size run.output.sample_volume small (rating sample.volume) asked.seed run.records.blocks other.records.blocks
      (quilting run.output.map run.records.draws) (quilting other.output.map other.records.draws) run.records.run
      (subst (λ (s : Picture). IsQuilted (rating s.volume) asked.plan s.volume asked.size asked.seed other.records.blocks (quilting other.output.map other.records.draws)) one_sample other.records.run)

  one_map : other.output.map ≡ run.output.map
  one_map = sym (ap (λ (q : Quilting). q.map) one_run.1)

  pub one_record : other.records.blocks ≡ run.records.blocks
  one_record = sym one_run.0

  pub one_output : other.output.picture ≡ run.output.picture
  one_output = other.output.of_map ∙ (λ i. picture_of (one_map i) (one_sample i).volume) ∙ sym run.output.of_map

  abbrev map_spelled : Picture → SourceMap → List ℕ
  map_spelled s m = cell_map_form m (sizes_of s.volume) One

  abbrev record_spelled : Picture → List BlockRecord → List ℕ
  record_spelled s blocks = blocks_form (quilt_head asked.size s.volume) blocks

  pub same_output : HaveSameQuilt names later after
  same_output = record {
    out = other.output.out_file ∙ (λ i. p6_form (one_sample i).maxval (one_output i)) ∙ sym run.output.out_file;
    map = other.output.map_file ∙ (λ i. map_spelled (one_sample i) (one_map i)) ∙ sym run.output.map_file;
    record_file = other.records.file ∙ (λ i. record_spelled (one_sample i) (one_record i)) ∙ sym run.records.file;
  }
