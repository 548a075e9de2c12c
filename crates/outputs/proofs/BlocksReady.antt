-- The files of a quilt can be written: its picture with the sample's maxval, its map and its record.
use Rattle.std.proofs.Common.{◌≡◌, ℕ, ◌≤◌, ◌<◌, List, [], ◌∷◌, length, refl, ap, sym, ◌∙◌, subst, arith}
use Rattle.std.proofs.lemmas.List.Elements.{recursion_from_All}
use Rattle.std.specs.Prelude.{All, IfSome, Option, Some, None, get_or}
use Rattle.std.specs.List.{AllByRecursion}
use Rattle.cells.specs.declared.place.Size.{Size}
use Rattle.cells.specs.Boxes.{HasCells}
use Rattle.cells.specs.Cells.{Cells, IsOnePart, IsVolume, sizes_of}
use Rattle.cells.specs.Places.{HasAxes, IsSmall, cell_count}
use Rattle.cells.proofs.CellLaws.{cell_has_index}
use Rattle.netpbm_p6.specs.Pictures.{IsPicture}
use Rattle.map_canvas.specs.declared.canvas.Placement.{Placement}
use Rattle.map_canvas.specs.Maps.{SourceMap}
use Rattle.source_map.specs.MapFiles.{IsWritable}
use Rattle.source_map.specs.declared.head.Version.TheVariants.{One}
use Rattle.source_map.specs.Heads.{AreSamples}
use Rattle.strip_boundary.specs.declared.boundary.BoundaryRecord.{BoundaryRecord}
use Rattle.block_strips.specs.declared.side.Side.{Side}
use Rattle.block_strips.specs.declared.side.Side.TheVariants.{Left, Top}
use Rattle.block_strips.specs.Strips.{strip_rows}
use Rattle.block_check.specs.declared.block.BlockRecord.{BlockRecord}
use Rattle.quilted.specs.Runs.{Rating}
use Rattle.quilted.specs.declared.asked.QuiltRun.{QuiltRun}
use Rattle.quilted.specs.Costs.{IsFileBlock, IsFileSide}
use Rattle.block_check.specs.Blocks.{block_cells}
use Rattle.quilted.proofs.Spots.{some_cells}
use Rattle.cert_file.specs.BlockForms.{IsBlockInForm, IsWideBlock, IsWideBoundary}
use Rattle.cert_file.specs.RecordFiles.{AreBlocksInForm}
use Rattle.command_files.proofs.Ranges.{corner_inside, frame_0, in_samples, picture_stands, short_axis, short_place, volume_sizes}
use Rattle.outputs.specs.declared.quilt.PictureQuilt.{PictureQuilt}
use Rattle.outputs.specs.BlockOutputs.{IsMadeQuilt, quilt_head}

-- a boundary of a file has a whole path, and numbers as wide as their types
path_of : (side : Side) (placement : Placement) (boundary : Option BoundaryRecord) → IsFileSide side placement boundary → IfSome boundary (λ it. length it.path ≡ strip_rows side placement.rect.size)
path_of side placement None file = tt
path_of side placement (Some it) file = file.column_per_row

wide : (side : Side) (placement : Placement) (boundary : Option BoundaryRecord) → IsFileSide side placement boundary → IfSome boundary IsWideBoundary
wide side placement None file = tt
wide side placement (Some it) file = record { path = file.columns; sums = file.sums }

module _ (rating : Rating) (asked : QuiltRun) (made : PictureQuilt) (is : IsMadeQuilt rating asked made) where
  abbrev sample : Cells
  sample = made.sample.volume

  pub picture_ready : IsPicture made.sample.maxval made.quilted.canvas.picture
  picture_ready =
      picture_stands made.sample.maxval sample made.quilted.canvas is.sound.form.positive is.sound.form.fits is.sound.form.colours is.sound.form.samples is.volume is.quilt.run.full
      (ap (λ (size : Size). size.f) is.quilt.size ∙ is.frame) is.quilt.canvas is.quilt.over

  one_sample : length (sizes_of sample) ≡ 1
  one_sample = ap (λ more. length (sample.size ∷ more)) is.sound.form.one

  samples_are : AreSamples One (sizes_of sample)
  samples_are = record { sizes_are = volume_sizes sample is.volume; one = λ version. one_sample }

  pub map_ready : IsWritable made.quilted.canvas.map (sizes_of sample) One
  map_ready = record {
    full = is.quilt.run.full;
    cells = subst (λ size. cell_count size ≤ 1048576) (sym is.quilt.size) is.within;
    samples_are = samples_are;
    sources = λ p from e. in_samples sample from (cell_has_index sample from (is.quilt.over.over p from e));
  }

  block_ready : (block : BlockRecord) → IsFileBlock asked.size sample block → IsBlockInForm block
  block_ready block file =
      let output = asked.size in
      let rect = block.placement.rect in
      let axes = is.small.axes in
      let x = short_axis rect.corner.x rect.size.w output.w file.fits.inside.x file.fits.some.w axes.w.1 in
      let y = short_axis rect.corner.y rect.size.h output.h file.fits.inside.y file.fits.some.h axes.h.1 in
      let f = short_axis rect.corner.f rect.size.f output.f file.fits.inside.f file.fits.some.f axes.f.1 in
      let inside = corner_inside sample block.placement.from rect.size file.fits.sources file.fits.some in
      record {
        formed = file.formed;
        corner = record { x = x.0; y = y.0; f = f.0 };
        w = x.1;
        h = y.1;
        from = short_place sample is.volume is.sound.form.one block.placement.from inside;
        from_frame = frame_0 sample is.volume is.sound.form.one block.placement.from inside is.sound.form.frames;
        left = path_of Left block.placement block.left file.left;
        top = path_of Top block.placement block.top file.top;
      }

  pub wide_block : (block : BlockRecord) → IsFileBlock asked.size sample block → IsWideBlock block
  wide_block block file = record { left = wide Left block.placement block.left file.left; top = wide Top block.placement block.top file.top }

  -- there are no more records than cells of their boxes
  few_blocks : (blocks : List BlockRecord) → AllByRecursion (λ block. HasCells block.placement.rect.size) blocks → length blocks ≤ block_cells blocks
  few_blocks [] some = omega arith
  few_blocks (block ∷ blocks) some = omega (arith, some_cells block.placement.rect.size some.0, few_blocks blocks some.1)

  pub record_ready : AreBlocksInForm (quilt_head asked.size sample) made.quilted.blocks
  record_ready =
      let file = is.quilt.writable in
      let blocks = made.quilted.blocks in
      record {
        head_is = record { output_axes = is.small.axes; samples_are = samples_are };
        version = refl;
        count = omega (arith, file.cells, few_blocks blocks (recursion_from_All (λ block. HasCells block.placement.rect.size) blocks (λ i d lt. (file.each i d lt).fits.some)));
        each = λ i d lt. block_ready (get_or blocks i d) (file.each i d lt);
      }
