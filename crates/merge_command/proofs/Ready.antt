-- The files of a merge can be written: its picture with the pictures' maxval, and its map in version 2.
use Rattle.std.proofs.Common.{◌≡◌, ◌≤◌, length, ap, sym, ◌∙◌, subst}
use Rattle.cells.specs.declared.place.Size.{Size}
use Rattle.cells.specs.Cells.{Cells, sizes_of}
use Rattle.cells.specs.Places.{cell_count}
use Rattle.cells.proofs.CellLaws.{cell_has_index}
use Rattle.netpbm_p6.specs.Pictures.{IsPicture}
use Rattle.source_map.specs.MapFiles.{IsWritable}
use Rattle.source_map.specs.Heads.{AreSamples}
use Rattle.source_map.specs.declared.head.Version.TheVariants.{One, Two}
use Rattle.command_files.proofs.Ranges.{in_samples, picture_stands, volume_sizes}
use Rattle.merge_command.specs.declared.plan.Merged.{Merged}
use Rattle.merge_command.specs.MergeCommand.{IsMade}

module _ (made : Merged) (is : IsMade made) where
  abbrev pictures : Cells
  pictures = made.pictures.volume

  pub picture_ready : IsPicture made.pictures.maxval made.canvas.picture
  picture_ready =
      let sound = is.sound.each in
      picture_stands made.pictures.maxval pictures made.canvas sound.positive sound.fits sound.colours sound.samples is.volume is.full
      (ap (λ (size : Size). size.f) is.size ∙ sound.frames.0) is.canvas is.stands

  samples_are : AreSamples Two (sizes_of pictures)
  samples_are = record { sizes_are = volume_sizes pictures is.volume; one = λ version. none version }
    where
      none : Two ≡ One → length (sizes_of pictures) ≡ 1
      none version = absurd (cc)

  pub map_ready : IsWritable made.canvas.map (sizes_of pictures) Two
  map_ready = record {
    full = is.full;
    cells = subst (λ size. cell_count size ≤ 1048576) (sym is.size) is.within;
    samples_are = samples_are;
    sources = λ p from e. in_samples pictures from (cell_has_index pictures from (is.stands.over p from e));
  }
