-- The files of a tiling can be written: its picture in the form of the sample, and its map.
use Rattle.std.proofs.Common.{◌≡◌, ◌≤◌, ◌∷◌, length, ap, sym, ◌∙◌, subst, arith}
use Rattle.std.specs.Prelude.{All}
use Rattle.limits.specs.declared.bounds.TheConstants.{MOST_OUTPUT_CELLS}
use Rattle.cells.specs.declared.place.Size.{Size}
use Rattle.cells.specs.Cells.{Cells, IsOnePart, IsVolume, bytes_of, sizes_of}
use Rattle.cells.specs.Places.{cell_count}
use Rattle.cells.proofs.CellLaws.{cell_has_index}
use Rattle.cells.proofs.PartLists.{one_part_has}
use Rattle.map_canvas.specs.Canvases.{CanvasState, IsCanvas, StandsOver}
use Rattle.map_canvas.specs.Maps.{IsFull, SourceMap}
use Rattle.map_canvas.proofs.Pictures.{full_picture}
use Rattle.source_map.specs.MapFiles.{IsWritable}
use Rattle.source_map.specs.declared.head.Version.TheVariants.{One}
use Rattle.command_files.proofs.Pictures.{picture_bytes}
use Rattle.sample_files.specs.declared.form.Form.{Form}
use Rattle.sample_files.specs.declared.form.Form.TheVariants.{Picture, Clip}
use Rattle.sample_files.specs.Outputs.{frames_allowed}
use Rattle.sample_files.specs.Samples.{AreSoundIn, CanStandIn}
use Rattle.sample_files.proofs.OneSample.{sound_first}
use Rattle.job_words.specs.declared.tile.TileJob.{TileJob}
use Rattle.job_words.specs.TileWords.{IsTileJob}
use Rattle.outputs.specs.declared.tiled.TiledSample.{TiledSample}
use Rattle.outputs.specs.Tilings.{IsTilingMade}

-- the picture of a full canvas over a sample can be written in its form
can_stand : (form : Form) (sample : Cells) (canvas : CanvasState) → IsVolume sample → AreSoundIn form sample → IsFull canvas.map → canvas.map.size.f ≤ frames_allowed form → 1 ≤ canvas.map.size.f → IsCanvas canvas → StandsOver canvas sample → CanStandIn form canvas.picture
can_stand (Picture maxval) sample canvas volume sound full frames some is stands = record {
  positive = sound.positive;
  fits = sound.fits;
  volume_is = is.picture;
  one = is.part;
  frames = ap (λ (size : Size). size.f) is.size ∙ omega (arith, frames, some);
  colours = stands.samples ∙ sound.colours;
  samples = subst (λ (v : Cells). All (λ b. b ≤ maxval) (bytes_of v)) (sym (full_picture canvas sample is stands full))
      (picture_bytes (λ b. b ≤ maxval) sample volume sound.samples canvas.map is.map full stands.over);
}
can_stand (Clip form) sample canvas volume sound full frames some is stands = record {
  form_is = sound.is_form;
  volume_is = is.picture;
  one = is.part;
  samples = stands.samples ∙ sound.samples;
}

pub picture_ready : (job : TileJob) (made : TiledSample) (picture : Cells) → picture ≡ made.tiled.canvas.picture → IsTileJob job → IsTilingMade job made → CanStandIn made.sample.form picture
picture_ready job made picture is lawful its =
    let frames : made.tiled.canvas.map.size.f ≡ job.size.f = ap (λ (size : Size). size.f) its.tiled.size in
    subst (CanStandIn made.sample.form) (sym is)
    (can_stand made.sample.form made.sample.volume made.tiled.canvas its.volume (sound_first made.sample.form made.sample.volume its.sound) its.tiled.full (omega (arith, frames, its.bounds.frames)) (omega (arith, frames, lawful.axes.f.0)) its.tiled.canvas its.tiled.over)

one_long : (sample : Cells) → IsOnePart sample → length (sizes_of sample) ≡ 1
one_long sample one = ap (λ more. length (sample.size ∷ more)) one

pub map_ready : (job : TileJob) (made : TiledSample) (map : SourceMap) → map ≡ made.tiled.canvas.map → IsTilingMade job made → IsWritable map (sizes_of made.sample.volume) One
map_ready job made map is its = subst (λ m. IsWritable m (sizes_of made.sample.volume) One) (sym is) (record {
  full = its.tiled.full;
  cells = subst (λ size. cell_count size ≤ MOST_OUTPUT_CELLS) (sym its.tiled.size) its.bounds.cells;
  samples_are = record { sizes_are = record { some = omega arith; few = omega (arith, its.volume.parts.few); axes = (its.volume.parts.first, its.volume.parts.others) }; one = λ e. one_long made.sample.volume its.one };
  sources = λ p from e. (one_part_has made.sample.volume from).inside.0 (cell_has_index made.sample.volume from (its.tiled.over.over p from e));
})
