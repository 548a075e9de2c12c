-- The files of a growth can be written: its picture in the form of the samples, its map and its record.
use Rattle.std.proofs.Common.{◌≡◌, ℕ, Bool, true, false, ◌*◌, ◌≤◌, ◌<◌, ◌^◌, List, [], ◌∷◌, length, refl, ap, sym, ◌∙◌, subst, arith}
use Rattle.std.proofs.lemmas.Int.{ints}
use Rattle.std.proofs.lemmas.List.Elements.{recursion_from_All}
use Rattle.std.specs.Prelude.{All, ℤ, pos, negsuc, ◌+ℤ◌, get_or}
use Rattle.std.specs.List.{AllByRecursion}
use Rattle.cells.specs.declared.place.At.{At}
use Rattle.cells.specs.declared.place.Size.{Size}
use Rattle.cells.specs.Boxes.{AxisHolds, HasCells}
use Rattle.cells.specs.Cells.{Cells, Holds, IsInsideOf, IsVolume, bytes_of, sizes_of}
use Rattle.cells.specs.Places.{HasAxes, cell_count, plus, spot}
use Rattle.cells.specs.SizeLists.{AreSizes}
use Rattle.cells.proofs.CellLaws.{cell_has_index}
use Rattle.cells.proofs.PartBoxes.{held_run}
use Rattle.cells.proofs.PartLists.{one_part_has}
use Rattle.map_canvas.specs.Canvases.{CanvasState, IsCanvas, StandsOver}
use Rattle.map_canvas.specs.Choices.{Fits}
use Rattle.map_canvas.specs.Maps.{IsFull, IsMap, SourceMap}
use Rattle.map_canvas.proofs.Pictures.{full_picture}
use Rattle.source_map.specs.MapFiles.{IsInSamples, IsShortCoordinate, IsWritable}
use Rattle.source_map.specs.Heads.{AreSamples}
use Rattle.cut_check.specs.declared.record.CutRecord.{CutRecord}
use Rattle.cut_check.specs.Records.{box_cells}
use Rattle.cut_replay.specs.Replay.{IsFormed}
use Rattle.grown.proofs.Stepping.{some_cells}
use Rattle.cert_file.specs.CutForms.{IsCutInForm}
use Rattle.cert_file.specs.RecordFiles.{AreCutsInForm}
use Rattle.job_words.specs.declared.grow.GrowJob.{GrowJob}
use Rattle.job_words.specs.GrowWords.{IsGrowJob}
use Rattle.sample_files.specs.declared.form.Form.{Form}
use Rattle.sample_files.specs.declared.form.Form.TheVariants.{Picture, Clip}
use Rattle.sample_files.specs.Outputs.{frames_allowed}
use Rattle.sample_files.specs.Samples.{AreSoundIn, CanStandIn}
use Rattle.outputs.specs.declared.growth.Growth.{Growth}
use Rattle.turned.specs.declared.turn.TheConstants.{TURNS}
use Rattle.turned.specs.TurnedParts.{turned_sizes_of}
use Rattle.limits.specs.declared.bounds.TheConstants.{MOST_PARTS}
use Rattle.sample_files.specs.Worked.{worked_sizes}
use Rattle.outputs.specs.GrownMaps.{IsReadyMap, version_for, version_of}
use Rattle.outputs.specs.Growths.{IsMade, head_over, version_over}
use Rattle.source_map.specs.declared.head.Version.TheVariants.{One, Two}
use Rattle.command_files.proofs.Pictures.{picture_bytes}

-- the picture of a full canvas over samples can be written in their form
can_stand : (form : Form) (sample : Cells) (canvas : CanvasState) → IsVolume sample → AreSoundIn form sample → IsFull canvas.map → canvas.map.size.f ≤ frames_allowed form → 1 ≤ canvas.map.size.f → IsCanvas canvas → StandsOver canvas sample → CanStandIn form canvas.picture
can_stand (Picture maxval) sample canvas volume sound full frames some is stands = record {
  positive = sound.positive;
  fits = sound.fits;
  volume_is = is.picture;
  one = is.part;
  frames = ap (λ (size : Size). size.f) is.size ∙ omega (arith, frames, some);
  colours = stands.samples ∙ sound.colours;
  samples = subst (λ (v : Cells). All (λ b. b ≤ maxval) (bytes_of v)) (sym (full_picture canvas sample is stands full))
      (picture_bytes (λ b. b ≤ maxval) sample volume sound.samples canvas.map is.map full stands.over);
}
can_stand (Clip form) sample canvas volume sound full frames some is stands = record {
  form_is = sound.is_form;
  volume_is = is.picture;
  one = is.part;
  samples = stands.samples ∙ sound.samples;
}

pub picture_ready : (job : GrowJob) (growth : Growth) (picture : Cells) → picture ≡ growth.grown.canvas.picture → IsVolume growth.samples.volume → IsGrowJob job → IsMade job growth → CanStandIn growth.samples.form picture
picture_ready job growth picture is volume lawful made =
    let frames : growth.grown.canvas.map.size.f ≡ job.size.f = ap (λ (size : Size). size.f) made.grown.size in
    subst (CanStandIn growth.samples.form) (sym is)
    (can_stand growth.samples.form growth.samples.volume growth.grown.canvas volume made.sound.form made.grown.done.full (omega (arith, frames, made.bounds.frames)) (omega (arith, frames, lawful.axes.f.0)) made.grown.canvas made.grown.over)

-- the sizes of the parts of a volume
pub volume_sizes : (sample : Cells) → IsVolume sample → AreSizes (sizes_of sample)
volume_sizes sample volume = record {
  some = omega arith;
  few = omega (arith, volume.parts.few);
  axes = (volume.parts.first, volume.parts.others);
}

pub head_samples : (sample : Cells) → IsVolume sample → AreSamples (version_over sample) (sizes_of sample)
head_samples sample volume = record { sizes_are = volume_sizes sample volume; one = one sample.more }
  where
    one : (more : List Size) → version_for more ≡ One → length (sample.size ∷ more) ≡ 1
    one [] is = refl
    one (size ∷ more) is = absurd (cc)

-- a place with a cell is in one of the parts
in_samples : (sample : Cells) (p : At) → IsInsideOf sample p → IsInSamples (sizes_of sample) p
in_samples sample p inside = (one_part_has sample p).inside.0 inside

-- over the worked samples the map can be written as it is
pub cells_ready : (job : GrowJob) (growth : Growth) → IsVolume growth.samples.volume → IsMade job growth → IsWritable growth.grown.canvas.map (sizes_of growth.samples.volume) (version_over growth.samples.volume)
cells_ready job growth volume made = record {
  full = made.grown.done.full;
  cells = subst (λ size. cell_count size ≤ 1048576) (sym made.grown.size) made.bounds.cells;
  samples_are = head_samples growth.samples.volume volume;
  sources = λ p from e. in_samples growth.samples.volume from (cell_has_index growth.samples.volume from (made.grown.over.over p from e));
}

-- turns are several parts
pub several : (sizes : List Size) → 1 ≤ length sizes → version_of (turned_sizes_of sizes) ≡ Two
several [] some = absurd (omega (arith, some))
several (size ∷ more) some = refl

-- by whether the samples were turned
ready_of : (turns : Bool) (m : SourceMap) (sizes all : List Size) → IsMap m → AreSizes sizes → (turns ≡ true → TURNS * length sizes ≤ MOST_PARTS) → all ≡ worked_sizes turns sizes → IsWritable m all (version_of all) → IsReadyMap turns m sizes
ready_of false m sizes all map are few same writable = subst (λ s. IsWritable m s (version_of s)) same writable
ready_of true m sizes all map are few same writable = record {
  few = (let parts = few refl in omega (arith, parts));
  sizes = are;
  map = map;
  writable = subst (IsWritable m (turned_sizes_of sizes)) (several sizes are.some) (subst (λ s. IsWritable m s (version_of s)) same writable);
}

pub map_ready : (job : GrowJob) (growth : Growth) (map : SourceMap) → map ≡ growth.grown.canvas.map → IsVolume growth.samples.volume → IsMade job growth → IsReadyMap job.turns map growth.sizes
map_ready job growth map is volume made = subst (λ m. IsReadyMap job.turns m growth.sizes) (sym is)
    (ready_of job.turns growth.grown.canvas.map growth.sizes (sizes_of growth.samples.volume) made.grown.canvas.map made.are made.few made.sizes (cells_ready job growth volume made))

-- a box in an output has a corner and a size of 16 bits
short_axis : (z : ℤ) (len n : ℕ) → AxisHolds n z len → 1 ≤ len → n ≤ 4096 → IsShortCoordinate z × (len < 2 ^ 16)
short_axis (pos c) len n box some le = ((omega (arith, ints), omega (arith, ints, box.to, some, le)), omega (arith, ints, box.to, le))
short_axis (negsuc c) len n box some le = absurd (omega (arith, ints, box.from))

-- the corner of a box that lies in the parts is in one of them
corner_inside : (sample : Cells) (corner : At) (inner : Size) → Holds sample corner inner → HasCells inner → IsInsideOf sample corner
corner_inside sample corner inner holds some = subst (IsInsideOf sample) here (held_run sample corner inner 0 0 holds some.w (omega (arith, some.h)) (omega (arith, some.f))).first
  where
    none_on : (z : ℤ) → z +ℤ pos 0 ≡ z
    none_on z = omega (arith, ints)

    here : plus corner (spot 0 0 0) ≡ corner
    here = λ k. record { x = none_on corner.x k; y = none_on corner.y k; f = none_on corner.f k }

cut_ready : (output : Size) (sample : Cells) (cut : CutRecord) → HasAxes output → Fits output sample cut.placement → IsFormed cut → IsCutInForm (sizes_of sample) cut
cut_ready output sample cut axes fits formed =
    let rect = cut.placement.rect in
    let x = short_axis rect.corner.x rect.size.w output.w fits.inside.x fits.some.w axes.w.1 in
    let y = short_axis rect.corner.y rect.size.h output.h fits.inside.y fits.some.h axes.h.1 in
    let f = short_axis rect.corner.f rect.size.f output.f fits.inside.f fits.some.f axes.f.1 in
    record {
      corner = record { x = x.0; y = y.0; f = f.0 };
      size = record { w = (fits.some.w, x.1); h = (fits.some.h, y.1); f = (fits.some.f, f.1) };
      from = in_samples sample cut.placement.from (corner_inside sample cut.placement.from rect.size fits.sources fits.some);
      choice = formed.choice;
      flows = formed.flows;
    }

-- there are no more records than cells of their boxes
few_records : (cuts : List CutRecord) → AllByRecursion (λ cut. HasCells cut.placement.rect.size) cuts → length cuts ≤ box_cells cuts
few_records [] some = omega arith
few_records (cut ∷ cuts) some = omega (arith, some_cells cut.placement.rect.size some.0, few_records cuts some.1)

pub record_ready : (job : GrowJob) (growth : Growth) → IsVolume growth.samples.volume → IsGrowJob job → IsMade job growth → AreCutsInForm (head_over job.size growth.samples.volume) growth.grown.cuts
record_ready job growth volume lawful made =
    let file = made.grown.writable in
    record {
      head_is = record { output_axes = lawful.axes; samples_are = head_samples growth.samples.volume volume };
      count = omega (arith, file.cells, few_records growth.grown.cuts (recursion_from_All (λ cut. HasCells cut.placement.rect.size) growth.grown.cuts (λ i d lt. (file.fit i d lt).some)));
      each = λ i d lt. cut_ready job.size growth.samples.volume (get_or growth.grown.cuts i d) lawful.axes (file.fit i d lt) (file.formed i d lt);
    }
