-- A verdict is that on the same map and records in other versions too.
use Rattle.std.proofs.Common.{◌≡◌, ◌∙◌, List, [], ◌∷◌, inl, inr, refl, ap}
use Rattle.cells.specs.declared.place.Size.{Size}
use Rattle.map_canvas.specs.Maps.{SourceMap}
use Rattle.source_map.specs.declared.head.Head.{Head}
use Rattle.source_map.specs.declared.head.Version.{Version}
use Rattle.source_map.specs.declared.map_file.MapFile.TheVariants.{Cells as CellMap}
use Rattle.cut_check.specs.declared.record.CutRecord.{CutRecord}
use Rattle.cert_file.specs.declared.file.RecordFile.TheVariants.{Cuts}
use Rattle.sample_files.specs.declared.sample.Sample.{Sample}
use Rattle.sample_files.specs.declared.several.Samples.{Samples}
use Rattle.standing_files.specs.declared.verdict.Verdict.TheVariants.{Stands, Fails}
use Rattle.standing_files.specs.Standing.{GoTogether, VersionsDontCount}

together_still : (samples : Samples) (out : Sample) (m : SourceMap) (sizes : List Size) (version other : Version) (head head' : Head) (cuts : List CutRecord) → head.output ≡ head'.output → head.samples ≡ head'.samples
    → GoTogether samples out (CellMap m sizes version) (Cuts head cuts) → GoTogether samples out (CellMap m sizes other) (Cuts head' cuts)
together_still samples out m sizes version other head head' cuts output own are = record {
  map_sizes = are.map_sizes;
  record_file_sizes = record { output_is = are.record_file_sizes.output_is ∙ ap (λ (size : Size). size ∷ []) output; samples_are = are.record_file_sizes.samples_are ∙ own };
  form = are.form;
  takes = tt;
  kinds = tt;
}

pub any_versions : VersionsDontCount
any_versions samples out m sizes version head cuts Stands of_map of_record_file is = record {
  together = together_still samples out m sizes version of_map head (record head { version = of_record_file }) cuts refl refl is.together;
  records = is.records;
  left = is.left;
  copied = is.copied;
}
any_versions samples out m sizes version head cuts (Fails number rule place) of_map of_record_file (inl broken) = inl (record {
  whole = broken.whole;
  place_is = broken.place_is;
  apart = λ are. broken.apart (together_still samples out m sizes of_map version (record head { version = of_record_file }) head cuts refl refl are);
})
any_versions samples out m sizes version head cuts (Fails number rule place) of_map of_record_file (inr (inl broken)) = inr (inl (record {
  together = together_still samples out m sizes version of_map head (record head { version = of_record_file }) cuts refl refl broken.together;
  broken = broken.broken;
}))
any_versions samples out m sizes version head cuts (Fails number rule place) of_map of_record_file (inr (inr (inl broken))) = inr (inr (inl (record {
  whole = broken.whole;
  together = together_still samples out m sizes version of_map head (record head { version = of_record_file }) cuts refl refl broken.together;
  records = broken.records;
  first = record { below = broken.first.below; before = broken.first.before; here = broken.first.here };
})))
any_versions samples out m sizes version head cuts (Fails number rule place) of_map of_record_file (inr (inr (inr broken))) = inr (inr (inr (record {
  whole = broken.whole;
  together = together_still samples out m sizes version of_map head (record head { version = of_record_file }) cuts refl refl broken.together;
  records = broken.records;
  left = broken.left;
  first = record { below = broken.first.below; before = broken.first.before; here = broken.first.here };
})))
