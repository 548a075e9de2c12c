-- A pair can be written in version 2, and what is written is read again.
use Rattle.std.proofs.Common.{◌≡◌, List}
use Rattle.std.specs.Prelude.{Ok}
use Rattle.cells.specs.declared.place.Size.{Size}
use Rattle.source_map.specs.declared.head.Version.{Version}
use Rattle.source_map.specs.declared.head.Version.TheVariants.{One, Two}
use Rattle.source_map.specs.declared.map_file.MapFile.TheVariants.{Cells as CellMap}
use Rattle.source_map.specs.Heads.{AreSamples}
use Rattle.source_map.specs.MapFiles.{IsWritable, cell_map_form, map_read}
use Rattle.source_map.proofs.MapsAgain as maps
use Rattle.cert_file.specs.RecordFiles.{AreCutsInForm, IsRecordFileOf, cuts_form}
use Rattle.cert_file.specs.declared.file.RecordFile.TheVariants.{Cuts}
use Rattle.cert_file.proofs.CutsAgain.{cuts_again}
use Rattle.upgrade_command.specs.declared.pair.Pair.{Pair}
use Rattle.upgrade_command.specs.Upgrades.{IsSoundPair, in_version_two}

-- version 2 may have one sample too
samples_two : (version : Version) (sizes : List Size) → AreSamples version sizes → AreSamples Two sizes
samples_two version sizes are = record { sizes_are = are.sizes_are; one = λ e. absurd (cc) }

module _ (pair : Pair) (sound : IsSoundPair pair) where
  pub map_ready : IsWritable pair.map pair.samples Two
  map_ready = record {
    full = sound.map_is.1.full;
    cells = sound.map_is.1.cells;
    samples_are = samples_two One pair.samples sound.map_is.1.samples_are;
    sources = sound.map_is.1.sources;
  }

  pub map_again : map_read (cell_map_form pair.map pair.samples Two) ≡ Ok (CellMap pair.map pair.samples Two)
  map_again = maps.read_again (CellMap pair.map pair.samples Two) (sound.map_is.0, map_ready)

  pub cuts_ready : AreCutsInForm (in_version_two pair.head) pair.cuts
  cuts_ready = record {
    head_is = record {
      output_axes = sound.cuts_are.form.head_is.output_axes;
      samples_are = samples_two pair.head.version pair.head.samples sound.cuts_are.form.head_is.samples_are;
    };
    count = sound.cuts_are.form.count;
    each = sound.cuts_are.form.each;
  }

  pub cuts_read_again : IsRecordFileOf (cuts_form (in_version_two pair.head) pair.cuts) (Cuts (in_version_two pair.head) pair.cuts)
  cuts_read_again = cuts_again (in_version_two pair.head) pair.cuts (record { form = cuts_ready; cells = sound.cuts_are.cells }) sound.flows
