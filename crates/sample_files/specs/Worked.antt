-- What a reader has to trust: the samples that are grown over and checked over: those of the files as
-- they are, or all their turns. (Own.)
use Rattle.std.specs.Prelude.{Bool, true, false, List}
use Rattle.cells.specs.declared.place.Size.{Size}
use Rattle.cells.specs.Cells.{Cells}
use Rattle.turned.specs.TurnedParts.{turned_of, turned_sizes_of}
use Rattle.sample_files.specs.declared.several.Samples.{Samples}

abbrev pub worked : Bool → Cells → Cells
worked false v = v
worked true v = turned_of v

-- the sizes of its parts
abbrev pub worked_sizes : Bool → List Size → List Size
worked_sizes false sizes = sizes
worked_sizes true sizes = turned_sizes_of sizes

-- the samples of the worked volume, in the form of those of the files
abbrev pub worked_samples : Bool → Samples → Samples
worked_samples turns samples = record {
  form = samples.form;
  volume = worked turns samples.volume;
}
