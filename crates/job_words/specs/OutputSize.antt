-- The size of an output, of the keys that commands have for it. To be trusted: contracts cite these
-- words. (Own.)
use Rattle.std.specs.Prelude.{List}
use Rattle.limits.specs.declared.bounds.TheConstants.{GREATEST_AXIS}
use Rattle.cells.specs.declared.place.Size.{Size}
use Rattle.job_words.specs.declared.keys.Key.TheVariants as key
use Rattle.job_words.specs.declared.table.Kind.TheVariants.{Within}
use Rattle.job_words.specs.declared.settings.Setting.{Setting}
use Rattle.job_words.specs.Words.{IsGiven, number_at}

abbrev pub size_of : List Setting → Size
size_of settings = record {
  w = number_at key.Width settings;
  h = number_at key.Height settings;
  f = number_at key.Frames settings;
}

-- the values by which it is made are of their keys' kinds
pub record HasSize (settings : List Setting) : Type 0 where
  pub width : IsGiven (Within 1 GREATEST_AXIS) key.Width settings
  pub height : IsGiven (Within 1 GREATEST_AXIS) key.Height settings
  pub frames : IsGiven (Within 1 GREATEST_AXIS) key.Frames settings
