use Rattle.sample_files.proofs.Sound.{stand_sound}
use Rattle.sample_files.proofs.law.samples_are_sound.Goals as goal

pub returns : goal.returns
returns c = stand_sound
