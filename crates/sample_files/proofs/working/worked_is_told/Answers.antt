use Rattle.sample_files.proofs.WorkedLaws.{sizes_worked, worked_tell}
use Rattle.sample_files.proofs.WorkedVolumes.{worked_volume}
use Rattle.sample_files.proofs.working.worked_is_told.Goals as goal

pub returns-clause-volume : goal.returns-clause-volume
returns-clause-volume c = worked_volume

pub returns-clause-sizes : goal.returns-clause-sizes
returns-clause-sizes c = sizes_worked

pub returns-clause-tell : goal.returns-clause-tell
returns-clause-tell c = worked_tell
