use Rattle.standing_files.proofs.Runs.{quilt_stands}
use Rattle.standing_files.proofs.laws.files_of_a_quilt_stand.Goals as goal

pub returns : goal.returns
returns c = quilt_stands
