-- The commands of weave. To be trusted: contracts cite these words. (Own.)
use Rattle.job_words.specs.declared.job.Job.TheVariants.{Grow, Quilt, Loop, Check, Trial, Upgrade, Tile, Merge, Transfer}
use Rattle.command.specs.Outcomes.{Commands}
use Rattle.check_command.specs.Checks.{check_command}
use Rattle.loop_command.specs.Loops.{loop_command}
use Rattle.merge_command.specs.MergeCommand.{merge_command}
use Rattle.quilt_command.specs.Quilts.{quilt_command}
use Rattle.upgrade_command.specs.Upgrades.{upgrade_command}
use Rattle.outputs.specs.Growths.{grow_command}
use Rattle.grow_command.specs.Trials.{trial_command}
use Rattle.outputs.specs.Tilings.{tile_command}
use Rattle.quilt_command.specs.Transfers.{transfer_command}

-- the command of a job
abbrev pub command_of : Commands
command_of (Grow job) = grow_command job
command_of (Quilt job) = quilt_command job
command_of (Loop job) = loop_command job
command_of (Check job) = check_command job
command_of (Trial job) = trial_command job
command_of (Upgrade job) = upgrade_command job
command_of (Tile job) = tile_command job
command_of (Merge job) = merge_command job
command_of (Transfer job) = transfer_command job
