use Rattle.synth_report.proofs.say.tell_form.Goals as goal

pub returns-in-Space : goal.returns-in-Space
returns-in-Space g c = rw c.in-Space.is c.tell_file-in-Space.ensures

pub returns-in-NoFrames : goal.returns-in-NoFrames
returns-in-NoFrames g c = rw c.in-NoFrames.is c.tell_file-in-NoFrames.ensures
