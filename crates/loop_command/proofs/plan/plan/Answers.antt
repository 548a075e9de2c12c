use Rattle.std.proofs.Common.{subst, sym}
use Rattle.command.specs.Outcomes.{NotMade}
use Rattle.loop_command.specs.Loops.{loop_command}
use Rattle.loop_command.proofs.Looping.{bounds_passed, clip_not_read, loop_made, not_looped}
use Rattle.loop_command.proofs.plan.plan.Goals as goal

pub returns-in-Err-clause-planned : goal.returns-in-Err-clause-planned
returns-in-Err-clause-planned g c =
    let a = g.S.Shelf.state c.args.shelf.now in
    let b = g.S.Shelf.state c.read_clip.new.shelf in
    let job = c.args.job.now in
    subst (NotMade (loop_command job) a b) (sym c.read_fault.ensures) (clip_not_read job a b c.as_text.ensures c.read_clip.ensures.reads c.in-Err.error (c.in-Err.ensures {u = tt}).answer)

pub returns-in-Err-set_against-clause-planned : goal.returns-in-Err-set_against-clause-planned
returns-in-Err-set_against-clause-planned g c =
    let a = g.S.Shelf.state c.args.shelf.now in
    let b = g.S.Shelf.state c.read_clip.new.shelf in
    let job = c.args.job.now in
    bounds_passed job a b c.as_text.ensures c.read_clip.ensures.reads c.in-Ok.clip (c.in-Ok.ensures {u = tt}).answer c.in-Err-set_against.fault (c.in-Err-set_against.ensures {u = tt})

pub returns-in-Err-find_loop-clause-planned : goal.returns-in-Err-find_loop-clause-planned
returns-in-Err-find_loop-clause-planned g c =
    let a = g.S.Shelf.state c.args.shelf.now in
    let b = g.S.Shelf.state c.read_clip.new.shelf in
    let job = c.args.job.now in
    subst (NotMade (loop_command job) a b) (sym c.looping_fault.ensures)
    (not_looped job a b c.as_text.ensures c.read_clip.ensures.reads c.in-Ok.clip (c.in-Ok.ensures {u = tt}).answer (c.in-Ok-set_against.ensures {u = tt}) c.in-Err-find_loop.error (c.in-Err-find_loop.ensures {u = tt}).no_loop)

pub returns-clause-planned : goal.returns-clause-planned
returns-clause-planned g c =
    let a = g.S.Shelf.state c.args.shelf.now in
    let b = g.S.Shelf.state c.read_clip.new.shelf in
    let job = c.args.job.now in
    loop_made job a b c.as_text.ensures c.read_clip.ensures.reads c.in-Ok.clip (c.in-Ok.ensures {u = tt}).answer c.in-Ok-find_loop.found
    (record { volume = c.samples-k.ensures.volume; sound = (c.in-Ok.ensures {u = tt}).clip; bounds = c.in-Ok-set_against.ensures {u = tt}; found = (c.in-Ok-find_loop.ensures {u = tt}).found })
