use Rattle.std.proofs.Common.{subst}
use Rattle.std.specs.Prelude.{All}
use Rattle.cert_file.specs.CutForms.{HasShortFlows}
use Rattle.upgrade_command.proofs.Reading.{cuts_not_read, cuts_only, map_not_read, map_only, pair_made, sound_pair}
use Rattle.upgrade_command.proofs.upgrading.plan.Goals as goal

pub returns-in-Err-clause-planned : goal.returns-in-Err-clause-planned
returns-in-Err-clause-planned g c =
    map_not_read c.args.job.now (g.S.Shelf.state c.args.shelf.now) (g.S.Shelf.state c.read_first_map.new.shelf) c.read_first_map.ensures.reads c.in-Err.fault (c.in-Err.ensures {u = tt}).answer

pub returns-in-Err-clause-reads : goal.returns-in-Err-clause-reads
returns-in-Err-clause-reads g c =
    map_only c.args.job.now (g.S.Shelf.state c.args.shelf.now) (g.S.Shelf.state c.read_first_map.new.shelf) c.read_first_map.ensures.reads

pub returns-in-Err-read_first_cuts-clause-planned : goal.returns-in-Err-read_first_cuts-clause-planned
returns-in-Err-read_first_cuts-clause-planned g c =
    cuts_not_read c.args.job.now (g.S.Shelf.state c.args.shelf.now) (g.S.Shelf.state c.read_first_map.new.shelf) c.read_first_map.ensures.reads c.in-Ok.map_file (c.in-Ok.ensures {u = tt}).answer
    (g.S.Shelf.state c.read_first_cuts.new.shelf) c.read_first_cuts.ensures.reads c.in-Err-read_first_cuts.fault (c.in-Err-read_first_cuts.ensures {u = tt}).answer

pub returns-in-Err-read_first_cuts-clause-reads : goal.returns-in-Err-read_first_cuts-clause-reads
returns-in-Err-read_first_cuts-clause-reads g c =
    cuts_only c.args.job.now (g.S.Shelf.state c.args.shelf.now) (g.S.Shelf.state c.read_first_map.new.shelf) c.read_first_map.ensures.reads c.in-Ok.map_file (c.in-Ok.ensures {u = tt}).answer
    (g.S.Shelf.state c.read_first_cuts.new.shelf) c.read_first_cuts.ensures.reads

pub returns-clause-sound : goal.returns-clause-sound
returns-clause-sound g c =
    sound_pair c.in-Ok.map_file c.in-Ok-read_first_cuts.record_file c.pair_of-pair.result c.pair_of-pair.ensures.map c.pair_of-pair.ensures.cuts (c.in-Ok.ensures {u = tt}).lawful (c.in-Ok-read_first_cuts.ensures {u = tt}).lawful
    (subst (All HasShortFlows) c.as_slice.ensures c.records_fit.ensures)

pub returns-clause-planned : goal.returns-clause-planned
returns-clause-planned g c =
    pair_made c.args.job.now (g.S.Shelf.state c.args.shelf.now) (g.S.Shelf.state c.read_first_map.new.shelf) c.read_first_map.ensures.reads c.in-Ok.map_file (c.in-Ok.ensures {u = tt}).answer
    (g.S.Shelf.state c.read_first_cuts.new.shelf) c.read_first_cuts.ensures.reads c.in-Ok-read_first_cuts.record_file (c.in-Ok-read_first_cuts.ensures {u = tt}).answer c.pair_of-pair.result
    (record { map_is = c.pair_of-pair.ensures.map; cuts_are = c.pair_of-pair.ensures.cuts; sound = returns-clause-sound g c })

pub returns-clause-reads : goal.returns-clause-reads
returns-clause-reads g c =
    cuts_only c.args.job.now (g.S.Shelf.state c.args.shelf.now) (g.S.Shelf.state c.read_first_map.new.shelf) c.read_first_map.ensures.reads c.in-Ok.map_file (c.in-Ok.ensures {u = tt}).answer
    (g.S.Shelf.state c.read_first_cuts.new.shelf) c.read_first_cuts.ensures.reads
