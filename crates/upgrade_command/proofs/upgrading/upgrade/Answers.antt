use Rattle.std.proofs.lemmas.Result.{err_from_is_err_and}
use Rattle.command.proofs.Halves.{not_planned, planned}
use Rattle.upgrade_command.specs.Upgrades.{pair_files, pair_summary, upgrade_command}
use Rattle.upgrade_command.proofs.upgrading.upgrade.Goals as goal

pub returns-in_err-pair : goal.returns-in_err-pair
returns-in_err-pair g c =
    let p = err_from_is_err_and c.from_residual.result c.from_residual.ensures.1 in
    rw (p.1, p.2) (not_planned (upgrade_command c.args.job.now) (g.S.Shelf.state c.args.shelf.now) (g.S.Shelf.state c.plan.new.shelf) c.plan.ensures.reads (g.O.Sink.state c.args.out.now) c.in_err-pair.field-0.0 (c.in_err-pair.ensures {u = tt}).planned)

pub write_pair-requires : goal.write_pair-requires
write_pair-requires g c = (c.in_ok-pair.ensures {u = tt}).sound

pub returns : goal.returns
returns g c =
    let job = c.args.job.now in
    let pair = c.in_ok-pair.pair in
    planned (upgrade_command job) (pair_files job pair) (pair_summary pair) (g.S.Shelf.state c.args.shelf.now) (g.S.Shelf.state c.plan.new.shelf) (g.S.Shelf.state c.write_pair.new.shelf)
    (g.O.Sink.state c.args.out.now) (g.O.Sink.state c.write_pair.new.out) c.plan.ensures.reads (c.in_ok-pair.ensures {u = tt}).planned c.write_pair.ensures.writes c.write_pair.result c.write_pair.ensures.wrote
