use Rattle.std.proofs.Common.{subst, sym}
use Rattle.shelf_traits.specs.Files.{OnlyWrites}
use Rattle.command.specs.Writing.{WritesRun, text_names}
use Rattle.outputs.specs.BlockOutputs.{IsMadeQuilt, quilt_files}
use Rattle.quilt_command.specs.Transfers.{transfer_files, transfer_rating}
use Rattle.quilt_command.proofs.transfer_whole.write.Goals as goal

pub write_quilt-requires : goal.write_quilt-requires
write_quilt-requires g c =
    let made = c.args.made.now in
    let rating = transfer_rating c.args.job.now made.target made.quilt.sample.volume in
    record { made = (rating, subst (λ asked. IsMadeQuilt rating asked made.quilt) (sym c.run_of.ensures) c.requires.quilt) }

pub returns-clause-wrote : goal.returns-clause-wrote
returns-clause-wrote g c =
    let job = c.args.job.now in
    let made = c.args.made.now in
    let was = g.S.Shelf.state c.args.shelf.now in
    let now = g.S.Shelf.state c.write_quilt.new.shelf in
    let out = g.O.Sink.state c.args.out.now in
    let out' = g.O.Sink.state c.write_quilt.new.out in
    subst (λ summary. WritesRun (transfer_files job made) summary was now out out' c.write_quilt.result) c.summary_of-summary.ensures
    (subst (λ asked. WritesRun (quilt_files job.names asked.size made.quilt) c.summary_of-summary.result was now out out' c.write_quilt.result) c.run_of.ensures c.write_quilt.ensures.wrote)

pub returns-clause-writes : goal.returns-clause-writes
returns-clause-writes g c =
    let job = c.args.job.now in
    let made = c.args.made.now in
    let was = g.S.Shelf.state c.args.shelf.now in
    let now = g.S.Shelf.state c.write_quilt.new.shelf in
    subst (λ asked. OnlyWrites (text_names (quilt_files job.names asked.size made.quilt)) was now) c.run_of.ensures c.write_quilt.ensures.writes
