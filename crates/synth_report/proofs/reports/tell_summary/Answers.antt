use Rattle.std.proofs.Common.{◌≡◌, sym, ap, ◌∙◌, subst}
use Rattle.shelf_traits.specs.Files.{SinkState}
use Rattle.synth_report.specs.declared.summary.Summary.{Summary}
use Rattle.synth_report.specs.declared.summary.Summary.TheVariants.{Loop, Merge, Trial}
use Rattle.synth_report.specs.Telling.{TellsText, WriteResult}
use Rattle.synth_report.specs.Texts.{report_of}
use Rattle.synth_report.proofs.reports.tell_summary.Goals as goal

reported : (s t : Summary) (a b : SinkState) (r : WriteResult) → s ≡ t → TellsText (report_of t) a b r → TellsText (report_of s) a b r
reported s t a b r is told = subst (λ it. TellsText (report_of it) a b r) (sym is) told

pub returns-in-Fails : goal.returns-in-Fails
returns-in-Fails g c = reported c.args.summary _ (g.O.Sink.state c.args.sink.now) (g.O.Sink.state c.tell_fails.new.sink) c.tell_fails.result c.in-Fails.is c.tell_fails.ensures

pub returns-in-Trial : goal.returns-in-Trial
returns-in-Trial g c = reported c.args.summary _ (g.O.Sink.state c.args.sink.now) (g.O.Sink.state c.tell_lines-in-Trial.new.sink) c.tell_lines-in-Trial.result (c.in-Trial.is ∙ ap (λ n. Trial n c.in-Trial.size c.in-Trial.placements c.in-Trial.rounds c.in-Trial.seams) (sym c.from-in-Trial.ensures)) c.tell_lines-in-Trial.ensures

pub returns-in-Transfer : goal.returns-in-Transfer
returns-in-Transfer g c = reported c.args.summary _ (g.O.Sink.state c.args.sink.now) (g.O.Sink.state c.tell_lines-in-Transfer.new.sink) c.tell_lines-in-Transfer.result c.in-Transfer.is c.tell_lines-in-Transfer.ensures

pub returns-in-Tile : goal.returns-in-Tile
returns-in-Tile g c = reported c.args.summary _ (g.O.Sink.state c.args.sink.now) (g.O.Sink.state c.tell_lines-in-Tile.new.sink) c.tell_lines-in-Tile.result c.in-Tile.is c.tell_lines-in-Tile.ensures

pub returns-in-Merge : goal.returns-in-Merge
returns-in-Merge g c = reported c.args.summary _ (g.O.Sink.state c.args.sink.now) (g.O.Sink.state c.tell_lines-in-Merge.new.sink) c.tell_lines-in-Merge.result (c.in-Merge.is ∙ ap (λ n. Merge c.in-Merge.size n c.in-Merge.seams) (sym c.from-in-Merge.ensures)) c.tell_lines-in-Merge.ensures

pub returns-in-Loop : goal.returns-in-Loop
returns-in-Loop g c = reported c.args.summary _ (g.O.Sink.state c.args.sink.now) (g.O.Sink.state c.tell_lines-in-Loop.new.sink) c.tell_lines-in-Loop.result (c.in-Loop.is ∙ ap (λ n. Loop n c.in-Loop.start c.in-Loop.cost) (sym c.from.ensures) ∙ ap (λ n. Loop c.from.result n c.in-Loop.cost) (sym c.from-in-Loop.ensures)) c.tell_lines-in-Loop.ensures

pub returns-in-Quilt : goal.returns-in-Quilt
returns-in-Quilt g c = reported c.args.summary _ (g.O.Sink.state c.args.sink.now) (g.O.Sink.state c.tell_lines-in-Quilt.new.sink) c.tell_lines-in-Quilt.result c.in-Quilt.is c.tell_lines-in-Quilt.ensures

pub returns-in-Grow : goal.returns-in-Grow
returns-in-Grow g c = reported c.args.summary _ (g.O.Sink.state c.args.sink.now) (g.O.Sink.state c.tell_lines.new.sink) c.tell_lines.result c.in-Grow.is c.tell_lines.ensures

pub returns-in-Upgrade : goal.returns-in-Upgrade
returns-in-Upgrade g c = reported c.args.summary _ (g.O.Sink.state c.args.sink.now) (g.O.Sink.state c.tell_upgrade.new.sink) c.tell_upgrade.result c.in-Upgrade.is c.tell_upgrade.ensures

pub returns-in-Stands : goal.returns-in-Stands
returns-in-Stands g c = reported c.args.summary _ (g.O.Sink.state c.args.sink.now) (g.O.Sink.state c.tell_lines-in-Stands.new.sink) c.tell_lines-in-Stands.result c.in-Stands.is c.tell_lines-in-Stands.ensures
