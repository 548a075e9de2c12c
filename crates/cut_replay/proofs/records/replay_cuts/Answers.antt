use Rattle.cut_replay.proofs.Replaying.{answer_broken, answer_keeps, answer_least}
use Rattle.cut_replay.proofs.records.replay_cuts.Goals as goal

pub returns-clause-broken : goal.returns-clause-broken
returns-clause-broken c = answer_broken c.args.sample.now c.args.canvas.now.map c.args.cuts.now c.replay_each.new.canvas.map c.replay_each.result c.replay_each.ensures.replayed

pub returns-clause-least : goal.returns-clause-least
returns-clause-least c = answer_least c.args.sample.now c.args.canvas.now.map c.args.cuts.now c.replay_each.new.canvas.map c.replay_each.result c.replay_each.ensures.replayed

pub returns-clause-keep : goal.returns-clause-keep
returns-clause-keep c = answer_keeps c.args.sample.now c.args.canvas.now.map c.args.cuts.now c.replay_each.new.canvas.map c.samples-samples.ensures.volume c.map-map.ensures.canvas.map c.replay_each.result c.replay_each.ensures.replayed
