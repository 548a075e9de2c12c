use Rattle.std.proofs.Common.{◌≡◌, ap, length, ◌∙◌, subst, option_copied}
use Rattle.cells.specs.Distances.{distance}
use Rattle.map_canvas.specs.Choices.{IsAfter, map_after}
use Rattle.costs.specs.Lawful.{held_marks}
use Rattle.graph_place.specs.Parts.{IsSolvedRecord}
use Rattle.graph_place.proofs.Placed.{placed}
use Rattle.graph_place.proofs.Solving.{solved_for}
use Rattle.least_choice.proofs.Totals.{keeps_total, least_with}
use Rattle.graph_place.proofs.placing.place_held.Goals as goal

pub solved_record-made-requires-clause-serves : goal.solved_record-made-requires-clause-serves
solved_record-made-requires-clause-serves c = λ solved is.
    solved_for c.args.sample.now c.samples-samples.ensures.volume c.args.canvas.now.map c.args.placement c.in_ok-network.places (held_marks (option_copied c.args.held))
    c.in_ok-network.network solved c.in_ok-network.ensures.network is

pub returns-clause-placed : goal.returns-clause-placed
returns-clause-placed c =
    let m = c.args.canvas.now.map in
    let after = c.put_choice.new.self.map in
    let choice = c.as_slice.ensures in
    let by : IsSolvedRecord c.in_ok-network.network m c.args.placement c.in_ok-network.places c.in_ok-record.record = c.in_ok-record.ensures {u = tt} in
    placed c.args.canvas.now c.put_choice.new.self c.args.sample.now c.args.placement (held_marks (option_copied c.args.held))
    c.in_ok-network.network c.in_ok-network.places by.solved c.in_ok-record.record
    c.requires.fits c.in_ok-network.ensures.network c.in_ok-network.ensures.cuts by.is by.gives
    (subst (λ choice. after ≡ map_after m c.args.placement choice) choice c.put_choice.ensures.map)
    (subst (λ choice. IsAfter m c.args.placement choice after) choice c.put_choice.ensures.after)
    c.put_choice.ensures.stands

pub returns-clause-least : goal.returns-clause-least
returns-clause-least c =
    least_with (distance c.args.sample.now) c.args.canvas.now.map c.args.placement (option_copied c.args.held) c.in_ok-record.record.choice (returns-clause-placed c).fewest.least

pub returns-clause-total : goal.returns-clause-total
returns-clause-total c =
    let placed = returns-clause-placed c in
    keeps_total c.args.canvas.now.map c.args.sample.now c.args.placement (held_marks (option_copied c.args.held)) c.in_ok-record.record.choice c.put_choice.new.self.map
    c.requires.fits.inside placed.fewest.least placed.each

pub put_choice-requires-clause-choices : goal.put_choice-requires-clause-choices
put_choice-requires-clause-choices c = ap length c.as_slice.ensures ∙ (c.in_ok-record.ensures {u = tt}).gives.choice_count
