use Rattle.cells.specs.Distances.{distance}
use Rattle.cost_windows.proofs.Besides.{right_beside_choice}
use Rattle.test_examples.proofs.seam_sums.put_box.Goals as goal

pub update-requires-clause-beside : goal.update-requires-clause-beside
update-requires-clause-beside g c =
    right_beside_choice (distance c.args.sample.now) c.args.canvas.now.map c.put_choice.new.self.map c.args.placement.now c.args.all.now c.args.table.now c.put_choice.ensures.after c.requires.right
