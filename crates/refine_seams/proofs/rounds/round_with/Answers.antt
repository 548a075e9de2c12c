use Rattle.std.proofs.Common.{◌∙◌, [], ap, subst, sym}
use Rattle.cells.specs.declared.place.Size.{Size}
use Rattle.cells.specs.Distances.{distance}
use Rattle.cost_windows.proofs.Besides.{right_beside_choice}
use Rattle.patch_picks.specs.Modes.{window}
use Rattle.graph_place.specs.Placed.{IsPlaced}
use Rattle.grown.specs.Rounds.{IsRoundAt}
use Rattle.grown.proofs.Splitting.{stays_full}
use Rattle.refine_seams.proofs.Rounding.{each_fits, some_entry}
use Rattle.refine_seams.proofs.rounds.round_with.Goals as goal

pub pick_with-requires-clause-some : goal.pick_with-requires-clause-some
pick_with-requires-clause-some c = some_entry c.args.sample.now c.in-Some.rect c.in-Some.ensures.room

pub pick_with-requires-clause-fit : goal.pick_with-requires-clause-fit
pick_with-requires-clause-fit c = each_fits c.args.side c.args.canvas.now.map c.args.sample.now c.in-Some.rect c.in-Some.ensures.worst

pub update-requires-clause-beside : goal.update-requires-clause-beside
update-requires-clause-beside c =
    right_beside_choice (distance c.args.sample.now) c.args.canvas.now.map c.place.new.canvas.map c.in_ok-placement.placement c.in-Ok.cut.choice c.args.table.now
    c.in-Ok.ensures.placed.each c.requires.table.right

pub returns-clause-made : goal.returns-clause-made
returns-clause-made c =
    let placed = c.in-Ok.ensures.placed in
    record {
      next = subst (IsRoundAt c.args.side c.args.tol c.args.canvas.now.map c.args.sample.now c.args.draws.now) (sym placed.same_placement)
          (record { rect = c.in-Some.rect; worst = c.in-Some.ensures.worst; picked = c.in_ok-placement.ensures.picked; fits = c.in_ok-placement.ensures.fits });
      placed = subst (λ placement. IsPlaced c.args.canvas.now c.args.sample.now placement [] c.place.new.canvas c.in-Ok.cut) (sym placed.same_placement) placed;
      draws = c.in_ok-placement.ensures.next;
      table = record { output = c.update.ensures.sizes.0 ∙ c.requires.table.output ∙ sym placed.each.size; window = c.update.ensures.sizes.1 ∙ c.requires.table.window ∙ ap (λ (size : Size). window c.args.side size c.args.sample.now) (sym placed.each.size); right = c.update.ensures.right };
    }

pub returns-clause-full : goal.returns-clause-full
returns-clause-full c = stays_full c.args.canvas.now.map c.place.new.canvas.map c.in_ok-placement.placement c.in-Ok.cut.choice c.requires.full c.in-Ok.ensures.placed.each

pub returns-clause-lower : goal.returns-clause-lower
returns-clause-lower c = c.in-Ok.ensures.total c.requires.full
