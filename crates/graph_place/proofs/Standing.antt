-- The record of a solved network stands.
use Rattle.std.proofs.Common.{◌≡◌, ℕ, ◌<◌, ap, sym, ◌∙◌, subst, arith, Bool, false, List, ⊎_elim}
use Rattle.std.specs.Prelude.{pos, is_some, slice_index_or}
use Rattle.cells.specs.declared.place.At.{At}
use Rattle.cells.specs.Boxes.{IsInBox}
use Rattle.cells.specs.Cells.{Cells}
use Rattle.cells.specs.Distances.{distance}
use Rattle.cells.specs.Places.{cell_count}
use Rattle.cells.proofs.Raster.{place_at}
use Rattle.map_canvas.specs.declared.canvas.Placement.{Placement}
use Rattle.map_canvas.specs.Maps.{SourceMap}
use Rattle.map_canvas.specs.Choices.{Fits, box_cell}
use Rattle.map_canvas.proofs.ChoiceLaws.{box_index_of}
use Rattle.costs.specs.Lawful.{is_new, window_after}
use Rattle.boxes.proofs.Indices.{index_below}
use Rattle.max_flow.specs.declared.solver.Solved.{Solved}
use Rattle.max_flow.specs.Networks.{FlowNetwork}
use Rattle.max_flow.specs.Solutions.{IsSolution}
use Rattle.cut_graph.specs.declared.places.Places.{Places}
use Rattle.cut_graph.specs.Cuts.{Agree, ChoicesAreCuts, IsNetworkOf, IsLawfulHeld}
use Rattle.cut_check.specs.declared.record.CutRecord.{CutRecord}
use Rattle.cut_check.specs.Records.{CutStands}
use Rattle.graph_place.specs.Records.{IsRecordOf}
use Rattle.graph_place.proofs.Nodes.{counts_of, is_new_at, is_new_of}
use Rattle.graph_place.proofs.Balance.{all_bounded, free_balances, source_leaves, source_part, source_parts}

module _ (d : At → At → ℕ) (m : SourceMap) (placement : Placement) (held : List Bool) (network : FlowNetwork) (places : Places)
    (choices : ChoicesAreCuts d m placement held network places) (solved : Solved) (is : IsSolution network solved.flow solved.source_side solved.value)
    (cut : CutRecord) (rec : IsRecordOf m placement places solved cut) where
  pub own_agree : Agree placement places solved.source_side cut.choice
  own_agree x y f at = is_new_at placement cut.choice x y f at ∙ rec.choice _ (index_below placement.rect.size x y f at)

  pub own_open : IsLawfulHeld m placement held cut.choice
  own_open = (choices.choices solved.source_side cut.choice is.cut own_agree).0

  -- the value of the flow is the window sum after the choice
  pub own_value : solved.value ≡ window_after d m placement cut.choice
  own_value =
      let own = choices.cuts cut.choice own_open in
      omega (arith, is.capacity, own.capacity, is.least.least own.sides own.cut, (choices.choices solved.source_side cut.choice is.cut own_agree).1)

module _ (m : SourceMap) (sample : Cells) (placement : Placement) (held : List Bool) (network : FlowNetwork) (places : Places)
    (net : IsNetworkOf (distance sample) m placement held network places) (choices : ChoicesAreCuts (distance sample) m placement held network places)
    (solved : Solved) (is : IsSolution network solved.flow solved.source_side solved.value)
    (cut : CutRecord) (rec : IsRecordOf m placement places solved cut) (fits : Fits m.size sample placement) where
  abbrev opened : IsLawfulHeld m placement held cut.choice
  opened = own_open (distance sample) m placement held network places choices solved is cut rec

  in_box : (i : ℕ) → i < cell_count placement.rect.size → IsInBox placement.rect (box_cell placement i)
  in_box i lt = ap is_some (box_index_of placement i (place_at placement.rect.size i fits.some.w fits.some.h lt))

  chosen_at : (i : ℕ) → i < cell_count placement.rect.size → is_new placement cut.choice (box_cell placement i) ≡ slice_index_or cut.choice i false
  chosen_at i lt = is_new_of placement cut.choice i fits.some lt

  stands_at : CutStands (record { map = m; sample = sample; held = held }) (record { placement = placement; choice = cut.choice; flows = cut.flows })
  stands_at = record {
    lawful = record {
      fits = fits;
      unfilled = λ i lt none. sym (chosen_at i lt) ∙ opened.lawful.unfilled (box_cell placement i) (in_box i lt) none;
      old = λ i lt old. sym (chosen_at i lt) ∙ ⊎_elim (λ kept. opened.lawful.kept (box_cell placement i) kept) (λ marked. opened.held_old (box_cell placement i) marked) old;
    };
    bounded = λ number lt axis x y f at next e. all_bounded (distance sample) m placement held network places net solved.flow is.flow cut.flows rec.flows axis x y f (record { counts = at; next = next });
    balanced = λ i lt free.
        free_balances (distance sample) m placement held network places net solved.flow is.flow cut.flows rec.flows _ _ _ (record { counts = counts_of placement.rect.size i fits.some lt; free = free });
    value = record {
      part = source_part (distance sample) m placement held network places net solved.flow is.flow cut.flows rec.flows;
      parts = source_parts (distance sample) m placement held network places net solved.flow is.flow cut.flows rec.flows;
      sum = source_leaves (distance sample) m placement held network places net solved.flow is.flow cut.flows rec.flows
          ∙ is.value ∙ ap pos (own_value (distance sample) m placement held network places choices solved is cut rec);
    };
  }

  pub record_stands : CutStands (record { map = m; sample = sample; held = held }) cut
  record_stands = subst (λ p. CutStands (record { map = m; sample = sample; held = held }) (record { placement = p; choice = cut.choice; flows = cut.flows })) (sym rec.same_placement) stands_at
