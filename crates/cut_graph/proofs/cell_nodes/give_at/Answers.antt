use Rattle.std.proofs.Common.{◌≡◌, false, refl, sym, ap, ◌∙◌, subst, arith, inl, inr, ⊎_elim}
use Rattle.std.specs.Prelude.{option_copied, slice_index_or}
use mathlib.Core.Bool.{false≢true}
use Rattle.cells.specs.Boxes.{IsInBox}
use Rattle.boxes.proofs.Indices.{index_below}
use Rattle.costs.proofs.Near.{in_largest}
use Rattle.costs.specs.Lawful.{StaysOld, is_held, held_marks}
use Rattle.cut_graph.specs.Building.{IsNodeOf, IsStanding, Old, Unfilled, Free}
use Rattle.cut_graph.proofs.Numbered.{gives_end, gives_own, held_by_index, in_box, more_cells, stands_unfilled}
use Rattle.cut_graph.proofs.cell_nodes.give_at.Goals as goal
use Rattle.cut_graph.proofs.cell_nodes.give_at.Goals.{then-is_marked, else-is_marked}

pub cell-p-requires-clause-inside : goal.cell-p-requires-clause-inside
cell-p-requires-clause-inside c =
    let m = c.args.canvas.now.map in
    let rect = c.args.placement.now.rect in
    in_largest m.size rect.corner rect.size c.map.ensures.canvas.map.small c.requires.inside

pub returns-then-not-is_filled-clause-cells : goal.returns-then-not-is_filled-clause-cells
returns-then-not-is_filled-clause-cells c =
    let m = c.args.canvas.now.map in
    let placement = c.args.placement.now in
    let at = c.args.at in
    let marks = held_marks (option_copied c.args.held) in
    let is = subst (λ p. IsStanding m placement marks p Unfilled) c.cell-p.ensures (stands_unfilled m c.cell-p.result c.is_filled.result c.is_filled.ensures c.if-not-is_filled.true) in
    let gives = gives_end (IsNodeOf Unfilled) 2 1 c.args.cells.now c.give.new.self c.requires.cells.numbering (omega arith) refl c.give.ensures in
    more_cells m placement marks at.x at.y at.f c.args.i Unfilled c.args.cells.now c.give.new.self c.requires.counts c.requires.index is c.requires.cells gives

pub returns-then-is_kept_at-clause-cells : goal.returns-then-is_kept_at-clause-cells
returns-then-is_kept_at-clause-cells c =
    let m = c.args.canvas.now.map in
    let placement = c.args.placement.now in
    let at = c.args.at in
    let marks = held_marks (option_copied c.args.held) in
    let now = c.give-then-is_kept_at.new.self in
    let held : is_held placement marks c.cell-p.result ≡ c.is_marked.result =
    ap (is_held placement marks) c.cell-p.ensures ∙ held_by_index placement marks at.x at.y at.f c.requires.counts
    ∙ ap (λ i. slice_index_or marks i false) c.requires.index ∙ sym c.is_marked.ensures in
    let stays : StaysOld m placement marks c.cell-p.result = elim c.if-is_marked.branch [ then-is_marked w ↦ inr (held ∙ w.if-is_marked.true) | else-is_marked w ↦ inl (w.is_kept_at.ensures.0 (sym w.value-is ∙ c.if-is_kept_at.true)) ] in
    let is = subst (λ p. IsStanding m placement marks p Old) c.cell-p.ensures (c.is_filled.ensures.0 c.if-not-is_filled.false, stays) in
    let gives = gives_end (IsNodeOf Old) 2 0 c.args.cells.now now c.requires.cells.numbering (omega arith) refl c.give-then-is_kept_at.ensures in
    more_cells m placement marks at.x at.y at.f c.args.i Old c.args.cells.now now c.requires.counts c.requires.index is c.requires.cells gives

pub returns-else-is_kept_at-clause-cells : goal.returns-else-is_kept_at-clause-cells
returns-else-is_kept_at-clause-cells c =
    let m = c.args.canvas.now.map in
    let placement = c.args.placement.now in
    let at = c.args.at in
    let marks = held_marks (option_copied c.args.held) in
    let held : is_held placement marks c.cell-p.result ≡ c.is_marked.result =
    ap (is_held placement marks) c.cell-p.ensures ∙ held_by_index placement marks at.x at.y at.f c.requires.counts
    ∙ ap (λ i. slice_index_or marks i false) c.requires.index ∙ sym c.is_marked.ensures in
    let loose : StaysOld m placement marks c.cell-p.result → ⊥ = elim c.if-is_marked.branch [ then-is_marked w ↦ (λ stays. false≢true (sym c.if-is_kept_at.false ∙ w.value-is ∙ w.if-is_marked.true)) | else-is_marked w ↦ (λ stays. ⊎_elim (λ kept. false≢true (sym c.if-is_kept_at.false ∙ w.value-is ∙ w.is_kept_at.ensures.1 kept)) (λ marked. false≢true (sym w.if-is_marked.false ∙ sym held ∙ marked)) stays) ] in
    let is = subst (λ p. IsStanding m placement marks p Free) c.cell-p.ensures (record {
      inside = subst (IsInBox placement.rect) (sym c.cell-p.ensures) (in_box placement.rect at.x at.y at.f c.requires.counts);
      filled = c.is_filled.ensures.0 c.if-not-is_filled.false;
      free = loose;
    }) in
    let gives = gives_own (IsNodeOf Free) 2 c.args.cells.now c.give_own.new.self c.requires.cells.numbering (omega arith) c.requires.cells.numbering.order c.give_own.ensures in
    more_cells m placement marks at.x at.y at.f c.args.i Free c.args.cells.now c.give_own.new.self c.requires.counts c.requires.index is c.requires.cells gives

pub give-requires : goal.give-requires
give-requires c =
    let at = c.args.at in
    let nodes = c.args.cells.now.nodes in
    record { room = omega (arith, nodes.ok, c.requires.cells.count, c.requires.room, c.requires.index, index_below c.args.placement.now.rect.size at.x at.y at.f c.requires.counts) }

pub give-requires-then-is_kept_at : goal.give-requires-then-is_kept_at
give-requires-then-is_kept_at c =
    let at = c.args.at in
    let nodes = c.args.cells.now.nodes in
    record { room = omega (arith, nodes.ok, c.requires.cells.count, c.requires.room, c.requires.index, index_below c.args.placement.now.rect.size at.x at.y at.f c.requires.counts) }

pub give_own-requires-clause-room : goal.give_own-requires-clause-room
give_own-requires-clause-room c =
    let at = c.args.at in
    let nodes = c.args.cells.now.nodes in
    omega (arith, nodes.ok, c.requires.cells.count, c.requires.room, c.requires.index, index_below c.args.placement.now.rect.size at.x at.y at.f c.requires.counts)
