use Rattle.std.proofs.Common.{◌∙◌, sym, ap, inl, inr, ⊎_elim}
use mathlib.Core.Bool.{false≢true}
use Rattle.map_canvas.specs.Choices.{chosen}
use Rattle.costs.proofs.MarkLaws.{cell_at}
use Rattle.cut_check.proofs.Cells.{counts_in, index_at}
use Rattle.cut_check.proofs.rules.stays_old.Goals as goal

pub is_kept_at-requires-clause-cell : goal.is_kept_at-requires-clause-cell
is_kept_at-requires-clause-cell c =
    let at = c.args.at in
    c.requires.cell ∙ cell_at c.args.placement.now c.args.i at.x at.y at.f c.requires.here

pub returns-then-is_marked : goal.returns-then-is_marked
returns-then-is_marked c =
    let index = index_at c.args.canvas.now.map c.args.placement.now c.args.p c.args.i c.requires.lies c.requires.below c.requires.cell in
    (λ _. inr (ap (chosen c.args.held.now) index ∙ sym c.is_marked.ensures ∙ c.if-is_marked.true), λ _. c.if-is_marked.true)

pub returns-else-is_marked : goal.returns-else-is_marked
returns-else-is_marked c =
    let index = index_at c.args.canvas.now.map c.args.placement.now c.args.p c.args.i c.requires.lies c.requires.below c.requires.cell in (
      λ kept. inl (c.is_kept_at.ensures.0 kept),
      λ old.
          ⊎_elim c.is_kept_at.ensures.1
          (λ held. absurd (false≢true (sym c.if-is_marked.false ∙ c.is_marked.ensures ∙ sym (ap (chosen c.args.held.now) index) ∙ held))) old,
    )

pub is_kept_at-requires-clause-counts : goal.is_kept_at-requires-clause-counts
is_kept_at-requires-clause-counts c = counts_in c.args.placement.now c.args.i c.args.at c.requires.here c.requires.below
