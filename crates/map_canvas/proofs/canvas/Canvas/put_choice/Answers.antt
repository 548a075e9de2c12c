use Rattle.std.proofs.Common.{arith}
use Rattle.std.proofs.lemmas.Grind.{common_steps}
use Rattle.std.proofs.Common.{subst, sym, ap, ◌∙◌, ◌≤◌}
use Rattle.std.specs.Prelude.{is_none}
use Rattle.std.specs.List.{position_or_len}
use Rattle.map_canvas.specs.Canvases.{CanvasState}
use Rattle.map_canvas.specs.Choices.{map_after}
use Rattle.map_canvas.proofs.Afters.{after_one}
use Rattle.map_canvas.proofs.AfterLaws.{front_stays}
use Rattle.map_canvas.proofs.canvas.Canvas.put_choice.Goals as goal

pub filled_from-self-inside-requires : goal.filled_from-self-inside-requires
filled_from-self-inside-requires c =
    subst (λ sources. c.self.inside.reached ≤ position_or_len is_none sources) (sym c.sources.ensures)
    (subst (λ reached. reached ≤ position_or_len is_none c.fill_choice.new.map.sources) (sym c.self.invariant.1)
    (front_stays c.self.inside.map c.args.placement.now c.args.choice.now c.fill_choice.new.map c.self.invariant.0.map c.fill_choice.ensures.canvas.map c.fill_choice.ensures.after))

pub returns-clause-map : goal.returns-clause-map
returns-clause-map c =
    after_one c.self.inside.map c.fill_choice.new.map c.args.placement.now c.args.choice.now c.self.invariant.0.map c.fill_choice.ensures.canvas.map c.fill_choice.ensures.after
    ∙ ap (λ (s : CanvasState). map_after s.map c.args.placement.now c.args.choice.now) c.self.view_is

pub fill_choice-requires-clause-fits : goal.fill_choice-requires-clause-fits
fill_choice-requires-clause-fits c = grind (arith, common_steps)

pub invariant_of-self : goal.invariant_of-self
invariant_of-self c = (
  c.fill_choice.ensures.canvas,
  c.filled_from-self-inside.ensures ∙ ap (position_or_len is_none) c.sources.ensures,
  c.fill_choice.ensures.marks,
)
