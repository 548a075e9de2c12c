use Rattle.std.proofs.Common.{◌<◌, ap, sym, subst, ◌∙◌}
use Rattle.cells.specs.Places.{cell_count}
use Rattle.std.specs.Prelude.{Some}
use Rattle.patch_picks.specs.Counts.{made_from}
use Rattle.patch_picks.proofs.PartLists.{entry_at}
use Rattle.cells.proofs.PlaceLists.{count_over}
use Rattle.patch_picks.proofs.candidates.Candidates.entry_in.Goals as goal

pub place_in-c-requires-clause-below : goal.place_in-c-requires-clause-below
place_in-c-requires-clause-below c =
    subst (λ n. c.args.i < n) (count_over (made_from c.args.self.now c.args.output c.args.part) _ ∙ ap cell_count (sym c.steps_in.ensures.steps)) c.requires.below

pub returns-in-Laid-clause-at : goal.returns-in-Laid-clause-at
returns-in-Laid-clause-at c =
    entry_at c.args.self.now c.args.output c.args.part c.steps_in.result c.args.i c.place_in-c.result c.steps_in.ensures.steps c.requires.below c.place_in-c.ensures.place
    ∙ ap (λ s. Some (made_from s c.args.output c.args.part c.place_in-c.result)) c.in-Laid.is
    ∙ ap Some (sym c.laid.ensures.laid)

pub returns-in-Fits-clause-at : goal.returns-in-Fits-clause-at
returns-in-Fits-clause-at c =
    entry_at c.args.self.now c.args.output c.args.part c.steps_in.result c.args.i c.place_in-c.result c.steps_in.ensures.steps c.requires.below c.place_in-c.ensures.place
    ∙ ap (λ s. Some (made_from s c.args.output c.args.part c.place_in-c.result)) c.in-Fits.is
