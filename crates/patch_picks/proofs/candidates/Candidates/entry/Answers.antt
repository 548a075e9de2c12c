use Rattle.std.proofs.Common.{◌<◌, length, ap, subst, sym, ◌∙◌}
use Rattle.std.specs.Prelude.{slice_get}
use Rattle.patch_picks.specs.Counts.{all_entries}
use Rattle.patch_picks.proofs.PartLists.{listed_in_parts}
use Rattle.patch_picks.proofs.candidates.Candidates.entry.Goals as goal

pub returns-in-Laid : goal.returns-in-Laid
returns-in-Laid c =
    ap (λ entries. slice_get entries c.args.i) (listed_in_parts c.args.self.now c.args.output c.args.sample.now c.in-Laid.is ∙ ap (all_entries c.args.self.now c.args.output) (sym c.parts_of.ensures.sizes)) ∙ c.entry_in_parts.ensures

pub entry_in_parts-requires-clause-below : goal.entry_in_parts-requires-clause-below
entry_in_parts-requires-clause-below c =
    subst (λ n. c.args.i < n) (ap length (listed_in_parts c.args.self.now c.args.output c.args.sample.now c.in-Laid.is ∙ ap (all_entries c.args.self.now c.args.output) (sym c.parts_of.ensures.sizes))) c.requires.below
