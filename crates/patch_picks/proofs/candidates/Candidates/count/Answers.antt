use Rattle.std.proofs.Common.{length, ap, sym, ◌∙◌}
use Rattle.patch_picks.specs.Counts.{all_entries}
use Rattle.patch_picks.proofs.PartLists.{listed_over, over_parts}
use Rattle.patch_picks.proofs.candidates.Candidates.count.Goals as goal

pub returns-in-Laid : goal.returns-in-Laid
returns-in-Laid c =
    c.count_in_parts.ensures ∙ ap (λ sizes. length (all_entries c.args.self.now c.args.output sizes)) c.parts_of.ensures.sizes
    ∙ ap length (sym (listed_over c.args.self.now c.args.output c.args.sample.now (over_parts c.args.self.now c.in-Laid.is)))
