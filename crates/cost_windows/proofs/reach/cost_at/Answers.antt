use Rattle.std.proofs.Common.{◌+◌, sym, ◌∙◌, arith}
use Rattle.std.proofs.lemmas.Grind.{common_steps}
use Rattle.std.proofs.lemmas.List.{get_or_default}
use Rattle.std.specs.Prelude.{None}
use Rattle.cells.specs.Distances.{distance}
use Rattle.costs.specs.Costs.{seam_of}
use Rattle.cost_windows.proofs.Fills.{no_seam}
use Rattle.cost_windows.proofs.reach.cost_at.Goals as goal

pub returns-then-is_followed-clause-cost : goal.returns-then-is_followed-clause-cost
returns-then-is_followed-clause-cost c =
    let v = c.args.sample.now in
    let entries = c.args.entries.now in
    let a = c.index-entries-i.result in
    let b = c.index-entries-i-2.result in
    let one = c.index-entries-i.is ∙ get_or_default entries c.args.i a None (omega (arith, c.requires.inside)) in
    let other = c.index-entries-i-2.is ∙ get_or_default entries (c.args.i + c.args.step) b None c.requires.inside in
    sym (no_seam v c.args.axis a b (c.is_followed.ensures.0 c.if-is_followed.true).1) ∙ (λ k. seam_of (distance v) c.args.axis (one k) (other k))

pub seam_of-requires-clause-a : goal.seam_of-requires-clause-a
seam_of-requires-clause-a c = grind (arith, common_steps)

pub seam_of-requires-clause-b : goal.seam_of-requires-clause-b
seam_of-requires-clause-b c = grind (arith, common_steps)
