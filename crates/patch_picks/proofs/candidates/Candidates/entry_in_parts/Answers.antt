use Rattle.std.proofs.Common.{◌≤◌, ◌+◌, ◌-◌, ◌<◌, length, ap, sym, subst, ◌∙◌, arith}
use Rattle.cells.specs.Places.{cell_count}
use Rattle.std.specs.Prelude.{slice_get}
use Rattle.patch_picks.specs.Counts.{entries_after, entries_in, made_from}
use Rattle.patch_picks.proofs.PartLists.{below_there, entry_here, entry_there}
use Rattle.cells.proofs.PlaceLists.{count_over}
use Rattle.patch_picks.proofs.candidates.Candidates.entry_in_parts.Goals as goal

pub entry_in-requires-clause-below : goal.entry_in-requires-clause-below
entry_in-requires-clause-below c =
    subst (λ n. c.parts.after < n) (c.place_count-count.ensures ∙ ap cell_count c.steps_in.ensures.steps ∙ sym (count_over (made_from c.args.self.now c.args.output c.part_after-part.result) _)) c.if-after-count.true

pub returns-then-after-count : goal.returns-then-after-count
returns-then-after-count c =
    c.parts.invariant.at
    ∙ entry_here c.args.self.now c.args.output c.part_after-part.result c.args.sizes.now c.parts.n c.parts.after c.entry_in.result c.in_stock.result c.part_after-part.ensures.size c.entry_in.ensures.at c.in_stock.ensures

pub parts-preserved : goal.parts-preserved
parts-preserved c =
    let count = c.place_count-count.ensures in
    let le : cell_count c.steps_in.result ≤ c.parts.after = omega (arith, count, c.if-after-count.false) in
    record {
      at =
          c.parts.invariant.at
          ∙ entry_there c.args.self.now c.args.output c.part_after-part.result c.steps_in.result c.args.sizes.now c.parts.n c.parts.after c.part_after-part.ensures.size c.steps_in.ensures.steps le
          ∙ ap (λ k. slice_get (entries_after (entries_in c.args.self.now c.args.output) c.args.sizes.now (c.parts.n + 1)) (c.parts.after - k)) (sym count);
      below =
          subst (λ k. c.parts.after - k < length (entries_after (entries_in c.args.self.now c.args.output) c.args.sizes.now (c.parts.n + 1))) (sym count)
          (below_there c.args.self.now c.args.output c.part_after-part.result c.steps_in.result c.args.sizes.now c.parts.n c.parts.after c.part_after-part.ensures.size c.steps_in.ensures.steps le c.parts.invariant.below);
    }
