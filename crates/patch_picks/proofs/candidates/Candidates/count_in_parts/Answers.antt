use Rattle.std.proofs.Common.{◌≡◌, ◌≤◌, ◌+◌, length, arith, ap, ◌∙◌}
use Rattle.patch_picks.specs.Counts.{entries_after, entries_in}
use Rattle.patch_picks.proofs.PartLists.{count_step, entries_few, none_after}
use Rattle.patch_picks.proofs.candidates.Candidates.count_in_parts.Goals as goal

pub overflow_add-count : goal.overflow_add-count
overflow_add-count c =
    let step = count_step c.args.self.now c.args.output c.args.sizes.now c.parts.n c.parts.count c.part_after-part.result c.steps_in.result c.part_after-part.ensures.size c.steps_in.ensures.steps c.parts.invariant in
    let few = entries_few c.args.self.now c.args.output c.args.sizes.now c.requires.parts in
    let small : c.parts.count + c.place_count-count.result ≤ 268435456 = omega (arith, step, few, c.place_count-count.ensures) in
    omega arith

pub parts-preserved : goal.parts-preserved
parts-preserved c =
    let step = count_step c.args.self.now c.args.output c.args.sizes.now c.parts.n c.parts.count c.part_after-part.result c.steps_in.result c.part_after-part.ensures.size c.steps_in.ensures.steps c.parts.invariant in
    ap (λ n. c.parts.count + n + length (entries_after (entries_in c.args.self.now c.args.output) c.args.sizes.now (c.parts.n + 1))) c.place_count-count.ensures ∙ step

pub returns : goal.returns
returns c =
    let end : c.parts.n ≡ length c.args.sizes.now = omega arith in
    omega (arith, c.parts.invariant, ap length (none_after (entries_in c.args.self.now c.args.output) c.args.sizes.now c.parts.n end))
