use Rattle.std.proofs.Common.{arith}
use Rattle.std.proofs.lemmas.Grind.{common_steps}
use Rattle.std.proofs.Common.{◌+◌, ◌≤◌, inl, inr, refl, sym, subst, ◌∙◌}
use Rattle.std.proofs.lemmas.Result.{err_from_is_err_and}
use mathlib.Core.Bool.{false≢true}
use Rattle.limits.specs.declared.bounds.TheConstants.{MOST_SAMPLE_CELLS}
use Rattle.cells.specs.Cells.{count_of}
use Rattle.shelf_traits.specs.declared.fault.What.TheVariants.{Cells as CellsLimit}
use Rattle.command.specs.Stages.{PassesBound}
use Rattle.sample_files.specs.Several.{with_turns}
use Rattle.sample_files.proofs.Reading.{joined}
use Rattle.sample_files.proofs.several.join.Goals as goal

pub returns-then-not-goes_after : goal.returns-then-not-goes_after
returns-then-not-goes_after c = inr (inl ((λ goes. false≢true (sym c.if-not-goes_after.true ∙ c.goes_after.ensures.1 goes)), refl))

pub returns : goal.returns
returns c =
    let added = c.in_ok-add_part.ensures {u = tt} in
    let turns = c.args.asked.turns in
    let fits = subst (λ n. with_turns turns (n + count_of c.args.sample.now.volume) ≤ MOST_SAMPLE_CELLS) c.cells_in.ensures.count
    (subst (λ n. with_turns turns (c.cells_in.result + n) ≤ MOST_SAMPLE_CELLS) c.cells_in-2.ensures.count (c.in_ok-cells_within.ensures {u = tt})) in
    joined c.args.asked c.args.samples.now c.args.sample.now (record { form = c.args.samples.now.form; volume = c.add_part.new.self }) c.requires.so_far c.requires.next
    (c.goes_after.ensures.0 c.if-not-goes_after.false) fits refl added.ok added.parts

pub add_part-requires-clause-room : goal.add_part-requires-clause-room
add_part-requires-clause-room c = grind (arith, common_steps)

pub add_part-requires-clause-samples : goal.add_part-requires-clause-samples
add_part-requires-clause-samples c = grind (arith, common_steps)

pub cells_within-requires : goal.cells_within-requires
cells_within-requires c = grind (arith, common_steps)

pub returns-in_err-cells_within : goal.returns-in_err-cells_within
returns-in_err-cells_within c =
    let p = err_from_is_err_and c.from_residual.result c.from_residual.ensures.1 in
    rw (p.1, p.2) (inr (inr (
      c.goes_after.ensures.0 c.if-not-goes_after.false,
      subst (λ n. PassesBound CellsLimit (with_turns c.args.asked.turns n) MOST_SAMPLE_CELLS c.in_err-cells_within.field-0.0) (λ k. c.cells_in.ensures.count k + c.cells_in-2.ensures.count k) (c.in_err-cells_within.ensures {u = tt}),
    )))
