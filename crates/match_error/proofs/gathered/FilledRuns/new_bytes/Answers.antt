use Rattle.std.proofs.Common.{◌∙◌, ap, sym, subst, arith}
use Rattle.std.specs.Prelude.{IfSome}
use Rattle.cells.specs.Cells.{HasRun, run_from}
use Rattle.cells.specs.Places.{SumFits, plus, spot}
use Rattle.cells.proofs.PartBoxes.{inside_sum_fits}
use Rattle.match_error.specs.Runs.{IsFrontIndex}
use Rattle.match_error.proofs.Offsets.{few_cells, run_fits, run_index}
use Rattle.match_error.proofs.RunLists.{run_held}
use Rattle.match_error.proofs.gathered.FilledRuns.new_bytes.Goals as goal

pub plus-requires : goal.plus-requires
plus-requires c =
    let run = c.requires.run in
    let from = c.args.placement.now.from in
    let at = run_held c.args.sample.now from c.args.placement.now.rect.size run.x c.args.run.now.w run.y run.f c.requires.sources run.some run.row.columns_in run.row.row_in run.row.frame_in in
    subst (SumFits from) (sym run.step) (inside_sum_fits c.args.sample.now c.requires.volume from (spot run.x run.y run.f) at.first)

pub row-requires : goal.row-requires
row-requires c =
    let run = c.requires.run in
    let from = c.args.placement.now.from in
    let at = run_held c.args.sample.now from c.args.placement.now.rect.size run.x c.args.run.now.w run.y run.f c.requires.sources run.some run.row.columns_in run.row.row_in run.row.frame_in in
    subst (λ p. HasRun c.args.sample.now p c.args.run.now.w) (sym (λ k. (c.plus.ensures ∙ (λ j. plus from (run.step j))) k)) at

pub cells_from-requires : goal.cells_from-requires
cells_from-requires c =
    run_fits c.args.sample.now c.requires.volume c.args.placement.now.rect c.args.placement.now.from c.args.self.now.part _ c.args.run.now c.requires.run c.requires.some c.requires.sources c.in-Some.i
    (subst (λ found. IfSome found (IsFrontIndex c.args.self.now.part c.args.sample.now c.args.placement.now.from)) c.in-Some.is c.requires.front)

pub returns-in-Some-clause-bytes : goal.returns-in-Some-clause-bytes
returns-in-Some-clause-bytes c =
    c.cells_from.ensures.bytes
    ∙ ap (run_from c.args.sample.now.cells c.args.run.now.w)
    (sym (run_index c.args.sample.now c.requires.volume c.args.placement.now.rect c.args.placement.now.from c.args.self.now.part _ c.args.run.now c.requires.run c.requires.some c.requires.sources c.in-Some.i
    (subst (λ found. IfSome found (IsFrontIndex c.args.self.now.part c.args.sample.now c.args.placement.now.from)) c.in-Some.is c.requires.front)))

pub overflow_add-i : goal.overflow_add-i
overflow_add-i c =
    let fits = run_fits c.args.sample.now c.requires.volume c.args.placement.now.rect c.args.placement.now.from c.args.self.now.part _ c.args.run.now c.requires.run c.requires.some c.requires.sources c.in-Some.i
    (subst (λ found. IfSome found (IsFrontIndex c.args.self.now.part c.args.sample.now c.args.placement.now.from)) c.in-Some.is c.requires.front) in
    omega (arith, fits, few_cells c.args.sample.now c.requires.volume)
