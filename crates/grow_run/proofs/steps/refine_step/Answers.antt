use Rattle.std.proofs.lemmas.Grind.{common_steps}
use Rattle.std.proofs.Common.{◌≡◌, ◌+◌, ◌∙◌, ap, refl, sym, arith}
use Rattle.std.specs.Prelude.{None}
use Rattle.map_canvas.specs.Maps.{first_unfilled}
use Rattle.map_canvas.proofs.Filling.{fits_small}
use Rattle.map_canvas.proofs.Unfilled.{full_is_whole}
use Rattle.refine_seams.specs.Rounds.{IsRound}
use Rattle.grown.specs.Grown.{ComesNext, draws_left, rounds_made}
use Rattle.grow_run.specs.Work.{growth_of}
use Rattle.grown.proofs.Stepping.{next_refined}
use Rattle.grow_run.proofs.Stepping.{one_more, passes}
use Rattle.grow_run.proofs.steps.refine_step.Goals as goal
use Rattle.grow_run.proofs.steps.refine_step.Goals.{In-Some}

made : (c : In-Some) → IsRound c.args.plan.now.side c.args.plan.now.tol c.args.sample.now (record { canvas = c.args.work.now.canvas; draws = c.args.work.now.draws; table = c.args.table.now }) c.in-Some.cut
    (record { canvas = c.round_with.new.canvas; draws = c.round_with.new.draws; table = c.round_with.new.table })
made c = rw c.in-Some.is at c.in_ok-cut.ensures.made

none : (c : In-Some) → first_unfilled c.args.work.now.canvas.map ≡ None
none c = full_is_whole c.args.work.now.canvas.map c.requires.work.so_far.canvas.map c.requires.work.full

next : (c : In-Some) → ComesNext c.args.plan.now c.args.sample.now (growth_of c.args.work.now) c.in-Some.cut.placement
next c = next_refined c.args.plan.now c.args.sample.now (growth_of c.args.work.now) c.in-Some.cut.placement (none c) c.requires.left (made c).next

pub cells-requires : goal.cells-requires
cells-requires c = fits_small c.args.work.now.canvas.map.size c.args.sample.now c.in-Some.cut.placement (made (goal.at.cells-requires c).In-Some).next.fits c.requires.work.so_far.canvas.map.small

pub returns-then-cells-gt-MOST_BOX_CELLS : goal.returns-then-cells-gt-MOST_BOX_CELLS
returns-then-cells-gt-MOST_BOX_CELLS c =
    passes c.args.plan.now c.args.sample.now c.args.work.now c.in-Some.cut.placement _ c.requires.work.so_far (next (goal.at.returns-then-cells-gt-MOST_BOX_CELLS c).In-Some)
    (ap (λ n. c.args.work.now.cells + n) c.cells.ensures) c.if-cells-gt-MOST_BOX_CELLS.true

pub returns : goal.returns
returns c =
    let this = (goal.at.returns c).In-Some in
    let is = made this in (
      record {
        so_far = one_more c.args.plan.now c.args.sample.now c.args.work.now _ c.in-Some.cut.placement c.in-Some.cut c.requires.work.so_far (next this) is.next.fits.some
            (is.draws ∙ ap (draws_left c.args.plan.now c.args.work.now.draws) (sym (none this)))
            (ap (rounds_made c.args.work.now.rounds) (sym (none this)))
            is.placed c.in_ok-cut.ensures.canvas c.in-Ok.ensures.items (ap (λ n. c.args.work.now.cells + n) c.cells.ensures) c.if-cells-gt-MOST_BOX_CELLS.false (omega (arith, c.requires.left));
        full = c.in_ok-cut.ensures.full;
        right = is.table;
      },
      refl,
    )

pub returns-in_default : goal.returns-in_default
returns-in_default c = grind (arith, common_steps)

pub overflow_add-work : goal.overflow_add-work
overflow_add-work c = omega (arith, c.requires.left, c.fits-plan)

pub overflow_add-cells : goal.overflow_add-cells
overflow_add-cells c =
    let small = fits_small c.args.work.now.canvas.map.size c.args.sample.now c.in-Some.cut.placement (made (goal.at.overflow_add-cells c).In-Some).next.fits c.requires.work.so_far.canvas.map.small in
    omega (arith, c.requires.work.so_far.within, c.cells.ensures, small.cells)
