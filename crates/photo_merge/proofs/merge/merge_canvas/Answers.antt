use Rattle.std.proofs.Common.{[], ◌∷◌, sym, ◌∙◌, subst, length, ap, arith}
use Rattle.map_canvas.specs.Maps.{IsFull, IsOver}
use Rattle.photo_merge.proofs.Leading.{first_full, lead_size, one_more}
use Rattle.photo_merge.proofs.Stepping.{first_over}
use Rattle.photo_merge.proofs.merge.merge_canvas.Goals as goal

pub of_map-requires : goal.of_map-requires
of_map-requires c = subst (λ m. IsOver m c.args.pictures.now) (sym (c.in_ok-map.ensures {u = tt})) (first_over c.args.pictures.now c.samples-samples.ensures.volume c.requires)

pub loop-number-init : goal.loop-number-init
loop-number-init c =
    let made = c.in_ok-canvas.ensures {u = tt} in
    let map = made.map ∙ c.in_ok-map.ensures {u = tt} in
    record {
      led = ([], omega arith, map);
      full = subst IsFull (sym map) (first_full c.args.pictures.now);
      stands = made.stands;
      canvas = made.canvas;
    }

pub merge_step-requires-clause-size : goal.merge_step-requires-clause-size
merge_step-requires-clause-size c =
    lead_size c.args.pictures.now c.args.marks.now c.loop-number.invariant.led.0 c.loop-number.canvas.map c.loop-number.invariant.led.2

pub loop-number-preserved : goal.loop-number-preserved
loop-number-preserved c =
    let led = c.loop-number.invariant.led in
    let next = c.in_ok-canvas-2.ensures {u = tt} in
    let before = c.loop-number.canvas.map in
    record {
      led = (before ∷ led.0, omega (arith, led.1), one_more c.args.pictures.now c.args.marks.now c.loop-number.number led.0 before _ led.1 led.2 next.next);
      full = next.full;
      stands = next.stands;
      canvas = next.canvas;
    }

pub returns-clause-merge : goal.returns-clause-merge
returns-clause-merge c =
    let led = c.loop-number.invariant.led in
    record {
      maps = led.0;
      count = omega (arith, led.1, c.loop-number-test.false, c.loop-number.auto.number-end, c.len-number-end.ensures.len, ap length c.sizes.ensures);
      lead = led.2;
    }

pub merge_step-requires-clause-to : goal.merge_step-requires-clause-to
merge_step-requires-clause-to c = omega (arith, c.loop-number-test.true, c.len-number-end.ensures.len, ap length c.sizes.ensures)
