use Rattle.std.proofs.lemmas.Grind.{common_steps}
use Rattle.std.proofs.Common.{◌<◌, length, sym, ap, ◌∙◌, arith}
use Rattle.std.specs.Prelude.{Some, None}
use Rattle.shelf_traits.specs.Decimals.{capped}
use Rattle.netpbm_p6.specs.declared.scan.Scan.TheVariants.{Whole}
use Rattle.netpbm_p6.proofs.Runs.{run_more, still_open}
use Rattle.netpbm_p6.proofs.scan.scan_piece.Goals as goal

pub returns-in-None-clause-scanned : goal.returns-in-None-clause-scanned
returns-in-None-clause-scanned c =
    let inside : c.loop-i.i < length c.args.piece.now = omega arith in
    record {
      inside = inside;
      before = (c.loop-i.scan, c.loop-i.invariant.run, c.loop-i.invariant.is_open);
      here = run_more capped c.args.start c.loop-i.scan None c.args.piece.now c.loop-i.i inside c.loop-i.invariant.run (sym c.in-None.ensures.step);
    }

pub returns-in-Whole-clause-scanned : goal.returns-in-Whole-clause-scanned
returns-in-Whole-clause-scanned c =
    let inside : c.loop-i.i < length c.args.piece.now = omega arith in
    record {
      inside = omega arith;
      run = run_more capped c.args.start c.loop-i.scan (Some (Whole c.in-Whole.width c.in-Whole.height c.in-Whole.maxval)) c.args.piece.now c.loop-i.i inside c.loop-i.invariant.run
          (sym c.in-Some.ensures.step ∙ ap Some c.in-Whole.is);
    }

pub loop-i-preserved : goal.loop-i-preserved
loop-i-preserved c =
    let inside : c.loop-i.i < length c.args.piece.now = omega arith in
    record {
      run = run_more capped c.args.start c.loop-i.scan (Some c.in-Some.next) c.args.piece.now c.loop-i.i inside c.loop-i.invariant.run (sym c.in-Some.ensures.step);
      is_open = still_open c.in-Some.next c.in-Some.ensures.sound c.in_default.not-Whole;
    }

pub returns-in-Whole-clause-sound : goal.returns-in-Whole-clause-sound
returns-in-Whole-clause-sound c = grind (arith, common_steps)

pub returns-clause-scanned : goal.returns-clause-scanned
returns-clause-scanned c = grind (arith, common_steps)
