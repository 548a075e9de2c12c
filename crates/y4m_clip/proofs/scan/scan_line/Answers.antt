use Rattle.std.proofs.lemmas.Grind.{common_steps}
use Rattle.std.proofs.Common.{◌≡◌, ◌<◌, ◌+◌, ◌-◌, length, take, sym, ap, ◌∙◌, arith}
use Rattle.std.specs.Prelude.{Some, None}
use Rattle.y4m_clip.specs.declared.scan.LineScan.TheVariants.{Magic, Whole}
use Rattle.y4m_clip.specs.Scanning.{line_run}
use Rattle.y4m_clip.proofs.Runs.{run_more}
use Rattle.y4m_clip.proofs.scan.scan_line.Goals as goal

pub returns-in-None-clause-scanned : goal.returns-in-None-clause-scanned
returns-in-None-clause-scanned c =
    let inside : c.loop-i.i < length c.args.text.now = omega arith in
    record {
      inside = inside;
      before = (c.loop-i.scan, c.loop-i.invariant.run, c.loop-i.invariant.is_open);
      here = run_more Magic c.loop-i.scan None c.args.text.now c.loop-i.i inside c.loop-i.invariant.run (sym c.in-None.ensures);
    }

pub returns-in-Whole-clause-scanned : goal.returns-in-Whole-clause-scanned
returns-in-Whole-clause-scanned c =
    let inside : c.loop-i.i < length c.args.text.now = omega arith in
    let one : c.loop-i.i + 1 - 1 ≡ c.loop-i.i = omega arith in
    record {
      some = omega arith;
      inside = omega arith;
      before = (c.loop-i.scan, ap (λ n. line_run Magic (take n c.args.text.now)) one ∙ c.loop-i.invariant.run, c.loop-i.invariant.is_open);
      run = run_more Magic c.loop-i.scan (Some Whole) c.args.text.now c.loop-i.i inside c.loop-i.invariant.run (sym c.in-Some.ensures ∙ ap Some c.in-Whole.is);
    }

pub loop-i-preserved : goal.loop-i-preserved
loop-i-preserved c =
    let inside : c.loop-i.i < length c.args.text.now = omega arith in
    record {
      run = run_more Magic c.loop-i.scan (Some c.in-Some.next) c.args.text.now c.loop-i.i inside c.loop-i.invariant.run (sym c.in-Some.ensures);
      is_open = c.in_default.not-Whole;
    }

pub returns-clause-scanned : goal.returns-clause-scanned
returns-clause-scanned c = grind (arith, common_steps)
