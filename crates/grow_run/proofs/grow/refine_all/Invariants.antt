use Rattle.std.specs.Prelude.{◌≡◌, ◌+◌, ◌-◌, false, if◌then◌else◌}
use Rattle.grown.specs.Rounds.{NoWindowCosts}
use Rattle.grow_run.specs.Work.{IsRefining}
use Rattle.grow_run.proofs.grow.refine_all.Given as goal

abbrev pub invariant-refining : goal.invariant-refining
invariant-refining l = record {
  refining : IsRefining l.plan l.sample l.work l.table;
  calm : l.more ≡ false → NoWindowCosts l.plan.side l.work.canvas.map l.sample;
}

abbrev pub decreases-refining : goal.decreases-refining
decreases-refining l = if l.more then l.plan.rounds - l.work.rounds + 1 else 0
