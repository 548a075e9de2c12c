use Rattle.std.proofs.Common.{rules, ◌*◌, drop, take}
use Rattle.cells.specs.Cells.{row_at}
use Rattle.cells.specs.Places.{plus}
use Rattle.match_error.proofs.SameBytes.{no_differences}
use Rattle.match_error.proofs.gathered.FilledRuns.is_same.Goals as goal

pub returns : goal.returns
returns c = record {
  same =
      λ same.
      no_differences (take (c.args.sample.now.k * c.args.run.now.w) (drop c.args.run.now.start c.args.self.now.bytes.items))
      (row_at c.args.sample.now (plus c.args.placement.now.from c.args.run.now.step) c.args.run.now.w) (search rules);
}
