use Rattle.std.proofs.Common.{arith}
use Rattle.std.proofs.lemmas.Grind.{common_steps}
use Rattle.std.proofs.Common.{◌≡◌, ◌*◌, ◌∙◌, ap, length, refl}
use Rattle.cells.specs.Cells.{Cells, row_at}
use Rattle.cells.specs.Places.{plus, spot}
use Rattle.match_error.proofs.RunLists.{IsOneMore, more_error, more_runs_in}
use Rattle.match_error.proofs.gathered.FilledRuns.add_run.Goals as goal

one_more : (c : goal.In_ok-push) → IsOneMore c.args.canvas.now c.args.rect.now c.args.x c.args.y c.args.f c.args.n c.args.self.now (record { part = c.args.self.now.part; runs = c.push.new.self; bytes = c.extend_from_slice.new.self })
one_more c = record {
  run = record { step = c.step_to-step.result; w = c.args.n; start = length c.as_slice-start.result.now; offset = c.offset_in-offset.result };
  row = c.row-old.result.now;
  part = refl;
  runs = c.in_ok-push.ensures.items;
  bytes = c.in_ok-extend_from_slice.ensures.items;
  step = c.step_to-step.ensures;
  long = refl;
  start = ap length c.as_slice-start.ensures.value;
  offset = c.offset_in-offset.ensures;
  row_is = c.row-old.ensures.bytes ∙ (λ k. row_at (c.picture-picture.ensures.picture k) (plus_is k) c.args.n);
  row_long = c.row-old.ensures.len ∙ ap (λ (v : Cells). v.k * c.args.n) c.picture-picture.ensures.picture;
}
  where
    plus_is : c.plus.result ≡ plus c.args.rect.now.corner (spot c.args.x c.args.y c.args.f)
    plus_is = c.plus.ensures ∙ ap (plus c.args.rect.now.corner) c.step_to-step.ensures

pub returns-clause-runs : goal.returns-clause-runs
returns-clause-runs c =
    more_runs_in c.args.canvas.now c.args.rect.now c.args.x c.args.y c.args.f c.args.n c.args.self.now _ (one_more c) c.requires.some c.requires.row c.requires.runs

pub returns-clause-adds : goal.returns-clause-adds
returns-clause-adds c =
    more_error c.args.canvas.now c.args.rect.now c.args.x c.args.y c.args.f c.args.n c.args.self.now _ c.picture-picture.ensures.canvas (one_more c) c.requires.some c.requires.row c.requires.filled c.requires.runs

pub row-old-requires : goal.row-old-requires
row-old-requires c = grind (arith, common_steps)

pub plus-requires : goal.plus-requires
plus-requires c = grind (arith, common_steps)

pub step_to-step-requires : goal.step_to-step-requires
step_to-step-requires c = grind (arith, common_steps)

pub offset_in-offset-requires-clause-counts : goal.offset_in-offset-requires-clause-counts
offset_in-offset-requires-clause-counts c = grind (arith, common_steps)
