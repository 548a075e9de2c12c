use Rattle.std.proofs.lemmas.Grind.{common_steps}
use Rattle.std.proofs.Common.{◌≡◌, ℕ, ◌+◌, length, ap, subst, sym, ◌∙◌, arith}
use Rattle.std.specs.Prelude.{All}
use Rattle.std.specs.List.{sum_by}
use Rattle.cells.specs.declared.place.At.{At}
use Rattle.cells.specs.Cells.{Cells}
use Rattle.boxes.specs.Sums.{sum_to}
use Rattle.boxes.proofs.Additions.{counts}
use Rattle.boxes.proofs.Axes.{sum_more}
use Rattle.map_canvas.specs.Choices.{laid_from}
use Rattle.match_error.specs.Errors.{frame_error}
use Rattle.match_error.specs.Runs.{IsRunIn, run_error}
use Rattle.match_error.proofs.gathered.FilledRuns.gather.Goals as goal

pub loop-f-preserved : goal.loop-f-preserved
loop-f-preserved c =
    let frame = λ (sample : Cells) (from : At) (f : ℕ). frame_error c.args.canvas.now.map sample (laid_from c.args.rect.now from) f in
    record {
      runs = c.in_ok-add_frame.ensures.runs;
      error = λ sample from laid.
          c.in_ok-add_frame.ensures.adds sample from laid
          ∙ ap (λ n. n + frame sample from c.loop-f.f) (c.loop-f.invariant.error sample from laid)
          ∙ sym (sum_more counts c.loop-f.f (frame sample from));
    }

pub returns : goal.returns
returns c =
    let whole : c.loop-f.f ≡ c.args.rect.now.size.f = omega (arith, c.loop-f-test.false, c.loop-f.auto.f-end) in
    record {
      inside = c.loop-f.invariant.runs;
      error = λ sample from laid.
          c.loop-f.invariant.error sample from laid
          ∙ ap (λ n. sum_to n (λ f. frame_error c.args.canvas.now.map sample (laid_from c.args.rect.now from) f)) whole;
    }

pub loop-f-init : goal.loop-f-init
loop-f-init c =
    record {
      runs = record { axes = c.first_size-part.ensures.small.axes; each = subst (All (IsRunIn c.args.canvas.now.picture.k c.args.rect.now c.first_size-part.result (length c.new-2.result.items))) (sym c.new.ensures.items) (λ k d lt. absurd (omega arith)) };
      error = λ sample from laid. ap (sum_by (run_error c.new-2.result.items sample from)) c.new.ensures.items;
    }

pub add_frame-requires-clause-runs : goal.add_frame-requires-clause-runs
add_frame-requires-clause-runs c = grind (arith, common_steps)
