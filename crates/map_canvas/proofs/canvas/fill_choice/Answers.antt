use Rattle.std.proofs.Common.{◌≡◌, ◌<◌, ◌+◌, sym, subst, arith}
use Rattle.std.proofs.lemmas.List.{take_all}
use Rattle.std.specs.Prelude.{Some, unwrap_or}
use Rattle.cells.specs.Places.{index_in}
use Rattle.cells.specs.Cells.{index_of}
use Rattle.cells.proofs.Raster.{has_index, place_at}
use Rattle.map_canvas.specs.Canvases.{CanvasState}
use Rattle.map_canvas.specs.Choices.{Fits, IsAfter, box_cell, box_count, box_source}
use Rattle.map_canvas.proofs.ChoiceLaws.{after_none, after_old}
use Rattle.map_canvas.proofs.Filling.{fits_cell}
use Rattle.map_canvas.proofs.Runs.{run_below_count, run_in_sample}
use Rattle.map_canvas.proofs.RunSteps.{IsSoFar, run_so_far}
use Rattle.map_canvas.proofs.canvas.fill_choice.Goals as goal

pub runs-preserved-then-choice-i : goal.runs-preserved-then-choice-i
runs-preserved-then-choice-i c =
    let sample = c.args.sample.now in
    let placement = c.args.placement.now in
    let choice = c.args.choice.now in
    let i = c.runs.i in
    let n = c.fill_from.result in
    let canvas : CanvasState = record { map = c.runs.map; picture = c.runs.picture } in
    let so_far : IsSoFar c.args.map.now sample placement choice i canvas = record { canvas_is = c.runs.invariant.canvas; stands = c.runs.invariant.stands; after = c.runs.invariant.after } in
    let fits : Fits c.runs.map.size sample placement = subst (λ size. Fits size sample placement) (sym c.runs.invariant.after.size) c.requires.fits in
    let below : i < box_count placement = omega (arith, c.requires.choices, c.runs-test.true) in
    let row = c.fill_from.ensures.row in
    let o = unwrap_or (index_in c.runs.map.size (box_cell placement i)) 0 in
    let at : index_in c.runs.map.size (box_cell placement i) ≡ Some o = has_index (index_in c.runs.map.size (box_cell placement i)) 0 (fits_cell c.runs.map.size sample placement fits i below) in
    let s = unwrap_or (index_of sample (box_source placement i)) 0 in
    let there : index_of sample (box_source placement i) ≡ Some s =
    has_index (index_of sample (box_source placement i)) 0 (run_in_sample c.runs.map.size sample placement fits c.requires.sample i n below row).first in
    let ends = run_below_count c.runs.map.size sample placement fits c.requires.sample i n below row in
    let put = run_so_far c.args.map.now canvas sample placement choice i n o s so_far c.requires.sample fits below row c.fill_from.ensures.new at there in
    let now : IsSoFar c.args.map.now sample placement choice (i + n) (record { map = c.fill_from.new.map; picture = c.fill_from.new.picture }) =
    subst (IsSoFar c.args.map.now sample placement choice (i + n)) (λ k. record { map = sym c.fill_from.ensures.map k; picture = sym c.fill_from.ensures.picture k }) put in
    record {
      reached = omega (arith, ends, c.requires.choices);
      canvas = now.canvas_is;
      stands = now.stands;
      marks = c.fill_from.ensures.marks;
      after = now.after;
    }

pub runs-preserved : goal.runs-preserved
runs-preserved c =
    let placement = c.args.placement.now in
    let i = c.runs.i in
    let below : i < box_count placement = omega (arith, c.requires.choices, c.runs-test.true) in
    record {
      reached = omega (arith, c.runs-test.true);
      canvas = c.runs.invariant.canvas;
      stands = c.runs.invariant.stands;
      marks = c.runs.invariant.marks;
      after = after_old c.args.map.now c.runs.map placement c.args.choice.now i (place_at placement.rect.size i c.requires.fits.some.w c.requires.fits.some.h below) c.runs.invariant.after c.if-choice-i.false;
    }

pub runs-init : goal.runs-init
runs-init c = record {
  reached = omega arith;
  canvas = c.requires.canvas;
  stands = c.requires.stands;
  marks = c.requires.marks;
  after = after_none c.args.map.now c.args.placement.now;
}

pub fill_from-requires : goal.fill_from-requires
fill_from-requires c = record {
  canvas = c.runs.invariant.canvas;
  samples = c.runs.invariant.stands.samples;
  marks = c.runs.invariant.marks;
  sample = c.requires.sample;
  fits = subst (λ size. Fits size c.args.sample.now c.args.placement.now) (sym c.runs.invariant.after.size) c.requires.fits;
  choices = c.requires.choices;
  below = omega (arith, c.requires.choices, c.runs-test.true);
  first = c.if-choice-i.true;
}

pub returns : goal.returns
returns c = record {
  canvas = c.runs.invariant.canvas;
  stands = c.runs.invariant.stands;
  marks = c.runs.invariant.marks;
  after = subst (λ choice. IsAfter c.args.map.now c.args.placement.now choice c.runs.map) (take_all c.runs.i c.args.choice.now c.runs-test.false) c.runs.invariant.after;
}
