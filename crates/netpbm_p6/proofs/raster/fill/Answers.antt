use Rattle.std.proofs.Common.{arith}
use Rattle.std.proofs.lemmas.Grind.{common_steps}
use Rattle.std.proofs.Common.{◌+◌, length, drop}
use Rattle.shelf_traits.specs.Files.{Reads, content_of}
use Rattle.shelf_traits.proofs.FileLaws.{told_weaker}
use Rattle.netpbm_p6.specs.Reading.{IsAboveIn, EndsShort, BeginsWith}
use Rattle.netpbm_p6.proofs.Rasters.{above_in, ends_short, begins_with, all_within}
use Rattle.netpbm_p6.proofs.raster.fill.Goals as goal

pub returns-in-Some-clause-fills : goal.returns-in-Some-clause-fills
returns-in-Some-clause-fills g c =
    let into = c.get.new.into in
    told_weaker (λ x y. Reads (content_of x c.args.name.now) c.args.start into c.in_ok-count.count) (λ x y. IsAboveIn (drop c.args.start (content_of x c.args.name.now)) c.args.start c.args.maxval (length into) (c.args.start + c.in-Some.i)) _ _
    (λ x y. above_in c.args.maxval c.args.start c.in_ok-count.count c.in-Some.i into (content_of x c.args.name.now) c.in-Some.ensures.some) c.in_ok-count.ensures.read

pub returns-then-count-raster-clause-fills : goal.returns-then-count-raster-clause-fills
returns-then-count-raster-clause-fills g c =
    let into = c.get.new.into in
    told_weaker (λ x y. Reads (content_of x c.args.name.now) c.args.start into c.in_ok-count.count) (λ x y. EndsShort (drop c.args.start (content_of x c.args.name.now)) c.args.start c.args.maxval (length into) (c.args.start + c.in_ok-count.count)) _ _
    (λ x y. ends_short c.args.maxval c.args.start c.in_ok-count.count into (content_of x c.args.name.now) c.if-count-raster.true c.in_default.ensures.none) c.in_ok-count.ensures.read

pub returns-clause-fills : goal.returns-clause-fills
returns-clause-fills g c =
    let into = c.get.new.into in
    told_weaker (λ x y. Reads (content_of x c.args.name.now) c.args.start into c.in_ok-count.count) (λ x y. BeginsWith (drop c.args.start (content_of x c.args.name.now)) into c.args.maxval) _ _
    (λ x y. begins_with c.args.maxval c.args.start c.in_ok-count.count into (content_of x c.args.name.now) c.if-count-raster.false c.in_default.ensures.none) c.in_ok-count.ensures.read

pub returns-clause-samples : goal.returns-clause-samples
returns-clause-samples g c = all_within c.args.maxval c.in_ok-count.count c.get.new.into c.if-count-raster.false c.in_default.ensures.none

pub overflow_add-result : goal.overflow_add-result
overflow_add-result g c = grind (arith, common_steps)

pub slice_bounds-first_above-end-2 : goal.slice_bounds-first_above-end-2
slice_bounds-first_above-end-2 g c = grind (arith, common_steps)
