use Rattle.std.proofs.Common.{arith}
use Rattle.std.proofs.lemmas.Grind.{common_steps}
use Rattle.std.proofs.Common.{refl, subst, inl, inr, []}
use Rattle.cells.specs.Places.{cell_count}
use Rattle.cells.specs.Firsts.{Each, IsFirstWithout}
use Rattle.map_canvas.specs.Maps.{SourceMap}
use Rattle.cut_check.specs.Records.{FillsUnfilled}
use Rattle.cut_check.proofs.Fitting.{fits_of}
use Rattle.cut_check.proofs.check.check_fitting.Goals as goal

pub returns-in-Some-clause-fault : goal.returns-in-Some-clause-fault
returns-in-Some-clause-fault c =
    let cut = c.args.cut.now in
    let sample = c.args.sample.now in
    let n = cell_count cut.placement.rect.size in
    inr (inl (record {
      kind = refl;
      fits = fits_of c.args.canvas.now.map sample cut.placement c.requires.fits;
      place = subst (λ (m : SourceMap). IsFirstWithout n (FillsUnfilled (record { map = m; sample = sample; held = [] }) cut) c.in-Some.i) c.map.ensures.map (c.in-Some.ensures.broken sample);
    }))

pub returns-in-Some-first_new-clause-fault : goal.returns-in-Some-first_new-clause-fault
returns-in-Some-first_new-clause-fault c =
    let cut = c.args.cut.now in
    let sample = c.args.sample.now in
    let n = cell_count cut.placement.rect.size in
    inr (inr (inl (record {
      kind = refl;
      fits = fits_of c.args.canvas.now.map sample cut.placement c.requires.fits;
      unfilled = subst (λ (m : SourceMap). Each n (FillsUnfilled (record { map = m; sample = sample; held = [] }) cut)) c.map.ensures.map (c.in_default.ensures.hold sample);
      place = c.in-Some-first_new.ensures.broken sample;
    })))

pub check_flows-requires-clause-lawful : goal.check_flows-requires-clause-lawful
check_flows-requires-clause-lawful c =
    let cut = c.args.cut.now in
    let sample = c.args.sample.now in
    let n = cell_count cut.placement.rect.size in
    record {
      fits = fits_of c.args.canvas.now.map sample cut.placement c.requires.fits;
      unfilled = subst (λ (m : SourceMap). Each n (FillsUnfilled (record { map = m; sample = sample; held = [] }) cut)) c.map.ensures.map (c.in_default.ensures.hold sample);
      old = c.in_default-first_new.ensures.hold sample;
    }

pub first_unfilled-requires : goal.first_unfilled-requires
first_unfilled-requires c = grind (arith, common_steps)
