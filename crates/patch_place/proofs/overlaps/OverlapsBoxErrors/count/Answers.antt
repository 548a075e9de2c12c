use Rattle.std.proofs.Common.{ap, sym, ◌∙◌, arith}
use Rattle.match_error.specs.Errors.{filled_cells}
use Rattle.match_error.proofs.Bounds.{error_small}
use Rattle.patch_place.proofs.overlaps.OverlapsBoxErrors.count.Goals as goal

pub returns : goal.returns
returns c =
    let o = c.args.self.now in
    let m = o.canvas.now.map in
    record {
      same = λ placement asked. ap (filled_cells m) asked.box ∙ sym c.requires.count;
      low = λ placement asked. omega (arith, error_small m o.sample.now placement c.map-map.ensures.canvas.map.small c.samples-samples.ensures.volume asked.fits);
    }
