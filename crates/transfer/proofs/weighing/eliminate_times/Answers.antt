use Rattle.match_error.specs.Errors.{error_of}
use Rattle.patch_place.specs.BoxErrors.{sum_from}
use Rattle.transfer.proofs.weighing.eliminate_times.Goals as goal

pub returns-then-n-eq0 : goal.returns-then-n-eq0
returns-then-n-eq0 c = λ other least. c.none.ensures other

pub returns : goal.returns
returns c = λ other least.
    let o = c.args.overlaps.now in
    c.times.ensures (sum_from (error_of o.canvas.now.map o.sample.now) c.args.placement.now.rect) other least c.eliminate.ensures
