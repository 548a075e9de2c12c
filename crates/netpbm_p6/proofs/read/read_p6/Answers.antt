use Rattle.std.proofs.Common.{arith}
use Rattle.std.proofs.lemmas.Grind.{common_steps}
use Rattle.std.proofs.Common.{◌≤◌, ◌∙◌, ap, sym, subst}
use Rattle.cells.specs.declared.place.Size.{Size}
use Rattle.std.proofs.lemmas.Result.{err_from_is_err_and}
use Rattle.shelf_traits.proofs.FileLaws.{only_reads_then}
use Rattle.netpbm_p6.proofs.PictureLaws.{cells_allowed, limits_as, raster_as, read_as}
use Rattle.netpbm_p6.proofs.read.read_p6.Goals as goal

pub returns-in_err-size-clause-answer : goal.returns-in_err-size-clause-answer
returns-in_err-size-clause-answer g c =
    let p = err_from_is_err_and c.from_residual-in_err-size.result c.from_residual-in_err-size.ensures.1 in
    rw (p.1, p.2)
    (limits_as c.args.name.now c.in_ok-header.header c.in_err-size.field-0.0 (g.S.Shelf.state c.args.shelf.now) (g.S.Shelf.state c.read_header.new.shelf) c.in_ok-header.ensures.header c.in_err-size.ensures)

pub returns-in_err-volume-clause-answer : goal.returns-in_err-volume-clause-answer
returns-in_err-volume-clause-answer g c =
    let p = err_from_is_err_and c.from_residual-in_err-volume.result c.from_residual-in_err-volume.ensures.1 in
    rw (p.1, p.2)
    (raster_as c.args.name.now c.in_ok-header.header c.in_ok-size.size c.in_ok-size.maxval c.in_err-volume.field-0.0 (g.S.Shelf.state c.args.shelf.now) (g.S.Shelf.state c.read_header.new.shelf) (g.S.Shelf.state c.read_raster.new.shelf)
    c.in_ok-header.ensures.reads c.in_err-volume.ensures.reads c.in_ok-header.ensures.header c.in_ok-size.ensures c.in_err-volume.ensures.raster)

pub returns-clause-answer : goal.returns-clause-answer
returns-clause-answer g c =
    read_as c.args.name.now c.in_ok-header.header c.in_ok-size.size c.in_ok-size.maxval c.in_ok-volume.volume (g.S.Shelf.state c.args.shelf.now) (g.S.Shelf.state c.read_header.new.shelf) (g.S.Shelf.state c.read_raster.new.shelf)
    c.in_ok-header.ensures.reads c.in_ok-volume.ensures.reads c.in_ok-header.ensures.header c.in_ok-size.ensures c.in_ok-volume.ensures.raster

pub returns-clause-picture : goal.returns-clause-picture
returns-clause-picture g c =
    let fits = c.in_ok-size.ensures {u = tt} in
    let made = (c.in_ok-volume.ensures {u = tt}).made in
    record {
      form = record {
        positive = subst (λ n. 1 ≤ n) (sym fits.maxval_is) (c.in_ok-header.ensures {u = tt}).sound.maxval;
        fits = subst (λ n. n ≤ 255) (sym fits.maxval_is) fits.depth;
        volume_is = c.samples-k.ensures.volume;
        one = made.one;
        frames = ap (λ (size : Size). size.f) (made.size_is ∙ fits.size_is);
        colours = made.colours;
        samples = made.samples;
      };
      cells = cells_allowed c.in_ok-header.header c.in_ok-size.size c.in_ok-size.maxval c.in_ok-volume.volume fits made.size_is made.one;
    }

pub returns-clause-reads : goal.returns-clause-reads
returns-clause-reads g c =
    only_reads_then (g.S.Shelf.state c.args.shelf.now) (g.S.Shelf.state c.read_header.new.shelf) (g.S.Shelf.state c.read_raster.new.shelf) c.in_ok-header.ensures.reads c.in_ok-volume.ensures.reads

pub returns-in_err-volume-clause-reads : goal.returns-in_err-volume-clause-reads
returns-in_err-volume-clause-reads g c =
    only_reads_then (g.S.Shelf.state c.args.shelf.now) (g.S.Shelf.state c.read_header.new.shelf) (g.S.Shelf.state c.read_raster.new.shelf) c.in_ok-header.ensures.reads c.in_err-volume.ensures.reads

pub read_raster-requires-clause-small : goal.read_raster-requires-clause-small
read_raster-requires-clause-small g c = grind (arith, common_steps)
