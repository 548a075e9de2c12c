use Rattle.std.proofs.Common.{◌≡◌, ◌≤◌, ◌+◌, ◌*◌, length, sym, ap, ◌∙◌, subst, arith}
use Rattle.std.specs.Prelude.{All}
use Rattle.std.proofs.lemmas.List.{with_items_is}
use Rattle.std.proofs.lemmas.Result.{err_from_is_err_and}
use Rattle.shelf_traits.proofs.FileLaws.{only_reads_then}
use Rattle.shelf_traits.specs.declared.fault.ReadError.TheVariants.{Bad}
use Rattle.shelf_traits.specs.declared.fault.FormFault.TheVariants.{Trailing}
use Rattle.shelf_traits.proofs.Sees.{fault_later}
use Rattle.cells.specs.Places.{cell_count}
use Rattle.cells.specs.Cells.{Cells, volume_of}
use Rattle.netpbm_p6.proofs.Rasters.{fill_refused, stop_refused, raster_read, stops_there, goes_on}
use Rattle.netpbm_p6.proofs.raster.read_raster.Goals as goal

pub returns-in_err-fill-clause-raster : goal.returns-in_err-fill-clause-raster
returns-in_err-fill-clause-raster g c =
    let p = err_from_is_err_and c.from_residual-in_err-fill.result c.from_residual-in_err-fill.ensures.1 in
    let whole : length c.fill.new.raster ≡ 3 * cell_count c.args.size = c.fill.auto.raster ∙ c.deref_mut.ensures.len ∙ c.in_ok-raster.ensures {u = tt} in
    rw (p.1, p.2)
    (fill_refused c.args.name.now c.args.start c.args.maxval c.args.size c.fill.new.raster c.in_err-fill.field-0.0 (g.S.Shelf.state c.args.shelf.now) (g.S.Shelf.state c.fill.new.shelf) whole c.in_err-fill.ensures.fills)

pub returns-in_err-get-clause-raster : goal.returns-in_err-get-clause-raster
returns-in_err-get-clause-raster g c =
    let rose = fault_later c.args.name.now (g.S.Shelf.state c.args.shelf.now) (g.S.Shelf.state c.fill.new.shelf) (g.S.Shelf.state c.get.new.self) c.in_ok-fill.ensures.reads c.in_err-get.ensures.failed in
    let p = err_from_is_err_and c.from_residual-in_err-get.result c.from_residual-in_err-get.ensures.1 in
    rw (p.1, p.2) rose

pub returns-then-branch-gt0-clause-raster : goal.returns-then-branch-gt0-clause-raster
returns-then-branch-gt0-clause-raster g c =
    let whole : length c.fill.new.raster ≡ 3 * cell_count c.args.size = c.fill.auto.raster ∙ c.deref_mut.ensures.len ∙ c.in_ok-raster.ensures {u = tt} in
    stop_refused c.args.name.now c.args.start c.args.maxval (c.args.start + c.len.result) c.args.size c.fill.new.raster (Bad (Trailing (c.args.start + c.len.result))) (g.S.Shelf.state c.args.shelf.now) (g.S.Shelf.state c.fill.new.shelf) (g.S.Shelf.state c.get.new.self)
    whole (omega (arith, whole, c.in_ok-raster.ensures {u = tt})) c.in_ok-fill.ensures.reads c.in_ok-get.ensures.reads c.in_ok-fill.ensures.fills
    (goes_on c.args.name.now (c.args.start + c.len.result) _ c.get.new.into (g.S.Shelf.state c.fill.new.shelf) (g.S.Shelf.state c.get.new.self) (omega arith) c.if-branch-gt0.true c.in_ok-get.ensures.read)

pub returns-clause-raster : goal.returns-clause-raster
returns-clause-raster g c =
    let whole : length c.fill.new.raster ≡ 3 * cell_count c.args.size = c.fill.auto.raster ∙ c.deref_mut.ensures.len ∙ c.in_ok-raster.ensures {u = tt} in
    let made : c.from_bytes.result ≡ volume_of c.args.size 3 c.fill.new.raster = c.from_bytes.ensures.volume ∙ ap (volume_of c.args.size 3) (with_items_is c.in_ok-raster.raster c.fill.new.raster (c.fill.auto.raster ∙ c.deref_mut.ensures.len)) in
    raster_read c.args.name.now c.args.start c.args.maxval _ c.args.size c.fill.new.raster c.from_bytes.result (g.S.Shelf.state c.args.shelf.now) (g.S.Shelf.state c.fill.new.shelf) (g.S.Shelf.state c.get.new.self)
    whole (omega (arith, whole, c.in_ok-raster.ensures {u = tt})) made c.in_ok-fill.ensures.reads c.in_ok-get.ensures.reads c.in_ok-fill.ensures.fills
    (stops_there c.args.name.now _ _ c.get.new.into (g.S.Shelf.state c.fill.new.shelf) (g.S.Shelf.state c.get.new.self) (omega arith) c.if-branch-gt0.false c.in_ok-get.ensures.read)

pub returns-clause-made : goal.returns-clause-made
returns-clause-made g c =
    let items = with_items_is c.in_ok-raster.raster c.fill.new.raster (c.fill.auto.raster ∙ c.deref_mut.ensures.len) in
    record {
      size_is = ap (λ (v : Cells). v.size) c.from_bytes.ensures.volume;
      one = ap (λ (v : Cells). v.more) c.from_bytes.ensures.volume;
      colours = ap (λ (v : Cells). v.k) c.from_bytes.ensures.volume;
      samples = subst (All (λ b. b ≤ c.args.maxval)) (sym (c.from_bytes.ensures.bytes ∙ items)) c.in_ok-fill.ensures.samples;
    }

pub from_bytes-requires-clause-whole : goal.from_bytes-requires-clause-whole
from_bytes-requires-clause-whole g c =
    ap length (with_items_is c.in_ok-raster.raster c.fill.new.raster (c.fill.auto.raster ∙ c.deref_mut.ensures.len)) ∙ c.fill.auto.raster ∙ c.deref_mut.ensures.len ∙ c.in_ok-raster.ensures {u = tt}

pub returns-clause-reads : goal.returns-clause-reads
returns-clause-reads g c = only_reads_then (g.S.Shelf.state c.args.shelf.now) (g.S.Shelf.state c.fill.new.shelf) (g.S.Shelf.state c.get.new.self) c.in_ok-fill.ensures.reads c.in_ok-get.ensures.reads

pub returns-in_err-get-clause-reads : goal.returns-in_err-get-clause-reads
returns-in_err-get-clause-reads g c = only_reads_then (g.S.Shelf.state c.args.shelf.now) (g.S.Shelf.state c.fill.new.shelf) (g.S.Shelf.state c.get.new.self) c.in_ok-fill.ensures.reads c.in_err-get.ensures.reads

pub returns-then-branch-gt0-clause-reads : goal.returns-then-branch-gt0-clause-reads
returns-then-branch-gt0-clause-reads g c = only_reads_then (g.S.Shelf.state c.args.shelf.now) (g.S.Shelf.state c.fill.new.shelf) (g.S.Shelf.state c.get.new.self) c.in_ok-fill.ensures.reads c.in_ok-get.ensures.reads
