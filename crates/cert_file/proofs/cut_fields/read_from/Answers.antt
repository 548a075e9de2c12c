use Rattle.std.proofs.Common.{arith}
use Rattle.std.proofs.lemmas.Grind.{common_steps}
use Rattle.std.proofs.Common.{◌≤◌, sym, subst}
use Rattle.source_map.specs.MapFiles.{IsInSamples}
use Rattle.source_map.proofs.Sources.{stock_in}
use Rattle.shelf_traits.proofs.FileLaws.{only_reads_then}
use Rattle.cert_file.proofs.cut_fields.read_from.Goals as goal

pub returns-clause-inside : goal.returns-clause-inside
returns-clause-inside g c =
    let samples = c.args.samples.now in
    let part = c.in_ok-part.part in
    let read = c.in_ok-part.ensures {u = tt} in
    let some : 1 ≤ part = read.within.0 in
    subst (IsInSamples samples) (sym c.stock.ensures)
    (stock_in samples part c.at.result c.in_ok-p.p some c.at.ensures.size (c.in_ok-p.ensures {u = tt}).inside)

pub returns-clause-reads : goal.returns-clause-reads
returns-clause-reads g c =
    let state = g.S.Shelf.state in
    only_reads_then (state c.args.shelf.now) (state c.read_number.new.shelf) (state c.read_place.new.shelf) (c.in_ok-part.ensures {u = tt}).reads (c.in_ok-p.ensures {u = tt}).reads

pub returns-clause-answer : goal.returns-clause-answer
returns-clause-answer g c = grind (arith, common_steps)
