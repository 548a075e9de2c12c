use Rattle.std.proofs.lemmas.Grind.{common_steps}
use Rattle.std.proofs.Common.{◌<◌, ◌+◌, [], ◌∷◌, length, subst, sym, ap, arith, ◌≡◌}
use Rattle.std.proofs.lemmas.List.{length-append}
use Rattle.std.proofs.lemmas.Result.{err_from_is_err_and}
use Rattle.shelf_traits.proofs.FileLaws.{only_reads_same, only_reads_then}
use Rattle.source_map.specs.Heads.{size_read}
use Rattle.source_map.specs.Readings.{Found, list_read}
use Rattle.source_map.proofs.FieldLaws.{list_more, list_stops, made}
use Rattle.source_map.proofs.head_reading.read_sizes.Goals as goal

pub returns-in_err-read_size-clause-answer : goal.returns-in_err-read_size-clause-answer
returns-in_err-read_size-clause-answer g c =
    let start = g.S.Shelf.state c.args.shelf.now in
    let name = c.args.name.now in
    let file = c.args.file.now in
    let p = err_from_is_err_and c.from_residual.result c.from_residual.ensures.1 in
    let some : 0 < c.args.count = omega arith in
    rw (p.1, p.2)
    (list_stops ⊥ name file.at 0 c.args.count size_read start start (g.S.Shelf.state c.read_size.new.shelf) file c.read_size.new.file [] c.in_err-read_size.field-0.0
    some (only_reads_same start) c.in_err-read_size.ensures.reads (made ⊥ name start start file [] c.requires.follows) c.in_err-read_size.ensures.answer)

pub returns-in_err-read_size-2-clause-answer : goal.returns-in_err-read_size-2-clause-answer
returns-in_err-read_size-2-clause-answer g c =
    let state = g.S.Shelf.state in
    let p = err_from_is_err_and c.from_residual-in_err-read_size-2.result c.from_residual-in_err-read_size-2.ensures.1 in
    rw (p.1, p.2)
    (list_stops ⊥ c.args.name.now c.args.file.now.at c.loop-i.i c.args.count size_read (state c.args.shelf.now) (state c.loop-i.shelf) (state c.read_size-in-loop-i.new.shelf) c.loop-i.file c.read_size-in-loop-i.new.file
    c.loop-i.sizes c.in_err-read_size-2.field-0.0 c.loop-i-test.true c.loop-i.invariant.reads c.in_err-read_size-2.ensures.reads c.loop-i.invariant.found c.in_err-read_size-2.ensures.answer)

pub loop-i-preserved : goal.loop-i-preserved
loop-i-preserved g c =
    let state = g.S.Shelf.state in
    let name = c.args.name.now in
    let a = state c.args.shelf.now in
    let b = state c.loop-i.shelf in
    let d = state c.read_size-in-loop-i.new.shelf in
    let so = c.loop-i.invariant in
    let ok = c.in_ok-read_size-2.ensures {u = tt} in
    let front = c.loop-i.sizes in
    let size = c.in_ok-read_size-2.field-0 in
    record {
      found = subst (λ sizes. Found name c.args.file.now.at d c.read_size-in-loop-i.new.file (list_read size_read (c.loop-i.i + 1)) sizes) (sym c.add.ensures)
          (list_more name c.args.file.now.at c.loop-i.i size_read a b d c.loop-i.file c.read_size-in-loop-i.new.file front size so.reads ok.reads so.found ok.answer);
      count = omega (arith, so.count, ap length c.add.ensures, length-append front (size ∷ []));
      at = omega (arith, ok.place, so.at);
      reads = only_reads_then a b d so.reads ok.reads;
    }

pub loop-i-init : goal.loop-i-init
loop-i-init g c = grind (arith, common_steps)

pub returns-clause-answer : goal.returns-clause-answer
returns-clause-answer g c =
    let state = g.S.Shelf.state in
    let all : c.loop-i.i ≡ c.args.count = omega (arith, c.loop-i-test.false, c.loop-i.auto.i-end c.requires.some) in
    subst (λ n. Found c.args.name.now c.args.file.now.at (state c.loop-i.shelf) c.loop-i.file (list_read size_read n) c.loop-i.sizes) all c.loop-i.invariant.found
