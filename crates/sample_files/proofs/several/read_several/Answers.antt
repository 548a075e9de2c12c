use Rattle.std.proofs.lemmas.Grind.{common_steps}
use Rattle.std.proofs.Common.{suc, ◌+◌, [], ◌∷◌, length, arith, ap, subst, length-append}
use Rattle.std.proofs.lemmas.Result.{err_from_is_err_and}
use Rattle.shelf_traits.proofs.FileLaws.{only_reads_then}
use Rattle.sample_files.specs.Steps.{IsFirstRead, IsNextRead, NotFirst, NotNext}
use Rattle.sample_files.proofs.Reading.{first_reads, first_unread, next_reads, next_unread, read_more, read_one}
use Rattle.sample_files.proofs.several.read_several.Goals as goal

pub returns-in_err-samples-clause-answer : goal.returns-in_err-samples-clause-answer
returns-in_err-samples-clause-answer g c =
    let was = g.S.Shelf.state c.args.shelf.now in
    let now = g.S.Shelf.state c.read_first.new.shelf in
    let fault = c.in_err-samples.field-0.0 in
    let p = err_from_is_err_and c.from_residual.result c.from_residual.ensures.1 in
    let left = subst (λ n. NotFirst c.args.asked n was now fault) c.as_text.ensures (c.in_err-samples.ensures {u = tt}).answer in
    rw (p.1, p.2) (first_unread c.args.asked c.args.first.now c.args.more.now was now c.read_first.ensures.reads fault left)

pub returns-in_err-samples-clause-reads : goal.returns-in_err-samples-clause-reads
returns-in_err-samples-clause-reads g c =
    first_reads c.args.first.now c.args.more.now c.as_text.result.now c.as_text.ensures (g.S.Shelf.state c.args.shelf.now) (g.S.Shelf.state c.read_first.new.shelf) c.read_first.ensures.reads

pub loop-i-init : goal.loop-i-init
loop-i-init g c =
    let was = g.S.Shelf.state c.args.shelf.now in
    let now = g.S.Shelf.state c.read_first.new.shelf in
    let one = subst (λ n. IsFirstRead c.args.asked n was now c.in_ok-samples.samples) c.as_text.ensures (c.in_ok-samples.ensures {u = tt}).answer in
    record {
      reads = first_reads c.args.first.now c.args.more.now c.as_text.result.now c.as_text.ensures was now c.read_first.ensures.reads;
      read = read_one c.args.asked c.args.first.now c.in_ok-samples.samples was now one;
      so_far = one.started.so_far;
      count = ap (λ more. suc (length more)) one.started.one;
    }

pub returns-in-Err-clause-answer : goal.returns-in-Err-clause-answer
returns-in-Err-clause-answer g c =
    let was = g.S.Shelf.state c.args.shelf.now in
    let mid = g.S.Shelf.state c.loop-i.shelf in
    let now = g.S.Shelf.state c.read_next.new.shelf in
    let fault = c.in-Err.fault in
    let name = c.index-more-i.result in
    let left = subst (λ n. NotNext c.args.asked c.loop-i.samples (c.loop-i.i + 2) n mid now fault) c.as_text-in-loop-i.ensures (c.in-Err.ensures {u = tt}).answer in
    (next_unread c.args.asked c.args.first.now c.args.more.now c.loop-i.i name c.loop-i.samples was mid now c.loop-i-test.true c.index-more-i.is c.loop-i.invariant.reads c.loop-i.invariant.read c.read_next.ensures.reads fault left)

pub loop-i-preserved : goal.loop-i-preserved
loop-i-preserved g c =
    let was = g.S.Shelf.state c.args.shelf.now in
    let mid = g.S.Shelf.state c.loop-i.shelf in
    let now = g.S.Shelf.state c.read_next.new.shelf in
    let name = c.index-more-i.result in
    let next = subst (λ n. IsNextRead c.args.asked c.loop-i.samples n mid now c.read_next.new.samples) c.as_text-in-loop-i.ensures (c.in-Ok.ensures {u = tt}).answer in
    record {
      reads = only_reads_then was mid now c.loop-i.invariant.reads
          (next_reads c.args.first.now c.args.more.now c.loop-i.i name c.as_text-in-loop-i.result.now c.loop-i-test.true c.index-more-i.is c.as_text-in-loop-i.ensures mid now c.read_next.ensures.reads);
      read = read_more was mid now c.loop-i.invariant.reads c.args.asked c.args.first.now c.args.more.now c.loop-i.i name c.loop-i.samples c.read_next.new.samples c.loop-i-test.true c.index-more-i.is c.requires.few c.loop-i.invariant.read next;
      so_far = next.joined.so_far;
      count = omega (arith, ap length next.joined.sizes, c.loop-i.invariant.count, length-append (c.loop-i.samples.volume.size ∷ c.loop-i.samples.volume.more) (next.sample.volume.size ∷ []));
    }

pub returns-in-Err-clause-reads : goal.returns-in-Err-clause-reads
returns-in-Err-clause-reads g c =
    let mid = g.S.Shelf.state c.loop-i.shelf in
    let now = g.S.Shelf.state c.read_next.new.shelf in
    only_reads_then (g.S.Shelf.state c.args.shelf.now) mid now c.loop-i.invariant.reads
    (next_reads c.args.first.now c.args.more.now c.loop-i.i c.index-more-i.result c.as_text-in-loop-i.result.now c.loop-i-test.true c.index-more-i.is c.as_text-in-loop-i.ensures mid now c.read_next.ensures.reads)

pub returns-clause-answer : goal.returns-clause-answer
returns-clause-answer g c = grind (arith, common_steps)
