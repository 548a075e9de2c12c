use Rattle.std.proofs.lemmas.Grind.{common_steps}
use Rattle.std.proofs.Common.{◌≡◌, ◌+◌, ◌*◌, subst, arith, length}
use Rattle.shelf_traits.specs.Files.{content_of}
use Rattle.shelf_traits.proofs.FileLaws.{only_reads_then}
use Rattle.netpbm_p6.specs.Scanning.{IsSoundScanned}
use Rattle.netpbm_p6.specs.Reading.{Reached}
use Rattle.shelf_traits.proofs.Sees.{Sees}
use Rattle.netpbm_p6.proofs.HeaderLaws.{header_broken, header_ended, header_more, passed, passes}
use Rattle.netpbm_p6.proofs.header.read_header.Goals as goal

pub returns-in-Broken-clause-header : goal.returns-in-Broken-clause-header
returns-in-Broken-clause-header g c =
    header_broken c.args.name.now (c.loop-piece.piece * 4096) c.in-Broken.i (length c.loop-piece.buffer) c.loop-piece.scan c.in_ok-i.field-0
    (g.S.Shelf.state c.args.shelf.now) (g.S.Shelf.state c.loop-piece.shelf) (g.S.Shelf.state c.scan_at.new.shelf)
    (omega arith) c.in-Broken.is c.in_ok-i.ensures.sound c.loop-piece.invariant.reads c.in_ok-i.ensures.reads c.loop-piece.invariant.reached c.in_ok-i.ensures.scanned

pub returns-in-Ended-clause-header : goal.returns-in-Ended-clause-header
returns-in-Ended-clause-header g c =
    header_ended c.args.name.now (c.loop-piece.piece * 4096) (length c.loop-piece.buffer) c.loop-piece.scan c.in_ok-i.field-0 c.in-Ended.header
    (g.S.Shelf.state c.args.shelf.now) (g.S.Shelf.state c.loop-piece.shelf) (g.S.Shelf.state c.scan_at.new.shelf)
    (omega arith) c.in-Ended.is c.in_ok-i.ensures.sound c.loop-piece.invariant.reads c.in_ok-i.ensures.reads c.loop-piece.invariant.reached c.in_ok-i.ensures.scanned

pub loop-piece-preserved : goal.loop-piece-preserved
loop-piece-preserved g c =
    let more = header_more c.args.name.now (c.loop-piece.piece * 4096) (length c.loop-piece.buffer) c.loop-piece.scan c.in-Open.next c.in_ok-i.field-0
    (g.S.Shelf.state c.args.shelf.now) (g.S.Shelf.state c.loop-piece.shelf) (g.S.Shelf.state c.scan_at.new.shelf)
    c.in-Open.is c.loop-piece.invariant.reads c.in_ok-i.ensures.reads c.loop-piece.invariant.reached c.in_ok-i.ensures.scanned in
    let at : c.loop-piece.piece * 4096 + length c.loop-piece.buffer ≡ (c.loop-piece.piece + 1) * 4096 = omega arith in
    record {
      reads = only_reads_then (g.S.Shelf.state c.args.shelf.now) (g.S.Shelf.state c.loop-piece.shelf) (g.S.Shelf.state c.scan_at.new.shelf) c.loop-piece.invariant.reads c.in_ok-i.ensures.reads;
      reached = subst (λ n. Sees (g.S.Shelf.state c.args.shelf.now) (g.S.Shelf.state c.scan_at.new.shelf) (λ files. Reached (content_of files c.args.name.now) n c.in-Open.next)) at more;
      is_open = subst (IsSoundScanned (length c.loop-piece.buffer)) c.in-Open.is c.in_ok-i.ensures.sound;
      room = omega arith;
    }

pub returns-clause-header : goal.returns-clause-header
returns-clause-header g c =
    let all : c.loop-piece.piece * 4096 ≡ 65536 = omega arith in
    passed c.args.name.now c.loop-piece.scan c.past.result (g.S.Shelf.state c.args.shelf.now) (g.S.Shelf.state c.loop-piece.shelf) (g.S.Shelf.state c.scan_at-2.new.shelf)
    c.loop-piece.invariant.reads c.in_ok-scanned.ensures.reads
    (subst (λ n. Sees (g.S.Shelf.state c.args.shelf.now) (g.S.Shelf.state c.loop-piece.shelf) (λ files. Reached (content_of files c.args.name.now) n c.loop-piece.scan)) all c.loop-piece.invariant.reached)
    (passes c.args.name.now c.loop-piece.scan c.in_ok-scanned.scanned c.past.result (g.S.Shelf.state c.loop-piece.shelf) (g.S.Shelf.state c.scan_at-2.new.shelf) c.loop-piece.invariant.is_open c.in_ok-scanned.ensures.sound c.past.ensures c.in_ok-scanned.ensures.scanned)

pub returns-in-Ended-clause-reads : goal.returns-in-Ended-clause-reads
returns-in-Ended-clause-reads g c = grind (arith, common_steps)

pub returns-in-Broken-clause-reads : goal.returns-in-Broken-clause-reads
returns-in-Broken-clause-reads g c = grind (arith, common_steps)

pub returns-in-Ended-clause-sound : goal.returns-in-Ended-clause-sound
returns-in-Ended-clause-sound g c = grind (arith, common_steps)

pub returns-clause-reads : goal.returns-clause-reads
returns-clause-reads g c = grind (arith, common_steps)

pub overflow_add-result-in-Ended : goal.overflow_add-result-in-Ended
overflow_add-result-in-Ended g c = grind (arith, common_steps)

pub overflow_add-result : goal.overflow_add-result
overflow_add-result g c = grind (arith, common_steps)

pub loop-piece-init : goal.loop-piece-init
loop-piece-init g c = grind (arith, common_steps)
