use Rattle.std.proofs.Common.{arith}
use Rattle.std.proofs.lemmas.Grind.{common_steps}
use Rattle.std.proofs.Common.{subst}
use Rattle.file_bytes.specs.Writing.{HasPut, pending}
use Rattle.file_bytes.proofs.WritingLaws.{passes, stops}
use Rattle.file_bytes.proofs.writer.pass.Goals as goal

pub returns-in-Ok : goal.returns-in-Ok
returns-in-Ok g c was text put =
    let state = g.S.Shelf.state in
    let a = state c.args.shelf.now in
    passes c.args.name.now text c.args.piece.now was a (state c.add.new.self)
    (subst (λ failed. HasPut c.args.name.now text was a (pending c.args.piece.now failed)) c.if-failed.false put)
    (c.in-Ok.ensures {u = tt}).added (c.in-Ok.ensures {u = tt}).writes

pub returns-in-Err : goal.returns-in-Err
returns-in-Err g c was text put =
    let state = g.S.Shelf.state in
    let a = state c.args.shelf.now in
    stops c.args.name.now text c.args.piece.now was a (state c.add.new.self)
    (subst (λ failed. HasPut c.args.name.now text was a (pending c.args.piece.now failed)) c.if-failed.false put)
    (c.in-Err.ensures {u = tt}).part (c.in-Err.ensures {u = tt}).failed (c.in-Err.ensures {u = tt}).writes

pub returns-then-failed : goal.returns-then-failed
returns-then-failed g c = grind (arith, common_steps)
