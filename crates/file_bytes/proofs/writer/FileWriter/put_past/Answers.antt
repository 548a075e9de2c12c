use Rattle.std.proofs.Common.{◌≡◌, ◌∙◌, ◌++◌, [], take, sym, subst, arith}
use Rattle.std.proofs.lemmas.Grind.{common_steps}
use Rattle.file_bytes.specs.Writing.{HasPut, pending}
use Rattle.file_bytes.proofs.WritingLaws.{more_waits}
use Rattle.file_bytes.proofs.writer.FileWriter.put_past.Goals as goal

pub returns-then-piece-le-ROOM : goal.returns-then-piece-le-ROOM
returns-then-piece-le-ROOM g c = grind (arith, common_steps)

pub returns-else-piece-le-ROOM : goal.returns-else-piece-le-ROOM
returns-else-piece-le-ROOM g c was text put =
    let state = g.S.Shelf.state in
    let name = c.args.name.now in
    let piece = c.args.piece.now in
    let flushed = state c.flush.new.shelf in
    let failed = c.self.inside.failed in
    let empty : take c.self.inside.len c.self.inside.buffer ≡ [] = (λ i. (c.self.view_is i).waiting) ∙ c.flush.ensures.empty in
    let old : c.flush.new.self ≡ pending [] failed = λ i. record { waiting = c.flush.ensures.empty i; failed = (sym (λ k. (c.self.view_is k).failed)) i } in
    let fresh = more_waits name text [] piece failed was flushed (subst (HasPut name text was flushed) old (c.flush.ensures.put was text put)) in
    subst (λ waiting. HasPut name (text ++ piece) was (state c.pass-self-inside.new.shelf) (pending waiting c.pass-self-inside.result)) (sym empty)
    (c.pass-self-inside.ensures was (text ++ piece) fresh)
