use Rattle.std.proofs.lemmas.Result.{err_from_is_err_and}
use Rattle.shelf_traits.proofs.FileLaws.{only_writes_of_more, only_writes_then}
use Rattle.command.proofs.Asking.{first_texts, second_texts}
use Rattle.command.proofs.WritingLaws.{both_written, stops_first}
use Rattle.command.proofs.files.ThenRunFiles.write.Goals as goal

pub returns-in_err-write-clause-wrote : goal.returns-in_err-write-clause-wrote
returns-in_err-write-clause-wrote g c =
    let p = err_from_is_err_and c.from_residual.result c.from_residual.ensures.1 in
    rw (p.1, p.2) (stops_first _ _ _ (g.S.Shelf.state c.args.shelf.now) (g.S.Shelf.state c.write.new.shelf) (g.S.Shelf.state c.write.new.shelf) (c.in_err-write.ensures {u = tt}).wrote)

pub returns-clause-wrote : goal.returns-clause-wrote
returns-clause-wrote g c =
    let state = g.S.Shelf.state in
    both_written (g.A.RunFiles.texts c.args.self.now.0) (g.B.RunFiles.texts c.args.self.now.1)
    (state c.args.shelf.now) (state c.write.new.shelf) (state c.write-2.new.shelf) c.write-2.result c.write.ensures.writes (c.in_ok-write.ensures {u = tt}).wrote c.write-2.ensures.wrote

pub returns-in_err-write-clause-writes : goal.returns-in_err-write-clause-writes
returns-in_err-write-clause-writes g c =
    let state = g.S.Shelf.state in
    only_writes_of_more (state c.args.shelf.now) (state c.write.new.shelf) (first_texts (g.A.RunFiles.texts c.args.self.now.0) (g.B.RunFiles.texts c.args.self.now.1)) c.write.ensures.writes

pub returns-clause-writes : goal.returns-clause-writes
returns-clause-writes g c =
    let state = g.S.Shelf.state in
    let first = g.A.RunFiles.texts c.args.self.now.0 in
    let second = g.B.RunFiles.texts c.args.self.now.1 in
    only_writes_then (state c.args.shelf.now) (state c.write.new.shelf) (state c.write-2.new.shelf)
    (only_writes_of_more (state c.args.shelf.now) (state c.write.new.shelf) (first_texts first second) c.write.ensures.writes)
    (only_writes_of_more (state c.write.new.shelf) (state c.write-2.new.shelf) (second_texts first second) c.write-2.ensures.writes)
