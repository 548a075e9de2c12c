use Rattle.std.proofs.Common.{refl, ap}
use Rattle.system_files.proofs.Asked.{asked_after}
use Rattle.system_files.proofs.Replaying.{read_after}
use Rattle.system_files.proofs.real.RealShelfShelf.get.Goals as goal

pub invariant_of-self : goal.invariant_of-self
invariant_of-self g c =
    asked_after c.args.name.now _ c.self.inside.system c.read.new.system
    c.self.inside.calls.calls c.note.new.self.calls refl c.read.ensures.opens c.self.invariant c.note.ensures

pub invariant_of-self-in-Err : goal.invariant_of-self-in-Err
invariant_of-self-in-Err g c =
    asked_after c.args.name.now _ c.self.inside.system c.read.new.system
    c.self.inside.calls.calls c.note-in-Err.new.self.calls refl c.read.ensures.opens c.self.invariant c.note-in-Err.ensures

pub returns-in-Ok-clause-reads : goal.returns-in-Ok-clause-reads
returns-in-Ok-clause-reads g c =
    read_after g.S.Start.files g.S.Start.left c.args.self.now.calls c.args.name.now _ _ _ _ c.note.new.self.calls
    c.note.ensures (ap (λ was. was.calls) c.self.view_is)

pub returns-in-Err-clause-reads : goal.returns-in-Err-clause-reads
returns-in-Err-clause-reads g c =
    read_after g.S.Start.files g.S.Start.left c.args.self.now.calls c.args.name.now _ _ _ _ c.note-in-Err.new.self.calls
    c.note-in-Err.ensures (ap (λ was. was.calls) c.self.view_is)
