use Rattle.std.proofs.lemmas.Grind.{common_steps}
use Rattle.std.proofs.Common.{ap, ◌∙◌, arith}
use Rattle.std.proofs.lemmas.List.{take_at}
use Rattle.std.specs.Prelude.{codes}
use Rattle.shelf_traits.proofs.FileLaws.{only_writes_then, rose_later}
use Rattle.y4m_clip.specs.Writing.{Writer, planes_of}
use Rattle.y4m_clip.proofs.Writes.{both_added, second_in_part, first_in_part, on_err}
use Rattle.y4m_clip.proofs.write.ClipWriter.frame.Goals as goal

pub returns-in_err-add-clause-err : goal.returns-in_err-add-clause-err
returns-in_err-add-clause-err g c =
    on_err _ _
    (first_in_part c.args.name.now (codes "FRAME\n") (planes_of c.args.self.now.kind c.args.from.now c.args.f) (g.S.Shelf.state c.args.shelf.now) (g.S.Shelf.state c.add.new.self) c.in_err-add.ensures.part)

pub returns-in_err-add-2-clause-err : goal.returns-in_err-add-2-clause-err
returns-in_err-add-2-clause-err g c =
    on_err _ _
    (second_in_part c.args.name.now (codes "FRAME\n") c.deref.result.now (planes_of c.args.self.now.kind c.args.from.now c.args.f) (g.S.Shelf.state c.args.shelf.now) (g.S.Shelf.state c.add.new.self) (g.S.Shelf.state c.add-2.new.self)
    (c.deref.ensures.value ∙ take_at c.lay_planes.new.planes _ c.self.inside.planes.len (omega arith) ∙ c.lay_planes.ensures ∙ ap (λ (w : Writer). planes_of w.kind c.args.from.now c.args.f) c.self.view_is) c.in_ok-add.ensures.added c.in_err-add-2.ensures.part)

pub returns-clause-ok : goal.returns-clause-ok
returns-clause-ok g c =
    both_added c.args.name.now (codes "FRAME\n") c.deref.result.now (planes_of c.args.self.now.kind c.args.from.now c.args.f) (g.S.Shelf.state c.args.shelf.now) (g.S.Shelf.state c.add.new.self) (g.S.Shelf.state c.add-2.new.self)
    (c.deref.ensures.value ∙ take_at c.lay_planes.new.planes _ c.self.inside.planes.len (omega arith) ∙ c.lay_planes.ensures ∙ ap (λ (w : Writer). planes_of w.kind c.args.from.now c.args.f) c.self.view_is) c.in_ok-add.ensures.added c.in_ok-add-2.ensures.added

pub invariant_of-self : goal.invariant_of-self
invariant_of-self g c = grind (arith, common_steps)

pub invariant_of-self-in_err-add-2 : goal.invariant_of-self-in_err-add-2
invariant_of-self-in_err-add-2 g c = grind (arith, common_steps)

pub invariant_of-self-2 : goal.invariant_of-self-2
invariant_of-self-2 g c = grind (arith, common_steps)

pub returns-clause-writes : goal.returns-clause-writes
returns-clause-writes g c =
    only_writes_then (g.S.Shelf.state c.args.shelf.now) (g.S.Shelf.state c.add.new.self) (g.S.Shelf.state c.add-2.new.self) c.in_ok-add.ensures.writes c.in_ok-add-2.ensures.writes

pub returns-in_err-add-2-clause-writes : goal.returns-in_err-add-2-clause-writes
returns-in_err-add-2-clause-writes g c =
    only_writes_then (g.S.Shelf.state c.args.shelf.now) (g.S.Shelf.state c.add.new.self) (g.S.Shelf.state c.add-2.new.self) c.in_ok-add.ensures.writes c.in_err-add-2.ensures.writes

pub returns-in_err-add-2-clause-failed : goal.returns-in_err-add-2-clause-failed
returns-in_err-add-2-clause-failed g c =
    on_err _ _ (rose_later ((g.S.Shelf.state c.args.shelf.now).writes c.args.name.now) ((g.S.Shelf.state c.add.new.self).writes c.args.name.now) ((g.S.Shelf.state c.add-2.new.self).writes c.args.name.now) (c.in_ok-add.ensures.writes.writes c.args.name.now) c.in_err-add-2.ensures.failed)

pub lay_planes-requires-clause-room : goal.lay_planes-requires-clause-room
lay_planes-requires-clause-room g c = grind (arith, common_steps)

pub lay_planes-requires-clause-samples : goal.lay_planes-requires-clause-samples
lay_planes-requires-clause-samples g c = grind (arith, common_steps)
