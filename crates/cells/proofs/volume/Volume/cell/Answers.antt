use Rattle.std.proofs.Common.{arith}
use Rattle.std.proofs.lemmas.Grind.{common_steps}
use Rattle.std.proofs.Common.{◌≡◌, ◌<◌, ◌≤◌, ◌+◌, ◌*◌, ap, sym, ◌∙◌, subst, length, take, drop}
use Rattle.std.specs.Prelude.{Some}
use Rattle.cells.specs.Parts.{count_from, index_from}
use Rattle.cells.specs.Cells.{Cells, cell_at, index_of}
use Rattle.cells.proofs.Buffering.{fits, cell_of}
use Rattle.cells.proofs.volume.Volume.cell.Goals as goal

pub piece_of-requires : goal.piece_of-requires
piece_of-requires c =
    let below : c.in_ok-i.i < count_from c.self.inside.size c.self.inside.more =
    subst (λ (v : Cells). c.in_ok-i.i < count_from v.size v.more) (sym c.self.view_is) (c.in_ok-i.ensures {u = tt}).below in
    subst (λ bytes. c.self.inside.k * c.in_ok-i.i + c.self.inside.k ≤ length bytes) (sym c.deref.ensures.value)
    (fits c.self.inside.size c.self.inside.more c.self.inside.k c.self.inside.bytes.items c.in_ok-i.i c.self.invariant below)

pub returns-clause-bytes : goal.returns-clause-bytes
returns-clause-bytes c =
    let below : c.in_ok-i.i < count_from c.self.inside.size c.self.inside.more =
    subst (λ (v : Cells). c.in_ok-i.i < count_from v.size v.more) (sym c.self.view_is) (c.in_ok-i.ensures {u = tt}).below in
    let at : index_from c.self.inside.size c.self.inside.more c.args.at ≡ Some c.in_ok-i.i =
    subst (λ (v : Cells). index_of v c.args.at ≡ Some c.in_ok-i.i) (sym c.self.view_is) (sym (c.in_ok-i.ensures {u = tt}).index) in
    ap Some (c.piece_of.ensures.piece ∙ ap (λ bytes. take c.self.inside.k (drop (c.self.inside.k * c.in_ok-i.i) bytes)) c.deref.ensures.value)
    ∙ sym (cell_of c.self.inside.size c.self.inside.more c.self.inside.k c.self.inside.bytes.items c.args.at c.in_ok-i.i at below)
    ∙ ap (λ (v : Cells). cell_at v c.args.at) c.self.view_is

pub returns-clause-samples : goal.returns-clause-samples
returns-clause-samples c = c.piece_of.ensures.len ∙ ap (λ (v : Cells). v.k) c.self.view_is

pub overflow_mul-k : goal.overflow_mul-k
overflow_mul-k c = grind (arith, common_steps)

pub returns-in_err-i-clause-samples : goal.returns-in_err-i-clause-samples
returns-in_err-i-clause-samples c = grind (arith, common_steps)
