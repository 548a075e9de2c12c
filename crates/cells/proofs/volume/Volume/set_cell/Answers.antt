use Rattle.std.proofs.lemmas.Grind.{common_steps}
use Rattle.std.proofs.Common.{◌≡◌, ◌≤◌, ◌+◌, ◌*◌, ◌++◌, ap, sym, ◌∙◌, subst, length, take, drop, arith}
use Rattle.std.specs.Prelude.{Some}
use Rattle.std.proofs.lemmas.List.{with_items_is}
use Rattle.cells.specs.Parts.{index_from}
use Rattle.cells.specs.Cells.{Cells, index_of, put_cell, volume_over}
use Rattle.cells.proofs.Buffering.{fits, put_of}
use Rattle.cells.proofs.PartLaws.{index_from_below}
use Rattle.cells.proofs.volume.Volume.set_cell.Goals as goal

pub put_at-requires : goal.put_at-requires
put_at-requires c =
    let size = c.self.inside.size in
    let more = c.self.inside.more in
    let k = c.self.inside.k in
    let i = c.unwrap-i.result in
    let at : index_from size more c.args.at ≡ Some i =
    subst (λ (v : Cells). index_of v c.args.at ≡ Some i) (sym c.self.view_is) (sym c.index_of.ensures.index ∙ c.unwrap-i.ensures) in
    let long : length c.args.bytes.now ≡ k = c.requires.samples ∙ ap (λ (v : Cells). v.k) (sym c.self.view_is) in
    subst (λ bytes. k * i + length c.args.bytes.now ≤ length bytes) (sym c.deref_mut.ensures.value)
    (subst (λ n. k * i + n ≤ length c.self.inside.bytes.items) (sym long)
    (fits size more k c.self.inside.bytes.items i c.self.invariant (index_from_below size more c.args.at i at)))

pub returns : goal.returns
returns c =
    let size = c.self.inside.size in
    let more = c.self.inside.more in
    let k = c.self.inside.k in
    let i = c.unwrap-i.result in
    let at : index_from size more c.args.at ≡ Some i =
    subst (λ (v : Cells). index_of v c.args.at ≡ Some i) (sym c.self.view_is) (sym c.index_of.ensures.index ∙ c.unwrap-i.ensures) in
    let long : length c.args.bytes.now ≡ k = c.requires.samples ∙ ap (λ (v : Cells). v.k) (sym c.self.view_is) in
    ap (volume_over size more k) (with_items_is c.self.inside.bytes c.put_at.new.bytes (omega arith)
    ∙ c.put_at.ensures ∙ ap (λ bytes. take (k * i) bytes ++ c.args.bytes.now ++ drop (k * i + length c.args.bytes.now) bytes) c.deref_mut.ensures.value)
    ∙ put_of size more k c.self.inside.bytes.items c.args.bytes.now c.args.at i c.self.invariant at (index_from_below size more c.args.at i at) long
    ∙ ap (λ (v : Cells). put_cell v c.args.at c.args.bytes.now) c.self.view_is

pub invariant_of-self : goal.invariant_of-self
invariant_of-self c = grind (arith, common_steps)

pub overflow_mul-k : goal.overflow_mul-k
overflow_mul-k c = grind (arith, common_steps)
