use Rattle.std.proofs.lemmas.Grind.{common_steps}
use Rattle.std.proofs.Common.{◌≡◌, ◌≤◌, ◌<◌, ◌+◌, ◌++◌, List, [], ◌∷◌, length, ap, sym, ◌∙◌, subst, arith}
use Rattle.cells.specs.declared.place.Size.{Size}
use Rattle.limits.specs.declared.bounds.TheConstants.{MOST_CELLS, MOST_PARTS}
use Rattle.cells.specs.Places.{cell_count}
use Rattle.cells.specs.Parts.{count_from}
use Rattle.cells.specs.Buffers.{IsBuffer}
use Rattle.cells.specs.Cells.{Cells, IsOnePart, count_of, sizes_of, volume_of, volume_over, with_part}
use Rattle.cells.specs.PartLists.{parts_of}
use Rattle.cells.proofs.Chunks.{length-cells_of}
use Rattle.cells.proofs.PartLists.{joined_parts}
use Rattle.cells.proofs.Joining.{buffer_joined, volume_joined}
use Rattle.cells.proofs.volume.Volume.add_part.Goals as goal

pub invariant_of-self-2 : goal.invariant_of-self-2
invariant_of-self-2 c =
    let me = c.self.inside in
    let other = c.part.inside in
    let one : other.more ≡ [] = subst IsOnePart (sym c.part.view_is) c.requires.one in
    let k : other.k ≡ me.k = ap (λ (v : Cells). v.k) c.part.view_is ∙ c.requires.samples ∙ ap (λ (v : Cells). v.k) (sym c.self.view_is) in
    let wide : length (sizes_of c.args.self.now) < MOST_PARTS = c.requires.few in
    let few : length me.more + 1 < MOST_PARTS = subst (λ (v : Cells). length v.more + 1 < MOST_PARTS) (sym c.self.view_is) (omega (arith, wide)) in
    let room : count_from me.size me.more + cell_count other.size ≤ MOST_CELLS =
    subst (λ (v : Cells). count_from v.size v.more + cell_count other.size ≤ MOST_CELLS) (sym c.self.view_is)
    (subst (λ (v : Cells). count_of c.args.self.now + cell_count v.size ≤ MOST_CELLS) (sym c.part.view_is)
    (subst (λ (more : List Size). count_of c.args.self.now + count_from c.args.part.now.size more ≤ MOST_CELLS) c.requires.one c.requires.room)) in
    let part : IsBuffer other.size [] me.k other.bytes.items =
    subst (λ k. IsBuffer other.size [] k other.bytes.items) k (subst (λ (more : List Size). IsBuffer other.size more other.k other.bytes.items) one c.part.invariant) in
    let items : c.extend_from_slice.new.self.items ≡ me.bytes.items ++ other.bytes.items = (c.in_ok-extend_from_slice.ensures {u = tt}).items ∙ ap (λ xs. me.bytes.items ++ xs) c.deref.ensures.value in
    subst (λ (more : List Size). IsBuffer me.size more me.k c.extend_from_slice.new.self.items) (sym c.push.ensures)
    (subst (IsBuffer me.size (me.more ++ other.size ∷ []) me.k) (sym items) (buffer_joined me.size me.more me.k me.bytes.items other.size other.bytes.items c.self.invariant part few room))

pub returns-clause-ok : goal.returns-clause-ok
returns-clause-ok c =
    let me = c.self.inside in
    let other = c.part.inside in
    let one : other.more ≡ [] = subst IsOnePart (sym c.part.view_is) c.requires.one in
    let k : other.k ≡ me.k = ap (λ (v : Cells). v.k) c.part.view_is ∙ c.requires.samples ∙ ap (λ (v : Cells). v.k) (sym c.self.view_is) in
    let items : c.extend_from_slice.new.self.items ≡ me.bytes.items ++ other.bytes.items = (c.in_ok-extend_from_slice.ensures {u = tt}).items ∙ ap (λ xs. me.bytes.items ++ xs) c.deref.ensures.value in
    let same : volume_of other.size me.k other.bytes.items ≡ c.args.part.now =
    ap (λ k. volume_of other.size k other.bytes.items) (sym k) ∙ ap (λ (more : List Size). volume_over other.size more other.k other.bytes.items) (sym one) ∙ c.part.view_is in
    ap (λ (more : List Size). volume_over me.size more me.k c.extend_from_slice.new.self.items) c.push.ensures
    ∙ ap (volume_over me.size (me.more ++ other.size ∷ []) me.k) items
    ∙ volume_joined me.size me.more me.k me.bytes.items other.size other.bytes.items c.self.invariant.whole
    ∙ ap (λ (v : Cells). with_part v (volume_of other.size me.k other.bytes.items)) c.self.view_is
    ∙ ap (with_part c.args.self.now) same

pub returns-clause-parts : goal.returns-clause-parts
returns-clause-parts c =
    let me = c.self.inside in
    let count : length c.args.self.now.cells ≡ count_from c.args.self.now.size c.args.self.now.more =
    subst (λ (v : Cells). length v.cells ≡ count_from v.size v.more) c.self.view_is (length-cells_of me.k (count_from me.size me.more) me.bytes.items) in
    ap parts_of (returns-clause-ok c) ∙ joined_parts c.args.self.now c.args.part.now count c.requires.one c.requires.samples

pub invariant_of-self : goal.invariant_of-self
invariant_of-self c = grind (arith, common_steps)

pub push-requires : goal.push-requires
push-requires c = grind (arith, common_steps)
