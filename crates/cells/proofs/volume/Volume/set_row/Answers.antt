use Rattle.std.proofs.lemmas.Grind.{common_steps}
use Rattle.std.proofs.Common.{◌≡◌, ◌≤◌, ◌+◌, ◌*◌, ◌++◌, ap, sym, ◌∙◌, subst, length, take, drop, arith}
use Rattle.std.specs.Prelude.{Some}
use Rattle.std.proofs.lemmas.List.{with_items_is}
use Rattle.cells.specs.Parts.{index_from}
use Rattle.cells.specs.Cells.{Cells, HasRun, cells_of, index_of, put_row, volume_over}
use Rattle.cells.proofs.Buffering.{fits_run}
use Rattle.cells.proofs.PartBoxes.{run_of_volume}
use Rattle.cells.proofs.Rows.{put_row_of}
use Rattle.cells.proofs.volume.Volume.set_row.Goals as goal

pub put_at-requires : goal.put_at-requires
put_at-requires c =
    let size = c.self.inside.size in
    let more = c.self.inside.more in
    let k = c.self.inside.k in
    let i = c.unwrap-first.result in
    let at : index_from size more c.args.at ≡ Some i =
    subst (λ (v : Cells). index_of v c.args.at ≡ Some i) (sym c.self.view_is) (sym c.index_of.ensures.index ∙ c.unwrap-first.ensures) in
    let run = subst (λ (v : Cells). HasRun v c.args.at c.args.w) (sym c.self.view_is) c.requires.run in
    let long : length c.args.bytes.now ≡ k * c.args.w = c.requires.samples ∙ ap (λ (v : Cells). v.k * c.args.w) (sym c.self.view_is) in
    subst (λ bytes. k * i + length c.args.bytes.now ≤ length bytes) (sym c.deref_mut.ensures.value)
    (subst (λ n. k * i + n ≤ length c.self.inside.bytes.items) (sym long)
    (fits_run size more k c.self.inside.bytes.items i c.args.w c.self.invariant (run_of_volume _ c.args.at i c.args.w at run)))

pub returns : goal.returns
returns c =
    let size = c.self.inside.size in
    let more = c.self.inside.more in
    let k = c.self.inside.k in
    let i = c.unwrap-first.result in
    let at : index_from size more c.args.at ≡ Some i =
    subst (λ (v : Cells). index_of v c.args.at ≡ Some i) (sym c.self.view_is) (sym c.index_of.ensures.index ∙ c.unwrap-first.ensures) in
    let run = subst (λ (v : Cells). HasRun v c.args.at c.args.w) (sym c.self.view_is) c.requires.run in
    let long : length c.args.bytes.now ≡ k * c.args.w = c.requires.samples ∙ ap (λ (v : Cells). v.k * c.args.w) (sym c.self.view_is) in
    ap (volume_over size more k) (with_items_is c.self.inside.bytes c.put_at.new.bytes (omega arith)
    ∙ c.put_at.ensures ∙ ap (λ bytes. take (k * i) bytes ++ c.args.bytes.now ++ drop (k * i + length c.args.bytes.now) bytes) c.deref_mut.ensures.value)
    ∙ put_row_of size more k c.self.inside.bytes.items c.args.bytes.now c.args.at i c.args.w c.self.invariant at (run_of_volume _ c.args.at i c.args.w at run) long
    ∙ ap (λ (v : Cells). put_row v c.args.at (cells_of v.k c.args.w c.args.bytes.now)) c.self.view_is

pub invariant_of-self : goal.invariant_of-self
invariant_of-self c = grind (arith, common_steps)
