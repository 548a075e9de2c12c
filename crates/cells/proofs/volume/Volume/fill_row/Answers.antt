use Rattle.std.proofs.lemmas.Grind.{common_steps}
use Rattle.std.proofs.Common.{◌≡◌, ◌≤◌, ◌+◌, ◌*◌, ap, sym, ◌∙◌, subst, length, replicate, arith}
use Rattle.std.specs.Prelude.{Some}
use Rattle.std.proofs.lemmas.List.{length-replicate, with_items_is}
use Rattle.cells.specs.Parts.{index_from}
use Rattle.cells.specs.Cells.{Cells, HasRun, index_of, put_row, put_run, volume_over}
use Rattle.cells.proofs.Buffering.{fits_run}
use Rattle.cells.proofs.PartBoxes.{run_of_volume}
use Rattle.cells.proofs.Rows.{cells_of-same, put_row_of}
use Rattle.cells.proofs.volume.Volume.fill_row.Goals as goal

pub fill_at-requires : goal.fill_at-requires
fill_at-requires c =
    let at : index_from c.self.inside.size c.self.inside.more c.args.at ≡ Some c.unwrap-first.result =
    subst (λ (v : Cells). index_of v c.args.at ≡ Some c.unwrap-first.result) (sym c.self.view_is) (sym c.index_of.ensures.index ∙ c.unwrap-first.ensures) in
    let run = subst (λ (v : Cells). HasRun v c.args.at c.args.w) (sym c.self.view_is) c.requires.run in
    subst (λ bytes. c.self.inside.k * c.unwrap-first.result + c.self.inside.k * c.args.w ≤ length bytes) (sym c.deref_mut.ensures.value)
    (fits_run c.self.inside.size c.self.inside.more c.self.inside.k c.self.inside.bytes.items c.unwrap-first.result c.args.w c.self.invariant (run_of_volume _ c.args.at c.unwrap-first.result c.args.w at run))

pub returns : goal.returns
returns c =
    let size = c.self.inside.size in
    let more = c.self.inside.more in
    let k = c.self.inside.k in
    let i = c.unwrap-first.result in
    let w = c.args.w in
    let piece = replicate (k * w) c.args.byte in
    let at : index_from size more c.args.at ≡ Some i =
    subst (λ (v : Cells). index_of v c.args.at ≡ Some i) (sym c.self.view_is) (sym c.index_of.ensures.index ∙ c.unwrap-first.ensures) in
    let run = subst (λ (v : Cells). HasRun v c.args.at w) (sym c.self.view_is) c.requires.run in
    let long : length piece ≡ k * w = length-replicate (k * w) c.args.byte in
    ap (volume_over size more k) (with_items_is c.self.inside.bytes c.fill_at.new.bytes (omega arith)
    ∙ c.fill_at.ensures ∙ ap (λ bytes. put_run bytes (Some (k * i)) piece) c.deref_mut.ensures.value)
    ∙ put_row_of size more k c.self.inside.bytes.items piece c.args.at i w c.self.invariant at (run_of_volume _ c.args.at i w at run) long
    ∙ ap (λ cells. put_row (volume_over size more k c.self.inside.bytes.items) c.args.at cells) (cells_of-same k w (k * w) c.args.byte (omega arith))
    ∙ ap (λ (v : Cells). put_row v c.args.at (replicate w (replicate v.k c.args.byte))) c.self.view_is

pub invariant_of-self : goal.invariant_of-self
invariant_of-self c = grind (arith, common_steps)
