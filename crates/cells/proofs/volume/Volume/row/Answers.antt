use Rattle.std.proofs.Common.{arith}
use Rattle.std.proofs.lemmas.Grind.{common_steps}
use Rattle.std.proofs.Common.{◌≡◌, ◌≤◌, ◌+◌, ◌*◌, ap, sym, ◌∙◌, subst, length, take, drop}
use Rattle.std.specs.Prelude.{Some}
use Rattle.cells.specs.Parts.{index_from}
use Rattle.cells.specs.Cells.{Cells, HasRun, index_of, row_at}
use Rattle.cells.proofs.Buffering.{fits_run, row_of}
use Rattle.cells.proofs.PartBoxes.{run_of_volume}
use Rattle.cells.proofs.volume.Volume.row.Goals as goal

pub piece_of-requires : goal.piece_of-requires
piece_of-requires c =
    let at : index_from c.self.inside.size c.self.inside.more c.args.at ≡ Some c.unwrap-i.result =
    subst (λ (v : Cells). index_of v c.args.at ≡ Some c.unwrap-i.result) (sym c.self.view_is) (sym c.index_of.ensures.index ∙ c.unwrap-i.ensures) in
    let run = subst (λ (v : Cells). HasRun v c.args.at c.args.w) (sym c.self.view_is) c.requires in
    subst (λ bytes. c.self.inside.k * c.unwrap-i.result + c.self.inside.k * c.args.w ≤ length bytes) (sym c.deref.ensures.value)
    (fits_run c.self.inside.size c.self.inside.more c.self.inside.k c.self.inside.bytes.items c.unwrap-i.result c.args.w c.self.invariant (run_of_volume _ c.args.at c.unwrap-i.result c.args.w at run))

pub returns-clause-bytes : goal.returns-clause-bytes
returns-clause-bytes c =
    let at : index_from c.self.inside.size c.self.inside.more c.args.at ≡ Some c.unwrap-i.result =
    subst (λ (v : Cells). index_of v c.args.at ≡ Some c.unwrap-i.result) (sym c.self.view_is) (sym c.index_of.ensures.index ∙ c.unwrap-i.ensures) in
    let run = subst (λ (v : Cells). HasRun v c.args.at c.args.w) (sym c.self.view_is) c.requires in
    c.piece_of.ensures.piece ∙ ap (λ bytes. take (c.self.inside.k * c.args.w) (drop (c.self.inside.k * c.unwrap-i.result) bytes)) c.deref.ensures.value
    ∙ row_of c.self.inside.size c.self.inside.more c.self.inside.k c.self.inside.bytes.items c.args.at c.unwrap-i.result c.args.w c.self.invariant at (run_of_volume _ c.args.at c.unwrap-i.result c.args.w at run)
    ∙ ap (λ (v : Cells). row_at v c.args.at c.args.w) c.self.view_is

pub returns-clause-len : goal.returns-clause-len
returns-clause-len c = c.piece_of.ensures.len ∙ ap (λ (v : Cells). v.k * c.args.w) c.self.view_is

pub overflow_mul-k : goal.overflow_mul-k
overflow_mul-k c = grind (arith, common_steps)

pub overflow_mul-k-2 : goal.overflow_mul-k-2
overflow_mul-k-2 c = grind (arith, common_steps)
