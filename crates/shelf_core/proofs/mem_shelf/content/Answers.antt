use Rattle.std.proofs.Common.{arith}
use Rattle.std.proofs.lemmas.Grind.{common_steps}
use Rattle.std.proofs.Common.{ap, sym, ◌∙◌}
use Rattle.std.specs.Prelude.{Some, option_copied}
use Rattle.shelf_core.specs.declared.mem_shelf.MemFile.{MemFile}
use Rattle.shelf_core.proofs.EntryLaws.{found, missing}
use Rattle.shelf_core.proofs.mem_shelf.content.Goals as goal

pub returns-in_err-i : goal.returns-in_err-i
returns-in_err-i c = ap option_copied c.from_residual.ensures ∙ sym (missing c.args.name.now c.args.files.now (sym (c.in_err-i.ensures {u = tt})))

pub returns : goal.returns
returns c =
    ap Some c.as_slice.ensures ∙ ap (λ (f : MemFile). Some f.bytes) (sym c.index-files-i.is)
    ∙ sym (found c.args.name.now c.index-files-i.result c.args.files.now c.in_ok-i.i (sym (c.in_ok-i.ensures {u = tt})) c.index-files-i.is)

pub bounds-files-i : goal.bounds-files-i
bounds-files-i c = grind (arith, common_steps)

pub offset_bounds-files-i : goal.offset_bounds-files-i
offset_bounds-files-i c = grind (arith, common_steps)
