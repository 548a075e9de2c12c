use Rattle.std.proofs.Common.{ap, sym, ◌∙◌, List, refl}
use Rattle.std.specs.Prelude.{position}
use Rattle.shelf_core.specs.declared.mem_shelf.MemFile.{MemFile}
use Rattle.shelf_core.proofs.EntryLaws.{put_over, put_behind}
use Rattle.shelf_core.specs.Entries.{files_of, is_named}
use Rattle.shelf_core.proofs.mem_shelf.put.Goals as goal

pub returns-in-Some-clause-ok : goal.returns-in-Some-clause-ok
returns-in-Some-clause-ok c = put_over c.args.name.now c.args.bytes c.index_mut.result.now _ c.args.files.now.items c.in-Some.i
    (ap (λ (l : List MemFile). position (is_named c.args.name.now) l) (sym c.deref.ensures.value) ∙ sym (c.in-Some.ensures {u = tt})) c.index_mut.ensures.value refl refl

pub returns-in_ok-push-in-None-clause-ok : goal.returns-in_ok-push-in-None-clause-ok
returns-in_ok-push-in-None-clause-ok c = ap files_of (c.in_ok-push-in-None.ensures {u = tt}).items ∙ put_behind c.args.name.now c.args.bytes _ c.args.files.now.items
    (ap (λ (l : List MemFile). position (is_named c.args.name.now) l) (sym c.deref.ensures.value) ∙ sym (c.in-None.ensures {u = tt})) c.in_ok-name-in-None.ensures refl
