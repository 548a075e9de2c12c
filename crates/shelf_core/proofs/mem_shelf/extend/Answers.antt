use Rattle.std.proofs.Common.{arith}
use Rattle.std.proofs.lemmas.Grind.{common_steps}
-- The piece comes after the bytes that were found, or in a file of its own where none was.
use Rattle.std.proofs.Common.{ap, sym, ◌∙◌, refl}
use Rattle.std.specs.Prelude.{List, position, Result, Ok, Err, OnOk}
use Rattle.std.specs.declared.alloc.AllocError.{AllocError}
use Rattle.shelf_core.specs.declared.mem_shelf.MemFile.{MemFile}
use Rattle.shelf_core.proofs.EntryLaws.{added_over, added_behind}
use Rattle.shelf_core.specs.Entries.{files_of, is_named}
use Rattle.shelf_core.proofs.mem_shelf.extend.Goals as goal

pub returns-in-Some-clause-ok : goal.returns-in-Some-clause-ok
returns-in-Some-clause-ok c = ok_then c.extend.result c.extend.ensures.ok (λ grown.
    added_over c.args.name.now c.args.piece.now c.index_mut.result.now _ c.args.files.now.items c.in-Some.i
    (ap (λ (l : List MemFile). position (is_named c.args.name.now) l) (sym c.deref.ensures.value) ∙ sym (c.in-Some.ensures {u = tt})) c.index_mut.ensures.value refl grown)
  where
    ok_then : {P Q : Type 0} (r : Result (Unit {0}) AllocError) → OnOk r P → (P → Q) → OnOk r Q
    ok_then (Ok u) p step = step p
    ok_then (Err e) p step = tt

pub returns-in_ok-push-in-None-clause-ok : goal.returns-in_ok-push-in-None-clause-ok
returns-in_ok-push-in-None-clause-ok c = ap files_of (c.in_ok-push-in-None.ensures {u = tt}).items ∙ added_behind c.args.name.now c.args.piece.now _ c.args.files.now.items
    (ap (λ (l : List MemFile). position (is_named c.args.name.now) l) (sym c.deref.ensures.value) ∙ sym (c.in-None.ensures {u = tt})) c.in_ok-name-in-None.ensures c.in_ok-bytes-in-None.ensures

pub returns-in-Some-clause-err : goal.returns-in-Some-clause-err
returns-in-Some-clause-err c = grind (arith, common_steps)
