use Rattle.std.proofs.lemmas.Grind.{common_steps}
use Rattle.std.proofs.Common.{sym, ap, ◌∙◌, subst, arith, List, ℕ, le-leb}
use Rattle.std.proofs.lemmas.Bool.{lt-leb}
use Rattle.shelf_core.specs.Tapes.{TapeState}
use Rattle.shelf_core.specs.Entries.{map_of}
use Rattle.shelf_core.specs.SureStates.{HasNamesOnce}
use Rattle.shelf_core.proofs.SureLaws.{passes, stored, sized_stored, size_stored}
use Rattle.shelf_core.proofs.sure_shelf.store.Goals as goal

pub returns-in_default-clause-fits : goal.returns-in_default-clause-fits
returns-in_default-clause-fits c = sym (lt-leb _ _ (passes c.args.tape.now.room (map_of c.args.tape.now.files) c.args.name.now _ (c.in_default.ensures {u = tt}).passed))

pub returns-then-piece-free-clause-fits : goal.returns-then-piece-free-clause-fits
returns-then-piece-free-clause-fits c =
    sym (lt-leb _ _ (omega (arith, size_stored c.args.tape.now.files c.open.new.tape.files c.args.name.now c.args.piece.now c.args.keeps c.in-Some.i (c.in-Some.ensures {u = tt}).opened c.open.ensures.sized, c.free.ensures, c.open.ensures.room)))

pub returns-clause-sized : goal.returns-clause-sized
returns-clause-sized c =
    let P : List (List ℕ × List ℕ) → Type 0 = λ files. HasNamesOnce files in
    subst P (sym (ap (λ (t : TapeState). t.files) c.append.ensures))
    (sized_stored c.open.new.tape.files c.args.name.now c.args.piece.now c.in-Some.i (c.in-Some.ensures {u = tt}).opened.at c.open.ensures.sized)

pub returns-clause-fits : goal.returns-clause-fits
returns-clause-fits c =
    sym (le-leb _ _ (omega (arith, size_stored c.args.tape.now.files c.open.new.tape.files c.args.name.now c.args.piece.now c.args.keeps c.in-Some.i (c.in-Some.ensures {u = tt}).opened c.open.ensures.sized, c.free.ensures, c.open.ensures.room)))

pub returns-clause-stored : goal.returns-clause-stored
returns-clause-stored c =
    ap (λ (t : TapeState). map_of t.files) c.append.ensures
    ∙ stored c.args.tape.now.files c.open.new.tape.files c.args.name.now c.args.piece.now c.args.keeps c.in-Some.i (c.in-Some.ensures {u = tt}).opened

pub append-requires-clause-within : goal.append-requires-clause-within
append-requires-clause-within c = grind (arith, common_steps)

pub returns-clause-room : goal.returns-clause-room
returns-clause-room c = grind (arith, common_steps)
