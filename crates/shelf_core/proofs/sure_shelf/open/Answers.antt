use Rattle.std.proofs.lemmas.Grind.{common_steps}
use Rattle.std.proofs.Common.{sym, ap, subst, arith, Bool, List, [], ◌∷◌, ◌++◌, ℕ, get_or}
use Rattle.std.proofs.Math.ListN.{set}
use Rattle.shelf_core.specs.Tapes.{TapeState}
use Rattle.shelf_core.specs.SureStates.{HasNamesOnce, Opens}
use Rattle.shelf_core.proofs.SureLaws.{nothing, new_passes, sized_cleared, opens_cleared, opens_kept, sized_new, opens_new}
use Rattle.shelf_core.proofs.sure_shelf.open.Goals as goal

pub returns-then-name-free-clause-passed : goal.returns-then-name-free-clause-passed
returns-then-name-free-clause-passed c = new_passes c.args.tape.now.room c.args.name.now c.args.tape.now.files (sym (c.in-None.ensures {u = tt})) c.requires (omega (arith, c.free.ensures))

pub returns-then-not-keeps-clause-sized : goal.returns-then-not-keeps-clause-sized
returns-then-not-keeps-clause-sized c =
    let P : List (List ℕ × List ℕ) → Type 0 = λ files. HasNamesOnce files in
    subst P (sym (ap (λ (t : TapeState). t.files) c.clear.ensures)) (sized_cleared c.args.name.now c.args.tape.now.files c.in-Some.i (sym (c.in-Some.ensures {u = tt})) c.requires)

pub returns-then-not-keeps-clause-opened : goal.returns-then-not-keeps-clause-opened
returns-then-not-keeps-clause-opened c =
    let P : List (List ℕ × List ℕ) → Type 0 = λ files. Opens c.args.tape.now.files files c.args.name.now c.args.keeps c.in-Some.i in
    let Q : Bool → Type 0 = λ keeps. Opens c.args.tape.now.files (set c.args.tape.now.files c.in-Some.i ((get_or c.args.tape.now.files c.in-Some.i nothing).0, [])) c.args.name.now keeps c.in-Some.i in
    subst P (sym (ap (λ (t : TapeState). t.files) c.clear.ensures)) (subst Q (sym c.if-not-keeps.true) (opens_cleared c.args.name.now c.args.tape.now.files c.in-Some.i (sym (c.in-Some.ensures {u = tt}))))

pub returns-else-not-keeps-clause-opened : goal.returns-else-not-keeps-clause-opened
returns-else-not-keeps-clause-opened c =
    let Q : Bool → Type 0 = λ keeps. Opens c.args.tape.now.files c.args.tape.now.files c.args.name.now keeps c.in-Some.i in
    subst Q (sym c.if-not-keeps.false) (opens_kept c.args.name.now c.args.tape.now.files c.in-Some.i (sym (c.in-Some.ensures {u = tt})))

pub returns-else-name-free-clause-sized : goal.returns-else-name-free-clause-sized
returns-else-name-free-clause-sized c =
    let P : List (List ℕ × List ℕ) → Type 0 = λ files. HasNamesOnce files in
    subst P (sym (ap (λ (t : TapeState). t.files) c.push.ensures.files)) (sized_new c.args.name.now c.args.tape.now.files (sym (c.in-None.ensures {u = tt})) c.requires)

pub returns-else-name-free-clause-opened : goal.returns-else-name-free-clause-opened
returns-else-name-free-clause-opened c =
    let P : List (List ℕ × List ℕ) → Type 0 = λ files. Opens c.args.tape.now.files files c.args.name.now c.args.keeps c.push.result in
    let Q : ℕ → Type 0 = λ i. Opens c.args.tape.now.files (c.args.tape.now.files ++ (c.args.name.now, []) ∷ []) c.args.name.now c.args.keeps i in
    subst P (sym (ap (λ (t : TapeState). t.files) c.push.ensures.files)) (subst Q (sym c.push.ensures.place) (opens_new c.args.name.now c.args.keeps c.args.tape.now.files (sym (c.in-None.ensures {u = tt}))))

pub clear-requires : goal.clear-requires
clear-requires c = grind (arith, common_steps)

pub returns-else-name-free-clause-room : goal.returns-else-name-free-clause-room
returns-else-name-free-clause-room c = grind (arith, common_steps)

pub returns-then-not-keeps-clause-room : goal.returns-then-not-keeps-clause-room
returns-then-not-keeps-clause-room c = grind (arith, common_steps)
