use Rattle.std.proofs.Common.{arith}
use Rattle.std.proofs.lemmas.Grind.{common_steps}
use Rattle.std.proofs.Common.{◌≡◌, sym, ap, ◌∙◌, cond}
use Rattle.std.specs.Prelude.{Some, None, position, option_copied, option_and_then}
use Rattle.std.specs.FinMap.{get}
use Rattle.shelf_traits.specs.Files.{Files}
use Rattle.shelf_core.specs.Tapes.{has_name}
use Rattle.shelf_core.specs.Entries.{map_of}
use Rattle.shelf_core.specs.SureStates.{SureShelfState}
use Rattle.shelf_core.proofs.SureLaws.{file_found, file_missing}
use Rattle.shelf_core.proofs.sure_shelf.SureShelf.file.Goals as goal

pub returns-in_err-i : goal.returns-in_err-i
returns-in_err-i c =
    let files : Files = map_of c.self.inside.tape.files in
    let told : c.args.self.now.files ≡ Some files = sym (ap (λ (s : SureShelfState). s.files) c.self.view_is) ∙ ap (λ b. cond b (Some files) None) c.if-not-self.false in
    let missing = file_missing c.args.name.now c.self.inside.tape.files (ap (λ name. position (has_name name) c.self.inside.tape.files) (sym c.as_bytes.ensures.value) ∙ sym (c.in_err-i.ensures {u = tt})) in
    ap option_copied c.from_residual.ensures ∙ sym (ap (option_and_then (λ (m : Files). get m c.args.name.now)) told ∙ missing)

pub returns : goal.returns
returns c =
    let files : Files = map_of c.self.inside.tape.files in
    let told : c.args.self.now.files ≡ Some files = sym (ap (λ (s : SureShelfState). s.files) c.self.view_is) ∙ ap (λ b. cond b (Some files) None) c.if-not-self.false in
    let there = file_found c.args.name.now c.self.inside.tape.files c.in_ok-i.i (ap (λ name. position (has_name name) c.self.inside.tape.files) (sym c.as_bytes.ensures.value) ∙ sym (c.in_ok-i.ensures {u = tt})) in
    ap Some c.content.ensures ∙ sym (ap (option_and_then (λ (m : Files). get m c.args.name.now)) told ∙ there)

pub content-requires : goal.content-requires
content-requires c = grind (arith, common_steps)
