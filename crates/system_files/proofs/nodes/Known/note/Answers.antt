use Rattle.std.proofs.Common.{◌≡◌, ◌++◌, ◌∷◌, [], true, false, ap, sym, ◌∙◌}
use Rattle.std.specs.Prelude.{Bool, not, if◌then◌else◌}
use Rattle.std.specs.List.{list_any}
use Rattle.system_files.specs.Nodes.{is_fresh, is_known, same_file, with_file}
use Rattle.system_files.proofs.nodes.Known.note.Goals as goal

pub returns-then-contains-clause-ok : goal.returns-then-contains-clause-ok
returns-then-contains-clause-ok c =
    let was = c.args.self.now in
    let node = c.in-Some.node in
    let known : is_known was node ≡ true = sym (◌∙◌ {A = Bool} c.contains.ensures.value (ap (list_any (λ it. same_file it node)) (c.as_slice.ensures.value ∙ c.self.view_is))) ∙ c.if-contains.true in
    record {
      answer = sym (ap (is_fresh was) c.in-Some.is ∙ ap not known);
      known = sym (ap (with_file was) c.in-Some.is ∙ ap (λ b. if b then was else was ++ node ∷ []) known);
    }

pub returns-clause-ok : goal.returns-clause-ok
returns-clause-ok c =
    let was = c.args.self.now in
    let node = c.in-Some.node in
    let known : is_known was node ≡ false = sym (◌∙◌ {A = Bool} c.contains.ensures.value (ap (list_any (λ it. same_file it node)) (c.as_slice.ensures.value ∙ c.self.view_is))) ∙ c.if-contains.false in
    record {
      answer = sym (ap (is_fresh was) c.in-Some.is ∙ ap not known);
      known = c.in_ok-push.ensures.items ∙ ap (λ l. l ++ node ∷ []) c.self.view_is ∙ sym (ap (with_file was) c.in-Some.is ∙ ap (λ b. if b then was else was ++ node ∷ []) known);
    }
