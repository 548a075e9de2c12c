-- An open of a name is none of the calls beside those.
use Rattle.std.proofs.Common.{◌≡◌, ℕ, Bool, List, ◌∷◌, ap, ◌∙◌, cond}
use Rattle.std.specs.Prelude.{not, filter}
use Rattle.std.proofs.lemmas.Cmp.{nat_list_eq_equiv}
use Rattle.system_calls.specs.declared.call.Opening.{Opening}
use Rattle.system_calls.specs.Calls.{Noted, Opened, OpensOnly, is_open_of, opens_beside}

pub opens_one : (opening : Opening) (name : List ℕ) (answered : Bool) (was now : List Noted)
    → now ≡ Opened opening name answered ∷ was → OpensOnly name was now
unfolding opens_beside
opens_one opening name answered was now is =
    ap (filter (λ c. not (is_open_of name c))) is
    ∙ ap (λ (b : Bool). cond (not b) (Opened opening name answered ∷ opens_beside name was) (opens_beside name was)) (nat_list_eq_equiv.refl name)
