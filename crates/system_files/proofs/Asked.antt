-- What was opened was asked for, and stays so.
use Rattle.std.proofs.Common.{◌≡◌, ℕ, List, [], ◌∷◌, refl, sym, subst, ap, ◌∙◌, Bool, true, false, cond, nat_eq}
use Rattle.std.proofs.Math.Bool.{not, ◌||◌}
use Rattle.std.proofs.lemmas.Cmp.{nat_list_eq_equiv}
use Rattle.std.proofs.lemmas.List.Folds.{list_any-append}
use Rattle.std.specs.Cmp.Lexicographic.{pointwise, same_text}
use Rattle.std.specs.List.{list_any}
use Rattle.shelf_traits.specs.Files.{is_one_of}
use Rattle.system_calls.specs.Calls.{Noted, Opened, Held, Read, Begun, Added, Said, OpensOnly, opens_beside}
use Rattle.system_files.specs.Replays.{AreAskedFor, asked_by, names_asked}

either : (b : Bool) → (b || true) ≡ true
either true = refl
either false = refl

-- the name of a call is among those of the calls
its_own : (name : List ℕ) (c : Noted) (earlier : List Noted) → asked_by c ≡ name ∷ []
    → is_one_of (names_asked (c ∷ earlier)) name ≡ true
its_own name c earlier is =
    list_any-append (pointwise nat_eq name) (names_asked earlier) (asked_by c)
    ∙ ap (λ names. list_any (pointwise nat_eq name) (names_asked earlier) || list_any (pointwise nat_eq name) names) is
    ∙ ap (λ (b : Bool). list_any (pointwise nat_eq name) (names_asked earlier) || (b || false)) (nat_list_eq_equiv.refl name)
    ∙ either (list_any (pointwise nat_eq name) (names_asked earlier))

still : (name : List ℕ) (c : Noted) (earlier : List Noted) → is_one_of (names_asked earlier) name ≡ true
    → is_one_of (names_asked (c ∷ earlier)) name ≡ true
still name c earlier is =
    list_any-append (pointwise nat_eq name) (names_asked earlier) (asked_by c)
    ∙ ap (λ (b : Bool). b || list_any (pointwise nat_eq name) (asked_by c)) is

later : (opens : List Noted) (c : Noted) (earlier : List Noted) → AreAskedFor opens earlier → AreAskedFor opens (c ∷ earlier)
later [] c earlier are = tt
later (Opened opening name answered ∷ opens) c earlier are = (still name c earlier are.0, later opens c earlier are.1)
later (Held answered ∷ opens) c earlier are = later opens c earlier are
later (Read name place asked came ∷ opens) c earlier are = later opens c earlier are
later (Begun name done ∷ opens) c earlier are = later opens c earlier are
later (Added name piece done ∷ opens) c earlier are = later opens c earlier are
later (Said piece done ∷ opens) c earlier are = later opens c earlier are

fewer : (b : Bool) (c : Noted) (rest calls : List Noted) → AreAskedFor (c ∷ rest) calls → AreAskedFor rest calls → AreAskedFor (cond b (c ∷ rest) rest) calls
fewer true c rest calls all others = all
fewer false c rest calls all others = others

-- the opens beside those of a name are some of all
beside : (name : List ℕ) (opens calls : List Noted) → AreAskedFor opens calls → AreAskedFor (opens_beside name opens) calls
unfolding opens_beside
beside name [] calls are = tt
beside name (Opened opening its answered ∷ opens) calls are =
    fewer (not (pointwise nat_eq its name)) (Opened opening its answered) (opens_beside name opens) calls (are.0, beside name opens calls are.1) (beside name opens calls are.1)
beside name (Held answered ∷ opens) calls are = beside name opens calls are
beside name (Read its place asked came ∷ opens) calls are = beside name opens calls are
beside name (Begun its done ∷ opens) calls are = beside name opens calls are
beside name (Added its piece done ∷ opens) calls are = beside name opens calls are
beside name (Said piece done ∷ opens) calls are = beside name opens calls are

-- and where the name was asked for, all are as they are
whole : (name : List ℕ) (opens calls : List Noted) → is_one_of (names_asked calls) name ≡ true → AreAskedFor (opens_beside name opens) calls → AreAskedFor opens calls
unfolding opens_beside
whole name [] calls is are = tt
whole name (Opened opening its answered ∷ opens) calls is are = by (pointwise nat_eq its name) refl are (whole name opens calls is)
  where
    by : (b : Bool) → b ≡ pointwise nat_eq its name → AreAskedFor (cond (not b) (Opened opening its answered ∷ opens_beside name opens) (opens_beside name opens)) calls
        → (AreAskedFor (opens_beside name opens) calls → AreAskedFor opens calls) → AreAskedFor (Opened opening its answered ∷ opens) calls
    by true same those others = (subst (λ one. is_one_of (names_asked calls) one ≡ true) (sym (same_text its name same)) is, others those)
    by false other those others = (those.0, others those.1)
whole name (Held answered ∷ opens) calls is are = whole name opens calls is are
whole name (Read its place asked came ∷ opens) calls is are = whole name opens calls is are
whole name (Begun its done ∷ opens) calls is are = whole name opens calls is are
whole name (Added its piece done ∷ opens) calls is are = whole name opens calls is are
whole name (Said piece done ∷ opens) calls is are = whole name opens calls is are

-- a call for a name opened files of this name alone
pub asked_after : (name : List ℕ) (c : Noted) (was now earlier calls : List Noted) → asked_by c ≡ name ∷ []
    → OpensOnly name was now → AreAskedFor was earlier → calls ≡ c ∷ earlier → AreAskedFor now calls
asked_after name c was now earlier calls its only are is = subst (AreAskedFor now) (sym is) (
    whole name now (c ∷ earlier) (its_own name c earlier its)
    (subst (λ opens. AreAskedFor opens (c ∷ earlier)) (sym only) (beside name was (c ∷ earlier) (later was c earlier are)))
    )
