-- Picks by errors that are the same for each candidate are the same.
use Rattle.std.proofs.Common.{◌≡◌, ℕ, cond, List, [], ◌∷◌, map, refl, ap, sym, ◌∙◌, subst}
use Rattle.std.proofs.lemmas.List.Elements.{All-contains, All-head, All-tail}
use Rattle.std.specs.Prelude.{All, Option}
use Rattle.map_canvas.specs.declared.canvas.Placement.{Placement}
use Rattle.match_error.specs.declared.error.Error.{Error}
use Rattle.patch_picks.specs.Draws.{DrawState}
use Rattle.patch_picks.specs.Picks.{IsBest, IsPick, NoneIsFilled, is_eligible, near}

module _ (error other : Placement → Error) where
  abbrev Same : Placement → Type 0
  Same placement = error placement ≡ other placement

  maps : (list : List Placement) → All Same list → map error list ≡ map other list
  maps [] all = refl
  maps (p ∷ list) all = λ i. All-head Same p list all i ∷ maps list (All-tail Same p list all) i

  nears : (tol : ℕ) (best : Error) (list : List Placement) → All Same list → near error tol best list ≡ near other tol best list
  nears tol best [] all = refl
  nears tol best (p ∷ list) all =
      let rest = nears tol best list (All-tail Same p list all) in
      λ i. cond (is_eligible tol best (All-head Same p list all i)) (p ∷ rest i) (rest i)

  pub same_pick : (tol : Option ℕ) (list : List Placement) (draws : DrawState) (picked : Placement) → All Same list → IsPick error tol list draws picked → IsPick other tol list draws picked
  same_pick tol list draws picked all is =
      let none : NoneIsFilled other list → NoneIsFilled error list = λ unfilled candidate has. ap (λ (e : Error). e.count) (All-contains Same list candidate all has) ∙ unfilled candidate has in
      record {
        eligible = is.eligible;
        are = record {
          all_alike = is.are.all_alike;
          none_filled = λ unfilled. is.are.none_filled (none unfilled);
          near_best = λ t e best b. is.are.near_best t e best (subst (λ errors. IsBest errors best) (sym (maps list all)) b) ∙ nears t best list all;
        };
        drawn = is.drawn;
      }
