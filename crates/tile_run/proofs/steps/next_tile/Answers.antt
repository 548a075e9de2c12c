use Rattle.std.proofs.Common.{refl, sym, ◌∙◌, subst}
use Rattle.std.proofs.lemmas.Result.{err_from_is_err_and}
use Rattle.std.specs.Prelude.{IsSome}
use Rattle.tile_run.proofs.steps.next_tile.Goals as goal

pub returns-in_err-sums-clause-tiles : goal.returns-in_err-sums-clause-tiles
returns-in_err-sums-clause-tiles c =
    let p = err_from_is_err_and c.from_residual.result c.from_residual.ensures.1 in
    rw p.1 (subst IsSome (sym (sym c.first_unfilled.ensures.first ∙ c.in-Some.is)) refl, refl)

pub next_tile_with-requires-clause-wide : goal.next_tile_with-requires-clause-wide
next_tile_with-requires-clause-wide c = c.requires.wide
