use Rattle.std.proofs.lemmas.Grind.{common_steps}
use Rattle.std.proofs.Common.{ap, length, inr, subst, ◌∙◌, arith}
use Rattle.std.specs.List.{count_by}
use Rattle.patch_place.specs.Tables.{IsNth, is_near}
use Rattle.patch_place.proofs.Shortlists.{near_pick, some_near}
use Rattle.patch_place.proofs.shortlist.Shortlist.picked.Goals as goal

pub near_count-requires-clause-few : goal.near_count-requires-clause-few
near_count-requires-clause-few c = omega (arith, ap length c.deref.ensures.value, c.requires.sound.few, c.requires.sound.small)

pub below-nth-requires : goal.below-nth-requires
below-nth-requires c =
    let some = some_near c.args.self.now c.args.self.now.tol c.in-Some.best c.requires.table.0 c.in-Some.is c.requires.table.1 in
    omega (arith, some, c.near_count.ensures, ap (count_by (is_near c.args.self.now.tol c.in-Some.best)) c.deref.ensures.value)

pub nth_near-requires-clause-few : goal.nth_near-requires-clause-few
nth_near-requires-clause-few c = omega (arith, ap length c.deref-in-Some.ensures.value, c.requires.sound.few, c.requires.sound.small)

pub returns-in-Some-clause-picked : goal.returns-in-Some-clause-picked
returns-in-Some-clause-picked c = λ table is.
    let test = is_near c.args.self.now.tol c.in-Some.best in
    inr (
      c.in-Some.best,
      near_pick c.args.self.now c.args.draws.now c.in-Some.best c.nth_near.result c.near_count.result c.below-nth.result table c.in-Some.is is
          (c.near_count.ensures ∙ ap (count_by test) c.deref.ensures.value) c.below-nth.ensures.drawn
          (subst (λ entries. IsNth test entries c.below-nth.result c.nth_near.result) c.deref-in-Some.ensures.value c.nth_near.ensures),
    )

pub nth_near-requires-clause-low : goal.nth_near-requires-clause-low
nth_near-requires-clause-low c = grind (arith, common_steps)

pub nth_near-requires-clause-best : goal.nth_near-requires-clause-best
nth_near-requires-clause-best c = grind (arith, common_steps)

pub nth_near-requires-clause-below : goal.nth_near-requires-clause-below
nth_near-requires-clause-below c = grind (arith, common_steps)

pub nth_near-requires-clause-filled : goal.nth_near-requires-clause-filled
nth_near-requires-clause-filled c = grind (arith, common_steps)

pub near_count-requires-clause-low : goal.near_count-requires-clause-low
near_count-requires-clause-low c = grind (arith, common_steps)
