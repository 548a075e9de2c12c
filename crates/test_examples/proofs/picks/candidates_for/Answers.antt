use Rattle.std.proofs.Common.{◌≡◌, subst}
use Rattle.cells.specs.Places.{IsInside}
use Rattle.patch_picks.specs.Picks.{listed_on}
use Rattle.patch_place.proofs.Stepping.{all_fit_over, over_for}
use Rattle.test_examples.proofs.picks.candidates_for.Goals as goal

pub candidates-requires-clause-inside : goal.candidates-requires-clause-inside
candidates-requires-clause-inside c =
    let size : c.args.canvas.now.map.size ≡ c.size.result = cc in
    subst (λ s. IsInside s c.args.q) size c.requires.inside

pub returns-clause-over : goal.returns-clause-over
returns-clause-over c =
    let size : c.size.result ≡ c.args.canvas.now.map.size = cc in
    over_for c.candidates.result c.size.result c.args.canvas.now.map.size c.args.sample.now c.args.q size (c.candidates.ensures.fit c.requires.patch)

pub returns-clause-fit : goal.returns-clause-fit
returns-clause-fit c = all_fit_over c.args.canvas.now.map.size c.args.sample.now c.args.q (listed_on c.args.canvas.now c.args.sample.now c.candidates.result) (returns-clause-over c)
