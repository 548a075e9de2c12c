use Rattle.std.proofs.Common.{w16}
use Rattle.std.proofs.lemmas.Simd.{below_from_Fits}
use Rattle.search_squares.proofs.SignedLanes.{all_narrow, halves_at_most}
use Rattle.search_squares.proofs.lanes.high_squares.Goals as goal

pub overflow_cast-result : goal.overflow_cast-result
overflow_cast-result c =
    rw c.as_signed-wide.ensures
    (all_narrow c.args.lanes 32 (below_from_Fits w16 c.args.lanes c.fits-lanes.1))

pub returns : goal.returns
returns c = λ j.
    rw c.as_signed-wide.ensures
    (halves_at_most c.args.lanes 32 j (below_from_Fits w16 c.args.lanes c.fits-lanes.1))
