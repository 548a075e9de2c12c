use Rattle.std.proofs.Common.{◌≤◌, ◌*◌, ◌%◌, ℕ, get_or, replicate, take, subst, w16, arith}
use Rattle.std.specs.Int.{abs_diff}
use Rattle.std.specs.Simd.Lanes.{zip2}
use Rattle.std.proofs.lemmas.List.{get_or-take}
use Rattle.std.proofs.lemmas.Simd.{below_from_Fits, chunk-fits}
use Rattle.search_squares.specs.declared.sums.TheConstants.{LANES}
use Rattle.search_squares.specs.Lanes.{from_zero}
use Rattle.search_squares.proofs.SignedLanes.{differences_at_most, less}
use Rattle.search_squares.proofs.Vectors.{sum_at_most, term_more}
use Rattle.search_squares.proofs.lanes.with_block.Goals as goal

pub returns : goal.returns
returns c = λ j lt.
    let run = c.args.run.now in
    let sum = c.args.sum in
    let factor = c.args.factor in
    let small = below_from_Fits w16 (take LANES run) (chunk-fits w16 0 LANES run c.type_inv.run) in
    let lane = from_zero (get_or (zip2 (λ a b. (a * b) % 65536) (zip2 less (take LANES run) (replicate 32 sum)) (replicate 32 factor)) j 0) in
    let near : lane ≤ factor * abs_diff sum (get_or run j 0) =
    subst (λ (n : ℕ). lane ≤ factor * abs_diff sum n) (get_or-take LANES run j 0 lt) (differences_at_most (take LANES run) 32 sum factor j small (omega (arith, c.ranges.sum.fits))) in
    term_more factor (abs_diff sum (get_or run j 0)) lane _ _ _ near (c.high_squares.ensures j) (sum_at_most c.args.totals c.high_squares.result _ j)
