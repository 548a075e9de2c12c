use Rattle.std.proofs.Common.{◌*◌, ◌%◌, ◌∙◌, sym, arith, map, replicate}
use Rattle.std.proofs.Math.Nat.{le_trans, mul-le-mul_left}
use Rattle.std.proofs.lemmas.List.{length-map}
use Rattle.std.proofs.lemmas.Simd.{length-zip2}
use Rattle.search_squares.proofs.Vectors.{mapped_at_most, taken_at_most}
use Rattle.search_squares.proofs.lanes.taken.Goals as goal

pub returns-clause-at_most : goal.returns-clause-at_most
returns-clause-at_most c = λ j.
    le_trans (taken_at_most 32 c.args.times (map _ c.args.totals) j)
    (mul-le-mul_left c.args.times (mapped_at_most _ (λ a. omega arith) c.args.totals j))

pub returns-clause-long : goal.returns-clause-long
returns-clause-long c = length-zip2 (λ a b. (a * b) % 4294967296) (replicate 32 c.args.times) (map _ c.args.totals) (sym (length-map c.args.totals _ ∙ c.fits-totals.0))
