use Rattle.std.proofs.Common.{◌≡◌, ℕ, ap, subst, w16, map}
use Rattle.std.specs.Int.{cast_signed}
use Rattle.std.specs.Simd.Lanes.{digits_l, number_l}
use Rattle.std.proofs.lemmas.Simd.{below_from_Fits}
use Rattle.search_squares.proofs.SignedLanes.{bytes_back, double}
use Rattle.search_squares.proofs.lanes.as_signed.Goals as goal

pub returns : goal.returns
returns c =
    let lanes = c.args.lanes in
    let back = bytes_back lanes (below_from_Fits w16 lanes c.fits-lanes.1) in
    ap (map (cast_signed w16)) (subst (λ (n : ℕ). digits_l 65536 n (number_l 256 (digits_l 256 (double n) (number_l 65536 lanes))) ≡ lanes) c.fits-lanes.0 back)
