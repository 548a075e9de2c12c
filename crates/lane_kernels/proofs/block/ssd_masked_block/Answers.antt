use Rattle.std.proofs.Common.{◌≡◌, ◌∙◌, ◌*◌, ℕ, List, Bool, true, false, if◌then◌else◌, ◌==◌, refl, ap, sym, sum_by, take, w8, replicate, length, length-take-le}
use Rattle.std.specs.Prelude.{nat_eq}
use Rattle.std.proofs.lemmas.Simd.{tops_compared, length-zip2}
use Rattle.std.specs.Int.{abs_diff}
use Rattle.std.specs.List.{zip}
use Rattle.std.specs.Simd.Lanes.{zip2}
use Rattle.lane_kernels.specs.Sums.{masked_squared_difference}
use Rattle.lane_kernels.proofs.Lanes.{kept_lane, kept_lanes, sum_by-zip2, zip2-zip2}
use Rattle.lane_kernels.proofs.block.ssd_masked_block.Goals as goal

-- the square of a lane that is kept or 0 is its square, kept or 0
square_of_kept : (b : Bool) (d : ℕ) → (if b then 0 else d) * (if b then 0 else d) ≡ (if b then 0 else d * d)
square_of_kept true d = refl
square_of_kept false d = refl

masked_lanes : (a b mask : List ℕ) → sum_by (λ x. x * x) (zip2 kept_lane (zip2 abs_diff a b) mask) ≡ sum_by masked_squared_difference (zip (zip a b) mask)
masked_lanes a b mask =
    ap (sum_by (λ x. x * x)) (zip2-zip2 kept_lane abs_diff a b mask)
    ∙ sum_by-zip2 (λ x. x * x) (λ (p : ℕ × ℕ) (m : ℕ). kept_lane (abs_diff p.0 p.1) m) (zip a b) mask
    ∙ (λ i. sum_by (λ (q : (ℕ × ℕ) × ℕ). square_of_kept (q.1 == 0) (abs_diff q.0.0 q.0.1) i) (zip (zip a b) mask))

pub returns : goal.returns
returns g c =
    let a = take g.row.N c.args.a.now in
    let b = take g.row.N c.args.b.now in
    let mask = take g.row.N c.args.mask.now in
    let lanes : length c.differences.result ≡ g.row.N =
    ap length c.differences.ensures ∙ length-zip2 abs_diff a b (length-take-le g.row.N c.args.a.now c.requires.a_block ∙ sym (length-take-le g.row.N c.args.b.now c.requires.b_block))
    ∙ length-take-le g.row.N c.args.a.now c.requires.a_block in
    (rw (tops_compared w8 nat_eq mask (replicate g.row.N 0)) at c.lane_square_sum.ensures)
    ∙ ap (sum_by (λ x. x * x))
    (kept_lanes g.row.N c.differences.result mask lanes (length-take-le g.row.N c.args.mask.now c.requires.mask_block)
    ∙ ap (λ (d : List ℕ). zip2 kept_lane d mask) c.differences.ensures)
    ∙ masked_lanes a b mask
