use Rattle.std.proofs.lemmas.Grind.{common_steps}
use Rattle.std.proofs.Common.{◌<◌, ◌≤◌, ◌+◌, ◌*◌, ◌/◌, ◌^◌, ◌∙◌, ap, refl, subst, sym, arith}
use Rattle.std.proofs.Math.Nat.{mul-le-mul}
use Rattle.std.specs.Prelude.{min}
use Rattle.match_error.specs.Errors.{error_sum}
use Rattle.map_canvas.specs.Choices.{laid_from}
use Rattle.search_squares.specs.Blocks.{block_bytes, blocks_difference}
use Rattle.search_squares.specs.Bounds.{place_along}
use Rattle.search_squares.proofs.PlaceRuns.{none_marked}
use Rattle.search_squares.proofs.RunEntries.{joint_above, scale_holds}
use Rattle.search_squares.proofs.joint.above_both.Goals as goal

pub scale_of-requires-clause-few : goal.scale_of-requires-clause-few
scale_of-requires-clause-few c =
    subst (λ k. 255 * block_bytes c.args.sums.now.side k < 2 ^ 16) (sym c.samples-k.ensures.samples) c.requires.sums.few

pub returns-in_default : goal.returns-in_default
returns-in_default c = λ j _ marked. absurd (none_marked j marked)

pub returns : goal.returns
returns c = λ j lj marked.
    let in_lanes : j < 32 = omega (arith, c.requires.few) in
    let one = c.args.one.now in
    let other = c.args.other.now in
    let side = c.args.sums.now.side in
    let scale = c.in-Some.scale in
    let from = place_along c.args.at j in
    let bound = c.saturating_mul-bound.ensures ∙ ap (λ bytes. min (bytes * c.args.limit) 18446744073709551615) c.from-2.ensures in
    let scaled = c.saturating_mul-most.ensures ∙ (λ t. min (c.saturating_mul-bound.result * (c.from-3.ensures t * c.from-4.ensures t)) 18446744073709551615) in
    let most_of = scale_holds (block_bytes side c.samples-k.result) c.args.limit _ c.saturating_mul-bound.result _ c.saturating_mul-most.result _ bound refl scaled refl (omega (arith, c.if-most-from.false, c.from-5.ensures)) in
    let most = subst (λ k. scale.factor * scale.factor * (block_bytes side k * c.args.limit) < 65536 * (c.saturating_mul-most.result / 65536 + 1)) c.samples-k.ensures.samples most_of in
    let first : blocks_difference c.args.blocks.now one.sample.now from ≤ block_bytes side one.sample.now.k * error_sum one.canvas.now.map one.sample.now (laid_from one.rect from) =
    subst (λ s. blocks_difference c.args.blocks.now one.sample.now from ≤ block_bytes s one.sample.now.k * error_sum one.canvas.now.map one.sample.now (laid_from one.rect from)) c.requires.side
    (c.requires.blocks.bound one.sample.now from (c.requires.laid j lj)) in
    let second : blocks_difference c.args.others.now other.sample.now from ≤ block_bytes side one.sample.now.k * error_sum other.canvas.now.map other.sample.now (laid_from other.rect from) =
    subst (λ k. blocks_difference c.args.others.now other.sample.now from ≤ block_bytes side k * error_sum other.canvas.now.map other.sample.now (laid_from other.rect from)) (sym c.requires.samples)
    (subst (λ s. blocks_difference c.args.others.now other.sample.now from ≤ block_bytes s other.sample.now.k * error_sum other.canvas.now.map other.sample.now (laid_from other.rect from)) c.requires.other_side
    (c.requires.others.bound other.sample.now from (c.requires.other_laid j lj))) in
    joint_above scale.factor (block_bytes side one.sample.now.k) c.args.limit _ _ one.times _ _ _ other.times _ _ _ most (c.marks_of_terms.ensures j in_lanes marked) (omega arith)
    (c.totals-totals.ensures j lj) first (c.totals-more.ensures j lj) second

pub totals-more-requires-clause-blocks : goal.totals-more-requires-clause-blocks
totals-more-requires-clause-blocks c = grind (arith, common_steps)

pub totals-totals-requires-clause-blocks : goal.totals-totals-requires-clause-blocks
totals-totals-requires-clause-blocks c = grind (arith, common_steps)

pub totals-more-requires-clause-inside : goal.totals-more-requires-clause-inside
totals-more-requires-clause-inside c = c.requires.other_inside

pub totals-more-requires-clause-some : goal.totals-more-requires-clause-some
totals-more-requires-clause-some c = omega arith

pub totals-more-requires-clause-laid : goal.totals-more-requires-clause-laid
totals-more-requires-clause-laid c = c.requires.other_laid

pub totals-more-requires-clause-few : goal.totals-more-requires-clause-few
totals-more-requires-clause-few c = c.requires.few

pub totals-more-requires-clause-sums : goal.totals-more-requires-clause-sums
totals-more-requires-clause-sums c = c.requires.other_sums

pub totals-more-requires-clause-side : goal.totals-more-requires-clause-side
totals-more-requires-clause-side c = c.requires.other_side

pub totals-totals-requires-clause-some : goal.totals-totals-requires-clause-some
totals-totals-requires-clause-some c = omega arith

pub totals-totals-requires-clause-inside : goal.totals-totals-requires-clause-inside
totals-totals-requires-clause-inside c = c.requires.inside

pub totals-totals-requires-clause-few : goal.totals-totals-requires-clause-few
totals-totals-requires-clause-few c = c.requires.few

pub totals-totals-requires-clause-laid : goal.totals-totals-requires-clause-laid
totals-totals-requires-clause-laid c = c.requires.laid

pub totals-totals-requires-clause-sums : goal.totals-totals-requires-clause-sums
totals-totals-requires-clause-sums c = c.requires.sums

pub totals-totals-requires-clause-side : goal.totals-totals-requires-clause-side
totals-totals-requires-clause-side c = c.requires.side

pub returns-then-n-eq0 : goal.returns-then-n-eq0
returns-then-n-eq0 c = grind (arith, common_steps)

pub nonzero_div-most : goal.nonzero_div-most
nonzero_div-most c = grind (arith, common_steps)

pub overflow_cast-alone : goal.overflow_cast-alone
overflow_cast-alone c = grind (arith, common_steps)

pub overflow_mul-cells : goal.overflow_mul-cells
overflow_mul-cells c = grind (arith, common_steps)

pub overflow_mul-square : goal.overflow_mul-square
overflow_mul-square c = omega (arith, mul-le-mul {n₁ = c.from-3.result} {m₁ = c.from-4.result} {n₂ = 65535} {m₂ = 65535} (omega (arith, c.from-3.ensures)) (omega (arith, c.from-4.ensures)))

pub overflow_cast-most : goal.overflow_cast-most
overflow_cast-most c = omega arith

pub overflow_mul-bytes : goal.overflow_mul-bytes
overflow_mul-bytes c =
    let few : 255 * block_bytes c.args.sums.now.side c.samples-k.result < 2 ^ 16 = subst (λ k. 255 * block_bytes c.args.sums.now.side k < 2 ^ 16) (sym c.samples-k.ensures.samples) c.requires.sums.few in
    omega (arith, few)
