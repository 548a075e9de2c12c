use Rattle.std.proofs.lemmas.Grind.{common_steps}
use Rattle.std.proofs.Common.{◌≡◌, ◌+◌, ◌-◌, ◌*◌, ◌∙◌, ap, length, take, drop, arith}
use Rattle.match_error.proofs.Offsets.{few_bytes, run_in_volume, within_bytes}
use Rattle.match_error.proofs.fronts.cells_from.Goals as goal

pub overflow_mul-start : goal.overflow_mul-start
overflow_mul-start c = omega (arith, ap (λ k. k * c.args.i) c.samples-k.ensures.samples, few_bytes c.args.sample.now c.samples-k.ensures.volume c.args.i (omega (arith, c.requires)))

pub overflow_mul-len : goal.overflow_mul-len
overflow_mul-len c = omega (arith, ap (λ k. k * c.args.n) c.samples-k.ensures.samples, few_bytes c.args.sample.now c.samples-k.ensures.volume c.args.n (omega (arith, c.requires)))

pub slice_bounds-result-end : goal.slice_bounds-result-end
slice_bounds-result-end c =
    omega (
      arith,
      ap (λ k. k * c.args.i) c.samples-k.ensures.samples,
      ap (λ k. k * c.args.n) c.samples-k.ensures.samples,
      ap length c.bytes-bytes.ensures,
      within_bytes c.args.sample.now c.samples-k.ensures.volume c.args.i c.args.n c.requires,
    )

pub returns-clause-bytes : goal.returns-clause-bytes
returns-clause-bytes c =
    let start = c.samples-k.result * c.args.i in
    let len = c.samples-k.result * c.args.n in
    ap (λ n. take n (drop start c.bytes-bytes.result.now)) (let e : (start + len) - start ≡ len = omega arith in e)
    ∙ (λ t. take (c.samples-k.ensures.samples t * c.args.n) (drop (c.samples-k.ensures.samples t * c.args.i) (c.bytes-bytes.ensures t)))
    ∙ run_in_volume c.args.sample.now c.samples-k.ensures.volume c.args.i c.args.n c.requires

pub overflow_add-result : goal.overflow_add-result
overflow_add-result c =
    let k = c.samples-k.ensures.samples in
    let few = few_bytes c.args.sample.now c.samples-k.ensures.volume in
    omega (arith, ap (λ n. n * c.args.i) k, ap (λ n. n * c.args.n) k, few c.args.i (omega (arith, c.requires)), few c.args.n (omega (arith, c.requires)))

pub returns-clause-len : goal.returns-clause-len
returns-clause-len c = grind (arith, common_steps)
