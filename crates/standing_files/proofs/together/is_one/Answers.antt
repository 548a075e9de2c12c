use Rattle.std.proofs.Common.{◌∙◌, sym}
use Rattle.standing_files.proofs.Sizes.{one_size, only_size, size_test}
use Rattle.standing_files.proofs.together.is_one.Goals as goal

pub returns-then-len-eq1 : goal.returns-then-len-eq1
returns-then-len-eq1 c =
    let test = size_test c.at.result c.args.size in (
      λ done. one_size c.args.sizes.now c.args.size c.at.result (sym c.len.ensures.len ∙ c.if-len-eq1.true) c.at.ensures.size (test.0 (sym c.eq.ensures ∙ done)),
      λ one. c.eq.ensures ∙ test.1 (only_size c.args.sizes.now c.args.size c.at.result c.at.ensures.size one),
    )
