use Rattle.std.proofs.Common.{inl, sym, subst, refl}
use Rattle.standing_files.specs.AsRead.{JudgesAfter, JudgesLeft}
use Rattle.standing_files.specs.declared.verdict.Verdict.{Verdict}
use Rattle.standing_files.specs.declared.verdict.Verdict.TheVariants.{Fails}
use Rattle.standing_files.specs.declared.verdict.TheConstants.{MAP_RULE}
use Rattle.standing_files.proofs.as_read.judge_left.Goals as goal

pub returns-in-Some : goal.returns-in-Some
returns-in-Some c =
    subst (λ (found : Verdict). JudgesAfter found c.args.samples.now c.args.picture.now c.args.map_file.now c.args.left.now (Fails 0 MAP_RULE c.in-Some.i)) (sym c.in-Stands.is)
    (subst (λ m. JudgesLeft c.args.samples.now c.args.picture.now m c.args.left.now (Fails 0 MAP_RULE c.in-Some.i)) (sym c.in-Cells.is)
    (inl (record { whole = record { number_is = refl; rule_is = refl }; first = c.in-Some.ensures })))
