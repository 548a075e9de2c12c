use Rattle.std.proofs.Common.{inl, refl}
use Rattle.command.proofs.WritingLaws.{in_part, none_held}
use Rattle.command.proofs.write.report_run.Goals as goal

pub returns-in-Ok : goal.returns-in-Ok
returns-in-Ok g c = λ shelf. (refl, none_held shelf, (c.in-Ok.ensures {u = tt}).told)

pub returns-in-Err : goal.returns-in-Err
returns-in-Err g c = λ shelf. inl (record {
  is = refl;
  whole = none_held shelf;
  told = in_part c.args.summary _ _ c.report.ensures.says;
  rose = (c.in-Err.ensures {u = tt}).failed;
})
