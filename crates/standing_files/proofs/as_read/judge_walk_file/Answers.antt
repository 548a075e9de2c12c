use Rattle.std.proofs.Common.{subst}
use Rattle.standing_files.specs.declared.verdict.Verdict.{Verdict}
use Rattle.standing_files.specs.Steps.{JudgesRecords}
use Rattle.standing_files.proofs.Judging.{apart, judged_before, judged_last, suits}
use Rattle.standing_files.proofs.as_read.judge_walk_file.Goals as goal

pub returns-in_default : goal.returns-in_default
returns-in_default c =
    apart c.args.samples.now c.args.out.now c.args.map_file.now c.args.record_file.now c.try_together.result c.in_default.not-Stands c.try_together.ensures

pub judge_walk_record-requires-clause-suit : goal.judge_walk_record-requires-clause-suit
judge_walk_record-requires-clause-suit c = suits c.args.samples.now c.args.out.now c.args.map_file.now c.args.record_file.now (c.in-Stands.ensures {u = tt})

pub judge_picture-requires : goal.judge_picture-requires
judge_picture-requires c = record { one = (c.in-Stands.ensures {u = tt}).map_sizes.output_is }

pub returns-in-Stands-2 : goal.returns-in-Stands-2
returns-in-Stands-2 c =
    let samples = c.args.samples.now in
    let map_file = c.args.map_file.now in
    let record_file = c.args.record_file.now in
    judged_last samples c.args.out.now map_file record_file (c.in-Stands.ensures {u = tt})
    (subst (λ (v : Verdict). JudgesRecords samples.volume map_file record_file v) c.in-Stands-2.is (c.in_ok-fails.ensures {u = tt}))
    c.judge_picture.result c.judge_picture.ensures

pub returns-in_default-2 : goal.returns-in_default-2
returns-in_default-2 c =
    judged_before c.args.samples.now c.args.out.now c.args.map_file.now c.args.record_file.now (c.in-Stands.ensures {u = tt}) c.in_ok-fails.fails c.in_default-2.not-Stands (c.in_ok-fails.ensures {u = tt})
