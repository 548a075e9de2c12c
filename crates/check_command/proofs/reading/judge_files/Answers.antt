use Rattle.std.proofs.Common.{◌+◌, length, subst}
use Rattle.std.specs.Prelude.{Ok, Err}
use Rattle.shelf_traits.proofs.FileLaws.{only_reads_same}
use Rattle.sample_files.specs.Several.{AsksParts}
use Rattle.check_command.proofs.Staged.{files_are, judged_planned, map_only, no_map, no_out, no_record, no_samples, out_only, parts_pass, record_only, samples_only}
use Rattle.check_command.proofs.reading.judge_files.Goals as goal

pub returns-in-Err-clause-planned : goal.returns-in-Err-clause-planned
returns-in-Err-clause-planned g c =
    let a = g.S.Shelf.state c.args.shelf.now in
    parts_pass c.args.job.now a c.in-Err.fault (subst (λ names. AsksParts c.args.job.now.turns (length names + 1) (Err c.in-Err.fault)) c.as_slice-more.ensures.names (c.in-Err.ensures {u = tt}))

pub returns-in-Err-clause-reads : goal.returns-in-Err-clause-reads
returns-in-Err-clause-reads g c =
    let a = g.S.Shelf.state c.args.shelf.now in
    only_reads_same a

pub returns-in-Err-read_samples-clause-planned : goal.returns-in-Err-read_samples-clause-planned
returns-in-Err-read_samples-clause-planned g c =
    let a = g.S.Shelf.state c.args.shelf.now in
    let b = g.S.Shelf.state c.read_samples.new.shelf in
    let few = subst (λ names. AsksParts c.args.job.now.turns (length names + 1) (Ok tt)) c.as_slice-more.ensures.names (c.in-Ok.ensures {u = tt}) in
    no_samples c.args.job.now a b few c.as_slice-more.ensures.names c.read_samples.ensures.reads c.in-Err-read_samples.fault (c.in-Err-read_samples.ensures {u = tt}).answer

pub returns-in-Err-read_samples-clause-reads : goal.returns-in-Err-read_samples-clause-reads
returns-in-Err-read_samples-clause-reads g c =
    let a = g.S.Shelf.state c.args.shelf.now in
    let b = g.S.Shelf.state c.read_samples.new.shelf in
    let few = subst (λ names. AsksParts c.args.job.now.turns (length names + 1) (Ok tt)) c.as_slice-more.ensures.names (c.in-Ok.ensures {u = tt}) in
    samples_only c.args.job.now a b few c.as_slice-more.ensures.names c.read_samples.ensures.reads

pub returns-in-Err-read_out-clause-planned : goal.returns-in-Err-read_out-clause-planned
returns-in-Err-read_out-clause-planned g c =
    let a = g.S.Shelf.state c.args.shelf.now in
    let b = g.S.Shelf.state c.read_samples.new.shelf in
    let d = g.S.Shelf.state c.read_out.new.shelf in
    let few = subst (λ names. AsksParts c.args.job.now.turns (length names + 1) (Ok tt)) c.as_slice-more.ensures.names (c.in-Ok.ensures {u = tt}) in
    no_out c.args.job.now a b few c.as_slice-more.ensures.names c.read_samples.ensures.reads c.in-Ok-read_samples.samples (c.in-Ok-read_samples.ensures {u = tt}).answer d c.read_out.ensures.reads c.in-Err-read_out.fault (c.in-Err-read_out.ensures {u = tt}).answer

pub returns-in-Err-read_out-clause-reads : goal.returns-in-Err-read_out-clause-reads
returns-in-Err-read_out-clause-reads g c =
    let a = g.S.Shelf.state c.args.shelf.now in
    let b = g.S.Shelf.state c.read_samples.new.shelf in
    let d = g.S.Shelf.state c.read_out.new.shelf in
    let few = subst (λ names. AsksParts c.args.job.now.turns (length names + 1) (Ok tt)) c.as_slice-more.ensures.names (c.in-Ok.ensures {u = tt}) in
    out_only c.args.job.now a b few c.as_slice-more.ensures.names c.read_samples.ensures.reads c.in-Ok-read_samples.samples (c.in-Ok-read_samples.ensures {u = tt}).answer d c.read_out.ensures.reads

pub returns-in-Err-read_map_file-clause-planned : goal.returns-in-Err-read_map_file-clause-planned
returns-in-Err-read_map_file-clause-planned g c =
    let a = g.S.Shelf.state c.args.shelf.now in
    let b = g.S.Shelf.state c.read_samples.new.shelf in
    let d = g.S.Shelf.state c.read_out.new.shelf in
    let e = g.S.Shelf.state c.read_map_file.new.shelf in
    let few = subst (λ names. AsksParts c.args.job.now.turns (length names + 1) (Ok tt)) c.as_slice-more.ensures.names (c.in-Ok.ensures {u = tt}) in
    no_map c.args.job.now a b few c.as_slice-more.ensures.names c.read_samples.ensures.reads c.in-Ok-read_samples.samples (c.in-Ok-read_samples.ensures {u = tt}).answer d c.read_out.ensures.reads
    c.in-Ok-read_out.out (c.in-Ok-read_out.ensures {u = tt}).answer e c.read_map_file.ensures.reads c.in-Err-read_map_file.fault (c.in-Err-read_map_file.ensures {u = tt}).answer

pub returns-in-Err-read_map_file-clause-reads : goal.returns-in-Err-read_map_file-clause-reads
returns-in-Err-read_map_file-clause-reads g c =
    let a = g.S.Shelf.state c.args.shelf.now in
    let b = g.S.Shelf.state c.read_samples.new.shelf in
    let d = g.S.Shelf.state c.read_out.new.shelf in
    let e = g.S.Shelf.state c.read_map_file.new.shelf in
    let few = subst (λ names. AsksParts c.args.job.now.turns (length names + 1) (Ok tt)) c.as_slice-more.ensures.names (c.in-Ok.ensures {u = tt}) in
    map_only c.args.job.now a b few c.as_slice-more.ensures.names c.read_samples.ensures.reads c.in-Ok-read_samples.samples (c.in-Ok-read_samples.ensures {u = tt}).answer d c.read_out.ensures.reads
    c.in-Ok-read_out.out (c.in-Ok-read_out.ensures {u = tt}).answer e c.read_map_file.ensures.reads

pub returns-in-Err-worked-clause-reads : goal.returns-in-Err-worked-clause-reads
returns-in-Err-worked-clause-reads g c =
    let a = g.S.Shelf.state c.args.shelf.now in
    let b = g.S.Shelf.state c.read_samples.new.shelf in
    let few = subst (λ names. AsksParts c.args.job.now.turns (length names + 1) (Ok tt)) c.as_slice-more.ensures.names (c.in-Ok.ensures {u = tt}) in
    samples_only c.args.job.now a b few c.as_slice-more.ensures.names c.read_samples.ensures.reads

pub returns-clause-planned : goal.returns-clause-planned
returns-clause-planned g c =
    let a = g.S.Shelf.state c.args.shelf.now in
    let b = g.S.Shelf.state c.read_samples.new.shelf in
    let d = g.S.Shelf.state c.read_out.new.shelf in
    let e = g.S.Shelf.state c.read_map_file.new.shelf in
    let f = g.S.Shelf.state c.judge_record-judged.new.shelf in
    let few = subst (λ names. AsksParts c.args.job.now.turns (length names + 1) (Ok tt)) c.as_slice-more.ensures.names (c.in-Ok.ensures {u = tt}) in
    let all = c.in-Ok-worked.samples in
    judged_planned c.args.job.now a f
    (record_only c.args.job.now a b few c.as_slice-more.ensures.names c.read_samples.ensures.reads c.in-Ok-read_samples.samples (c.in-Ok-read_samples.ensures {u = tt}).answer d c.read_out.ensures.reads
    c.in-Ok-read_out.out (c.in-Ok-read_out.ensures {u = tt}).answer e c.read_map_file.ensures.reads
    c.in-Ok-read_map_file.map (c.in-Ok-read_map_file.ensures {u = tt}).answer f c.judge_record-judged.ensures.reads)
    all c.in-Ok-read_out.out c.in-Ok-read_map_file.map e
    (no_record c.args.job.now a b few c.as_slice-more.ensures.names c.read_samples.ensures.reads c.in-Ok-read_samples.samples (c.in-Ok-read_samples.ensures {u = tt}).answer d c.read_out.ensures.reads
    c.in-Ok-read_out.out (c.in-Ok-read_out.ensures {u = tt}).answer e c.read_map_file.ensures.reads
    c.in-Ok-read_map_file.map (c.in-Ok-read_map_file.ensures {u = tt}).answer f c.judge_record-judged.ensures.reads)
    (λ record_file is_its. files_are c.args.job.now a b few c.as_slice-more.ensures.names c.read_samples.ensures.reads c.in-Ok-read_samples.samples (c.in-Ok-read_samples.ensures {u = tt}).answer d c.read_out.ensures.reads
    c.in-Ok-read_out.out (c.in-Ok-read_out.ensures {u = tt}).answer e c.read_map_file.ensures.reads
    c.in-Ok-read_map_file.map (c.in-Ok-read_map_file.ensures {u = tt}).answer f c.judge_record-judged.ensures.reads
    record_file is_its all (c.in-Ok-worked.ensures {u = tt}).is)
    c.judge_record-judged.result c.judge_record-judged.ensures.answer

pub returns-clause-reads : goal.returns-clause-reads
returns-clause-reads g c =
    let a = g.S.Shelf.state c.args.shelf.now in
    let b = g.S.Shelf.state c.read_samples.new.shelf in
    let d = g.S.Shelf.state c.read_out.new.shelf in
    let e = g.S.Shelf.state c.read_map_file.new.shelf in
    let f = g.S.Shelf.state c.judge_record-judged.new.shelf in
    let few = subst (λ names. AsksParts c.args.job.now.turns (length names + 1) (Ok tt)) c.as_slice-more.ensures.names (c.in-Ok.ensures {u = tt}) in
    record_only c.args.job.now a b few c.as_slice-more.ensures.names c.read_samples.ensures.reads c.in-Ok-read_samples.samples (c.in-Ok-read_samples.ensures {u = tt}).answer d c.read_out.ensures.reads
    c.in-Ok-read_out.out (c.in-Ok-read_out.ensures {u = tt}).answer e c.read_map_file.ensures.reads
    c.in-Ok-read_map_file.map (c.in-Ok-read_map_file.ensures {u = tt}).answer f c.judge_record-judged.ensures.reads
