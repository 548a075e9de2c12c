use Rattle.std.proofs.Common.{rules, ◌≤◌, ◌≡◌, ◌-◌, length}
use Rattle.byte_streams.proofs.Kept.{both_read}
use Rattle.byte_streams.proofs.input_reader.read_file.Goals as goal

pub returns-clause-read : goal.returns-clause-read
returns-clause-read g c =
    let n = c.copy_back-n.result in
    let old = c.copy_back-n.new.into in
    let part = c.read_from.new.into in
    let within : n ≤ length old = search rules in
    let fits : c.in_ok-more.more ≤ length part = search rules in
    let rest : length part ≡ length old - n = search rules in
    both_read _ _ _ c.args.last.now c.args.at n c.in_ok-more.more old part within fits rest c.requires c.copy_back-n.ensures.read c.in_ok-more.ensures.read
