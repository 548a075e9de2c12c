use Rattle.std.proofs.Common.{rules, ◌≡◌, ◌-◌, subst}
use Rattle.byte_streams.specs.Readers.{KeptOf}
use Rattle.byte_streams.proofs.Kept.{copied_back}
use Rattle.byte_streams.proofs.input_reader.copy_back.Goals as goal

pub returns-in-Some-clause-read : goal.returns-in-Some-clause-read
returns-in-Some-clause-read g c xs ends =
    let kept = c.args.last.now in
    let back : c.saturating_sub.result ≡ c.in-Some.place - c.args.at = search rules in
    copied_back xs kept c.copy_kept.new.into c.in-Some.place c.args.at c.saturating_sub.result _ c.copy_kept.result back c.copy_kept.ensures.count c.copy_kept.ensures.bytes
    (subst (λ place. KeptOf xs place kept) c.in-Some.is ends)
