use Rattle.std.proofs.Common.{rules, ◌≡◌, ◌≤◌, ◌-◌, ◌++◌, drop, length, ap, ◌∙◌}
use Rattle.std.specs.Prelude.{min}
use Rattle.std.proofs.lemmas.List.{places}
use Rattle.byte_streams.proofs.Ends.{tails}
use Rattle.byte_streams.proofs.last_bytes.join_ends.Goals as goal

pub returns-clause-items : goal.returns-clause-items
returns-clause-items c =
    let xs = c.args.bytes.now.items in
    let ys = c.args.read.now in
    let n : c.min-n.result ≡ min (length ys) c.args.room = search (rules, places) in
    let long : length xs ≤ c.args.room = search (rules, places) in
    let old : c.min-old.result ≡ min (length xs) (c.args.room - c.min-n.result) = search (rules, places) in
    let parts : c.extend_within.new.bytes.items ≡ drop (length xs - c.min-old.result) xs ++ drop (length ys - c.min-n.result) ys = search (rules, places) in
    parts
    ∙ ap (λ o. drop (length xs - o) xs ++ drop (length ys - c.min-n.result) ys) old
    ∙ ap (λ m. drop (length xs - min (length xs) (c.args.room - m)) xs ++ drop (length ys - m) ys) n
    ∙ tails c.args.room xs ys long
