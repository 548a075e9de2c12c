use Rattle.std.proofs.lemmas.Grind.{common_steps}
use Rattle.std.proofs.Common.{◌≡◌, ◌<◌, ◌^◌, length, sym, subst, arith}
use Rattle.std.specs.Prelude.{All}
use Rattle.std.specs.Int.{w16}
use Rattle.source_map.specs.Readings.{Found, list_read, number_read}
use Rattle.cert_file.specs.Rules.{any_rule}
use Rattle.cert_file.proofs.NumberLists.{list_16, list_lacks, long_16}
use Rattle.cert_file.proofs.number_lists.read_list_16.Goals as goal

pub returns-in-Err-clause-answer : goal.returns-in-Err-clause-answer
returns-in-Err-clause-answer g c =
    list_lacks c.args.name.now w16 c.args.count (g.S.Shelf.state c.args.shelf.now) (g.S.Shelf.state c.list.new.shelf) c.args.file.now c.list.new.self c.in-Err.error
    c.requires.follows (c.in-Err.ensures {u = tt}).reads (c.in-Err.ensures {u = tt}).stops

pub returns-in-Ok-clause-answer : goal.returns-in-Ok-clause-answer
returns-in-Ok-clause-answer g c =
    let ok = c.in-Ok.ensures {u = tt} in
    let count : length c.in-Ok.numbers.items ≡ c.args.count = omega (arith, ok.count) in
    let state = g.S.Shelf.state in
    subst (λ numbers. Found c.args.name.now c.args.file.now.at (state c.list.new.shelf) c.list.new.self (list_read (number_read w16 any_rule) c.args.count) numbers) (sym c.from_vec.ensures)
    (list_16 c.args.name.now c.args.count c.args.file.now.at c.in-Ok.numbers.items (state c.list.new.shelf) c.list.new.self count (subst (All (λ n. n < 2 ^ 16)) c.deref.ensures.value c.fit_16.ensures) ok.took)

pub returns-in-Ok-clause-place : goal.returns-in-Ok-clause-place
returns-in-Ok-clause-place g c =
    let ok = c.in-Ok.ensures {u = tt} in
    omega (arith, ok.took.at_is, ok.count, long_16 c.in-Ok.numbers.items)

pub returns-in-Ok-clause-count : goal.returns-in-Ok-clause-count
returns-in-Ok-clause-count g c = grind (arith, common_steps)
