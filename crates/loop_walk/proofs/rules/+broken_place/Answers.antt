use Rattle.std.proofs.lemmas.Grind.{common_steps}
use Rattle.std.proofs.Common.{◌≡◌, ℕ, ◌+◌, ◌*◌, ◌<◌, ◌≤◌, ap, sym, ◌∙◌, subst, arith, get_or}
use Rattle.std.specs.Prelude.{IfNone, IfSome}
use Rattle.loop_walk.specs.Tables.{length_before, table_count, table_lengths}
use Rattle.loop_walk.specs.Records.{IsFirstPlace, PlaceHolds}
use Rattle.loop_walk.proofs.Lengths.{is_before, last_length, table_count-more}
use Rattle.loop_walk.proofs.CheckLaws.{first_broken-same, place_holds-fewer, place_holds-more}
use Rattle.loop_walk.proofs.rules.+broken_place.Goals as goal

-- one table more than for the length before
counts : (m b t : ℕ) → 2 ≤ m → b ≡ length_before m → t ≡ table_count b → t + 1 ≡ table_count m
counts m b t two is_b is_t = ap (λ k. k + 1) (is_t ∙ ap table_count is_b) ∙ sym (table_count-more m two)

pub broken_place-requires : goal.broken_place-requires
broken_place-requires t c =
    let before = is_before c.args.length (omega arith) in
    let is_b = c.length_before-before.ensures in
    let area = c.args.costs.now.frames * c.args.costs.now.frames in
    let count = ap (λ k. k * area) (counts c.args.length c.length_before-before.result c.table_count-t.result (omega arith) is_b c.table_count-t.ensures.count) in (
      omega (arith, c.decreases, before.less, is_b),
      (
        (omega (arith, before.some, is_b), omega (arith, before.less, is_b)),
        omega (arith, c.requires.enough, count, ap (λ k. k * area) c.table_count-t.ensures.count),
      ),
    )

pub broken_entry-requires-clause-last : goal.broken_entry-requires-clause-last
broken_entry-requires-clause-last t c =
    ap (λ k. get_or (table_lengths c.args.length) k 0) (c.table_count-t.ensures.count ∙ ap table_count c.length_before-before.ensures) ∙ last_length c.args.length 0 (omega arith)

pub broken_entry-requires-clause-enough : goal.broken_entry-requires-clause-enough
broken_entry-requires-clause-enough t c =
    let area = c.args.costs.now.frames * c.args.costs.now.frames in
    omega (arith, c.requires.enough, ap (λ k. k * area) (counts c.args.length c.length_before-before.result c.table_count-t.result (omega arith) c.length_before-before.ensures c.table_count-t.ensures.count))

pub broken_entry-requires-clause-before : goal.broken_entry-requires-clause-before
broken_entry-requires-clause-before t c = λ place lt.
    let costs = c.args.costs.now in
    let area = costs.frames * costs.frames in
    let is_b = c.length_before-before.ensures in
    let below : place < table_count (length_before c.args.length) * area = omega (arith, lt, ap (λ k. k * area) (c.table_count-t.ensures.count ∙ ap table_count is_b)) in
    place_holds-more costs c.args.length (omega arith) c.args.tables.now place below
    (subst (λ b. PlaceHolds costs b c.args.tables.now place) is_b (c.in-None.ensures.hold place (omega (arith, lt, ap (λ k. k * area) c.table_count-t.ensures.count))))

pub returns-in-Some-clause-broken : goal.returns-in-Some-clause-broken
returns-in-Some-clause-broken t c =
    let costs = c.args.costs.now in
    let m = c.args.length in
    let tables = c.args.tables.now in
    let area = costs.frames * costs.frames in
    let two : 2 ≤ m = omega arith in
    let first = subst (λ b. IsFirstPlace (table_count b * area) (PlaceHolds costs b tables) c.in-Some.place) c.length_before-before.ensures c.in-Some.ensures.broken in
    first_broken-same (table_count (length_before m) * area) (table_count m * area) (PlaceHolds costs (length_before m) tables) (PlaceHolds costs m tables) c.in-Some.place
    (omega (arith, ap (λ k. k * area) (table_count-more m two)))
    (λ p lt holds. place_holds-more costs m two tables p lt holds) (λ p lt holds. place_holds-fewer costs m two tables p lt holds) first

pub returns-in-None-clause-hold : goal.returns-in-None-clause-hold
returns-in-None-clause-hold t c =
    let costs = c.args.costs.now in
    let area = costs.frames * costs.frames in
    subst (λ n. IfNone c.broken_entry.result ((place : ℕ) → place < n → PlaceHolds costs c.args.length c.args.tables.now place))
    (ap (λ k. k * area) (counts c.args.length c.length_before-before.result c.table_count-t.result (omega arith) c.length_before-before.ensures c.table_count-t.ensures.count)) c.broken_entry.ensures.hold

pub returns-in-None-clause-broken : goal.returns-in-None-clause-broken
returns-in-None-clause-broken t c =
    let costs = c.args.costs.now in
    let area = costs.frames * costs.frames in
    subst (λ n. IfSome c.broken_entry.result (λ place. IsFirstPlace n (PlaceHolds costs c.args.length c.args.tables.now) place))
    (ap (λ k. k * area) (counts c.args.length c.length_before-before.result c.table_count-t.result (omega arith) c.length_before-before.ensures c.table_count-t.ensures.count)) c.broken_entry.ensures.broken

pub broken_entry-requires-clause-number : goal.broken_entry-requires-clause-number
broken_entry-requires-clause-number t c = grind (arith, common_steps)

pub returns-then-length-eq1-clause-hold : goal.returns-then-length-eq1-clause-hold
returns-then-length-eq1-clause-hold t c = grind (arith, common_steps)
