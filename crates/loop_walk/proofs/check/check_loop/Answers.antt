use Rattle.std.proofs.Common.{◌≡◌, ℕ, ◌<◌, length, sym, subst, arith, inl, inr, refl}
use Rattle.std.specs.Prelude.{Some}
use Rattle.std.proofs.lemmas.Result.{IfErr-weaker, err_from_is_err_and}
use Rattle.loop_walk.specs.Walks.{AtMost, IsLeastWalk, steps_round, walk_cost}
use Rattle.loop_walk.specs.Tables.{entry_at, table_count}
use Rattle.loop_walk.specs.Records.{DiagonalHolds, IsFirstPlace, IsFirstLoopFault, PlaceHolds, WalkStands}
use Rattle.loop_walk.specs.Products.{AllowsCost}
use Rattle.loop_walk.proofs.CheckLaws.{first_broken-same}
use Rattle.loop_walk.proofs.TraceLaws.{on_ok}
use Rattle.loop_walk.proofs.WayLaws.{cost_closed, least_from}
use Rattle.loop_walk.proofs.check.check_loop.Goals as goal

pub returns-in_err-check_tables-clause-fault : goal.returns-in_err-check_tables-clause-fault
returns-in_err-check_tables-clause-fault c =
    let costs = c.args.costs.now in
    let walk = c.args.walk.now in
    let tables = c.args.tables.now in
    let exit = err_from_is_err_and c.from_residual-in_err-check_tables.result c.from_residual-in_err-check_tables.ensures.1 in
    let found = c.in_err-check_tables.ensures.fault in
    rw (exit.1, exit.2)
    (inr (inl (record {
      kind = found.0;
      closed = cost_closed costs (steps_round walk) c.in_ok-cost.cost c.in_ok-cost.ensures.cost;
      place = subst (λ n. IsFirstPlace n (PlaceHolds costs (length walk) tables) c.in_err-check_tables.field-0.0.place) (sym c.requires.tables) found.1;
    })))

pub returns-clause-stands : goal.returns-clause-stands
returns-clause-stands c =
    let costs = c.args.costs.now in
    let walk = c.args.walk.now in
    let is : walk_cost costs walk ≡ Some c.in_ok-cost.cost = c.in_ok-cost.ensures.cost in
    on_ok c.check_diagonal.result ((i : ℕ) → i < costs.frames → AllowsCost costs (length walk) c.args.tables.now c.in_ok-cost.cost i) (WalkStands costs walk c.args.tables.now)
    (λ allows. record {
      closed = cost_closed costs (steps_round walk) c.in_ok-cost.cost is;
      entries = c.in_ok-check_tables.ensures.hold;
      diagonals = λ i lt. subst (λ o. AtMost o (entry_at costs c.args.tables.now (table_count (length walk)) i i)) (sym is) (allows i lt);
    }) c.check_diagonal.ensures.hold

pub returns-clause-least : goal.returns-clause-least
returns-clause-least c =
    let costs = c.args.costs.now in
    let walk = c.args.walk.now in
    on_ok c.check_diagonal.result ((i : ℕ) → i < costs.frames → AllowsCost costs (length walk) c.args.tables.now c.in_ok-cost.cost i) (IsLeastWalk costs (length walk) walk)
    (λ allows. least_from costs c.args.tables.now (length walk) c.requires.walk.0 c.in_ok-check_tables.ensures.hold walk c.in_ok-cost.cost refl c.in_ok-cost.ensures.cost allows)
    c.check_diagonal.ensures.hold

pub returns-clause-fault : goal.returns-clause-fault
returns-clause-fault c =
    let costs = c.args.costs.now in
    let walk = c.args.walk.now in
    let tables = c.args.tables.now in
    let is : walk_cost costs walk ≡ Some c.in_ok-cost.cost = c.in_ok-cost.ensures.cost in
    IfErr-weaker c.check_diagonal.result (λ fault. (fault.kind ≡ 14) × IsFirstPlace costs.frames (AllowsCost costs (length walk) tables c.in_ok-cost.cost) fault.place) (IsFirstLoopFault costs walk tables)
    (λ fault first. inr (inr (record {
      kind = first.0;
      closed = cost_closed costs (steps_round walk) c.in_ok-cost.cost is;
      entries = c.in_ok-check_tables.ensures.hold;
      place = first_broken-same costs.frames costs.frames (AllowsCost costs (length walk) tables c.in_ok-cost.cost) (DiagonalHolds costs walk tables) fault.place (omega arith)
          (λ i lt holds. subst (λ o. AtMost o (entry_at costs tables (table_count (length walk)) i i)) (sym is) holds)
          (λ i lt holds. subst (λ o. AtMost o (entry_at costs tables (table_count (length walk)) i i)) is holds) first.1;
    }))) c.check_diagonal.ensures.fault
