use Rattle.std.proofs.lemmas.Grind.{common_steps}
use Rattle.std.proofs.Common.{◌≡◌, ◌+◌, ◌∷◌, ◌++◌, [], List, ℕ, arith, rules, set, slice_index, sym, subst, Fits, w32}
use Rattle.max_flow.specs.Levels.{IsSearch}
use Rattle.max_flow.proofs.Searching.{enqueue, front_in, front_level, room_for}
use Rattle.max_flow.proofs.levels.try_arc.Goals as goal

pub offset_bounds-levels-node : goal.offset_bounds-levels-node
offset_bounds-levels-node c =
    let nodes_fit : Fits w32 c.args.graph.now.nodes = search rules in
    omega (arith, nodes_fit, front_in _ _ _ _ _ _ _ c.requires.search)

pub bounds-levels-node : goal.bounds-levels-node
bounds-levels-node c = omega (arith, front_in _ _ _ _ _ _ _ c.requires.search, c.requires.search.levels_sized)

pub overflow_add-levels : goal.overflow_add-levels
overflow_add-levels c =
    let nodes_fit : Fits w32 c.args.graph.now.nodes = search rules in
    omega (arith, nodes_fit, c.requires.search.limit c.args.node, room_for _ _ _ _ _ _ c.requires.search c.beyond-next.result (omega arith) (omega arith))

pub returns-clause-search : goal.returns-clause-search
returns-clause-search c =
    let items : c.push.new.self ≡ c.args.waiting.now ++ c.beyond-next.result ∷ [] = c.in_ok-push.ensures in
    subst (λ (waiting : List ℕ). IsSearch c.args.graph.now.pipes.now c.args.graph.now.nodes c.args.graph.now.source c.args.backward.now
    (set c.args.levels.now c.beyond-next.result (slice_index c.args.levels.now c.args.node + 1)) (c.args.node ∷ waiting)) (sym items)
    (enqueue _ _ _ _ _ _ c.requires.search c.args.arc c.args.node c.beyond-next.result c.requires.arc c.requires.leaves (front_level _ _ _ _ _ _ _ c.requires.search)
    c.beyond-next.ensures.value (omega arith) (omega arith) (omega (arith, c.residual.ensures, c.if-residual-eq0.false)))

pub returns-clause-waits : goal.returns-clause-waits
returns-clause-waits c = grind (arith, common_steps)

pub returns-clause-kept : goal.returns-clause-kept
returns-clause-kept c = grind (arith, common_steps)

pub returns-clause-tried : goal.returns-clause-tried
returns-clause-tried c = grind (arith, common_steps)

pub returns-then-levels-next-gt0-clause-tried : goal.returns-then-levels-next-gt0-clause-tried
returns-then-levels-next-gt0-clause-tried c = grind (arith, common_steps)

pub residual-requires-clause-residuals : goal.residual-requires-clause-residuals
residual-requires-clause-residuals c = c.requires.residuals

pub bounds-levels-next-2 : goal.bounds-levels-next-2
bounds-levels-next-2 c = omega arith

pub overflow_cast-next : goal.overflow_cast-next
overflow_cast-next c = omega arith

pub offset_bounds-levels-next-2 : goal.offset_bounds-levels-next-2
offset_bounds-levels-next-2 c = omega arith
