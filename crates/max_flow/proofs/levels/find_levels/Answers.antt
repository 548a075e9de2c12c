use Rattle.std.proofs.Common.{arith, ◌≡◌, ◌++◌, List, ℕ, [], ◌∷◌, set, subst, sym, ap, ◌∙◌}
use Rattle.std.proofs.lemmas.Grind.{common_steps}
use Rattle.max_flow.proofs.Searching.{IsSearch_levels, IsSearch_closed, IsSearch_begins, zeros}
use Rattle.max_flow.specs.Levels.{IsSearch}
use Rattle.max_flow.proofs.levels.find_levels.Goals as goal

pub nodes-init : goal.nodes-init
nodes-init c =
    let filled : c.fill.new.self ≡ zeros c.args.graph.now.nodes = c.fill.ensures.after (λ y e. e) ∙ ap zeros c.requires.levels in
    let items : c.push.new.self ≡ c.args.graph.now.source ∷ [] =
    ◌∙◌ {A = List ℕ} c.in_ok-push.ensures (ap (λ (waiting : List ℕ). waiting ++ c.args.graph.now.source ∷ []) c.make-waiting.ensures) in
    subst (λ (waiting : List ℕ). IsSearch c.args.graph.now.pipes.now c.args.graph.now.nodes c.args.graph.now.source c.args.backward.now (set c.fill.new.self c.args.graph.now.source 1) waiting) (sym items)
    (subst (λ (levels : List ℕ). IsSearch c.args.graph.now.pipes.now c.args.graph.now.nodes c.args.graph.now.source c.args.backward.now (set levels c.args.graph.now.source 1) (c.args.graph.now.source ∷ []))
    (sym filled) (IsSearch_begins _ _ _ _ c.args.graph.now.source_in))

pub returns-clause-levels : goal.returns-clause-levels
returns-clause-levels c = IsSearch_levels _ _ _ _ _ c.nodes.waiting c.nodes.invariant

pub returns-in_default-clause-levels : goal.returns-in_default-clause-levels
returns-in_default-clause-levels c = IsSearch_levels _ _ _ _ _ c.nodes.waiting c.nodes.invariant

pub visit-requires-clause-search : goal.visit-requires-clause-search
visit-requires-clause-search c = grind (arith, common_steps)

pub nodes-smaller : goal.nodes-smaller
nodes-smaller c = grind (arith, common_steps)

pub returns-in_default-clause-closed : goal.returns-in_default-clause-closed
returns-in_default-clause-closed c = IsSearch_closed c.args.graph.now.pipes.now c.args.graph.now.nodes c.args.graph.now.source c.args.backward.now c.nodes.levels (subst (IsSearch c.args.graph.now.pipes.now c.args.graph.now.nodes c.args.graph.now.source c.args.backward.now c.nodes.levels) c.in_default.ensures c.nodes.invariant)

pub visit-requires-clause-residuals : goal.visit-requires-clause-residuals
visit-requires-clause-residuals c = c.requires.residuals

pub nodes-preserved : goal.nodes-preserved
nodes-preserved c = c.in_ok-visit.ensures.search

pub overflow_cast-node : goal.overflow_cast-node
overflow_cast-node c = omega arith

pub bounds-levels-graph-in-nodes : goal.bounds-levels-graph-in-nodes
bounds-levels-graph-in-nodes c = omega arith

pub offset_bounds-levels-graph-in-nodes : goal.offset_bounds-levels-graph-in-nodes
offset_bounds-levels-graph-in-nodes c = omega arith

pub returns-in_default-clause-reached : goal.returns-in_default-clause-reached
returns-in_default-clause-reached c = grind (arith, common_steps)

pub returns-clause-reached : goal.returns-clause-reached
returns-clause-reached c = grind (arith, common_steps)
