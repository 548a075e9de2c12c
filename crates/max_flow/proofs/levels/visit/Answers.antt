use Rattle.std.proofs.lemmas.Grind.{common_steps}
use Rattle.std.proofs.Common.{◌≡◌, ℕ, arith, rules, subst, Fits, w32}
use Rattle.max_flow.proofs.Searching.{IsVisiting, IsVisiting_begins, IsVisiting_more, IsVisiting_ends, front_in}
use Rattle.max_flow.proofs.levels.visit.Goals as goal

pub offset_bounds-graph-node : goal.offset_bounds-graph-node
offset_bounds-graph-node c =
    let nodes_fit : Fits w32 c.args.graph.now.nodes = search rules in
    omega (arith, nodes_fit, front_in _ _ _ _ _ _ _ c.requires.search)

pub bounds-graph-node : goal.bounds-graph-node
bounds-graph-node c = omega (arith, front_in _ _ _ _ _ _ _ c.requires.search, c.args.graph.now.chained.nodes_sized)

pub arcs-init : goal.arcs-init
arcs-init c = IsVisiting_begins _ _ _ _ _ _ _ _ c.requires.search (c.args.graph.now.chained.begins _ (front_in _ _ _ _ _ _ _ c.requires.search))

pub arcs-preserved : goal.arcs-preserved
arcs-preserved c =
    let tried = c.in_ok-try_arc.ensures in
    IsVisiting_more _ _ _ _ _ _ _ _ _ _ _ _ _ c.arcs.invariant (omega arith) (c.args.graph.now.chained.goes_on _ (omega (arith, c.arcs.invariant.low))) tried.search tried.waits tried.kept tried.tried

pub returns-clause-search : goal.returns-clause-search
returns-clause-search c =
    let none : c.arcs.cursor ≡ 0 = omega (arith, c.arcs-test.false) in
    IsVisiting_ends _ _ _ _ _ _ _ _ _
    (subst (λ (cursor : ℕ). IsVisiting c.args.graph.now.pipes.now c.args.graph.now.nodes c.args.graph.now.source c.args.backward.now c.args.levels.now c.arcs.levels c.args.waiting.now c.arcs.waiting c.args.node cursor)
    none c.arcs.invariant)

pub arcs-smaller : goal.arcs-smaller
arcs-smaller c = grind (arith, common_steps)

pub try_arc-requires-clause-residuals : goal.try_arc-requires-clause-residuals
try_arc-requires-clause-residuals c = c.requires.residuals

pub try_arc-requires-clause-leaves : goal.try_arc-requires-clause-leaves
try_arc-requires-clause-leaves c = omega arith

pub bounds-graph-cursor : goal.bounds-graph-cursor
bounds-graph-cursor c = omega arith

pub offset_bounds-graph-cursor : goal.offset_bounds-graph-cursor
offset_bounds-graph-cursor c = omega arith
