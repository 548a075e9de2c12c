use Rattle.std.proofs.lemmas.Grind.{common_steps}
use Rattle.std.proofs.Common.{◌≡◌, ◌-◌, slice_index, set, arith, sym, ap, ◌∙◌}
use Rattle.max_flow.proofs.Walking.{lowered, lower_at, forward, backwards, backwards_smaller, no_way}
use Rattle.max_flow.proofs.paths.find_path.Goals as goal

pub steps-preserved-then-cursor-gt0 : goal.steps-preserved-then-cursor-gt0
steps-preserved-then-cursor-gt0 c =
    let e = c.next_admissible-cursor.ensures in
    forward _ _ _ _ _ _ _ _ _ _ _ c.steps.invariant (c.requires.levels.limit c.steps.node) c.next_admissible-cursor.result
    (record { low = e.low; here = e.here; passed = e.passed }) c.head-node.result c.head-node.ensures.within c.head-node.ensures.value (omega arith) (e.admissible (omega arith))

pub steps-smaller : goal.steps-smaller
steps-smaller c =
    let e = c.next_admissible-cursor.ensures in
    backwards_smaller _ _ _ _ _ _ _ _ _ _ _ c.steps.invariant (c.requires.levels.limit c.steps.node) c.next_admissible-cursor.result
    (record { low = e.low; here = e.here; passed = e.passed }) c.tail-node.result c.tail-node.ensures.within _ c.tail-node.ensures.value (omega arith) (omega arith)
    (c.args.graph.now.chained.goes_on _ (c.steps.invariant.steps (c.steps.depth - 1) (omega arith)).arc_in)

pub steps-preserved : goal.steps-preserved
steps-preserved c =
    let e = c.next_admissible-cursor.ensures in
    backwards _ _ _ _ _ _ _ _ _ _ _ c.steps.invariant (c.requires.levels.limit c.steps.node) c.next_admissible-cursor.result
    (record { low = e.low; here = e.here; passed = e.passed }) c.tail-node.result c.tail-node.ensures.within _ c.tail-node.ensures.value (omega arith) (omega arith)
    (c.args.graph.now.chained.goes_on _ (c.steps.invariant.steps (c.steps.depth - 1) (omega arith)).arc_in) c.steps-test.true

pub returns-else-depth-gt0-clause-found : goal.returns-else-depth-gt0-clause-found
returns-else-depth-gt0-clause-found c = λ are reached dead.
    let e = c.next_admissible-cursor.ensures in
    let w = lowered _ _ _ _ _ _ _ _ _ _ _ c.steps.invariant c.next_admissible-cursor.result (record { low = e.low; here = e.here; passed = e.passed }) in
    let here : c.steps.node ≡ c.args.graph.now.source = c.steps.invariant.ends.begins (omega arith) in
    absurd (no_way _ _ _ _ _ _ _ are (w.dead dead) reached c.args.graph.now.ends_differ
    (ap (slice_index (set c.steps.current c.steps.node c.next_admissible-cursor.result)) (sym here)
    ∙ lower_at _ _ c.steps.current c.steps.node c.next_admissible-cursor.result c.steps.invariant.sound c.steps.invariant.node_in e.low ∙ omega arith))

pub steps-smaller-then-cursor-gt0 : goal.steps-smaller-then-cursor-gt0
steps-smaller-then-cursor-gt0 c = grind (arith, common_steps)

pub bounds-current-node-then-depth-gt0 : goal.bounds-current-node-then-depth-gt0
bounds-current-node-then-depth-gt0 c = grind (arith, common_steps)

pub bounds-graph-arc : goal.bounds-graph-arc
bounds-graph-arc c = grind (arith, common_steps)

pub tail-node-requires : goal.tail-node-requires
tail-node-requires c = grind (arith, common_steps)

pub returns-else-depth-gt0-clause-current : goal.returns-else-depth-gt0-clause-current
returns-else-depth-gt0-clause-current c = grind (arith, common_steps)

pub steps-init : goal.steps-init
steps-init c = grind (arith, common_steps)

pub bounds-path-depth-then-depth-gt0 : goal.bounds-path-depth-then-depth-gt0
bounds-path-depth-then-depth-gt0 c = grind (arith, common_steps)

pub head-node-requires : goal.head-node-requires
head-node-requires c = grind (arith, common_steps)

pub bounds-path-depth : goal.bounds-path-depth
bounds-path-depth c = grind (arith, common_steps)

pub next_admissible-cursor-requires-clause-residuals : goal.next_admissible-cursor-requires-clause-residuals
next_admissible-cursor-requires-clause-residuals c = grind (arith, common_steps)

pub overflow_add-depth : goal.overflow_add-depth
overflow_add-depth c = omega arith

pub offset_bounds-path-depth-then-depth-gt0 : goal.offset_bounds-path-depth-then-depth-gt0
offset_bounds-path-depth-then-depth-gt0 c = omega arith

pub offset_bounds-path-depth : goal.offset_bounds-path-depth
offset_bounds-path-depth c = omega arith

pub returns-clause-current : goal.returns-clause-current
returns-clause-current c = c.steps.invariant.sound

pub next_admissible-cursor-requires-clause-levels : goal.next_admissible-cursor-requires-clause-levels
next_admissible-cursor-requires-clause-levels c = c.requires.levels

pub next_admissible-cursor-requires-clause-low : goal.next_admissible-cursor-requires-clause-low
next_admissible-cursor-requires-clause-low c = omega arith

pub next_admissible-cursor-requires-clause-here : goal.next_admissible-cursor-requires-clause-here
next_admissible-cursor-requires-clause-here c = omega arith

pub returns-clause-sink : goal.returns-clause-sink
returns-clause-sink c = omega arith

pub returns-clause-path : goal.returns-clause-path
returns-clause-path c = c.steps.invariant.steps

pub returns-clause-within : goal.returns-clause-within
returns-clause-within c = omega arith

pub offset_bounds-graph-arc : goal.offset_bounds-graph-arc
offset_bounds-graph-arc c = omega arith

pub offset_bounds-current-node-then-depth-gt0 : goal.offset_bounds-current-node-then-depth-gt0
offset_bounds-current-node-then-depth-gt0 c = omega arith

pub overflow_cast-cursor : goal.overflow_cast-cursor
overflow_cast-cursor c = omega arith

pub overflow_sub-cursor : goal.overflow_sub-cursor
overflow_sub-cursor c = c.if-cursor-gt0.true

pub overflow_sub-depth : goal.overflow_sub-depth
overflow_sub-depth c = c.if-depth-gt0.true

pub bounds-current-node-in-steps : goal.bounds-current-node-in-steps
bounds-current-node-in-steps c = omega arith

pub overflow_sub-path : goal.overflow_sub-path
overflow_sub-path c = c.if-cursor-gt0.true
