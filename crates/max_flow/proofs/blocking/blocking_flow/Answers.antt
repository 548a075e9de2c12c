use Rattle.std.proofs.lemmas.Grind.{common_steps}
use Rattle.std.proofs.Common.{arith}
use Rattle.max_flow.proofs.Limits.{Carries_more, value_limit, total_limit}
use Rattle.max_flow.proofs.Walking.{IsPath-take}
use Rattle.max_flow.proofs.Augmenting.{IsBlocking_begins}
use Rattle.max_flow.proofs.blocking.blocking_flow.Goals as goal

pub paths-init : goal.paths-init
paths-init c =
    (IsBlocking_begins _ _ _ _ _ _ _ _ _ _ c.args.graph.now.pipes_sound c.args.graph.now.chained c.copy_from_slice.ensures.after c.requires.carries c.requires.levels, c.requires.path)

pub augment-requires-clause-path : goal.augment-requires-clause-path
augment-requires-clause-path c = IsPath-take _ _ _ _ c.find_path.new.path c.in-Some.depth (omega (arith, c.in-Some.ensures.within, c.paths.invariant.1)) c.in-Some.ensures.path

pub overflow_add-value : goal.overflow_add-value
overflow_add-value c =
    let carries = Carries_more _ _ _ _ _ _ _ c.args.graph.now.ends_differ c.paths.invariant.0.carries c.augment.ensures.residuals c.augment.ensures.moved in
    omega (arith, value_limit _ _ _ _ _ carries, total_limit _ _ c.args.graph.now.pipes_sound, c.args.graph.now.pipes_limit, c.from-value.ensures)

pub paths-smaller : goal.paths-smaller
paths-smaller c =
    let carries = Carries_more _ _ _ _ _ _ _ c.args.graph.now.ends_differ c.paths.invariant.0.carries c.augment.ensures.residuals c.augment.ensures.moved in
    let limit = value_limit _ _ _ _ _ carries in
    omega (arith, limit, c.augment.ensures.some, c.from-value.ensures)

pub augment-requires-clause-sink : goal.augment-requires-clause-sink
augment-requires-clause-sink c = grind (arith, common_steps)

pub paths-preserved : goal.paths-preserved
paths-preserved c = grind (arith, common_steps)

pub augment-requires-clause-residuals : goal.augment-requires-clause-residuals
augment-requires-clause-residuals c = grind (arith, common_steps)

pub slice_bounds-augment-end-in-Some : goal.slice_bounds-augment-end-in-Some
slice_bounds-augment-end-in-Some c = grind (arith, common_steps)

pub returns-clause-rises : goal.returns-clause-rises
returns-clause-rises c = grind (arith, common_steps)

pub find_path-requires-clause-residuals : goal.find_path-requires-clause-residuals
find_path-requires-clause-residuals c = grind (arith, common_steps)

pub find_path-requires-clause-current : goal.find_path-requires-clause-current
find_path-requires-clause-current c = grind (arith, common_steps)

pub find_path-requires-clause-levels : goal.find_path-requires-clause-levels
find_path-requires-clause-levels c = c.requires.levels.numbers

pub find_path-requires-clause-path : goal.find_path-requires-clause-path
find_path-requires-clause-path c = omega arith

pub copy_from_slice-requires : goal.copy_from_slice-requires
copy_from_slice-requires c = omega arith

pub returns-clause-carries : goal.returns-clause-carries
returns-clause-carries c = grind (arith, common_steps)

pub slice_bounds-augment-end : goal.slice_bounds-augment-end
slice_bounds-augment-end c = grind (arith, common_steps)
