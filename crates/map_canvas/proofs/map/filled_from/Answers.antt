use Rattle.std.proofs.Common.{◌∙◌, ap, sym, arith}
use Rattle.std.specs.Prelude.{is_none, not}
use Rattle.map_canvas.proofs.Fronts.{front_in, front_more, front_here}
use Rattle.map_canvas.proofs.map.filled_from.Goals as goal

pub filled-preserved : goal.filled-preserved
filled-preserved c =
    front_more is_none c.args.sources.now c.filled.reached c.index-sources-reached.result c.filled.invariant c.filled-test.true
    (ap is_none (sym (c.source.ensures ∙ c.index-sources-reached.is)) ∙ ap not (sym c.is_some.ensures ∙ c.if-is_some.true))

pub returns-else-is_some : goal.returns-else-is_some
returns-else-is_some c =
    front_here is_none c.args.sources.now c.filled.reached c.index-sources-reached.result c.filled.invariant
    (ap is_none (sym (c.source.ensures ∙ c.index-sources-reached.is)) ∙ ap not (sym c.is_some.ensures ∙ c.if-is_some.false))

pub returns-after-filled : goal.returns-after-filled
returns-after-filled c = omega (arith, front_in is_none c.args.sources.now)
