use Rattle.std.proofs.Common.{sym, ◌∙◌}
use mathlib.Core.Bool.{false≢true}
use Rattle.map_canvas.specs.Maps.{map_at}
use Rattle.costs.proofs.Wholes.{outside_none}
use Rattle.costs.proofs.sources.WithinSources.source.Goals as goal

pub returns-else-contains-clause-source : goal.returns-else-contains-clause-source
returns-else-contains-clause-source c =
    sym (outside_none c.args.self.now.rect (map_at c.args.self.now.map.now) c.args.p (λ inside. false≢true (sym c.if-contains.false ∙ c.contains.ensures.1 inside)))
