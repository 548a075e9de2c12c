use Rattle.std.proofs.Common.{arith}
use Rattle.max_flow.proofs.blocking.bottleneck.Goals as goal

pub residual-requires-clause-residuals : goal.residual-requires-clause-residuals
residual-requires-clause-residuals c = c.requires.residuals

pub residual-requires-clause-arc : goal.residual-requires-clause-arc
residual-requires-clause-arc c = omega arith

pub returns-clause-least : goal.returns-clause-least
returns-clause-least c = omega arith
