use Rattle.std.proofs.Common.{◌<◌, length, sym, subst}
use Rattle.patch_picks.proofs.Fitting.{all_listed, some_there}
use Rattle.patch_picks.proofs.mode.Mode.candidates.Goals as goal

pub returns-clause-some : goal.returns-clause-some
returns-clause-some c = subst (λ list. 0 < length list) (sym c.list_for.ensures.listed) (some_there c.args.self.now c.args.output c.args.sample.now c.args.q c.samples-sample.ensures.volume)

pub returns-clause-fit : goal.returns-clause-fit
returns-clause-fit c = λ has. all_listed c.args.self.now c.args.output c.args.sample.now c.args.q _ c.list_for.ensures.listed c.samples-sample.ensures.volume has c.requires.inside
