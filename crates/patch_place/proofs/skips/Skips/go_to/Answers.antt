use Rattle.patch_place.specs.BoxErrors.{sum_from}
use Rattle.patch_place.proofs.skips.Skips.go_to.Goals as goal

pub returns-then-rests : goal.returns-then-rests
returns-then-rests g c = c.none-self.ensures (sum_from (g.E.BoxErrors.error c.args.errors.now) c.args.placement.now.rect)
