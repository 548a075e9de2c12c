use Rattle.std.proofs.Common.{refl, arith}
use Rattle.shelf_core.proofs.TapeLaws.{spanned_part}
use Rattle.shelf_core.proofs.tape.place_of.Goals as goal

pub overflow_add-result : goal.overflow_add-result
overflow_add-result c = omega (arith, spanned_part c.args.i c.args.spans.now _ c.requires.within refl)

pub returns-clause-within : goal.returns-clause-within
returns-clause-within c = omega (arith, spanned_part c.args.i c.args.spans.now _ c.requires.within refl)
