use Rattle.std.proofs.Common.{◌%◌, arith, sym}
use Rattle.turned.proofs.Turns.{odd_size}
use Rattle.turned.proofs.turn.turned_size.Goals as goal

pub returns-in_default : goal.returns-in_default
returns-in_default c = sym (odd_size (c.args.turn % 4) c.args.size (omega arith) (λ e. omega (arith, e)) (λ e. omega (arith, e)))
