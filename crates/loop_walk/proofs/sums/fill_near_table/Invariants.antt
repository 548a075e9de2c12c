use Rattle.std.proofs.Common.{◌≡◌, ℕ, ◌+◌, ◌*◌, ◌<◌, get_or}
use Rattle.loop_walk.specs.Tables.{entry_at}
use Rattle.loop_walk.specs.Products.{near_entry}
use Rattle.loop_walk.proofs.sums.fill_near_table.Given as goal

abbrev pub invariant-loop-v : goal.invariant-loop-v
invariant-loop-v l = (r j : ℕ) → r < l.v → j < l.costs.frames → get_or l.nears (r * l.costs.frames + j) 0 ≡ near_entry (entry_at l.costs l.tables l.t r j)
