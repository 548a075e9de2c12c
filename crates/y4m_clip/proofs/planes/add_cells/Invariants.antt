use Rattle.std.proofs.Common.{◌≡◌, ◌++◌}
use Rattle.y4m_clip.specs.Spaces.{cell_bytes, joined_to}
use Rattle.y4m_clip.proofs.planes.add_cells.Given as goal

abbrev pub invariant-loop-x : goal.invariant-loop-x
invariant-loop-x l = l.cells.items ≡ l.initial.cells.items ++ joined_to l.x (cell_bytes l.space l.upper l.lower l.blue l.red)
