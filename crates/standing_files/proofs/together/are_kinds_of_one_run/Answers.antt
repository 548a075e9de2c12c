use Rattle.std.proofs.Common.{refl, arith}
use Rattle.std.proofs.lemmas.Grind.{common_steps}
use mathlib.Core.Bool.{false≢true}
use Rattle.standing_files.proofs.together.are_kinds_of_one_run.Goals as goal

pub returns-in-Frames-Walk : goal.returns-in-Frames-Walk
returns-in-Frames-Walk c = grind (arith, common_steps)

pub returns-in-Cells-Cuts : goal.returns-in-Cells-Cuts
returns-in-Cells-Cuts c = rw (c.in-Cells-Cuts.is-0, c.in-Cells-Cuts.is-1) (λ yes. tt, λ some. refl)

pub returns-in-Cells-Blocks : goal.returns-in-Cells-Blocks
returns-in-Cells-Blocks c = rw (c.in-Cells-Blocks.is-0, c.in-Cells-Blocks.is-1) (λ yes. tt, λ some. refl)

pub returns-in-Cells-Walk : goal.returns-in-Cells-Walk
returns-in-Cells-Walk c = rw (c.in-Cells-Walk.is-0, c.in-Cells-Walk.is-1) (λ yes. absurd (false≢true yes), λ none. absurd none)

pub returns-in-Frames-Cuts : goal.returns-in-Frames-Cuts
returns-in-Frames-Cuts c = rw (c.in-Frames-Cuts.is-0, c.in-Frames-Cuts.is-1) (λ yes. absurd (false≢true yes), λ none. absurd none)

pub returns-in-Frames-Blocks : goal.returns-in-Frames-Blocks
returns-in-Frames-Blocks c = rw (c.in-Frames-Blocks.is-0, c.in-Frames-Blocks.is-1) (λ yes. absurd (false≢true yes), λ none. absurd none)
