-- The step between two frames.
use Rattle.std.proofs.Common.{◌≡◌, ℕ, ◌+◌, ◌*◌, ◌<◌, get_or}
use Rattle.std.specs.Prelude.{None, ◌&&◌, if◌then◌else◌}
use borrow.Author.Tests.{lt-ltb}
use Rattle.frame_distance.specs.Steps.{Steps, step_at}

-- it is in the table
pub step_at-inside : (steps : Steps) (i j : ℕ) → i < steps.frames → j < steps.frames → step_at steps i j ≡ get_or steps.costs (i * steps.frames + j) None
step_at-inside steps i j row column =
    λ t. if lt-ltb i steps.frames row t && lt-ltb j steps.frames column t then get_or steps.costs (i * steps.frames + j) None else None
