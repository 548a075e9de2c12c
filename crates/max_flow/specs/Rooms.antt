-- The room that is left in a table of pipes.
use Rattle.std.specs.declared.alloc.Global.{Global}
use Rattle.std.specs.Prelude.{Vec, ◌≤◌, ◌+◌, ℕ, vec_len, vec_capacity}
use Rattle.max_flow.specs.declared.network.Pipe.{Pipe}

-- so many pipes more have room
abbrev pub HasRoomForPipes : ℕ → Vec Pipe Global → Type 0
HasRoomForPipes more pipes = vec_len pipes + more ≤ vec_capacity pipes
