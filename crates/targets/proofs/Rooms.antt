-- A sample and a target of one frame each have room in one volume.
use Rattle.std.proofs.Common.{◌≡◌, ℕ, ◌+◌, ◌*◌, ◌≤◌, ap, arith}
use Rattle.std.proofs.Math.Nat.{mul-le-mul}
use Rattle.limits.specs.declared.bounds.TheConstants.{MOST_CELLS}
use Rattle.cells.specs.Cells.{Cells, IsOnePart, IsVolume, count_of}
use Rattle.cells.specs.Parts.{count_from}

frame_cells : (w h f : ℕ) → w ≤ 4096 → h ≤ 4096 → f ≡ 1 → w * (h * f) ≤ 16777216
frame_cells w h f lw lh one =
    let row : h * f ≤ 4096 = omega (arith, ap (λ n. h * n) one, lh) in
    let all : w * (h * f) ≤ 4096 * 4096 = mul-le-mul lw row in
    omega (arith, all)

one_frame : (v : Cells) → IsVolume v → IsOnePart v → v.size.f ≡ 1 → count_of v ≤ 16777216
one_frame v is part one =
    omega (arith, ap (count_from v.size) part, frame_cells v.size.w v.size.h v.size.f is.small.axes.w.1 is.small.axes.h.1 one)

pub both_have_room : (sample target : Cells) → IsVolume sample → IsVolume target → IsOnePart sample → IsOnePart target → sample.size.f ≡ 1 → target.size.f ≡ 1 → count_of sample + count_of target ≤ MOST_CELLS
both_have_room sample target is also part other one same =
    omega (arith, one_frame sample is part one, one_frame target also other same)
