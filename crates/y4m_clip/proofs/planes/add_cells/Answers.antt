use Rattle.std.proofs.lemmas.Grind.{common_steps}
use Rattle.std.proofs.Common.{◌≡◌, ◌++◌, ◌≤◌, length, sym, subst, arith}
use Rattle.std.proofs.lemmas.List.{append-nil}
use Rattle.y4m_clip.specs.Spaces.{cell_bytes, joined_to}
use Rattle.y4m_clip.specs.Planes.{HasRow}
use Rattle.y4m_clip.proofs.Joined.{joined_step}
use Rattle.y4m_clip.proofs.Laying.{joined_bytes}
use Rattle.y4m_clip.proofs.Rows.{row_cell}
use Rattle.y4m_clip.proofs.planes.add_cells.Goals as goal

pub returns-in_ok-extend_from_slice-in-Mono : goal.returns-in_ok-extend_from_slice-in-Mono
returns-in_ok-extend_from_slice-in-Mono c =
    let upper = c.args.upper.now in
    let le : c.args.w ≤ length upper = subst (λ space. HasRow space c.args.w (length upper) (length c.args.lower.now) (length c.args.blue.now) (length c.args.red.now)) c.in-Mono.is c.requires in
    subst (λ space. c.extend_from_slice.new.self.items ≡ c.args.cells.now.items ++ joined_to c.args.w (cell_bytes space upper c.args.lower.now c.args.blue.now c.args.red.now)) (sym c.in-Mono.is)
    (subst (λ bytes. c.extend_from_slice.new.self.items ≡ c.args.cells.now.items ++ bytes) (sym (joined_bytes upper c.args.w le)) c.in_ok-extend_from_slice-in-Mono.ensures.items)

pub add_cell-requires : goal.add_cell-requires
add_cell-requires c = row_cell c.args.space c.args.w (length c.args.upper.now) (length c.args.lower.now) (length c.args.blue.now) (length c.args.red.now) c.loop-x.x c.requires c.loop-x-test.true

pub loop-x-init : goal.loop-x-init
loop-x-init c = sym (append-nil c.args.cells.now.items)

pub loop-x-preserved : goal.loop-x-preserved
loop-x-preserved c = joined_step c.args.cells.now.items c.loop-x.cells.items c.add_cell.new.cells.items c.loop-x.x (cell_bytes c.args.space c.args.upper.now c.args.lower.now c.args.blue.now c.args.red.now) c.loop-x.invariant c.in_ok-add_cell-in_default.ensures

pub returns-after-loop-x : goal.returns-after-loop-x
returns-after-loop-x c =
    let all : c.loop-x.x ≡ c.args.w = omega (arith, c.loop-x-test.false, c.loop-x.auto.x-end) in
    subst (λ n. c.loop-x.cells.items ≡ c.args.cells.now.items ++ joined_to n (cell_bytes c.args.space c.args.upper.now c.args.lower.now c.args.blue.now c.args.red.now)) all c.loop-x.invariant

pub slice_bounds-extend_from_slice-end : goal.slice_bounds-extend_from_slice-end
slice_bounds-extend_from_slice-end c = grind (arith, common_steps)
