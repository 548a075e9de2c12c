use Rattle.std.proofs.Common.{◌≡◌, ◌++◌, sym, subst, arith}
use Rattle.std.proofs.lemmas.List.{append-nil}
use Rattle.y4m_clip.specs.Spaces.{joined_to}
use Rattle.y4m_clip.specs.Clips.{frame_row}
use Rattle.y4m_clip.proofs.Joined.{joined_step}
use Rattle.y4m_clip.proofs.Laying.{in_runs}
use Rattle.y4m_clip.proofs.planes.add_frame.Goals as goal

pub loop-y-preserved : goal.loop-y-preserved
loop-y-preserved c = joined_step c.args.cells.now.items c.loop-y.cells.items c.add_row.new.cells.items c.loop-y.y (frame_row c.args.space c.args.w c.args.h c.args.planes.now) c.loop-y.invariant c.in_ok-add_row.ensures

pub loop-y-init : goal.loop-y-init
loop-y-init c = sym (append-nil c.args.cells.now.items)

pub overflow_mul-n : goal.overflow_mul-n
overflow_mul-n c = omega (arith, c.requires.few)

pub overflow_mul-w : goal.overflow_mul-w
overflow_mul-w c = omega (arith, c.requires.few, in_runs c.args.w c.loop-y.y c.args.h c.args.w c.loop-y-test.true (omega arith))

pub add_row-requires-clause-planes : goal.add_row-requires-clause-planes
add_row-requires-clause-planes c = c.requires.planes

pub add_row-requires-clause-few : goal.add_row-requires-clause-few
add_row-requires-clause-few c = c.requires.few

pub add_row-requires-clause-inside : goal.add_row-requires-clause-inside
add_row-requires-clause-inside c = in_runs c.args.w c.loop-y.y c.args.h c.args.w c.loop-y-test.true (omega arith)

pub returns : goal.returns
returns c =
    let all : c.loop-y.y ≡ c.args.h = omega (arith, c.loop-y-test.false, c.loop-y.auto.y-end) in
    subst (λ n. c.loop-y.cells.items ≡ c.args.cells.now.items ++ joined_to n (frame_row c.args.space c.args.w c.args.h c.args.planes.now)) all c.loop-y.invariant
