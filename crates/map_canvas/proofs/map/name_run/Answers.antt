use Rattle.std.proofs.lemmas.Grind.{common_steps}
use Rattle.std.proofs.Common.{◌≡◌, ◌≤◌, ◌+◌, ap, sym, ◌∙◌, arith, length, slice_set}
use Rattle.std.proofs.lemmas.Int.{ints, to_z_pos}
use Rattle.std.specs.Prelude.{Some, None, pos}
use Rattle.std.specs.Int.{w32}
use Rattle.std.proofs.Math.Seq.{paste}
use Rattle.std.proofs.lemmas.List.Edits.{paste_more}
use Rattle.cells.specs.Places.{plus, spot}
use Rattle.cells.proofs.Rows.{paste-whole}
use Rattle.map_canvas.specs.Runs.{source_run}
use Rattle.map_canvas.proofs.Runs.{length-source_run, source_run-at}
use Rattle.map_canvas.proofs.map.name_run.Goals as goal

pub loop-j-preserved : goal.loop-j-preserved
loop-j-preserved c =
    let run = source_run c.args.from c.args.w in
    let j = c.loop-j.j in
    let near : j ≤ 131072 = omega (arith, ints, (c.requires.sources 0 (omega (arith, c.loop-j-test.true))).x.0, (c.requires.sources j c.loop-j-test.true).x.1) in
    let source : c.plus.result ≡ plus c.args.from (spot j 0 0) = c.plus.ensures ∙ (λ i. plus c.args.from (record { x = to_z_pos w32 j (omega (arith, near)) i; y = pos 0; f = pos 0 })) in
    (λ i. slice_set (c.loop-j.invariant i) (c.args.start + j) ((c.new.ensures ∙ ap Some source ∙ sym (source_run-at c.args.from c.args.w j None c.loop-j-test.true)) i))
    ∙ paste_more c.args.sources.now c.args.start run j None (omega (arith, c.requires.room, c.loop-j-test.true)) (omega (arith, c.loop-j-test.true, length-source_run c.args.from c.args.w))

pub returns : goal.returns
returns c =
    let run = source_run c.args.from c.args.w in
    let whole : c.loop-j.j ≡ length run = omega (arith, c.loop-j-test.false, c.loop-j.auto.j-end, length-source_run c.args.from c.args.w) in
    c.loop-j.invariant ∙ ap (paste c.args.sources.now c.args.start run) whole ∙ paste-whole c.args.sources.now run c.args.start

pub new-requires : goal.new-requires
new-requires c = grind (arith, common_steps)

pub plus-requires : goal.plus-requires
plus-requires c = grind (arith, common_steps)

pub loop-j-init : goal.loop-j-init
loop-j-init c = grind (arith, common_steps)

pub overflow_cast-step : goal.overflow_cast-step
overflow_cast-step c = grind (arith, common_steps)
