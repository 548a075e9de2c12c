use Rattle.std.proofs.Common.{arith}
use Rattle.std.proofs.lemmas.Grind.{common_steps}
use Rattle.std.proofs.Common.{◌≡◌, ◌<◌, length, ap, sym, ◌∙◌, subst}
use Rattle.std.specs.Prelude.{slice_index}
use Rattle.std.proofs.lemmas.Result.{IfOk-weaker}
use Rattle.cells.specs.Distances.{distance}
use Rattle.cells.specs.Places.{cell_count}
use Rattle.boxes.specs.Pairs.{pair_count}
use Rattle.cut_graph.specs.declared.plan.Plan.{Plan}
use Rattle.cut_graph.specs.Building.{HasAllPipes}
use Rattle.cut_graph.specs.Plans.{IsPiped, before}
use Rattle.cut_graph.proofs.Laying.{laid}
use Rattle.cut_graph.proofs.network.lay.Goals as goal

pub returns : goal.returns
returns c =
    let plan : Plan = record { map = c.map.result; sample = c.args.sample; placement = c.args.placement.now; cells = c.deref.result; seams = c.deref-2.result } in
    let d = distance c.args.sample.now in
    let placement = c.args.placement.now in
    let cells = c.args.cells.now.nodes.items in
    let nodes = c.args.seams.now.next in
    let count : length c.deref-2.result.now ≡ pair_count placement.rect.size = ap length c.deref-2.ensures.value ∙ c.requires.seams.count in
    IfOk-weaker c.lay_pipes.result (IsPiped plan nodes (before plan (cell_count placement.rect.size)) (pair_count placement.rect.size))
    (HasAllPipes d c.args.canvas.now.map placement cells c.args.seams.now.nodes.items nodes)
    (λ piping piped.
    subst (λ m. HasAllPipes d m placement cells c.args.seams.now.nodes.items nodes piping) c.map.ensures.map
    (subst (λ list. HasAllPipes d c.map.result.now placement list c.args.seams.now.nodes.items nodes piping) c.deref.ensures.value
    (subst (λ list. HasAllPipes d c.map.result.now placement c.deref.result.now list nodes piping) c.deref-2.ensures.value (laid plan nodes piping count piped))))
    c.lay_pipes.ensures

pub lay_pipes-requires-clause-plan : goal.lay_pipes-requires-clause-plan
lay_pipes-requires-clause-plan c = grind (arith, common_steps)

pub lay_pipes-requires-clause-nodes : goal.lay_pipes-requires-clause-nodes
lay_pipes-requires-clause-nodes c =
    let numbering = c.requires.seams.numbering in
    record {
      ends = omega (arith, c.requires.cells.order, numbering.order);
      cells_in = λ k. omega (arith, subst (λ list. slice_index list k < c.args.cells.now.next) (sym c.deref.ensures.value) (c.requires.cells.below k), numbering.order);
      seams_in = λ k. subst (λ list. slice_index list k < c.args.seams.now.next) (sym c.deref-2.ensures.value) (numbering.below k);
    }
