use Rattle.std.proofs.Common.{arith, ◌≡◌, ◌∙◌, ap, rules, w32, ◌≤◌, sym, subst}
use Rattle.std.proofs.lemmas.Grind.{common_steps}
use Rattle.std.specs.Prelude.{Some, option_map}
use Rattle.std.proofs.lemmas.Int.{to_z-of_z}
use mir.Val.{SFits}
use Rattle.map_canvas.specs.Maps.{SourceMap}
use Rattle.boxes.specs.Spans.{at_least_0}
use Rattle.block_strips.specs.Blocks.{block_at, block_on, box_of, FitsBlock, block_len}
use Rattle.cells.specs.declared.place.Size.{Size}
use Rattle.block_strips.proofs.Boxes.{spans_fit}
use Rattle.block_strips.proofs.blocks.block_rect.Goals as goal

pub returns-clause-fits : goal.returns-clause-fits
returns-clause-fits c =
    let plan = c.args.plan.now in
    let m = c.args.canvas.now.map in
    let part = c.args.sample.now.size in
    let q = c.in_ok-q.q in
    let out_is : c.size-output.result ≡ m.size = c.size-output.ensures.size ∙ ap (λ (m : SourceMap). m.size) c.map.ensures.map in
    let part_is : c.size-part.result ≡ part = c.size-part.ensures.size in
    let across = c.block_on-x.result in
    let down = c.block_on-y.result in
    let out = c.size-output.result in
    let sample = c.size-part.result in
    let frames : 1 ≤ out.f = subst (λ (s : Size). 1 ≤ s.f) (sym c.size-output.ensures.size) c.size-output.ensures.map.small.axes.f.0 in
    let sample_frames : 1 ≤ sample.f = subst (λ (s : Size). 1 ≤ s.f) (sym part_is) c.size-part.ensures.volume.small.axes.f.0 in
    let fits : FitsBlock out sample (box_of across down) =
    spans_fit out sample (block_len out.w sample.w plan) (block_len out.h sample.h plan) c.count_of.result c.count_of-2.result across down c.block_on-x.ensures.fits c.block_on-y.ensures.fits
    (omega arith) (omega arith) frames sample_frames in
    subst (FitsBlock m.size part) (sym c.box_of.ensures)
    (subst (λ (o : Size). FitsBlock o part (box_of across down)) out_is (subst (λ (p : Size). FitsBlock out p (box_of across down)) part_is fits))

pub block_on-y-requires-clause-q : goal.block_on-y-requires-clause-q
block_on-y-requires-clause-q c = grind (arith, common_steps)

pub box_of-requires : goal.box_of-requires
box_of-requires c = grind (arith, common_steps)

pub block_on-x-requires-clause-q : goal.block_on-x-requires-clause-q
block_on-x-requires-clause-q c = grind (arith, common_steps)

pub block_on-y-requires-clause-output : goal.block_on-y-requires-clause-output
block_on-y-requires-clause-output c = grind (arith, common_steps)

pub block_on-y-requires-clause-part : goal.block_on-y-requires-clause-part
block_on-y-requires-clause-part c = grind (arith, common_steps)

pub block_on-x-requires-clause-output : goal.block_on-x-requires-clause-output
block_on-x-requires-clause-output c = grind (arith, common_steps)

pub block_on-x-requires-clause-part : goal.block_on-x-requires-clause-part
block_on-x-requires-clause-part c = grind (arith, common_steps)

pub returns-clause-next : goal.returns-clause-next
returns-clause-next c =
    let plan = c.args.plan.now in
    let m = c.args.canvas.now.map in
    let part = c.args.sample.now.size in
    let q = c.in_ok-q.q in
    let out_is : c.size-output.result ≡ m.size = c.size-output.ensures.size ∙ ap (λ (m : SourceMap). m.size) c.map.ensures.map in
    let part_is : c.size-part.result ≡ part = c.size-part.ensures.size in
    let x_fits : SFits w32 q.x = search rules in
    let y_fits : SFits w32 q.y = search rules in
    let x : c.count_of.result ≡ at_least_0 q.x = c.count_of.ensures ∙ ap at_least_0 (to_z-of_z w32 q.x x_fits) in
    let y : c.count_of-2.result ≡ at_least_0 q.y = c.count_of-2.ensures ∙ ap at_least_0 (to_z-of_z w32 q.y y_fits) in
    let across : c.block_on-x.result ≡ block_on m.size.w part.w plan (at_least_0 q.x) = c.block_on-x.ensures.span ∙ (λ k. block_on (out_is k).w (part_is k).w plan (x k)) in
    let down : c.block_on-y.result ≡ block_on m.size.h part.h plan (at_least_0 q.y) = c.block_on-y.ensures.span ∙ (λ k. block_on (out_is k).h (part_is k).h plan (y k)) in
    (λ k. Some ((c.box_of.ensures ∙ (λ i. box_of (across i) (down i))) k)) ∙ ap (option_map (block_at plan m.size part)) (c.in_ok-q.ensures {u = tt}).first

pub returns-clause-full : goal.returns-clause-full
returns-clause-full c = grind (arith, common_steps)
