use Rattle.std.proofs.Common.{◌≡◌, refl, ap, ◌∙◌, subst, arith}
use Rattle.std.specs.Prelude.{Ok}
use Rattle.map_canvas.specs.Maps.{SourceMap}
use Rattle.block_strips.specs.declared.side.Side.TheVariants.{Left, Top}
use Rattle.block_strips.specs.Blocks.{shared_cols}
use Rattle.block_strips.specs.Strips.{strip_of}
use Rattle.quilted.specs.Runs.{JoinsBy}
use Rattle.quilted.proofs.Laying.{answer_formed, answer_stands}
use Rattle.block_check.specs.declared.block.BlockRecord.{BlockRecord}
use Rattle.quilt.proofs.lay.lay_block.Goals as goal

pub returns-clause-block : goal.returns-clause-block
returns-clause-block c =
    let plan = c.args.plan.now in
    let m = c.args.canvas.now.map in
    let sample = c.args.sample.now in
    let placement = c.args.placement.now in
    let output : c.size-output.result ≡ m.size = c.size-output.ensures.size ∙ ap (λ (m : SourceMap). m.size) c.map.ensures.map in
    let left : c.shared-left_cols.result ≡ shared_cols Left plan m.size sample.size placement.rect =
    c.shared-left_cols.ensures ∙ (λ k. shared_cols Left plan (output k) (c.size-part.ensures.size k) placement.rect) in
    let top : c.shared-top_cols.result ≡ shared_cols Top plan m.size sample.size placement.rect =
    c.shared-top_cols.ensures ∙ (λ k. shared_cols Top plan (output k) (c.size-part.ensures.size k) placement.rect) in
    record {
      placed = refl;
      left = subst (λ cols. JoinsBy (strip_of Left m sample placement cols) c.in_ok-left.left) left (c.in_ok-left.ensures {u = tt});
      top = subst (λ cols. JoinsBy (strip_of Top m sample placement cols) c.in_ok-top.top) top (c.in_ok-top.ensures {u = tt});
    }

pub returns-clause-formed : goal.returns-clause-formed
returns-clause-formed c =
    let block : BlockRecord = record { placement = c.args.placement.now; left = c.in_ok-left.left; top = c.in_ok-top.top } in
    answer_formed c.args.plan.now c.args.canvas.now.map c.args.sample.now c.args.placement.now c.requires.fits c.next_block_shares_strips.ensures.fits c.next_block_shares_strips.ensures.strips (Ok block) (returns-clause-block c)

pub returns-clause-stands : goal.returns-clause-stands
returns-clause-stands c =
    let block : BlockRecord = record { placement = c.args.placement.now; left = c.in_ok-left.left; top = c.in_ok-top.top } in
    answer_stands c.args.plan.now c.args.canvas.now.map c.args.sample.now c.args.placement.now c.requires.fits c.next_block_shares_strips.ensures.fits c.next_block_shares_strips.ensures.strips (Ok block) (returns-clause-block c)

pub join-requires-clause-most : goal.join-requires-clause-most
join-requires-clause-most c =
    let plan = c.args.plan.now in
    let rect = c.args.placement.now.rect in
    let output : c.size-output.result ≡ c.args.canvas.now.map.size = c.size-output.ensures.size ∙ ap (λ (m : SourceMap). m.size) c.map.ensures.map in
    let left : c.shared-left_cols.result ≡ shared_cols Left plan c.args.canvas.now.map.size c.args.sample.now.size rect =
    c.shared-left_cols.ensures ∙ (λ k. shared_cols Left plan (output k) (c.size-part.ensures.size k) rect) in
    omega (arith, left, c.next_block_shares_strips.ensures.strips.left)

pub join-requires-2-clause-most : goal.join-requires-2-clause-most
join-requires-2-clause-most c =
    let plan = c.args.plan.now in
    let rect = c.args.placement.now.rect in
    let output : c.size-output.result ≡ c.args.canvas.now.map.size = c.size-output.ensures.size ∙ ap (λ (m : SourceMap). m.size) c.map.ensures.map in
    let top : c.shared-top_cols.result ≡ shared_cols Top plan c.args.canvas.now.map.size c.args.sample.now.size rect =
    c.shared-top_cols.ensures ∙ (λ k. shared_cols Top plan (output k) (c.size-part.ensures.size k) rect) in
    omega (arith, top, c.next_block_shares_strips.ensures.strips.top)
