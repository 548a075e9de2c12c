use Rattle.std.proofs.Common.{◌≡◌, ◌≤◌, ◌<◌, ◌*◌, ◌^◌, [], arith, refl, subst, sym}
use Rattle.std.specs.Prelude.{IfOk}
use Rattle.std.proofs.lemmas.Grind.{common_steps}
use Rattle.cells.proofs.BoxLaws.{box_small}
use Rattle.search_squares.specs.Blocks.{block_bytes}
use Rattle.search_squares.specs.Gathered.{AreGathered, HasShortRows}
use Rattle.search_squares.proofs.BlockErrors.{gathered_bound}
use Rattle.search_squares.proofs.Gatherings.{none_gathered}
use Rattle.search_squares.proofs.blocks.BoxBlocks.gather_of.Goals as goal

pub cells-i-end-requires : goal.cells-i-end-requires
cells-i-end-requires c =
    box_small c.args.canvas.now.map.size c.args.rect.now.corner c.args.rect.now.size c.picture-picture.ensures.canvas.map.small c.requires.cells c.requires.inside

pub loop-i-init : goal.loop-i-init
loop-i-init c = record {
  gathered =
      subst (λ blocks. AreGathered c.args.canvas.now c.args.rect.now c.args.side c.args.size blocks c.in_ok-free.free.items) (sym c.new.ensures.items)
      (subst (AreGathered c.args.canvas.now c.args.rect.now c.args.side c.args.size []) (sym c.in_ok-free.ensures.items)
      (none_gathered c.args.canvas.now c.args.rect.now c.args.side c.args.size c.args.filled.now c.requires.long c.requires.filled));
  side = refl;
  size = refl;
}

pub add_from-requires-clause-few : goal.add_from-requires-clause-few
add_from-requires-clause-few c = subst (λ side. 255 * block_bytes side c.args.canvas.now.picture.k < 2 ^ 16) (sym c.loop-i.invariant.side) c.requires.few

pub add_from-requires-clause-rows : goal.add_from-requires-clause-rows
add_from-requires-clause-rows c = subst HasShortRows (sym c.loop-i.invariant.size) c.requires.rows

pub add_from-requires-clause-gathered : goal.add_from-requires-clause-gathered
add_from-requires-clause-gathered c = grind (arith, common_steps)

pub loop-i-preserved : goal.loop-i-preserved
loop-i-preserved c = record {
  gathered = grind (arith, common_steps);
  side = grind (arith, common_steps);
  size = grind (arith, common_steps);
}

pub returns-clause-blocks : goal.returns-clause-blocks
returns-clause-blocks c =
    let blocks = c.loop-i.blocks in
    let some : 1 ≤ blocks.side = subst (λ side. 1 ≤ side) (sym c.loop-i.invariant.side) c.requires.some in
    record {
      some = some;
      inside = c.loop-i.invariant.gathered.inside;
      entries = c.loop-i.invariant.gathered.entries;
      sums = c.loop-i.invariant.gathered.sums;
      bound = λ sample from laid.
          gathered_bound c.args.canvas.now c.picture-picture.ensures.canvas c.args.rect.now sample from laid blocks.side some blocks.size blocks.blocks.items c.loop-i.free.items c.loop-i.invariant.gathered;
    }

pub add_from-requires-clause-inside : goal.add_from-requires-clause-inside
add_from-requires-clause-inside c = c.requires.inside

pub returns-clause-side : goal.returns-clause-side
returns-clause-side c = c.loop-i.invariant.side

pub returns-then-side-eq1-clause-side : goal.returns-then-side-eq1-clause-side
returns-then-side-eq1-clause-side c = subst (λ side. IfOk c.singles_of.result (λ blocks. blocks.side ≡ side)) (sym c.if-side-eq1.true) c.singles_of.ensures.side

pub add_from-requires-clause-below : goal.add_from-requires-clause-below
add_from-requires-clause-below c = grind (arith, common_steps)
