use Rattle.std.proofs.Common.{arith}
use Rattle.std.proofs.lemmas.Grind.{common_steps}
-- One more listing has one_call_less the call.
use Rattle.std.proofs.Common.{ap, sym, ◌∙◌}
use Rattle.std.proofs.lemmas.List.Edits.{map_over_more}
use Rattle.std.proofs.Math.ListN.{set}
use Rattle.shelf_core.specs.Listings.{one_call_less}
use Rattle.shelf_core.specs.declared.listing.Listing.{Listing}
use Rattle.shelf_core.proofs.listing.count.Goals as goal

pub loop-listing-preserved : goal.loop-listing-preserved
loop-listing-preserved c =
    ap (λ (one : Listing). set c.loop-listing.listings c.loop-listing.listing-index one) (c.count_one.ensures ∙ ap (one_call_less c.args.call c.args.name.now) (sym c.listing-item.is))
    ∙ map_over_more (one_call_less c.args.call c.args.name.now) c.args.listings.now c.loop-listing.listings c.loop-listing.listing-index c.listing-item.result c.loop-listing-test.true c.loop-listing.invariant c.listing-item.is

pub returns : goal.returns
returns c = grind (arith, common_steps)
