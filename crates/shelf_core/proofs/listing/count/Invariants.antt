-- The listings passed so far have counted the call, and the rest are as they were.
use Rattle.std.proofs.Common.{◌≡◌, ◌++◌, take, drop}
use Rattle.shelf_core.specs.Listings.{after_call}
use Rattle.shelf_core.proofs.listing.count.Given as goal

abbrev pub invariant-loop-listing : goal.invariant-loop-listing
invariant-loop-listing l = l.listings ≡ after_call l.call l.name (take l.listing-index l.initial.listings) ++ drop l.listing-index l.initial.listings
