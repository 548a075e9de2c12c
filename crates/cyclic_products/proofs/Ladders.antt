-- The two ladders: squares and products of numbers, which are computed here.
use Rattle.std.proofs.Common.{refl}
use Rattle.cyclic_products.specs.declared.residues.TheConstants.{LAST}
use Rattle.cyclic_products.specs.declared.tables.TheConstants.{INVERSES, ROOTS}
use Rattle.cyclic_products.proofs.Roots.{AreInverse, Cancel, Climbs, IsLadder, are_inverse, is_ladder}

climbs : Climbs LAST LAST ROOTS
climbs = (refl, (refl, (refl, (refl, (refl, (refl, (refl, (refl, (refl, (refl, (refl, (refl, (refl, (refl, (refl, (refl, (refl, (refl, (refl, (refl, (refl, (refl, (refl, (refl, (refl, tt)))))))))))))))))))))))))

cancel : Cancel LAST ROOTS INVERSES
cancel = (refl, (refl, (refl, (refl, (refl, (refl, (refl, (refl, (refl, (refl, (refl, (refl, (refl, (refl, (refl, (refl, (refl, (refl, (refl, (refl, (refl, (refl, (refl, (refl, (refl, tt)))))))))))))))))))))))))

pub roots_climb : IsLadder LAST ROOTS
roots_climb = is_ladder LAST ROOTS climbs

pub roots_cancel : AreInverse LAST ROOTS INVERSES
roots_cancel = are_inverse LAST ROOTS INVERSES cancel
