-- The part that a source is spelled by is the one that has it.
use Rattle.std.proofs.Common.{◌≡◌, ℕ, ◌+◌, List, [], ◌∷◌, refl, sym, subst}
use mathlib.Core.Bool.{false≢true}
use Rattle.std.specs.Prelude.{Option, Some, None, IsSome}
use Rattle.cells.specs.declared.place.At.{At}
use Rattle.cells.specs.declared.place.Size.{Size}
use Rattle.cells.specs.declared.sizes.PartPlace.{PartPlace}
use Rattle.cells.specs.Places.{IsInside, index_in}
use Rattle.cells.specs.Parts.{past}
use Rattle.cells.specs.Cells.{Cells}
use Rattle.cells.specs.SizeLists.{IsPartAlong, IsPartPlace}
use Rattle.cells.proofs.PartLists.{one_part_has}
use Rattle.cells.proofs.PartPlaces.{behind_of, in_front, none_behind, of_behind}
use Rattle.source_map.specs.MapFiles.{part_from, part_or}

along_found : (number : ℕ) (sizes : List Size) (p : At) (there : PartPlace) → IsPartAlong number sizes p there → IsPartAlong number sizes p (part_from number sizes p)
along_found number [] p there along = absurd (none_behind number p there along)
along_found number (size ∷ more) p there along =
    by (index_in size p) refl (λ out. along_found (number + 1) more (past size p) there (behind_of number size more p there out along))
  where
    later : PartPlace
    later = part_from (number + 1) more (past size p)

    by : (o : Option ℕ) → index_in size p ≡ o → ((IsInside size p → ⊥) → IsPartAlong (number + 1) more (past size p) later)
        → IsPartAlong number (size ∷ more) p (part_or number p o later)
    by (Some i) e rest = in_front number size more p (subst IsSome (sym e) refl)
    by None e rest = of_behind number size more p later (rest (λ inside. false≢true (subst IsSome e inside)))

pub part_is : (sizes : List Size) (p : At) (there : PartPlace) → IsPartPlace sizes p there → part_from 1 sizes p ≡ there
part_is [] p there along = absurd (none_behind 1 p there along)
part_is (size ∷ more) p there along =
    let v : Cells = record { size = size; more = more; k = 1; cells = [] } in
    (one_part_has v p).one (part_from 1 (size ∷ more) p) there (along_found 1 (size ∷ more) p there along) along
