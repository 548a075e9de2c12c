-- There is one least choice with the fewest old cells, as a list.
use Rattle.std.proofs.Common.{◌≡◌, ℕ, ◌<◌, Bool, false, List, length, get_or, refl, ap, sym, ◌∙◌, subst}
use Rattle.std.proofs.lemmas.List.{ext_get_or}
use Rattle.std.specs.Prelude.{IsSome, Some}
use Rattle.cells.specs.Boxes.{HasCells}
use Rattle.cells.specs.Places.{cell_count}
use Rattle.cells.proofs.Raster.{place_at}
use Rattle.map_canvas.specs.declared.canvas.Placement.{Placement}
use Rattle.map_canvas.specs.Choices.{box_cell, box_index, chosen}
use Rattle.map_canvas.proofs.ChoiceLaws.{box_index_of}
use Rattle.least_choice.specs.Fewest.{AreSame, ThereIsOneFewest}

same_choice : (placement : Placement) (one other : List Bool) → HasCells placement.rect.size → length one ≡ cell_count placement.rect.size → length other ≡ cell_count placement.rect.size → AreSame placement one other → one ≡ other
same_choice placement one other has long also same = ext_get_or false one other (long ∙ sym also) each
  where
    each : (i : ℕ) → i < length one → get_or one i false ≡ get_or other i false
    each i lt =
        let at : box_index placement (box_cell placement i) ≡ Some i = box_index_of placement i (place_at placement.rect.size i has.w has.h (subst (λ n. i < n) long lt)) in
        sym (ap (chosen one) at) ∙ same (box_cell placement i) (subst IsSome (sym at) refl) ∙ ap (chosen other) at

pub one_fewest : ThereIsOneFewest
one_fewest d m placement held one other has long long_other is also =
    same_choice placement one other has long long_other (is.only other also.least (also.fewest one is.least))
