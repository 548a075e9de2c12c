-- There is one map after a choice, and one next step.
use Rattle.std.proofs.Common.{◌≡◌, ℕ, ◌<◌, List, length, map, get_or, refl, ap, sym, ◌∙◌, subst, arith, Bool, false}
use Rattle.std.proofs.lemmas.List.{ext_get_or}
use Rattle.std.proofs.lemmas.Option.{get_or_from_slice_get, same_Some}
use Rattle.std.specs.Prelude.{Option, None, IsSome}
use Rattle.cells.specs.declared.place.At.{At}
use Rattle.cells.specs.Boxes.{HasCells}
use Rattle.cells.specs.Cells.{Cells}
use Rattle.cells.specs.Distances.{distance}
use Rattle.cells.specs.Places.{cell_count, place_of, places}
use Rattle.cells.proofs.PlaceLists.{count_over, entry_over}
use Rattle.map_canvas.specs.declared.canvas.Placement.{Placement}
use Rattle.map_canvas.specs.Choices.{chosen}
use Rattle.map_canvas.specs.Maps.{IsMap, SourceMap, map_at}
use Rattle.map_canvas.proofs.AfterLaws.{source_of_place}
use Rattle.patch_picks.proofs.OnePick.{one_pick}
use Rattle.job_words.specs.declared.tile.TilePlan.{TilePlan}
use Rattle.job_words.specs.declared.tile.Wrap.{Wrap}
use Rattle.torus.specs.Boxes.{tile_box}
use Rattle.torus.specs.Steps.{AreSameAround, IsFewestAround, IsNextTile, IsTilePick, ThereIsOneTile, Tiling, map_after_around}
use Rattle.torus.specs.Tiles.{IsAfterAround, Takes, after_around}
use Rattle.torus.proofs.Fillings.{inside_is}
use Rattle.torus.proofs.Puts.{cell_inside, cell_of, index_is}

-- the map after a choice, as a list
pub after_is : (m after : SourceMap) (wrap : Wrap) (placement : Placement) (choice : List Bool) → IsMap m → IsMap after → IsAfterAround m wrap placement choice after → after ≡ map_after_around m wrap placement choice
after_is m after wrap placement choice is is' step = λ k. record { size = step.size k; sources = same k }
  where
    f : At → Option At
    f = after_around m wrap placement choice

    count : length after.sources ≡ cell_count m.size
    count = is'.count ∙ ap cell_count step.size

    same : after.sources ≡ map f (places m.size)
    same = ext_get_or None after.sources (map f (places m.size)) (count ∙ sym (count_over f m.size)) (λ i lt.
        let below : i < cell_count m.size = omega (arith, count, lt) in
        sym (source_of_place after is' i lt) ∙ ap (λ size. map_at after (place_of size i)) step.size ∙ step.sources (place_of m.size i) (inside_is m i is below)
        ∙ sym (get_or_from_slice_get (map f (places m.size)) i (f (place_of m.size i)) None (entry_over f m.size i below)))

module _ (m : SourceMap) (wrap : Wrap) (placement : Placement) (takes : Takes wrap m.size placement.rect) (some : HasCells placement.rect.size) where
  same_choice : (one other : List Bool) → length one ≡ cell_count placement.rect.size → length other ≡ cell_count placement.rect.size → AreSameAround m wrap placement one other → one ≡ other
  same_choice one other long also same = ext_get_or false one other (long ∙ sym also) each
    where
      each : (i : ℕ) → i < length one → get_or one i false ≡ get_or other i false
      each i lt =
          let below : i < cell_count placement.rect.size = subst (λ n. i < n) long lt in
          let p = cell_of m wrap placement takes some i in
          let at = index_is m wrap placement takes some i below in
          sym (ap (chosen one) at) ∙ same p (record { inside = cell_inside m wrap placement takes some i below; step = subst IsSome (sym at) refl }) ∙ ap (chosen other) at

  -- there is one least choice with the fewest old cells
  pub one_fewest : (d : At → At → ℕ) (one other : List Bool) → length one ≡ cell_count placement.rect.size → length other ≡ cell_count placement.rect.size → IsFewestAround d m wrap placement one → IsFewestAround d m wrap placement other → one ≡ other
  one_fewest d one other long also is is' = same_choice one other long also (is.only other is'.least (is'.fewest one is.least))

-- of a plan, a map and draws there is one next placement
one_next : (plan : TilePlan) (sample : Cells) (before : Tiling) (one other : Placement) → IsNextTile plan before.map sample before.draws one → IsNextTile plan before.map sample before.draws other → one ≡ other
one_next plan sample before one other a b =
    one_pick _ _ _ before.draws one other a.picked (subst (λ rect. IsTilePick plan before.map sample before.draws rect other) (sym same_box) b.picked)
  where
    same_cell : a.q ≡ b.q
    same_cell = same_Some a.q b.q (sym a.first ∙ b.first)

    same_box : one.rect ≡ other.rect
    same_box = a.box ∙ ap (tile_box plan before.map.size sample.size) same_cell ∙ sym b.box

pub one_tile : ThereIsOneTile
one_tile plan sample before after later one other a b = (λ k. record { placement = same_placement k; choice = same_choices k }, λ k. record { map = same_map k; draws = (a.draws ∙ sym b.draws) k })
  where
    same_placement : one.placement ≡ other.placement
    same_placement = one_next plan sample before one.placement other.placement a.next b.next

    same_choices : one.choice ≡ other.choice
    same_choices = one_fewest before.map plan.wrap one.placement a.next.takes a.next.some (distance sample) one.choice other.choice a.choice_count
        (b.choice_count ∙ ap (λ (p : Placement). cell_count p.rect.size) (sym same_placement)) a.fewest
        (subst (λ p. IsFewestAround (distance sample) before.map plan.wrap p other.choice) (sym same_placement) b.fewest)

    same_map : after.map ≡ later.map
    same_map = a.map ∙ (λ k. map_after_around before.map plan.wrap (same_placement k) (same_choices k)) ∙ sym b.map
