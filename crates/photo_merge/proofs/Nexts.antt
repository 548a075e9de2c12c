-- One more picture: what each cell comes from after it, and that there is one map after it.
use Rattle.std.proofs.Common.{◌≡◌, ◌≢◌, ℕ, ◌<◌, ◌⊎◌, inl, inr, Bool, true, false, refl, ap, sym, ◌∙◌, subst, arith}
use Rattle.std.proofs.Common.{eq-eqb, eqb-true}
use Rattle.std.specs.Prelude.{nat_eq, Some, IsSome}
use mathlib.Core.Bool.{false≢true}
use Rattle.cells.specs.declared.place.At.{At}
use Rattle.cells.specs.Boxes.{HasCells}
use Rattle.cells.specs.Cells.{Cells}
use Rattle.cells.specs.Distances.{distance}
use Rattle.cells.specs.Places.{IsInside}
use Rattle.map_canvas.specs.declared.canvas.Placement.{Placement}
use Rattle.map_canvas.specs.Choices.{after_at, map_after}
use Rattle.map_canvas.specs.Maps.{IsFull, SourceMap, map_at}
use Rattle.costs.specs.Lawful.{AreHeld, AreMarks, is_held, is_new}
use Rattle.costs.proofs.Locality.{after_new, after_old}
use Rattle.costs.proofs.Existence.{new_inside}
use Rattle.least_choice.proofs.OneChoice.{one_fewest}
use Rattle.photo_merge.specs.Marks.{earlier_marks, mark_at}
use Rattle.photo_merge.specs.Merges.{MergesNext, same_place, whole_from, without}
use Rattle.photo_merge.proofs.MapsOver.{over_inside, place_inside}
use Rattle.photo_merge.proofs.Withouts.{cut_cell, earlier_from, earlier_of, mark_of_cell, marks_count, other_cell}
use Rattle.photo_merge.proofs.Wholes.{in_whole, of_whole, said_of, source_of_cell}

-- the marks of earlier pictures are those of filled cells, where the map before is full
pub marks_are_held : (pictures marks : Cells) (number : ℕ) (before : SourceMap) → IsFull before → AreMarks (without before marks number) (whole_from pictures number before.size) (earlier_marks marks before.size number)
marks_are_held pictures marks number before full = record { count = marks_count marks before.size number; filled = held }
  where
    placement : Placement
    placement = whole_from pictures number before.size

    held : AreHeld (without before marks number) placement (earlier_marks marks before.size number)
    held p is =
        let cell = new_inside placement (earlier_marks marks before.size number) p is in
        let inside : IsInside before.size p = of_whole pictures number before.size p (subst IsSome (sym cell.1.index) refl) in
        let here = place_inside before.size p inside in
        let earlier = earlier_from number (mark_at marks p)
        (sym (mark_of_cell marks before.size number p here.0 here.1) ∙ sym (said_of pictures number before.size (earlier_marks marks before.size number) p here.0 here.1) ∙ is) in
        subst IsSome (sym (other_cell before marks number p inside (λ same. omega (arith, same, earlier.1)))) (full p inside)

module _ (pictures marks : Cells) (number : ℕ) (before after : SourceMap) (next : MergesNext pictures marks number before after) where
  abbrev placement : Placement
  placement = whole_from pictures number before.size

  pub size_stays : after.size ≡ before.size
  size_stays = ap (λ (m : SourceMap). m.size) next.after_is

  after_place : (p : At) → IsInside before.size p → map_at after p ≡ after_at (without before marks number) placement next.choice p
  after_place p inside = ap (λ m. map_at m p) next.after_is ∙ over_inside (after_at (without before marks number) placement next.choice) before.size p inside

  new_cell : (p : At) → IsInside before.size p → is_new placement next.choice p ≡ true → map_at after p ≡ Some (same_place pictures number p)
  new_cell p inside new = after_place p inside ∙ after_new (without before marks number) placement next.choice p new ∙ ap Some (source_of_cell pictures number before.size p)

  old_cell : (p : At) → IsInside before.size p → is_new placement next.choice p ≡ false → mark_at marks p ≢ number → map_at after p ≡ map_at before p
  old_cell p inside old other = after_place p inside ∙ after_old (without before marks number) placement next.choice p old ∙ other_cell before marks number p inside other

  -- a cell marked with the picture comes from it
  pub own_cell : (p : At) → IsInside before.size p → mark_at marks p ≡ number → map_at after p ≡ Some (same_place pictures number p)
  own_cell p inside is = new_cell p inside (next.fewest.least.one.0.unfilled p (in_whole pictures number before.size p inside) (cut_cell before marks number p inside is))

  -- one marked with an earlier picture stays as it is
  pub earlier_cell : (p : At) → IsInside before.size p → 0 < mark_at marks p → mark_at marks p < number → map_at after p ≡ map_at before p
  earlier_cell p inside from to =
      let here = place_inside before.size p inside in
      let held : is_held placement (earlier_marks marks before.size number) p ≡ true =
      said_of pictures number before.size (earlier_marks marks before.size number) p here.0 here.1 ∙ mark_of_cell marks before.size number p here.0 here.1 ∙ earlier_of number (mark_at marks p) from to in
      old_cell p inside (next.fewest.least.one.1 p held) (λ same. omega (arith, same, to))

  -- any cell comes from the picture, or stays as it is
  pub either_cell : (p : At) → IsInside before.size p → (map_at after p ≡ Some (same_place pictures number p)) ⊎ (map_at after p ≡ map_at before p)
  either_cell p inside = by (nat_eq (mark_at marks p) number) refl (is_new placement next.choice p) refl
    where
      by : (t : Bool) → nat_eq (mark_at marks p) number ≡ t → (new : Bool) → is_new placement next.choice p ≡ new → (map_at after p ≡ Some (same_place pictures number p)) ⊎ (map_at after p ≡ map_at before p)
      by true e new is = inl (own_cell p inside (eqb-true (mark_at marks p) number e))
      by false e true is = inl (new_cell p inside is)
      by false e false is = inr (old_cell p inside is (λ same. false≢true (sym e ∙ eq-eqb (mark_at marks p) number same)))

  pub stays_full : IsFull before → IsFull after
  stays_full full p inside =
      let there : IsInside before.size p = subst (λ size. IsInside size p) size_stays inside in
      elim (either_cell p there) [ inl e ↦ subst IsSome (sym e) refl | inr e ↦ subst IsSome (sym e) (full p there) ]

-- there is one map after it
pub next_once : (pictures marks : Cells) (number : ℕ) (before one other : SourceMap) → HasCells before.size → MergesNext pictures marks number before one → MergesNext pictures marks number before other → one ≡ other
next_once pictures marks number before one other some a b =
    let m = without before marks number in
    let placement = whole_from pictures number before.size in
    let held = earlier_marks marks before.size number in
    let same : a.choice ≡ b.choice = one_fewest (distance pictures) m placement held a.choice b.choice some a.count b.count a.fewest b.fewest in
    a.after_is ∙ ap (map_after m placement) same ∙ sym b.after_is
