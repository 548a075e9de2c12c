-- Two admissible choices change the costs of the pairs in the box alone.
use Rattle.std.proofs.Common.{◌≡◌, ℕ, ◌+◌, refl, ap, sym, ◌∙◌, arith, ◌⊎◌, inl, inr, Bool, true, false, List}
use mathlib.Core.Bool.{false≢true}
use Rattle.std.specs.Prelude.{Option, Some, None, is_some, if◌then◌else◌}
use Rattle.cells.specs.declared.place.At.{At}
use Rattle.cells.specs.declared.place.Axis.{Axis}
use Rattle.cells.specs.declared.place.Axis.TheVariants.{X, Y, F}
use Rattle.cells.specs.Places.{plus, spot}
use Rattle.cells.specs.Neighbours.{unit_step}
use Rattle.cells.specs.Boxes.{HoldsBox, IsInBox}
use Rattle.boxes.proofs.Additions.{counts}
use Rattle.boxes.proofs.Boxes.{box_equal, box_plus}
use Rattle.map_canvas.specs.declared.canvas.Placement.{Placement}
use Rattle.map_canvas.specs.Maps.{SourceMap, map_at}
use Rattle.map_canvas.specs.Canvases.{IsFilledOutside, IsKept, MeetsOutside}
use Rattle.map_canvas.specs.Choices.{after_at, box_index, chosen, new_source}
use Rattle.boxes.specs.Pairs.{in_box}
use Rattle.costs.specs.Costs.{map_within, pair_at, pairs_at, seam_of, total_of, window_of}
use Rattle.costs.specs.Lawful.{ChangesAsWindow, IsLawful, is_new}
use Rattle.costs.proofs.Boxes.{total_within}

pub seam_none : (d : At → At → ℕ) (axis : Axis) (a : Option At) → seam_of d axis a None ≡ 0
seam_none d axis None = refl
seam_none d axis (Some a) = refl

-- what a choice leaves at a place, by what it says of the place
pub after_old : (m : SourceMap) (placement : Placement) (choice : List Bool) (p : At) → is_new placement choice p ≡ false → after_at m placement choice p ≡ map_at m p
after_old m placement choice p old = ap (λ b. if b then Some (new_source placement p) else map_at m p) old

pub after_new : (m : SourceMap) (placement : Placement) (choice : List Bool) (p : At) → is_new placement choice p ≡ true → after_at m placement choice p ≡ Some (new_source placement p)
after_new m placement choice p new = ap (λ b. if b then Some (new_source placement p) else map_at m p) new

-- outside the box nothing is new
pub outside_old : (placement : Placement) (choice : List Bool) (p : At) → (IsInBox placement.rect p → ⊥) → is_new placement choice p ≡ false
outside_old placement choice p out = by (box_index placement p) refl
  where
    by : (i : Option ℕ) → box_index placement p ≡ i → is_new placement choice p ≡ false
    by None e = ap (chosen choice) e
    by (Some i) e = absurd (out (ap is_some e))

-- a pair with a cell outside costs the same in both maps, and one inside costs what it costs in their parts in the box
within_or_same : (d : At → At → ℕ) (axis : Axis) (b c : Bool) (p q p' q' : Option At) → ((b ≡ false) ⊎ (c ≡ false) → seam_of d axis p q ≡ seam_of d axis p' q')
    → seam_of d axis p q + seam_of d axis (if b then p' else None) (if c then q' else None) ≡ seam_of d axis p' q' + seam_of d axis (if b then p else None) (if c then q else None)
within_or_same d axis true true p q p' q' same = omega arith
within_or_same d axis true false p q p' q' same = omega (arith, same (inr refl), seam_none d axis p, seam_none d axis p')
within_or_same d axis false c p q p' q' same = omega (arith, same (inl refl))

module _ (d : At → At → ℕ) (m : SourceMap) (placement : Placement) (choice other : List Bool) (lawful : IsLawful m placement choice) (lawful' : IsLawful m placement other) where
  outside : (n : List Bool) (p : At) → in_box placement.rect p ≡ false → after_at m placement n p ≡ map_at m p
  outside n p out = after_old m placement n p (outside_old placement n p (λ inside. absurd (false≢true (sym out ∙ inside))))

  -- a cell of the box with a filled neighbour outside has one source after both choices
  border : (p : At) → in_box placement.rect p ≡ true → MeetsOutside m placement.rect p → after_at m placement choice p ≡ after_at m placement other p
  border p inside meets = by (map_at m p) refl
    where
      by : (a : Option At) → map_at m p ≡ a → after_at m placement choice p ≡ after_at m placement other p
      by None e = after_new m placement choice p (lawful.unfilled p inside e) ∙ sym (after_new m placement other p (lawful'.unfilled p inside e))
      by (Some a) e =
          let kept : IsKept m placement.rect p = record { inside = inside; filled = ap is_some e; meets = meets } in
          after_old m placement choice p (lawful.kept p kept) ∙ sym (after_old m placement other p (lawful'.kept p kept))

  filled_outside : (p a : At) → in_box placement.rect p ≡ false → map_at m p ≡ Some a → IsFilledOutside m placement.rect p
  filled_outside p a out e = (ap is_some e, λ inside. absurd (false≢true (sym out ∙ inside)))

  -- a pair with a cell outside costs the same after both
  across : (axis : Axis) (p q : At) → q ≡ plus p (unit_step axis) → (b c : Bool) → in_box placement.rect p ≡ b → in_box placement.rect q ≡ c → (b ≡ false) ⊎ (c ≡ false)
      → seam_of d axis (after_at m placement choice p) (after_at m placement choice q) ≡ seam_of d axis (after_at m placement other p) (after_at m placement other q)
  across axis p q next true true in_p in_q (inl e) = absurd (false≢true (sym e))
  across axis p q next true true in_p in_q (inr e) = absurd (false≢true (sym e))
  across axis p q next false false in_p in_q out = λ k. seam_of d axis ((outside choice p in_p ∙ sym (outside other p in_p)) k) ((outside choice q in_q ∙ sym (outside other q in_q)) k)
  across axis p q next true false in_p in_q out =
      ap (seam_of d axis (after_at m placement choice p)) (outside choice q in_q) ∙ by (map_at m q) refl ∙ ap (seam_of d axis (after_at m placement other p)) (sym (outside other q in_q))
    where
      by : (a : Option At) → map_at m q ≡ a → seam_of d axis (after_at m placement choice p) (map_at m q) ≡ seam_of d axis (after_at m placement other p) (map_at m q)
      by None e =
          ap (seam_of d axis (after_at m placement choice p)) e ∙ seam_none d axis (after_at m placement choice p) ∙ sym (seam_none d axis (after_at m placement other p))
          ∙ ap (seam_of d axis (after_at m placement other p)) (sym e)
      by (Some a) e =
          ap (λ s. seam_of d axis s (map_at m q))
          (border p in_p (record { other = q; beside = record { axis = axis; next = inl next }; outside = filled_outside q a in_q e }))
  across axis p q next false true in_p in_q out =
      ap (λ s. seam_of d axis s (after_at m placement choice q)) (outside choice p in_p) ∙ by (map_at m p) refl ∙ ap (λ s. seam_of d axis s (after_at m placement other q)) (sym (outside other p in_p))
    where
      by : (a : Option At) → map_at m p ≡ a → seam_of d axis (map_at m p) (after_at m placement choice q) ≡ seam_of d axis (map_at m p) (after_at m placement other q)
      by None e = ap (λ s. seam_of d axis s (after_at m placement choice q)) e ∙ ap (λ s. seam_of d axis s (after_at m placement other q)) (sym e)
      by (Some a) e =
          ap (seam_of d axis (map_at m p))
          (border q in_q (record { other = p; beside = record { axis = axis; next = inr next }; outside = filled_outside p a in_p e }))

  one_pair : (axis : Axis) (p : At)
      → pair_at d (after_at m placement choice) axis p + pair_at d (map_within placement.rect (after_at m placement other)) axis p
      ≡ pair_at d (after_at m placement other) axis p + pair_at d (map_within placement.rect (after_at m placement choice)) axis p
  one_pair axis p =
      within_or_same d axis (in_box placement.rect p) (in_box placement.rect (plus p (unit_step axis))) _ _ _ _ (across axis p (plus p (unit_step axis)) refl _ _ refl refl)

  three_pairs : (p : At)
      → pairs_at d (after_at m placement choice) p + pairs_at d (map_within placement.rect (after_at m placement other)) p
      ≡ pairs_at d (after_at m placement other) p + pairs_at d (map_within placement.rect (after_at m placement choice)) p
  three_pairs p = add _ _ _ _ _ _ _ _ _ _ _ _ (one_pair X p) (one_pair Y p) (one_pair F p)
    where
      add : (a b c d e f g h i j k l : ℕ) → a + b ≡ c + d → e + f ≡ g + h → i + j ≡ k + l → (a + e + i) + (b + f + j) ≡ (c + g + k) + (d + h + l)
      add a b c d e f g h i j k l p q r = omega arith

  changes : HoldsBox m.size placement.rect.corner placement.rect.size
      → total_of d m.size (after_at m placement choice) + window_of d placement.rect (after_at m placement other)
      ≡ total_of d m.size (after_at m placement other) + window_of d placement.rect (after_at m placement choice)
  changes holds =
      ap (λ n. total_of d m.size (after_at m placement choice) + n) (sym (total_within d m.size placement.rect (after_at m placement other) holds))
      ∙ sym (box_plus counts m.size _ _) ∙ box_equal counts m.size _ _ (λ x y f lx ly lf. three_pairs (spot x y f)) ∙ box_plus counts m.size _ _
      ∙ ap (λ n. total_of d m.size (after_at m placement other) + n) (total_within d m.size placement.rect (after_at m placement choice) holds)

-- two admissible choices change the total as they change the window sum of the box
pub changes_as_window : (d : At → At → ℕ) (m : SourceMap) (placement : Placement) → HoldsBox m.size placement.rect.corner placement.rect.size → ChangesAsWindow d m placement
changes_as_window d m placement holds choice other lawful lawful' = changes d m placement choice other lawful lawful' holds
