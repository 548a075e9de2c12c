-- A cut record that stands has a least choice: by rule 6 its window sum is the value of the flow, which is at most
-- that of any admissible choice that leaves the held cells.
use Rattle.std.proofs.Common.{◌≡◌, ℕ, ◌+◌, ◌≤◌, refl, ap, sym, ◌∙◌, subst, arith, inl, inr, Bool, false, List, []}
use Rattle.std.proofs.lemmas.Int.{ints}
use mathlib.Core.Bool.{false≢true}
use Rattle.std.specs.Prelude.{pos, ◌≤ℤ◌, Option, Some, None, IfSome}
use Rattle.cells.specs.declared.place.At.{At}
use Rattle.cells.specs.Cells.{Cells}
use Rattle.cells.specs.Distances.{distance}
use Rattle.map_canvas.specs.declared.canvas.Placement.{Placement}
use Rattle.map_canvas.specs.Maps.{SourceMap, map_at}
use Rattle.map_canvas.specs.Choices.{box_index, chosen}
use Rattle.costs.specs.Lawful.{AreHeld, AreMarks, IsLawful, IsLeastChoice, IsLeastHeld, LeavesHeld, StaysOld, is_held, held_marks, total_after}
use Rattle.costs.proofs.Existence.{index_of_cell, new_inside}
use Rattle.costs.proofs.Locality.{changes_as_window}
use Rattle.cut_check.specs.declared.record.CutRecord.{CutRecord}
use Rattle.cut_check.specs.Records.{IsLawfulCut, Setting, CutStands}
use Rattle.cut_check.proofs.Duality.{weak_duality}

-- what a rule says of each index it says of each cell: the choice is admissible, and leaves the
-- held cells
module _ (s : Setting) (cut : CutRecord) (is : IsLawfulCut s cut) where
  pub cut_is_lawful : IsLawful s.map cut.placement cut.choice
  cut_is_lawful = record {
    unfilled = λ p inside none. let at = index_of_cell cut.placement p inside in
        ap (chosen cut.choice) at.1.index ∙ is.unfilled at.0 at.1.below (ap (map_at s.map) (sym at.1.cell) ∙ none);
    kept = λ p kept. let at = index_of_cell cut.placement p kept.inside in
        ap (chosen cut.choice) at.1.index ∙ is.old at.0 at.1.below (subst (StaysOld s.map cut.placement s.held) at.1.cell (inl kept));
  }

  pub cut_leaves_held : LeavesHeld cut.placement s.held cut.choice
  cut_leaves_held p held =
      let at = new_inside cut.placement s.held p held in
      ap (chosen cut.choice) at.1.index ∙ is.old at.0 at.1.below (subst (StaysOld s.map cut.placement s.held) at.1.cell (inr held))

-- no admissible choice that leaves the held cells costs less
total_at_most : (s : Setting) (cut : CutRecord) → AreHeld s.map cut.placement s.held → CutStands s cut → (other : List Bool) → IsLawful s.map cut.placement other → LeavesHeld cut.placement s.held other
    → total_after (distance s.sample) s.map cut.placement cut.choice ≤ total_after (distance s.sample) s.map cut.placement other
total_at_most s cut marks stands other lawful leaves =
    compare _ _ _ _ (changes_as_window (distance s.sample) s.map cut.placement stands.lawful.fits.inside cut.choice other (cut_is_lawful s cut stands.lawful) lawful)
    (weak_duality s cut marks stands.bounded stands.balanced _ stands.value other lawful leaves)
  where
    compare : (a b v w : ℕ) → a + w ≡ b + v → pos v ≤ℤ pos w → a ≤ b
    compare a b v w e le = omega (arith, ints)

-- the choice of a record that stands is least among the admissible ones without a held cell
pub record_is_least : (s : Setting) (cut : CutRecord) → AreHeld s.map cut.placement s.held → CutStands s cut → IsLeastHeld (distance s.sample) s.map cut.placement s.held cut.choice
record_is_least s cut marks stands = record {
  one = (cut_is_lawful s cut stands.lawful, cut_leaves_held s cut stands.lawful);
  least = λ other is. total_at_most s cut marks stands other is.0 is.1;
}

-- without marks no cell is held
none_held : (placement : Placement) (p : At) → is_held placement [] p ≡ false
none_held placement p = by (box_index placement p)
  where
    by : (i : Option ℕ) → chosen [] i ≡ false
    by None = refl
    by (Some i) = refl

held_filled : (m : SourceMap) (placement : Placement) (held : Option (List Bool)) → IfSome held (AreMarks m placement) → AreHeld m placement (held_marks held)
held_filled m placement None marks = λ p held. absurd (false≢true (sym (none_held placement p) ∙ held))
held_filled m placement (Some held) marks = marks.filled

-- the same with marks, or without
pub stands_least : (m : SourceMap) (sample : Cells) (cut : CutRecord) (held : Option (List Bool)) → IfSome held (AreMarks m cut.placement)
    → CutStands (record { map = m; sample = sample; held = held_marks held }) cut → IsLeastHeld (distance sample) m cut.placement (held_marks held) cut.choice
stands_least m sample cut held marks = record_is_least (record { map = m; sample = sample; held = held_marks held }) cut (held_filled m cut.placement held marks)

-- where no cell is held, it is least among all admissible ones
pub stands_least_alone : (m : SourceMap) (sample : Cells) (cut : CutRecord) → CutStands (record { map = m; sample = sample; held = [] }) cut → IsLeastChoice (distance sample) m cut.placement cut.choice
stands_least_alone m sample cut stands =
    let least = stands_least m sample cut None tt stands in
    record { one = least.one.0; least = λ other lawful. least.least other (lawful, λ p held. absurd (false≢true (sym (none_held cut.placement p) ∙ held))) }
