-- What follows where each record stands over the map that the records before it leave.
use Rattle.std.proofs.Common.{◌≡◌, ℕ, false, inl, inr, [], ◌∷◌, refl, ap, sym, ◌∙◌, subst}
use Rattle.std.proofs.lemmas.List.Elements.{All-nil, All-cons}
use Rattle.std.specs.Prelude.{Option, Some, None, IsSome, if◌then◌else◌}
use Rattle.cells.specs.declared.place.At.{At}
use Rattle.cells.specs.Boxes.{IsInBox}
use Rattle.cells.specs.Cells.{Cells, IsVolume}
use Rattle.cells.specs.Distances.{distance}
use Rattle.map_canvas.specs.Choices.{Fits, box_index, chosen, map_after, new_source}
use Rattle.map_canvas.specs.Maps.{IsMap, SourceMap, map_at}
use Rattle.map_canvas.proofs.Afters.{map_after_is}
use Rattle.costs.specs.Lawful.{IsLeastChoice, is_new}
use Rattle.cut_check.specs.declared.record.CutRecord.{CutRecord}
use Rattle.cut_check.specs.Records.{CutStands, setting}
use Rattle.cut_check.proofs.Least.{stands_least_alone}
use Rattle.cut_check.proofs.NoFault.{no_fault}
use Rattle.cut_replay.specs.Replay.{BrokenStandsNot, KeepsFixed, StandingFits, StandingIsLeast, StandingKeeps, StandingLeavesMap}
use Rattle.map_canvas.proofs.MapsAfter.{after_is_map}
use Rattle.cut_replay.proofs.RunLaws.{each_at, each_weaker}

pub each_least : StandingIsLeast
each_least sample = each_weaker (λ m cut. CutStands (setting m sample []) cut) (λ m cut. IsLeastChoice (distance sample) m cut.placement cut.choice)
    (λ m cut. stands_least_alone m sample cut)

pub each_fits : StandingFits
each_fits sample m [] each = All-nil (λ (cut : CutRecord). Fits m.size sample cut.placement)
each_fits sample m (cut ∷ cuts) each = All-cons (λ (cut : CutRecord). Fits m.size sample cut.placement) cut cuts each.0.lawful.fits
    (each_fits sample (map_after m cut.placement cut.choice) cuts each.1)

outside_old : (cut : CutRecord) (p : At) → (IsInBox cut.placement.rect p → ⊥) → is_new cut.placement cut.choice p ≡ false
outside_old cut p out = by (box_index cut.placement p) refl
  where
    by : (o : Option ℕ) → box_index cut.placement p ≡ o → is_new cut.placement cut.choice p ≡ false
    by None e = ap (chosen cut.choice) e
    by (Some i) e = absurd (out (subst IsSome (sym e) refl))

one_keeps : (sample : Cells) (m : SourceMap) (cut : CutRecord) → IsMap m → CutStands (setting m sample []) cut → KeepsFixed m cut
one_keeps sample m cut is stands p fixed =
    (map_after_is m sample cut.placement cut.choice is stands.lawful.fits).sources p
    ∙ ap (λ b. if b then Some (new_source cut.placement p) else map_at m p) old
  where
    old : is_new cut.placement cut.choice p ≡ false
    old = elim fixed [
      | inl kept ↦ (stands_least_alone m sample cut stands).one.kept p kept
      | inr out ↦ outside_old cut p out
    ]

next_map : (sample : Cells) (m : SourceMap) (cut : CutRecord) → IsVolume sample → IsMap m → CutStands (setting m sample []) cut → IsMap (map_after m cut.placement cut.choice)
next_map sample m cut volume is stands = after_is_map m sample cut.placement cut.choice volume is stands.lawful.fits

pub each_keeps : StandingKeeps
each_keeps sample m [] volume is each = tt
each_keeps sample m (cut ∷ cuts) volume is each =
    (one_keeps sample m cut is each.0, each_keeps sample (map_after m cut.placement cut.choice) cuts volume (next_map sample m cut volume is each.0) each.1)

pub left_is_map : StandingLeavesMap
left_is_map sample m [] volume is each = is
left_is_map sample m (cut ∷ cuts) volume is each = left_is_map sample (map_after m cut.placement cut.choice) cuts volume (next_map sample m cut volume is each.0) each.1

pub stands_not : BrokenStandsNot
stands_not sample m cuts broken is each =
    no_fault _ is.cut broken.fault (each_at (λ m cut. CutStands (setting m sample []) cut) m cuts broken.number is.cut each is.at) is.breaks
