-- A cut record has one first fault.
use Rattle.std.proofs.Common.{◌≡◌, ◌∙◌, ◌⊎◌, sym, inl, inr}
use Rattle.cells.specs.Places.{cell_count}
use Rattle.cut_check.specs.declared.record.CutFault.{CutFault}
use Rattle.cut_check.specs.declared.record.CutRecord.{CutRecord}
use Rattle.cut_check.specs.Records.{BreaksBalance, BreaksBounds, BreaksFilling, BreaksFit, BreaksKeeping, BreaksValue, FillsUnfilled, IsBalanced, IsBoundedPair, IsFirstCutFault, LeavesOld, Setting}
use Rattle.standing_files.proofs.Searching.{either, one_first}

-- two faults are one
pub record AreAlike (one other : CutFault) : Type 0 where
  pub kind : one.kind ≡ other.kind
  pub place : one.place ≡ other.place

module _ (s : Setting) (cut : CutRecord) where
  abbrev Late : CutFault → Type 0
  Late f = BreaksBalance s cut f ⊎ BreaksValue s cut f

  abbrev FromBounds : CutFault → Type 0
  FromBounds f = BreaksBounds s cut f ⊎ Late f

  abbrev FromKeeping : CutFault → Type 0
  FromKeeping f = BreaksKeeping s cut f ⊎ FromBounds f

  abbrev FromFilling : CutFault → Type 0
  FromFilling f = BreaksFilling s cut f ⊎ FromKeeping f

  late : (f g : CutFault) → Late f → Late g → AreAlike f g
  late = either AreAlike (BreaksBalance s cut) (BreaksValue s cut)
      (λ f g p q. record { kind = p.kind ∙ sym q.kind; place = one_first (cell_count cut.placement.rect.size) (IsBalanced s cut) f.place g.place p.place q.place })
      (λ f g p q. p.place.here (q.balanced f.place p.place.below))
      (λ f g p q. record { kind = p.kind ∙ sym q.kind; place = p.place ∙ sym q.place })

  bounds_first : (f g : CutFault) → BreaksBounds s cut f → Late g → ⊥
  bounds_first f g p (inl q) = p.place.here (q.bounded f.place p.place.below)
  bounds_first f g p (inr q) = p.place.here (q.bounded f.place p.place.below)

  from_bounds : (f g : CutFault) → FromBounds f → FromBounds g → AreAlike f g
  from_bounds = either AreAlike (BreaksBounds s cut) Late
      (λ f g p q. record { kind = p.kind ∙ sym q.kind; place = one_first _ (IsBoundedPair s cut) f.place g.place p.place q.place })
      bounds_first late

  keeping_first : (f g : CutFault) → BreaksKeeping s cut f → FromBounds g → ⊥
  keeping_first f g p (inl q) = p.place.here (q.lawful.old f.place p.place.below)
  keeping_first f g p (inr (inl q)) = p.place.here (q.lawful.old f.place p.place.below)
  keeping_first f g p (inr (inr q)) = p.place.here (q.lawful.old f.place p.place.below)

  from_keeping : (f g : CutFault) → FromKeeping f → FromKeeping g → AreAlike f g
  from_keeping = either AreAlike (BreaksKeeping s cut) FromBounds
      (λ f g p q. record { kind = p.kind ∙ sym q.kind; place = one_first (cell_count cut.placement.rect.size) (LeavesOld s cut) f.place g.place p.place q.place })
      keeping_first from_bounds

  filling_first : (f g : CutFault) → BreaksFilling s cut f → FromKeeping g → ⊥
  filling_first f g p (inl q) = p.place.here (q.unfilled f.place p.place.below)
  filling_first f g p (inr (inl q)) = p.place.here (q.lawful.unfilled f.place p.place.below)
  filling_first f g p (inr (inr (inl q))) = p.place.here (q.lawful.unfilled f.place p.place.below)
  filling_first f g p (inr (inr (inr q))) = p.place.here (q.lawful.unfilled f.place p.place.below)

  from_filling : (f g : CutFault) → FromFilling f → FromFilling g → AreAlike f g
  from_filling = either AreAlike (BreaksFilling s cut) FromKeeping
      (λ f g p q. record { kind = p.kind ∙ sym q.kind; place = one_first (cell_count cut.placement.rect.size) (FillsUnfilled s cut) f.place g.place p.place q.place })
      filling_first from_keeping

  fit_first : (f g : CutFault) → BreaksFit s cut f → FromFilling g → ⊥
  fit_first f g p (inl q) = p.outside q.fits
  fit_first f g p (inr (inl q)) = p.outside q.fits
  fit_first f g p (inr (inr (inl q))) = p.outside q.lawful.fits
  fit_first f g p (inr (inr (inr (inl q)))) = p.outside q.lawful.fits
  fit_first f g p (inr (inr (inr (inr q)))) = p.outside q.lawful.fits

  pub one_fault : (f g : CutFault) → IsFirstCutFault s cut f → IsFirstCutFault s cut g → AreAlike f g
  one_fault = either AreAlike (BreaksFit s cut) FromFilling
      (λ f g p q. record { kind = p.kind ∙ sym q.kind; place = p.place ∙ sym q.place })
      fit_first from_filling
