-- Of records over one another there is one first that doesn't stand.
use Rattle.std.proofs.Common.{◌≡◌, ◌∙◌, ◌<◌, ℕ, zero, suc, List, [], ◌∷◌, take, inl, inr, sym, ap, subst, arith}
use Rattle.std.proofs.lemmas.Bool.{cases_order}
use Rattle.std.proofs.lemmas.Option.{none-some, same_Some}
use Rattle.std.specs.Prelude.{Some, slice_get}
use Rattle.cells.specs.Cells.{Cells}
use Rattle.map_canvas.specs.Choices.{map_after}
use Rattle.map_canvas.specs.Maps.{SourceMap}
use Rattle.cut_check.specs.declared.record.CutRecord.{CutRecord}
use Rattle.cut_check.specs.Records.{CutStands, IsFirstCutFault, setting}
use Rattle.cut_check.proofs.NoFault.{no_fault}
use Rattle.cut_replay.specs.declared.records.Broken.{Broken}
use Rattle.cut_replay.specs.Replay.{EachStands, IsFirstBroken, left_by}
use Rattle.standing_files.proofs.CutFaults.{AreAlike, one_fault}

-- a record before the first n, which all stand, stands
stands_before : (sample : Cells) (m : SourceMap) (cuts : List CutRecord) (i n : ℕ) (cut : CutRecord) → EachStands sample m (take n cuts) → i < n → slice_get cuts i ≡ Some cut
    → CutStands (setting (left_by m (take i cuts)) sample []) cut
stands_before sample m [] i n cut each lt at = absurd (none-some cut at)
stands_before sample m (first ∷ cuts) i zero cut each lt at = absurd (omega arith)
stands_before sample m (first ∷ cuts) zero (suc n) cut each lt at = subst (λ cut. CutStands (setting m sample []) cut) (same_Some first cut at) each.0
stands_before sample m (first ∷ cuts) (suc i) (suc n) cut each lt at = stands_before sample (map_after m first.placement first.choice) cuts i n cut each.1 (omega arith) at

-- so no record before the first broken one is broken
none_before : (sample : Cells) (m : SourceMap) (cuts : List CutRecord) (one other : Broken) → IsFirstBroken sample m cuts one → IsFirstBroken sample m cuts other → one.number < other.number → ⊥
none_before sample m cuts one other first next lt =
    no_fault _ first.cut one.fault (stands_before sample m cuts one.number other.number first.cut next.before lt first.at) first.breaks

-- two first broken records are one, with one fault
pub record AreOne (one other : Broken) : Type 0 where
  pub number : one.number ≡ other.number
  pub fault : AreAlike one.fault other.fault

same_fault : (sample : Cells) (m : SourceMap) (cuts : List CutRecord) (one other : Broken) → IsFirstBroken sample m cuts one → IsFirstBroken sample m cuts other → one.number ≡ other.number → AreAlike one.fault other.fault
same_fault sample m cuts one other first next same =
    let there : slice_get cuts one.number ≡ Some next.cut = ap (slice_get cuts) same ∙ next.at in
    let cut : next.cut ≡ first.cut = same_Some next.cut first.cut (sym there ∙ first.at) in
    one_fault (setting (left_by m (take one.number cuts)) sample []) first.cut one.fault other.fault first.breaks
    (subst (λ (cut : CutRecord). IsFirstCutFault (setting (left_by m (take one.number cuts)) sample []) cut other.fault) cut
    (subst (λ (n : ℕ). IsFirstCutFault (setting (left_by m (take n cuts)) sample []) next.cut other.fault) (sym same) next.breaks))

pub one_broken : (sample : Cells) (m : SourceMap) (cuts : List CutRecord) (one other : Broken) → IsFirstBroken sample m cuts one → IsFirstBroken sample m cuts other → AreOne one other
one_broken sample m cuts one other first next = elim (cases_order one.number other.number) [
  | inl same ↦ record { number = same; fault = same_fault sample m cuts one other first next same }
  | inr (inl lt) ↦ absurd (none_before sample m cuts one other first next lt)
  | inr (inr lt) ↦ absurd (none_before sample m cuts other one next first lt)
]
