-- A walk record has one first fault.
use Rattle.std.proofs.Common.{◌≡◌, ◌∙◌, ◌⊎◌, ℕ, zero, suc, ◌*◌, ◌/◌, ◌%◌, ◌<◌, List, length, sym, inl, inr, arith}
use Rattle.std.proofs.lemmas.Nat.{div_below, mod_below}
use Rattle.frame_distance.specs.Steps.{Steps}
use Rattle.frame_distance.proofs.EntryLaws.{row_below, column_below}
use Rattle.loop_walk.specs.declared.fault.LoopFault.{LoopFault}
use Rattle.loop_walk.specs.Walks.{IsClosedWalk}
use Rattle.loop_walk.specs.Tables.{EntriesHold, entry_count}
use Rattle.loop_walk.specs.Records.{BreaksLeast, BreaksTables, BreaksWalk, DiagonalHolds, IsFirstLoopFault, PlaceHolds, StepHolds}
use Rattle.loop_walk.proofs.CheckLaws.{length-steps_round}
use Rattle.standing_files.proofs.Searching.{either, one_place}

-- two faults are one
pub record AreOneLoopFault (one other : LoopFault) : Type 0 where
  pub kind : one.kind ≡ other.kind
  pub place : one.place ≡ other.place

some_area : (c area place : ℕ) → place < c * area → 0 < area
some_area c zero place lt = absurd (omega arith)
some_area c (suc area) place lt = omega arith

module _ (costs : Steps) (walk tables : List ℕ) (whole : length tables ≡ entry_count costs (length walk)) where
  step_holds : IsClosedWalk costs walk → (p : ℕ) → p < length walk → StepHolds costs walk p
  step_holds closed p lt = closed p (0, 0) (omega (arith, lt, length-steps_round walk))

  place_holds : EntriesHold costs (length walk) tables → (p : ℕ) → p < length tables → PlaceHolds costs (length walk) tables p
  place_holds entries p below =
      let n = costs.frames in
      let area = n * n in
      let lt : p < entry_count costs (length walk) = omega (arith, whole, below) in
      let some = some_area _ area p lt in
      let inside : p % area < area = mod_below p area some in
      entries (p / area) (p % area / n) (p % area % n) (div_below p area _ some lt) (row_below n (p % area) inside) (column_below n (p % area) inside)

  abbrev Late : LoopFault → Type 0
  Late f = BreaksTables costs walk tables f ⊎ BreaksLeast costs walk tables f

  late : (f g : LoopFault) → Late f → Late g → AreOneLoopFault f g
  late = either AreOneLoopFault (BreaksTables costs walk tables) (BreaksLeast costs walk tables)
      (λ f g p q. record { kind = p.kind ∙ sym q.kind; place = one_place (length tables) (PlaceHolds costs (length walk) tables) f.place g.place p.place q.place })
      (λ f g p q. p.place.broken (place_holds q.entries f.place p.place.below))
      (λ f g p q. record { kind = p.kind ∙ sym q.kind; place = one_place costs.frames (DiagonalHolds costs walk tables) f.place g.place p.place q.place })

  walk_first : (f g : LoopFault) → BreaksWalk costs walk f → Late g → ⊥
  walk_first f g p (inl q) = p.place.broken (step_holds q.closed f.place p.place.below)
  walk_first f g p (inr q) = p.place.broken (step_holds q.closed f.place p.place.below)

  pub one_loop_fault : (f g : LoopFault) → IsFirstLoopFault costs walk tables f → IsFirstLoopFault costs walk tables g → AreOneLoopFault f g
  one_loop_fault = either AreOneLoopFault (BreaksWalk costs walk) Late
      (λ f g p q. record { kind = p.kind ∙ sym q.kind; place = one_place (length walk) (StepHolds costs walk) f.place g.place p.place q.place })
      walk_first late
