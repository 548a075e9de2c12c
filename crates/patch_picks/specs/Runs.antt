-- A reader has to trust this file. Lists of steps, each from what the one before leaves. (Own.)
use Rattle.std.specs.Prelude.{◌≡◌, List, [], ◌∷◌}

abbrev pub Leads : {S A : Type 0} → (S → A → S → Type 0) → S → List A → S → Type 0
Leads Step before [] after = after ≡ before
Leads {S} Step before (a ∷ rest) after =
    (next : S) × (Step before a next × Leads Step next rest after)
