-- A reader has to trust this file. Closed walks through the frames of a clip, and what they cost.
-- (Schödl et al. 2000, who loop a clip without a fixed length; that the length is fixed is own.)
use Rattle.std.specs.Prelude.{◌≡◌, ◌≤◌, ℕ, ◌+◌, List, [], ◌∷◌, length, All, Option, Some, None, IsSome, slice_index}
use Rattle.frame_distance.specs.Steps.{Steps, step_at}

-- a sum, where both numbers are there
abbrev pub sum_if_both : Option ℕ → Option ℕ → Option ℕ
sum_if_both None b = None
sum_if_both (Some a) None = None
sum_if_both (Some a) (Some b) = Some (a + b)

-- at most; none is above every number
abbrev pub AtMost : Option ℕ → Option ℕ → Type 0
AtMost x None = Unit {0}
AtMost None (Some y) = ⊥
AtMost (Some x) (Some y) = x ≤ y

-- the steps from a frame through others, one after another, to a last one
abbrev pub steps_along : ℕ → List ℕ → ℕ → List (ℕ × ℕ)
steps_along from [] to = (from, to) ∷ []
steps_along from (next ∷ rest) to = (from, next) ∷ steps_along next rest to

-- the steps round a walk: from each frame to the next, and from the last to the first
abbrev pub steps_round : List ℕ → List (ℕ × ℕ)
steps_round [] = []
steps_round (first ∷ rest) = steps_along first rest first

abbrev pub HasStep : Steps → ℕ × ℕ → Type 0
HasStep costs step = IsSome (step_at costs step.0 step.1)

-- a list of frames with a step from each to the next and from the last to the first
abbrev pub IsClosedWalk : Steps → List ℕ → Type 0
IsClosedWalk costs walk = All (HasStep costs) (steps_round walk)

-- the sum of steps; none where one of them isn't there
abbrev pub steps_cost : Steps → List (ℕ × ℕ) → Option ℕ
steps_cost costs [] = Some 0
steps_cost costs (step ∷ steps) = sum_if_both (step_at costs step.0 step.1) (steps_cost costs steps)

-- the cost of a closed walk: the sum of its steps
abbrev pub walk_cost : Steps → List ℕ → Option ℕ
walk_cost costs walk = steps_cost costs (steps_round walk)

-- a closed walk of n frames, such that none costs less
pub record IsLeastWalk (costs : Steps) (n : ℕ) (walk : List ℕ) : Type 0 where
  pub frames : length walk ≡ n
  pub closed : IsClosedWalk costs walk
  pub least : (other : List ℕ) → length other ≡ n → IsClosedWalk costs other →
      AtMost (walk_cost costs walk) (walk_cost costs other)

-- it begins at the smallest frame that any least closed walk of n frames visits
abbrev pub BeginsFirst : Steps → ℕ → List ℕ → Type 0
BeginsFirst costs n walk = (other : List ℕ) → IsLeastWalk costs n other →
    All (λ frame. slice_index walk 0 ≤ frame) other

-- there is no closed walk of n frames
abbrev pub HasNoWalk : Steps → ℕ → Type 0
HasNoWalk costs n = (walk : List ℕ) → length walk ≡ n → IsClosedWalk costs walk → ⊥
