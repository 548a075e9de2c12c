-- A reader has to trust this file. Filtered frame distances and the costs of steps between frames.
-- (Schödl et al. 2000.)
use Rattle.std.specs.Prelude.{◌≡◌, ◌≤◌, ◌<◌, ℕ, ◌+◌, ◌-◌, ◌*◌, ◌^◌, List, length, All, Option, Some, None, IfSome, Bool, ◌&&◌, ◌==◌, nat_le, nat_lt, if◌then◌else◌, slice_index_or}
use Rattle.std.specs.Int.{abs_diff}
use Rattle.cells.specs.declared.place.Taps.{Taps}
use Rattle.cells.specs.declared.place.Taps.TheVariants.{None0, Two, Four}
use Rattle.limits.specs.declared.bounds.TheConstants.{MOST_LOOP_FRAMES}
use Rattle.frame_distance.specs.Tables.{Distances, distance_at, entries_of}

-- how many frames before and after a frame the filter reads
abbrev pub frames_before : Taps → ℕ
frames_before None0 = 0
frames_before Two = 1
frames_before Four = 2

abbrev pub frames_after : Taps → ℕ
frames_after None0 = 0
frames_after Two = 0
frames_after Four = 1

-- of n frames, all that the filter reads at frame i are there
abbrev pub has_terms : ℕ → Taps → ℕ → Bool
has_terms n taps i = nat_le (frames_before taps) i && nat_lt (i + frames_after taps) n

-- the binomial filter over the distances of frames that are as far apart
abbrev pub filter_sum : Distances → Taps → ℕ → ℕ → ℕ
filter_sum table None0 i j = distance_at table i j
filter_sum table Two i j = distance_at table (i - 1) (j - 1) + distance_at table i j
filter_sum table Four i j =
    distance_at table (i - 2) (j - 2) + 3 * distance_at table (i - 1) (j - 1)
    + 3 * distance_at table i j + distance_at table (i + 1) (j + 1)

-- the filtered distance D'; none where one of its terms isn't there
abbrev pub filtered_distance : Distances → Taps → ℕ → ℕ → Option ℕ
filtered_distance table taps i j =
    if has_terms table.frames taps i && has_terms table.frames taps j
    then Some (filter_sum table taps i j) else None

-- the cost of the step from frame i to frame j: nothing to the frame that follows, and the filtered
-- distance of that frame and j where they are at least `gap` apart; none where there is no step
abbrev pub step_cost : Distances → Taps → ℕ → ℕ → ℕ → Option ℕ
step_cost table taps gap i j =
    if j == i + 1 then Some 0
    else (if nat_le gap (abs_diff (i + 1) j) then filtered_distance table taps (i + 1) j else None)

-- the cost of the step from frame to frame, or none, row by row
pub record Steps : Type 0 where
  pub frames : ℕ
  pub costs : List (Option ℕ)

-- the cost of the step from frame i to frame j, if both are frames and there is one
abbrev pub step_at : Steps → ℕ → ℕ → Option ℕ
step_at steps i j =
    if nat_lt i steps.frames && nat_lt j steps.frames
    then slice_index_or steps.costs (i * steps.frames + j) None else None

-- the step costs that a filter and a gap make of distances
abbrev pub steps_of : Distances → Taps → ℕ → Steps
steps_of table taps gap = record {
  frames = table.frames;
  costs = entries_of table.frames (step_cost table taps gap) (table.frames * table.frames);
}

-- the costs of steps are those that a filter and a gap make of distances, entry by entry
abbrev pub AreStepsOf : Distances → Taps → ℕ → Steps → Type 0
AreStepsOf table taps gap costs = (i j : ℕ) → i < table.frames → j < table.frames →
    step_at costs i j ≡ step_cost table taps gap i j

-- what all step costs are
pub record AreSteps (steps : Steps) : Type 0 where
  pub frames : (1 ≤ steps.frames) × (steps.frames ≤ MOST_LOOP_FRAMES)
  pub whole : length steps.costs ≡ steps.frames * steps.frames
  pub below : All (λ cost. IfSome cost (λ number. number < 2 ^ 46)) steps.costs
