-- A reader has to trust this file. Which of several least closed walks of a length is the first.
-- (Own.)
--
-- A part of a walk is a number of steps. Its middle is as many steps from its beginning as the
-- length before that number has, so that each half has a table. The walk itself is a part from
-- position 0 round to it, and each half of a part is a part.
use Rattle.std.specs.Prelude.{◌≡◌, ◌<◌, ◌⊎◌, ℕ, zero, suc, ◌+◌, ◌-◌, List, [], ◌∷◌, ◌++◌, map, nat_le, if◌then◌else◌, slice_index}
use Rattle.frame_distance.specs.Steps.{Steps}
use Rattle.loop_walk.specs.Walks.{IsLeastWalk}
use Rattle.loop_walk.specs.Tables.{length_before}

-- the middles of a part of m steps, counted from where it begins: its own, then those of its first
-- half, then those of its second half. A part of one step has none
abbrev pub middles_within : ℕ → ℕ → List ℕ
middles_within zero m = []
middles_within (suc bound) m = if nat_le m 1 then [] else
    (length_before m ∷ middles_within bound (length_before m)
    ++ map (λ place. length_before m + place) (middles_within bound (m - length_before m)))

abbrev pub middles : ℕ → List ℕ
middles m = middles_within m m

-- at the first of these positions at which two walks differ the one has the smaller frame, or they
-- differ at none
abbrev pub ComesFirst : List ℕ → List ℕ → List ℕ → Type 0
ComesFirst [] walk other = Unit {0}
ComesFirst (place ∷ places) walk other =
    (slice_index walk place < slice_index other place)
    ⊎ ((slice_index walk place ≡ slice_index other place) × ComesFirst places walk other)

-- of all least closed walks of n frames it comes first: by the frame that it begins at, and then by
-- the middle frame of each part. For 3 frames the positions are 0, 2 and 1
pub record IsFirstWalk (costs : Steps) (n : ℕ) (walk : List ℕ) : Type 0 where
  pub before : (other : List ℕ) → IsLeastWalk costs n other → ComesFirst (0 ∷ middles n) walk other
