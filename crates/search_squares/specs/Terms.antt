-- Two errors of a place, each taken so many times and added up. A reader has to trust this file.
-- (Own.)
use Rattle.std.specs.Prelude.{◌≤◌, ◌<◌, ◌+◌, ◌*◌, ℕ}
use Rattle.cells.specs.declared.place.At.{At}
use Rattle.cells.specs.Boxes.{HoldsBox}
use Rattle.map_canvas.specs.Canvases.{StandsOver}
use Rattle.search_squares.specs.declared.joint.Term.{Term}
use Rattle.search_squares.specs.declared.joint.TheConstants.{MOST_TIMES}
use Rattle.search_squares.specs.declared.levels.SampleSums.{SampleSums}
use Rattle.search_squares.specs.Bounds.{IsMarked, place_along}
use Rattle.search_squares.specs.Eliminations.{AreBoxLevels, AreSampleSums, error_from}

-- the error is taken 1 to MOST_TIMES times, the blocks are those of its box, and the sums serve its
-- sample
pub record IsTerm (serving : SampleSums) (t : Term) : Type 0 where
  pub some : 1 ≤ t.times
  pub few : t.times ≤ MOST_TIMES
  pub over : StandsOver t.canvas.now t.sample.now
  pub inside : HoldsBox t.canvas.now.map.size t.rect.corner t.rect.size
  pub levels : AreBoxLevels t.canvas.now t.rect t.levels.now
  pub sums : AreSampleSums t.sample.now serving

-- the error of a place, so many times
abbrev pub term_sum : Term → At → ℕ
term_sum t at = t.times * error_from t.canvas.now t.sample.now t.rect at

-- both together
abbrev pub both_sums : Term → Term → At → ℕ
both_sums one other at = term_sum one at + term_sum other at

-- of each of the first n places that is marked, they are above the limit
abbrev pub AreAboveBoth : Term → Term → At → ℕ → ℕ → ℕ → Type 0
AreAboveBoth one other from n limit marks =
    (j : ℕ) → j < n → IsMarked marks j → limit < both_sums one other (place_along from j)
