-- What a reader has to trust: places of the turned parts, and the cells that are moved there. (Own.)
use Rattle.std.specs.Prelude.{◌≡◌, ◌<◌, ◌+◌, ◌-◌, ◌*◌, ℕ, List, Some, unwrap_or}
use Rattle.cells.specs.declared.place.At.{At}
use Rattle.cells.specs.declared.place.Size.{Size}
use Rattle.cells.specs.declared.sizes.PartPlace.{PartPlace}
use Rattle.cells.specs.Places.{IsInside}
use Rattle.cells.specs.SizeLists.{IsPartPlace, size_of_part, stock_place}
use Rattle.turned.specs.declared.turn.TheConstants.{TURNS}
use Rattle.turned.specs.declared.places.Turned.{Turned}
use Rattle.turned.specs.Turns.{turn_from, turn_to}
use Rattle.turned.specs.TurnedParts.{turned_sizes_of}

-- the number of the part that is a turn of a sample; samples and parts are numbered from 1
abbrev pub turned_number : ℕ → ℕ → ℕ
turned_number sample turn = TURNS * (sample - 1) + turn + 1

-- the size of a sample, by its number
abbrev pub sample_size : List Size → ℕ → Size
sample_size samples sample =
    unwrap_or (size_of_part samples sample) (record { w = 0; h = 0; f = 0 })

-- one of the samples, one of the turns, and a place in that sample
pub record IsTurned (samples : List Size) (there : Turned) : Type 0 where
  pub sample : size_of_part samples there.sample ≡ Some (sample_size samples there.sample)
  pub turn : there.turn < TURNS
  pub inside : IsInside (sample_size samples there.sample) there.at

-- the place of the turned samples to which the turn moves the cell
abbrev pub turned_place : List Size → Turned → At
turned_place samples there =
    stock_place (turned_sizes_of samples) (turned_number there.sample there.turn)
    (turn_to there.turn (sample_size samples there.sample) there.at)

-- the place is inside one of the turned samples
abbrev pub IsInTurned : List Size → At → Type 0
IsInTurned samples p = (there : PartPlace) × IsPartPlace (turned_sizes_of samples) p there

-- the cell that is moved to a place of the turned samples: the place lies in the part that is this turn of
-- this sample, and there the turn has the cell
pub record IsUntouched (samples : List Size) (p : At) (there : Turned) : Type 0 where
  pub is : IsTurned samples there
  pub place : At
  pub part : IsPartPlace (turned_sizes_of samples) p
      (record { part = turned_number there.sample there.turn; at = place })
  pub from : there.at ≡ turn_from there.turn (sample_size samples there.sample) place
