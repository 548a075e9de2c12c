-- The state of tables of errors, from which a pick is made, for the contracts within the crate;
-- nobody has to trust this file.
use Rattle.std.specs.Prelude.{◌≡◌, ◌≤◌, ◌<◌, ◌+◌, ◌*◌, ◌^◌, ◌⊎◌, ◌++◌, ◌∷◌, [], ℕ, Bool, true, false, List, length, map, take, All, Contains, IfSome, Option, Some, None, slice_get}
use Rattle.std.specs.List.{AllZip, count_by}
use Rattle.cells.specs.declared.place.Box3.{Box3}
use Rattle.cells.specs.declared.place.Size.{Size}
use Rattle.cells.specs.Cells.{Cells, Holds}
use Rattle.match_error.specs.declared.error.Error.{Error}
use Rattle.match_error.specs.Errors.{is_within}
use Rattle.map_canvas.specs.declared.canvas.Placement.{Placement}
use Rattle.map_canvas.specs.Choices.{laid_from}
use Rattle.patch_place.specs.declared.eligible.Entry.{Entry}
use Rattle.patch_place.specs.declared.shortlist.Shortlist.{Shortlist}
use Rattle.patch_place.specs.BoxErrors.{IsLow}
use Rattle.patch_picks.specs.Counts.{entries_after, entries_before}
use Rattle.patch_picks.specs.Draws.{DrawState, draw}
use Rattle.patch_picks.specs.Lists.{fit_list, lists_from}
use Rattle.patch_picks.specs.Picks.{IsBest, IsPick, is_eligible}

abbrev pub IsUnfilled : Error → Type 0
IsUnfilled error = error.count ≡ 0

-- the best of some errors; none where no candidate covers a filled cell
abbrev pub IsBestOf : List Error → Option Error → Type 0
IsBestOf errors None = All IsUnfilled errors
IsBestOf errors (Some best) = IsBest errors best

-- an error that can't be eligible, since one of the table is too much better
pub record IsBeaten (tol : ℕ) (table : List Error) (error : Error) : Type 0 where
  pub other : Error
  pub listed : Contains table other
  pub filled : 1 ≤ other.count
  pub far : is_within tol other error ≡ false

-- an entry of a table stands for an error: it is the same, or has no filled cell, as an error that
-- is never eligible
abbrev pub StandsForError : ℕ → List Error → Error → Error → Type 0
StandsForError tol table entry error =
    (entry ≡ error) ⊎ (IsUnfilled entry × (IsUnfilled error ⊎ IsBeaten tol table error))

-- a table stands for errors, entry by entry, where some rivals may beat an error
abbrev pub AreErrorsAmong : ℕ → List Error → List Error → List Error → Type 0
AreErrorsAmong tol rivals table errors = AllZip (StandsForError tol rivals) table errors

-- where its own entries alone may
abbrev pub AreTableErrors : ℕ → List Error → List Error → Type 0
AreTableErrors tol table errors = AreErrorsAmong tol table table errors

-- the rivals of an error while a table is made: its entries, and an error that is known before
-- them, that of one of the candidates
abbrev pub rivals : Option Error → List Error → List Error
rivals None table = table
rivals (Some known) table = known ∷ table

-- the entry that passes a test after n others, and where it is
pub record IsNth {X : Type 0} (test : X → Bool) (table : List X) (n : ℕ) (entry : X) : Type 0 where
  pub i : ℕ
  pub at : slice_get table i ≡ Some entry
  pub passes : test entry ≡ true
  pub number : count_by test (take i table) ≡ n

-- the number of an entry near the best, as the next draw picks it
abbrev pub drawn_near : ℕ → List Error → DrawState → Error → ℕ
drawn_near tol table draws best =
    draw draws.seed draws.place (count_by (is_eligible tol best) table)

-- the index that the next draw picks from a table: any where no candidate covers a filled cell,
-- otherwise one of those that are about as good as the best
pub record IsNear (tol : ℕ) (table : List Error) (draws : DrawState)
    (i : ℕ) (best : Error) : Type 0 where
  pub best_one : IsBest table best
  pub entry : Error
  pub nth : IsNth (is_eligible tol best) table (drawn_near tol table draws best) entry
  pub index : i ≡ nth.i

abbrev pub IsAny : List Error → DrawState → ℕ → Type 0
IsAny table draws i = All IsUnfilled table × (i ≡ draw draws.seed draws.place (length table))

abbrev pub IsPickOf : ℕ → List Error → DrawState → ℕ → Type 0
IsPickOf tol table draws i = IsAny table draws i ⊎ ((best : Error) × IsNear tol table draws i best)

-- the index of the picked candidate
pub record IsPickAt (error : Placement → Error) (tol : Option ℕ) (list : List Placement)
    (draws : DrawState) (i : ℕ) : Type 0 where
  pub below : i < length list
  pub picked : (placement : Placement) → slice_get list i ≡ Some placement
      → IsPick error tol list draws placement

-- a sum over so many filled cells that is past the limit is outside the tolerance of an error
abbrev pub IsSumLimit : ℕ → ℕ → ℕ → Error → Type 0
IsSumLimit tol count limit best =
    (other : ℕ) → other ≤ 2 ^ 56 → limit < other
    → best.sum * count * (100 + tol) < other * best.count * 100

-- an error of so many filled cells whose sum is past the limit is beaten
abbrev pub IsLimit : ℕ → List Error → ℕ → ℕ → Type 0
IsLimit tol table count limit =
    (error : Error) → error.count ≡ count → IsLow error → limit < error.sum
    → IsBeaten tol table error

-- an entry of a shortlist has this error, which is small enough, and is about as good as the best
abbrev pub entry_error : Entry → Error
entry_error entry = record { sum = entry.sum; count = entry.count }

abbrev pub IsLowEntry : Entry → Type 0
IsLowEntry entry = IsLow (entry_error entry)

abbrev pub is_near : ℕ → Error → Entry → Bool
is_near tol best entry = is_eligible tol best (entry_error entry)

-- no error without a filled cell passes the test
abbrev pub FailsUnfilled : (Error → Bool) → Type 0
FailsUnfilled test = (error : Error) → IsUnfilled error → test error ≡ false

-- the entries of a shortlist are those of a table that have filled cells, in their order
pub record AreKept (kept : List Entry) (table : List Error) : Type 0 where
  pub at : (j : ℕ) (entry : Entry) → slice_get kept j ≡ Some entry
      → slice_get table entry.index ≡ Some (entry_error entry)
  pub before : (test : Error → Bool) → FailsUnfilled test → (j : ℕ) (entry : Entry)
      → slice_get kept j ≡ Some entry
      → count_by test (take entry.index table) ≡ count_by (λ e. test (entry_error e)) (take j kept)
  pub all : (test : Error → Bool) → FailsUnfilled test
      → count_by test table ≡ count_by (λ e. test (entry_error e)) kept

-- a shortlist is made from a table
pub record IsShortOf (list : Shortlist) (table : List Error) : Type 0 where
  pub best_one : IsBestOf table list.best
  pub kept : AreKept list.near.items table
  pub length_is : list.seen ≡ length table

abbrev pub HasTable : Shortlist → Type 0
HasTable list = (table : List Error) × IsShortOf list table

-- which stands for these errors, where the known error may beat one too
pub record IsShortlist (list : Shortlist) (errors : List Error) : Type 0 where
  pub table : List Error
  pub stands : AreErrorsAmong list.tol (rivals list.known table) table errors
  pub short : IsShortOf list table

-- the best of a shortlist, and the known error, have filled cells, sums can be multiplied, and
-- entries counted
abbrev pub IsFilledLow : Error → Type 0
IsFilledLow error = (1 ≤ error.count) × IsLow error

pub record IsSoundShortlist (list : Shortlist) : Type 0 where
  pub best_low : IfSome list.best IsFilledLow
  pub known_low : IfSome list.known IsFilledLow
  pub low : All IsLowEntry list.near.items
  pub few : length list.near.items ≤ list.seen
  pub small : list.seen < 2 ^ 32

-- the shortlist of these errors, of which the known one is one
pub record IsShortlistOf (tol : ℕ) (errors : List Error) (list : Shortlist) : Type 0 where
  pub short : IsShortlist list errors
  pub sound : IsSoundShortlist list
  pub tolerance : list.tol ≡ tol
  pub known : IfSome list.known (Contains errors)

-- an error past what may be eligible
abbrev pub IsPast : Shortlist → Error → Type 0
IsPast list error = IsUnfilled error
    ⊎ ((table : List Error) → IsBestOf table list.best
    → IsBeaten list.tol (rivals list.known table) error)

-- a limit of sums over so many filled cells
abbrev pub IsLimitOf : Shortlist → ℕ → ℕ → Type 0
IsLimitOf list count limit =
    (table : List Error) → IsBestOf table list.best
    → IsLimit list.tol (rivals list.known table) count limit

-- a placement of a box from a place of the sample, and so one of its candidates
pub record IsHeld (sample : Cells) (rect : Box3) (placement : Placement) : Type 0 where
  pub box : placement ≡ laid_from rect placement.from
  pub held : Holds sample placement.from rect.size

-- one more error
abbrev pub IsMore : Shortlist → Shortlist → Error → Type 0
IsMore was now error =
    (errors : List Error) → IsShortlist was errors → IsShortlist now (errors ++ error ∷ [])

-- the errors of a box are done for the first n parts
abbrev pub IsBoxDone : (Placement → Error) → Box3 → List Size → ℕ → Shortlist → Type 0
IsBoxDone error rect sizes n list =
    IsShortlist list (map error (entries_before (fit_list rect) sizes n))

-- so many candidates of a box are seen with the first n parts
abbrev pub IsSeenTo : Box3 → List Size → ℕ → ℕ → Type 0
IsSeenTo rect sizes n seen =
    seen + length (entries_after (fit_list rect) sizes n)
    ≡ length (lists_from (fit_list rect) sizes 1 sizes)
