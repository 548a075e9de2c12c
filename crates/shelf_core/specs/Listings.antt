-- A reader has to trust this file for the stores in memory. Calls that are listed to fail. (Own.)
use Rattle.std.specs.Prelude.{◌&&◌, ◌+◌, ◌-◌, ℕ, Bool, true, false, List, map, nat_eq, min, Option, option_map, find, if◌then◌else◌}
use Rattle.std.specs.Cmp.Lexicographic.{pointwise}
use Rattle.shelf_traits.specs.Files.{last_count}
use Rattle.shelf_core.specs.declared.listing.Call.{Call}
use Rattle.shelf_core.specs.declared.listing.Call.TheVariants.{Get, Begin, Add}
use Rattle.shelf_core.specs.declared.listing.Listing.{Listing}

abbrev pub same_call : Call → Call → Bool
same_call Get Get = true
same_call Begin Begin = true
same_call Add Add = true
same_call a b = false

-- the listing is about calls of this kind on this name
abbrev pub is_about : Call → List ℕ → Listing → Bool
is_about call name listing = same_call listing.call call && pointwise nat_eq listing.name name

-- the listing names the next call of this kind on this name
abbrev pub is_due : Call → List ℕ → Listing → Bool
is_due call name listing = is_about call name listing && nat_eq listing.nth 1

-- how many bytes the next call keeps by the first listing that names it; nothing where none names
-- it
abbrev pub due : Call → List ℕ → List Listing → Option ℕ
due call name listings =
    option_map (λ (listing : Listing). listing.kept) (find (is_due call name) listings)

-- the listing after one more call; a spent one stays at 0
abbrev pub one_call_less : Call → List ℕ → Listing → Listing
one_call_less call name listing =
    if is_about call name listing
    then record listing { nth = listing.nth - 1 } else listing

-- the listings after one more call
abbrev pub after_call : Call → List ℕ → List Listing → List Listing
after_call call name listings = map (one_call_less call name) listings

-- a count one higher, which stops at the last value of a u64
abbrev pub one_more : ℕ → ℕ
one_more n = min (n + 1) last_count
