-- No promise rests on this file: how the values of the stores in memory are stored as numbers,
-- pairs and lists, which tell any two of them apart. (Own.)
use Rattle.std.specs.Prelude.{◌≡◌, ℕ, zero, suc, List, Option, refl}
use Rattle.std.specs.Coded.{Coded, code_by, coded×, coded_ℕ, coded_list, coded_option}
use Rattle.std.specs.Ordering.{nat_cmp}
use Rattle.std.specs.Cmp.Lexicographic.{slice_cmp}
use Rattle.std.specs.FinMap as fin
use Rattle.shelf_traits.specs.Files.{Files}
use Rattle.shelf_core.specs.MemStates.{MemShelfState}
use Rattle.shelf_core.specs.SureStates.{SureShelfState}
use Rattle.shelf_core.specs.declared.listing.Call.{Call}
use Rattle.shelf_core.specs.declared.listing.Call.TheVariants.{Get, Begin, Add}
use Rattle.shelf_core.specs.declared.listing.Listing.{Listing}

abbrev pub call_number : Call → ℕ
call_number Get = 0
call_number Begin = 1
call_number Add = 2

abbrev pub numbered_call : ℕ → Call
numbered_call zero = Get
numbered_call (suc zero) = Begin
numbered_call (suc (suc n)) = Add

pub numbered-number : (call : Call) → numbered_call (call_number call) ≡ call
numbered-number Get = refl
numbered-number Begin = refl
numbered-number Add = refl

abbrev pub call_code : Coded Call
call_code = code_by ℕ coded_ℕ call_number numbered_call numbered-number

abbrev pub listing_code : Coded Listing
listing_code = code_by (Call × (List ℕ × (ℕ × ℕ)))
    (coded× call_code (coded× (coded_list coded_ℕ) (coded× coded_ℕ coded_ℕ)))
    (λ a. (a.call, (a.name, (a.nth, a.kept))))
    (λ p. record { call = p.0; name = p.1.0; nth = p.1.1.0; kept = p.1.1.1 }) (λ _. refl)

abbrev pub files_code : Coded Files
files_code = fin.code {R = slice_cmp nat_cmp} (coded_list coded_ℕ) (coded_list coded_ℕ)

abbrev pub calls_code : Coded (Option (List (List ℕ)))
calls_code = coded_option (coded_list (coded_list coded_ℕ))

abbrev pub mem_shelf_code : Coded MemShelfState
mem_shelf_code =
    code_by (Files × (List Listing × (ℕ × (ℕ × Option (List (List ℕ))))))
    (coded× files_code (coded× (coded_list listing_code) (coded× coded_ℕ
    (coded× coded_ℕ calls_code))))
    (λ s. (s.files, (s.listings, (s.reads, (s.writes, s.asked)))))
    (λ p. record {
      files = p.0;
      listings = p.1.0;
      reads = p.1.1.0;
      writes = p.1.1.1.0;
      asked = p.1.1.1.1;
    })
    (λ _. refl)

abbrev pub sure_shelf_code : Coded SureShelfState
sure_shelf_code = code_by (ℕ × Option Files) (coded× coded_ℕ (coded_option files_code))
    (λ s. (s.room, s.files)) (λ p. record { room = p.0; files = p.1 }) (λ _. refl)
