-- Laws of what is read field by field.
use Rattle.std.proofs.Common.{◌≡◌, ◌+◌, ◌-◌, ◌*◌, ◌≤◌, ◌<◌, ◌++◌, ◌∷◌, [], zero, suc, ℕ, List, refl, sym, ap, subst, arith}
use Rattle.std.proofs.Math.Nat.{mul-add}
use Rattle.std.proofs.Math.Numerals.{add-one}
use Rattle.std.specs.Prelude.{Option, Some, None, Result, Ok, Err, IfErr}
use Rattle.shelf_traits.specs.Files.{Files, OnlyReads, ShelfState}
use Rattle.shelf_traits.specs.declared.fault.ReadError.{ReadError}
use Rattle.shelf_traits.specs.declared.fault.ReadError.TheVariants.{ReadFault, Bad, Limit, NoMemory}
use Rattle.shelf_traits.proofs.FileLaws.{only_reads_same}
use Rattle.file_bytes.specs.Reading.{Reading, OfFile, Follows, StopsInList}
use Rattle.source_map.specs.Readings.{◌>>=◌, Found, IsRefusal, ReadsFrom, field_read}
use Rattle.source_map.proofs.FieldLaws.{behind, chain, field_stops, first_stops, made, then_reads, weaker}
use Rattle.cert_file.specs.CutReading.{each_read}

-- a rule for values that were read
abbrev pub ruled : {A : Type 0} → Result A ReadError → ℕ → List ℕ → Result (A × ℕ) ReadError
ruled rule at bytes = rule >>= λ x. Ok (x, at)

every : (name : List ℕ) (P : List ℕ → Type 0) (files : Option Files) → ((bytes : List ℕ) → P bytes) → OfFile name files P
every name P None all = tt
every name P (Some files) all = all _

pub by_rule : {A : Type 0} (memory : Type 0) (name : List ℕ) (was now : ShelfState) (r : Reading) (rule result : Result A ReadError) → result ≡ rule → IfErr result IsRefusal
    → Follows name now r → ReadsFrom memory name r.at was now r (ruled rule) result
by_rule {A = A} memory name was now r rule (Ok x) is lawful follows = record {
  follows = follows;
  is = every name (λ bytes. ruled rule r.at bytes ≡ Ok (x, r.at)) now.files (λ bytes. ap (λ (o : Result A ReadError). o >>= λ y. Ok (y, r.at)) (sym is));
}
by_rule memory name was now r rule (Err ReadFault) is lawful follows = absurd lawful
by_rule memory name was now r rule (Err NoMemory) is lawful follows = absurd lawful
by_rule {A = A} memory name was now r rule (Err (Bad fault)) is lawful follows =
    every name (λ bytes. ruled rule r.at bytes ≡ Err (Bad fault)) now.files (λ bytes. ap (λ (o : Result A ReadError). o >>= λ y. Ok (y, r.at)) (sym is))
by_rule {A = A} memory name was now r rule (Err (Limit what number bound)) is lawful follows =
    every name (λ bytes. ruled rule r.at bytes ≡ Err (Limit what number bound)) now.files (λ bytes. ap (λ (o : Result A ReadError). o >>= λ y. Ok (y, r.at)) (sym is))

-- one value more, read in the light of those before
pub each_more : {names : List (List ℕ)} {A : Type 0} (name : List ℕ) (place i : ℕ) (read : List A → ℕ → List ℕ → Result (A × ℕ) ReadError) (a b c : ShelfState) (r r' : Reading) (front : List A) (x : A)
    → OnlyReads names a b → OnlyReads names b c → Found name place b r (each_read read i) front → Found name r.at c r' (read front) x → Found name place c r' (each_read read (i + 1)) (front ++ x ∷ [])
each_more name place i read a b c r r' front x before after so_far last =
    subst (λ n. Found name place c r' (each_read read n) (front ++ x ∷ [])) (sym (add-one i))
    (then_reads ⊥ name place (each_read read i) (λ front. chain (read front) (behind front)) a b c r r' front (Ok (front ++ x ∷ [])) before after so_far
    (then_reads ⊥ name r.at (read front) (behind front) b c c r' r' x (Ok (front ++ x ∷ [])) after (only_reads_same c) last
    (made ⊥ name c c r' (front ++ x ∷ []) last.follows)))

each_stays : {A : Type 0} (read : List A → ℕ → List ℕ → Result (A × ℕ) ReadError) (k n m at : ℕ) (bytes : List ℕ) (error : ReadError) → m ≡ k + n
    → each_read read n at bytes ≡ Err error → each_read read m at bytes ≡ Err error
each_stays read zero n m at bytes error same is =
    let all : n ≡ m = omega arith in
    subst (λ i. each_read read i at bytes ≡ Err error) all is
each_stays read (suc k) n m at bytes error same is =
    let next : suc (k + n) ≡ m = omega arith in
    subst (λ i. each_read read i at bytes ≡ Err error) next
    (ap (λ p. p >>= λ front. read front.0 front.1 bytes >>= λ last. Ok (front.0 ++ last.0 ∷ [], last.1)) (each_stays read k n (k + n) at bytes error refl is))

-- a refusal of one is that of all
pub each_stops : {names : List (List ℕ)} {A : Type 0} (memory : Type 0) (name : List ℕ) (place i n : ℕ) (read : List A → ℕ → List ℕ → Result (A × ℕ) ReadError) (a b c : ShelfState) (r r' : Reading) (front : List A) (error : ReadError)
    → i < n → OnlyReads names a b → OnlyReads names b c → Found name place b r (each_read read i) front → ReadsFrom memory name r.at b c r' (read front) (Err error)
    → ReadsFrom memory name place a c r' (each_read read n) (Err error)
each_stops memory name place i n read a b c r r' front error lt before after so_far stops = on error at_next
  where
    at_next : ReadsFrom memory name place a c r' (each_read read (suc i)) (Err error)
    at_next = then_reads memory name place (each_read read i) (λ front. chain (read front) (behind front)) a b c r r' front (Err error) before after so_far
        (first_stops memory name r.at (read front) (behind front) b c r' error stops)

    stays : (e : ReadError) → OfFile name c.files (λ bytes. each_read read (suc i) place bytes ≡ Err e) → OfFile name c.files (λ bytes. each_read read n place bytes ≡ Err e)
    stays e = weaker name (λ bytes. each_read read (suc i) place bytes ≡ Err e) (λ bytes. each_read read n place bytes ≡ Err e) c.files
        (λ bytes. each_stays read (n - suc i) (suc i) n place bytes e (omega arith))

    on : (e : ReadError) → ReadsFrom memory name place a c r' (each_read read (suc i)) (Err e) → ReadsFrom memory name place a c r' (each_read read n) (Err e)
    on ReadFault so = so
    on NoMemory so = so
    on (Bad fault) so = stays (Bad fault) so
    on (Limit what number bound) so = stays (Limit what number bound) so

-- a field that was read to its end or not, for which memory may lack
pub field_lacks : {A : Type 0} (name : List ℕ) (n : ℕ) (rule : ℕ → List ℕ → Result A ReadError) (place : ℕ) (was now : ShelfState) (r : Reading) (error : ReadError)
    → StopsInList name (place + n) was now error → ReadsFrom (Unit {0}) name place was now r (field_read n rule) (Err error)
field_lacks name n rule place was now r ReadFault stops = stops
field_lacks name n rule place was now r NoMemory stops = tt
field_lacks name n rule place was now r (Bad fault) stops = field_stops (Unit {0}) name n rule place was now r (Bad fault) stops
field_lacks name n rule place was now r (Limit what number bound) stops = absurd stops

-- the place after one record more, of which so many bytes at most stand for each cell
pub place_more : (k start at new before cells added : ℕ) → added ≡ cells → at ≤ start + k * before → new ≤ at + k * cells → new ≤ start + k * (before + added)
place_more k start at new before cells added same so one =
    let apart = mul-add k before cells in
    subst (λ n. new ≤ start + k * (before + n)) (sym same) (omega (arith, so, one, apart))
