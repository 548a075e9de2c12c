-- Laws of what is read field by field.
use Rattle.std.proofs.Common.{◌≡◌, Bool, true, false, ℕ, ◌++◌, zero, suc, ◌-◌, ◌+◌, ◌/◌, ◌<◌, ◌≤◌, ◌^◌, List, [], ◌∷◌, length, take, drop, refl, sym, ap, ◌∙◌, subst, arith}
use Rattle.std.proofs.lemmas.Bool.{le-leb, lt-leb, ltb-false, ltb-true}
use Rattle.std.proofs.Math.Numerals.{add-one}
use Rattle.std.proofs.lemmas.Nat.{from_be_bytes-to_be_bytes_2, from_be_bytes-to_be_bytes_4}
use Rattle.std.specs.Int.{w8, w16, w32, from_be_bytes}
use Rattle.std.specs.Prelude.{Option, Some, None, Result, Ok, Err, IfErr, max, min, nat_le, nat_lt}
use Rattle.shelf_traits.specs.Files.{Files, ShelfState, OnlyReads, content_of}
use Rattle.shelf_traits.specs.declared.fault.FormFault.TheVariants.{Form, Depth, Space, Cell, NoFrames, Sample, Trailing}
use Rattle.shelf_traits.specs.declared.fault.ReadError.{ReadError}
use Rattle.shelf_traits.specs.declared.fault.ReadError.TheVariants.{ReadFault, Bad, Limit, NoMemory}
use Rattle.shelf_traits.proofs.FileLaws.{only_reads_same, rose_later}
use Rattle.file_bytes.specs.Fields.{field_16, field_32}
use Rattle.file_bytes.specs.Reading.{Reading, OfFile, Follows, StandsAt, StopsShort, Took}
use Rattle.file_bytes.proofs.ReadingLaws.{still, both}
use Rattle.source_map.specs.Readings.{◌>>=◌, Found, IsRefusal, ReadsFrom, field_read, number_read, list_read, number_rule, piece_read}

-- a fact of a file's bytes that follows from another
pub weaker : (name : List ℕ) (P Q : List ℕ → Type 0) (files : Option Files) → ((bytes : List ℕ) → P bytes → Q bytes) → OfFile name files P → OfFile name files Q
weaker name P Q None so p = tt
weaker name P Q (Some files) so p = so (content_of files name) p

-- a piece that is in the bytes is read
pub piece_whole : (n at : ℕ) (piece bytes : List ℕ) → length piece ≡ n → StandsAt at piece bytes → piece_read n at bytes ≡ Ok (piece, at + n)
unfolding piece_read
piece_whole n at piece bytes count stands =
    let fits : nat_le (at + n) (length bytes) ≡ true = le-leb (at + n) (length bytes) (omega (arith, stands.within)) in
    rw fits (ap (λ (p : List ℕ). Ok (p, at + n)) (sym (stands.is ∙ ap (λ k. take k (drop at bytes)) count)))

-- one that the file has no room for isn't
pub piece_short : (n at place : ℕ) (bytes : List ℕ) → place ≡ length bytes → place < at + n → piece_read n at bytes ≡ Err (Bad (Form place))
unfolding piece_read
piece_short n at place bytes ends short =
    let past : nat_le (at + n) (length bytes) ≡ false = lt-leb (at + n) (length bytes) (omega arith) in
    rw past (ap (λ k. Err (Bad (Form k))) (sym ends))

-- a field whose bytes are there, by its rule
pub field_whole : {A : Type 0} (n at : ℕ) (rule : ℕ → List ℕ → Result A ReadError) (piece bytes : List ℕ) (result : Result A ReadError) → length piece ≡ n → StandsAt at piece bytes
    → result ≡ rule at piece → field_read n rule at bytes ≡ (result >>= λ x. Ok (x, at + n))
field_whole n at rule piece bytes result count stands is =
    ap (λ (p : Result (List ℕ × ℕ) ReadError). p >>= λ q. rule at q.0 >>= λ x. Ok (x, q.1)) (piece_whole n at piece bytes count stands)
    ∙ ap (λ r. r >>= λ x. Ok (x, at + n)) (sym is)

pub field_ruled : {A : Type 0} (memory : Type 0) (name : List ℕ) (n : ℕ) (rule : ℕ → List ℕ → Result A ReadError) (place : ℕ) (piece : List ℕ) (was now : ShelfState) (r : Reading)
    (result : Result A ReadError) → length piece ≡ n → result ≡ rule place piece → IfErr result IsRefusal → Took name place piece now r
    → ReadsFrom memory name place was now r (field_read n rule) result
field_ruled memory name n rule place piece was now r (Ok x) count is lawful took = record {
  follows = took.follows;
  is = weaker name (StandsAt place piece) (λ bytes. field_read n rule place bytes ≡ Ok (x, r.at)) now.files
      (λ bytes stands. field_whole n place rule piece bytes (Ok x) count stands is ∙ ap (λ (k : ℕ). Ok (x, k)) (sym (took.at_is ∙ ap (λ k. place + k) count))) took.found;
}
field_ruled memory name n rule place piece was now r (Err ReadFault) count is lawful took = absurd lawful
field_ruled memory name n rule place piece was now r (Err NoMemory) count is lawful took = absurd lawful
field_ruled memory name n rule place piece was now r (Err (Bad fault)) count is lawful took =
    weaker name (StandsAt place piece) (λ bytes. field_read n rule place bytes ≡ Err (Bad fault)) now.files
    (λ bytes stands. field_whole n place rule piece bytes (Err (Bad fault)) count stands is) took.found
field_ruled memory name n rule place piece was now r (Err (Limit what number bound)) count is lawful took =
    weaker name (StandsAt place piece) (λ bytes. field_read n rule place bytes ≡ Err (Limit what number bound)) now.files
    (λ bytes stands. field_whole n place rule piece bytes (Err (Limit what number bound)) count stands is) took.found

-- a field in which the file ends, or that wasn't read
pub field_stops : {A : Type 0} (memory : Type 0) (name : List ℕ) (n : ℕ) (rule : ℕ → List ℕ → Result A ReadError) (place : ℕ) (was now : ShelfState) (r : Reading) (error : ReadError)
    → StopsShort name (place + n) was now error → ReadsFrom memory name place was now r (field_read n rule) (Err error)
field_stops memory name n rule place was now r ReadFault stops = stops
field_stops memory name n rule place was now r (Bad (Form at)) stops =
    weaker name (λ bytes. (at ≡ length bytes) × (at < place + n)) (λ bytes. field_read n rule place bytes ≡ Err (Bad (Form at))) now.files
    (λ bytes ends. ap (λ (p : Result (List ℕ × ℕ) ReadError). p >>= λ q. rule place q.0 >>= λ x. Ok (x, q.1)) (piece_short n place at bytes ends.0 ends.1)) stops
field_stops memory name n rule place was now r (Bad Depth) stops = absurd stops
field_stops memory name n rule place was now r (Bad Space) stops = absurd stops
field_stops memory name n rule place was now r (Bad Cell) stops = absurd stops
field_stops memory name n rule place was now r (Bad NoFrames) stops = absurd stops
field_stops memory name n rule place was now r (Bad (Sample at)) stops = absurd stops
field_stops memory name n rule place was now r (Bad (Trailing at)) stops = absurd stops
field_stops memory name n rule place was now r (Limit what number bound) stops = absurd stops
field_stops memory name n rule place was now r NoMemory stops = absurd stops

-- numbers of each width, by their rules
pub number_8 : {A : Type 0} (memory : Type 0) (name : List ℕ) (rule : ℕ → ℕ → Result A ReadError) (place n : ℕ) (was now : ShelfState) (r : Reading) (result : Result A ReadError)
    → result ≡ rule place n → IfErr result IsRefusal → Took name place (n ∷ []) now r → ReadsFrom memory name place was now r (number_read w8 rule) result
number_8 memory name rule place n was now r result is lawful took =
    let same : n ≡ from_be_bytes w8 (n ∷ []) = omega arith in
    field_ruled memory name 1 (number_rule w8 rule) place (n ∷ []) was now r result refl (is ∙ ap (rule place) same) lawful took

pub number_16 : {A : Type 0} (memory : Type 0) (name : List ℕ) (rule : ℕ → ℕ → Result A ReadError) (place n : ℕ) (was now : ShelfState) (r : Reading) (result : Result A ReadError)
    → n < 2 ^ 16 → result ≡ rule place n → IfErr result IsRefusal → Took name place (field_16 n) now r → ReadsFrom memory name place was now r (number_read w16 rule) result
number_16 memory name rule place n was now r result small is lawful took =
    field_ruled memory name 2 (number_rule w16 rule) place (field_16 n) was now r result refl (is ∙ ap (rule place) (sym (from_be_bytes-to_be_bytes_2 n small))) lawful took

pub number_32 : {A : Type 0} (memory : Type 0) (name : List ℕ) (rule : ℕ → ℕ → Result A ReadError) (place n : ℕ) (was now : ShelfState) (r : Reading) (result : Result A ReadError)
    → n < 2 ^ 32 → result ≡ rule place n → IfErr result IsRefusal → Took name place (field_32 n) now r → ReadsFrom memory name place was now r (number_read w32 rule) result
number_32 memory name rule place n was now r result small is lawful took =
    field_ruled memory name 4 (number_rule w32 rule) place (field_32 n) was now r result refl (is ∙ ap (rule place) (sym (from_be_bytes-to_be_bytes_4 n small))) lawful took

-- one reading and then another
abbrev pub chain : {A B : Type 0} → (ℕ → List ℕ → Result (A × ℕ) ReadError) → (A → ℕ → List ℕ → Result (B × ℕ) ReadError) → ℕ → List ℕ → Result (B × ℕ) ReadError
chain first second at bytes = first at bytes >>= λ x. second x.0 x.1 bytes

pub first_stops : {A B : Type 0} (memory : Type 0) (name : List ℕ) (place : ℕ) (first : ℕ → List ℕ → Result (A × ℕ) ReadError) (second : A → ℕ → List ℕ → Result (B × ℕ) ReadError)
    (was now : ShelfState) (r : Reading) (error : ReadError) → ReadsFrom memory name place was now r first (Err error) → ReadsFrom memory name place was now r (chain first second) (Err error)
first_stops memory name place first second was now r ReadFault stops = stops
first_stops memory name place first second was now r NoMemory stops = stops
first_stops memory name place first second was now r (Bad fault) stops =
    weaker name (λ bytes. first place bytes ≡ Err (Bad fault)) (λ bytes. chain first second place bytes ≡ Err (Bad fault)) now.files
    (λ bytes is. ap (λ p. p >>= λ x. second x.0 x.1 bytes) is) stops
first_stops memory name place first second was now r (Limit what number bound) stops =
    weaker name (λ bytes. first place bytes ≡ Err (Limit what number bound)) (λ bytes. chain first second place bytes ≡ Err (Limit what number bound)) now.files
    (λ bytes is. ap (λ p. p >>= λ x. second x.0 x.1 bytes) is) stops

pub then_reads : {names : List (List ℕ)} {A B : Type 0} (memory : Type 0) (name : List ℕ) (place : ℕ) (first : ℕ → List ℕ → Result (A × ℕ) ReadError) (second : A → ℕ → List ℕ → Result (B × ℕ) ReadError)
    (a b c : ShelfState) (r r' : Reading) (x : A) (result : Result B ReadError) → OnlyReads names a b → OnlyReads names b c
    → Found name place b r first x → ReadsFrom memory name r.at b c r' (second x) result
    → ReadsFrom memory name place a c r' (chain first second) result
then_reads {A = A} {B = B} memory name place first second a b c r r' x result before after found rest = by result rest
  where
    first_is : OfFile name c.files (λ bytes. first place bytes ≡ Ok (x, r.at))
    first_is = still name (λ bytes. first place bytes ≡ Ok (x, r.at)) b.files c.files after.files found.is

    joined : (end : Result (B × ℕ) ReadError) → OfFile name c.files (λ bytes. second x r.at bytes ≡ end) → OfFile name c.files (λ bytes. chain first second place bytes ≡ end)
    joined end second_is = both name (λ bytes. first place bytes ≡ Ok (x, r.at)) (λ bytes. second x r.at bytes ≡ end) (λ bytes. chain first second place bytes ≡ end) c.files
        (λ bytes one two. ap (λ p. p >>= λ y. second y.0 y.1 bytes) one ∙ two) first_is second_is

    by : (result : Result B ReadError) → ReadsFrom memory name r.at b c r' (second x) result → ReadsFrom memory name place a c r' (chain first second) result
    by (Ok y) rest = record { follows = rest.follows; is = joined (Ok (y, r'.at)) rest.is }
    by (Err ReadFault) rest = rose_later (a.reads name) (b.reads name) (c.reads name) (before.reads name) rest
    by (Err NoMemory) rest = rest
    by (Err (Bad fault)) rest = joined (Err (Bad fault)) rest
    by (Err (Limit what number bound)) rest = joined (Err (Limit what number bound)) rest

-- a value that was read, as it is made of others
abbrev pub value_alone : {A : Type 0} → A → ℕ → List ℕ → Result (A × ℕ) ReadError
value_alone x at bytes = Ok (x, at)

pub made : {A : Type 0} (memory : Type 0) (name : List ℕ) (was now : ShelfState) (r : Reading) (x : A) → Follows name now r
    → ReadsFrom memory name r.at was now r (value_alone x) (Ok x)
made memory name was now r x follows = record { follows = follows; is = so now.files }
  where
    so : (files : Option Files) → OfFile name files (λ bytes. value_alone x r.at bytes ≡ Ok (x, r.at))
    so None = tt
    so (Some files) = refl

-- a reading that takes no memory, where one may
pub lifted : {A : Type 0} (memory : Type 0) (name : List ℕ) (place : ℕ) (read : ℕ → List ℕ → Result (A × ℕ) ReadError) (was now : ShelfState) (r : Reading) (result : Result A ReadError)
    → ReadsFrom ⊥ name place was now r read result → ReadsFrom memory name place was now r read result
lifted memory name place read was now r (Ok x) answer = answer
lifted memory name place read was now r (Err ReadFault) answer = answer
lifted memory name place read was now r (Err NoMemory) answer = absurd answer
lifted memory name place read was now r (Err (Bad fault)) answer = answer
lifted memory name place read was now r (Err (Limit what number bound)) answer = answer

-- one value more of a list
abbrev pub behind : {A : Type 0} → List A → A → ℕ → List ℕ → Result (List A × ℕ) ReadError
behind front last at bytes = Ok (front ++ last ∷ [], at)

pub list_more : {names : List (List ℕ)} {A : Type 0} (name : List ℕ) (place i : ℕ) (read : ℕ → List ℕ → Result (A × ℕ) ReadError) (a b c : ShelfState) (r r' : Reading) (front : List A) (x : A)
    → OnlyReads names a b → OnlyReads names b c → Found name place b r (list_read read i) front → Found name r.at c r' read x → Found name place c r' (list_read read (i + 1)) (front ++ x ∷ [])
list_more name place i read a b c r r' front x before after so_far last =
    subst (λ n. Found name place c r' (list_read read n) (front ++ x ∷ [])) (sym (add-one i))
    (then_reads ⊥ name place (list_read read i) (λ front. chain read (behind front)) a b c r r' front (Ok (front ++ x ∷ [])) before after so_far
    (then_reads ⊥ name r.at read (behind front) b c c r' r' x (Ok (front ++ x ∷ [])) after (only_reads_same c) last
    (made ⊥ name c c r' (front ++ x ∷ []) last.follows)))

-- a refusal in a list is that of the whole list
list_stays : {A : Type 0} (read : ℕ → List ℕ → Result (A × ℕ) ReadError) (k n m at : ℕ) (bytes : List ℕ) (error : ReadError) → m ≡ k + n
    → list_read read n at bytes ≡ Err error → list_read read m at bytes ≡ Err error
list_stays read zero n m at bytes error same is =
    let all : n ≡ m = omega arith in
    subst (λ i. list_read read i at bytes ≡ Err error) all is
list_stays read (suc k) n m at bytes error same is =
    let next : suc (k + n) ≡ m = omega arith in
    subst (λ i. list_read read i at bytes ≡ Err error) next
    (ap (λ p. p >>= λ front. read front.1 bytes >>= λ last. Ok (front.0 ++ last.0 ∷ [], last.1)) (list_stays read k n (k + n) at bytes error refl is))

pub list_stops : {names : List (List ℕ)} {A : Type 0} (memory : Type 0) (name : List ℕ) (place i n : ℕ) (read : ℕ → List ℕ → Result (A × ℕ) ReadError) (a b c : ShelfState) (r r' : Reading) (front : List A) (error : ReadError)
    → i < n → OnlyReads names a b → OnlyReads names b c → Found name place b r (list_read read i) front → ReadsFrom memory name r.at b c r' read (Err error)
    → ReadsFrom memory name place a c r' (list_read read n) (Err error)
list_stops memory name place i n read a b c r r' front error lt before after so_far stops = on error (at_next)
  where
    at_next : ReadsFrom memory name place a c r' (list_read read (suc i)) (Err error)
    at_next = then_reads memory name place (list_read read i) (λ front. chain read (behind front)) a b c r r' front (Err error) before after so_far
        (first_stops memory name r.at read (behind front) b c r' error stops)

    stays : (e : ReadError) → OfFile name c.files (λ bytes. list_read read (suc i) place bytes ≡ Err e) → OfFile name c.files (λ bytes. list_read read n place bytes ≡ Err e)
    stays e = weaker name (λ bytes. list_read read (suc i) place bytes ≡ Err e) (λ bytes. list_read read n place bytes ≡ Err e) c.files
        (λ bytes. list_stays read (n - suc i) (suc i) n place bytes e (omega arith))

    on : (e : ReadError) → ReadsFrom memory name place a c r' (list_read read (suc i)) (Err e) → ReadsFrom memory name place a c r' (list_read read n) (Err e)
    on ReadFault so = so
    on NoMemory so = so
    on (Bad fault) so = stays (Bad fault) so
    on (Limit what number bound) so = stays (Limit what number bound) so

-- a test after a reading, which gives no value
pub test_passes : {A : Type 0} (name : List ℕ) (place : ℕ) (read : ℕ → List ℕ → Result (A × ℕ) ReadError) (test : Result (Unit {0}) ReadError) (now : ShelfState) (r : Reading) (x : A) → Ok tt ≡ test
    → Found name place now r read x → Found name place now r (λ at bytes. read at bytes >>= λ y. test >>= λ done. Ok y) x
test_passes name place read test now r x passes found = record {
  follows = found.follows;
  is = weaker name (λ bytes. read place bytes ≡ Ok (x, r.at)) (λ bytes. (read place bytes >>= λ y. test >>= λ done. Ok y) ≡ Ok (x, r.at)) now.files
      (λ bytes is. ap (λ p. p >>= λ y. test >>= λ done. Ok y) is ∙ ap (λ t. t >>= λ done. Ok (x, r.at)) (sym passes)) found.is;
}

pub test_stops : {A : Type 0} (name : List ℕ) (place : ℕ) (read : ℕ → List ℕ → Result (A × ℕ) ReadError) (test : Result (Unit {0}) ReadError) (was now : ShelfState) (r : Reading) (x : A) (error : ReadError) → Err error ≡ test
    → IsRefusal error → Found name place now r read x → ReadsFrom ⊥ name place was now r (λ at bytes. read at bytes >>= λ y. test >>= λ done. Ok y) (Err error)
test_stops {A = A} name place read test was now r x error stops lawful found = by error stops lawful
  where
    so : (e : ReadError) → Err e ≡ test → OfFile name now.files (λ bytes. (read place bytes >>= λ y. test >>= λ done. Ok y) ≡ Err e)
    so e stops = weaker name (λ bytes. read place bytes ≡ Ok (x, r.at)) (λ bytes. (read place bytes >>= λ y. test >>= λ done. Ok y) ≡ Err e) now.files
        (λ bytes is. ap (λ (p : Result (A × ℕ) ReadError). p >>= λ y. test >>= λ done. Ok y) is ∙ ap (λ (t : Result (Unit {0}) ReadError). t >>= λ done. Ok (x, r.at)) (sym stops)) found.is

    by : (e : ReadError) → Err e ≡ test → IsRefusal e → ReadsFrom ⊥ name place was now r (λ at bytes. read at bytes >>= λ y. test >>= λ done. Ok y) (Err e)
    by ReadFault stops lawful = absurd lawful
    by NoMemory stops lawful = absurd lawful
    by (Bad fault) stops lawful = so (Bad fault) stops
    by (Limit what number bound) stops lawful = so (Limit what number bound) stops

-- what is read after a value of which the bytes alone are known
pub after_value : {A B : Type 0} (memory : Type 0) (name : List ℕ) (place at : ℕ) (first : ℕ → List ℕ → Result (A × ℕ) ReadError) (second : A → ℕ → List ℕ → Result (B × ℕ) ReadError) (was now : ShelfState) (r : Reading)
    (x : A) (result : Result B ReadError) → OfFile name now.files (λ bytes. first place bytes ≡ Ok (x, at)) → ReadsFrom memory name at was now r (second x) result
    → ReadsFrom memory name place was now r (chain first second) result
after_value {A = A} {B = B} memory name place at first second was now r x result value rest = by result rest
  where
    joined : (end : Result (B × ℕ) ReadError) → OfFile name now.files (λ bytes. second x at bytes ≡ end) → OfFile name now.files (λ bytes. chain first second place bytes ≡ end)
    joined end second_is = both name (λ bytes. first place bytes ≡ Ok (x, at)) (λ bytes. second x at bytes ≡ end) (λ bytes. chain first second place bytes ≡ end) now.files
        (λ bytes one two. ap (λ p. p >>= λ y. second y.0 y.1 bytes) one ∙ two) value second_is

    by : (result : Result B ReadError) → ReadsFrom memory name at was now r (second x) result → ReadsFrom memory name place was now r (chain first second) result
    by (Ok y) rest = record { follows = rest.follows; is = joined (Ok (y, r.at)) rest.is }
    by (Err ReadFault) rest = rest
    by (Err NoMemory) rest = rest
    by (Err (Bad fault)) rest = joined (Err (Bad fault)) rest
    by (Err (Limit what number bound)) rest = joined (Err (Limit what number bound)) rest

-- a list for which room was made has room for one item more
pub room_made : (len was now missing : ℕ) → (len < was → now ≡ was) → (was ≤ len → now ≡ len + min (max (len / 8) 1024) missing) → 0 < missing → len < now
room_made len was now missing kept grown some = by (nat_lt len was) refl
  where
    by : (b : Bool) → nat_lt len was ≡ b → len < now
    by true lt = let below = ltb-true len was lt in omega (arith, kept below, below)
    by false lt = omega (arith, grown (ltb-false len was lt), some)
