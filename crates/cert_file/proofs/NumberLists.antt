-- Lists of numbers that are read at once.
use Rattle.std.proofs.Common.{◌≡◌, true, false, Bool, ℕ, zero, suc, ◌+◌, ◌*◌, ◌≤◌, ◌<◌, ◌^◌, List, [], ◌∷◌, ◌++◌, length, take, drop, refl, sym, ap, ◌∙◌, subst, arith}
use Rattle.std.proofs.lemmas.Bool.{le-leb, leb-true, leb-false}
use Rattle.std.proofs.lemmas.List.{length-append}
use Rattle.std.proofs.lemmas.Nat.{from_be_bytes-to_be_bytes_8}
use Rattle.std.specs.Int.{Width, byte_len, from_be_bytes, w16, w32, w64}
use Rattle.std.specs.List.{flat_map}
use Rattle.std.specs.Prelude.{All, Result, Ok, Err, nat_le}
use Rattle.shelf_traits.specs.Files.{OnlyReads, ShelfState}
use Rattle.shelf_traits.specs.declared.fault.FormFault.TheVariants.{Form, Depth, Space, Cell, NoFrames, Sample, Trailing}
use Rattle.shelf_traits.specs.declared.fault.ReadError.{ReadError}
use Rattle.shelf_traits.specs.declared.fault.ReadError.TheVariants.{ReadFault, Bad, Limit, NoMemory}
use Rattle.file_bytes.specs.Fields.{field_16, field_32, field_64, fields_16, fields_32, fields_64}
use Rattle.file_bytes.specs.Reading.{Reading, EndsBefore, Follows, IsAhead, StandsAt, StopsInList, Took}
use Rattle.file_bytes.proofs.ReadingLaws.{both, still}
use Rattle.source_map.specs.Readings.{◌>>=◌, Found, ReadsFrom, list_read, number_read, number_rule, piece_read}
use Rattle.source_map.proofs.Again.{Spells, field_spells, list_spells, spells_16, spells_32}
use Rattle.source_map.proofs.FieldLaws.{piece_short, weaker}
use Rattle.cert_file.specs.Rules.{any_rule}

-- so many numbers of a width, which are there
record Whole (w : Width) (n at : ℕ) (bytes : List ℕ) : Type 0 where
  xs : List ℕ
  is : list_read (number_read w any_rule) n at bytes ≡ Ok (xs, at + n * byte_len w)

one_whole : (w : Width) (at : ℕ) (bytes : List ℕ) → at + byte_len w ≤ length bytes
    → number_read w any_rule at bytes ≡ Ok (from_be_bytes w (take (byte_len w) (drop at bytes)), at + byte_len w)
unfolding piece_read
one_whole w at bytes fits =
    let there : nat_le (at + byte_len w) (length bytes) ≡ true = le-leb (at + byte_len w) (length bytes) fits in
    rw there refl

one_short : (w : Width) (at place : ℕ) (bytes : List ℕ) → place ≡ length bytes → place < at + byte_len w → number_read w any_rule at bytes ≡ Err (Bad (Form place))
one_short w at place bytes ends short =
    ap (λ (p : Result (List ℕ × ℕ) ReadError). p >>= λ piece. any_rule at (from_be_bytes w piece.0) >>= λ x. Ok (x, piece.1)) (piece_short (byte_len w) at place bytes ends short)

-- one number after others
abbrev behind_them : Width → List ℕ → Result (List ℕ × ℕ) ReadError → Result (List ℕ × ℕ) ReadError
behind_them w bytes front = front >>= λ f. number_read w any_rule f.1 bytes >>= λ last. Ok (f.0 ++ last.0 ∷ [], last.1)

whole : (w : Width) (n at : ℕ) (bytes : List ℕ) → at + n * byte_len w ≤ length bytes → Whole w n at bytes
whole w zero at bytes fits =
    let here : at ≡ at + 0 * byte_len w = omega arith in
    record { xs = []; is = ap (λ (k : ℕ). Ok ([], k)) here }
whole w (suc n) at bytes fits =
    let mid = at + n * byte_len w in
    let front = whole w n at bytes (omega (arith, fits)) in
    let x = from_be_bytes w (take (byte_len w) (drop mid bytes)) in
    let end : mid + byte_len w ≡ at + suc n * byte_len w = omega arith in
    record {
      xs = front.xs ++ x ∷ [];
      is = ap (behind_them w bytes) front.is
          ∙ ap (λ (l : Result (ℕ × ℕ) ReadError). l >>= λ last. Ok (front.xs ++ last.0 ∷ [], last.1)) (one_whole w mid bytes (omega (arith, fits)))
          ∙ ap (λ (k : ℕ). Ok (front.xs ++ x ∷ [], k)) end;
    }

-- so many that the file has no room for
short_list : (w : Width) (n at place : ℕ) (bytes : List ℕ) → place ≡ length bytes → place < at + suc n * byte_len w
    → list_read (number_read w any_rule) (suc n) at bytes ≡ Err (Bad (Form place))
short_list w zero at place bytes ends short =
    ap (λ (l : Result (ℕ × ℕ) ReadError). l >>= λ last. Ok ([] ++ last.0 ∷ [], last.1)) (one_short w at place bytes ends (omega (arith, short)))
short_list w (suc n) at place bytes ends short = by (nat_le (at + suc n * byte_len w) place) refl (short_list w n at place bytes ends)
  where
    by : (b : Bool) → nat_le (at + suc n * byte_len w) place ≡ b → (place < at + suc n * byte_len w → list_read (number_read w any_rule) (suc n) at bytes ≡ Err (Bad (Form place)))
        → list_read (number_read w any_rule) (suc (suc n)) at bytes ≡ Err (Bad (Form place))
    by true e before =
        let mid = at + suc n * byte_len w in
        let front = whole w (suc n) at bytes (omega (arith, leb-true (at + suc n * byte_len w) place e, ends)) in
        ap (behind_them w bytes) front.is
        ∙ ap (λ (l : Result (ℕ × ℕ) ReadError). l >>= λ last. Ok (front.xs ++ last.0 ∷ [], last.1)) (one_short w mid place bytes ends (omega (arith, short)))
    by false e before = ap (behind_them w bytes) (before (leb-false (at + suc n * byte_len w) place e))

any_short : (w : Width) (n at place : ℕ) (bytes : List ℕ) → at ≤ length bytes → place ≡ length bytes → place < at + byte_len w * n → list_read (number_read w any_rule) n at bytes ≡ Err (Bad (Form place))
any_short w zero at place bytes within ends short = absurd (omega (arith, within, ends, short))
any_short w (suc n) at place bytes within ends short = short_list w n at place bytes ends (omega (arith, short))

-- a list in which the file ends, or that wasn't read
pub list_lacks : {names : List (List ℕ)} (name : List ℕ) (w : Width) (n : ℕ) (was now : ShelfState) (before r : Reading) (error : ReadError) → Follows name was before → OnlyReads names was now
    → StopsInList name (before.at + byte_len w * n) was now error → ReadsFrom (Unit {0}) name before.at was now r (list_read (number_read w any_rule) n) (Err error)
list_lacks name w n was now before r ReadFault follows reads stops = stops
list_lacks name w n was now before r NoMemory follows reads stops = tt
list_lacks name w n was now before r (Bad (Form at)) follows reads stops =
    both name (IsAhead before) (EndsBefore (before.at + byte_len w * n) at) (λ bytes. list_read (number_read w any_rule) n before.at bytes ≡ Err (Bad (Form at))) now.files
    (λ bytes ahead ends. any_short w n before.at at bytes (omega (arith, ahead.within)) ends.0 ends.1) (still name (IsAhead before) was.files now.files reads.files follows) stops
list_lacks name w n was now before r (Bad Depth) follows reads stops = absurd stops
list_lacks name w n was now before r (Bad Space) follows reads stops = absurd stops
list_lacks name w n was now before r (Bad Cell) follows reads stops = absurd stops
list_lacks name w n was now before r (Bad NoFrames) follows reads stops = absurd stops
list_lacks name w n was now before r (Bad (Sample at)) follows reads stops = absurd stops
list_lacks name w n was now before r (Bad (Trailing at)) follows reads stops = absurd stops
list_lacks name w n was now before r (Limit what number bound) follows reads stops = absurd stops

-- a list that was read
found : (name : List ℕ) (w : Width) (field : ℕ → List ℕ) (n place : ℕ) (xs : List ℕ) (now : ShelfState) (r : Reading) → length xs ≡ n
    → Spells (list_read (number_read w any_rule) (length xs)) (flat_map field xs) xs → Took name place (flat_map field xs) now r
    → Found name place now r (list_read (number_read w any_rule) n) xs
found name w field n place xs now r count spells took =
    subst (λ k. Found name place now r (list_read (number_read w any_rule) k) xs) count
    (record {
      follows = took.follows;
      is = weaker name (StandsAt place (flat_map field xs)) (λ bytes. list_read (number_read w any_rule) (length xs) place bytes ≡ Ok (xs, r.at)) now.files
          (λ bytes stands. spells place bytes stands ∙ ap (λ (k : ℕ). Ok (xs, k)) (sym took.at_is)) took.found;
    })

spells_64 : (n : ℕ) → n < 2 ^ 64 → Spells (number_read w64 any_rule) (field_64 n) n
spells_64 n small = field_spells 8 (number_rule w64 any_rule) (field_64 n) n refl (λ at. ap (any_rule at) (from_be_bytes-to_be_bytes_8 n small))

pub spells_all_16 : (xs : List ℕ) → All (λ n. n < 2 ^ 16) xs → Spells (list_read (number_read w16 any_rule) (length xs)) (fields_16 xs) xs
spells_all_16 xs small = list_spells (number_read w16 any_rule) field_16 xs (λ i d lt. spells_16 any_rule _ _ (small i d lt) (λ at. refl))

pub spells_all_32 : (xs : List ℕ) → All (λ n. n < 2 ^ 32) xs → Spells (list_read (number_read w32 any_rule) (length xs)) (fields_32 xs) xs
spells_all_32 xs small = list_spells (number_read w32 any_rule) field_32 xs (λ i d lt. spells_32 any_rule _ _ (small i d lt) (λ at. refl))

pub spells_all_64 : (xs : List ℕ) → All (λ n. n < 2 ^ 64) xs → Spells (list_read (number_read w64 any_rule) (length xs)) (fields_64 xs) xs
spells_all_64 xs small = list_spells (number_read w64 any_rule) field_64 xs (λ i d lt. spells_64 _ (small i d lt))

pub list_16 : (name : List ℕ) (n place : ℕ) (xs : List ℕ) (now : ShelfState) (r : Reading) → length xs ≡ n → All (λ n. n < 2 ^ 16) xs → Took name place (fields_16 xs) now r
    → Found name place now r (list_read (number_read w16 any_rule) n) xs
list_16 name n place xs now r count small took = found name w16 field_16 n place xs now r count (spells_all_16 xs small) took

pub list_32 : (name : List ℕ) (n place : ℕ) (xs : List ℕ) (now : ShelfState) (r : Reading) → length xs ≡ n → All (λ n. n < 2 ^ 32) xs → Took name place (fields_32 xs) now r
    → Found name place now r (list_read (number_read w32 any_rule) n) xs
list_32 name n place xs now r count small took = found name w32 field_32 n place xs now r count (spells_all_32 xs small) took

pub vec_32 : (name : List ℕ) (n place : ℕ) (xs ys : List ℕ) (now : ShelfState) (r : Reading) → ys ≡ xs → length xs ≡ n → All (λ n. n < 2 ^ 32) xs → Took name place (fields_32 xs) now r
    → Found name place now r (list_read (number_read w32 any_rule) n) ys
vec_32 name n place xs ys now r is count small took = subst (Found name place now r (list_read (number_read w32 any_rule) n)) (sym is) (list_32 name n place xs now r count small took)

pub list_64 : (name : List ℕ) (n place : ℕ) (xs : List ℕ) (now : ShelfState) (r : Reading) → length xs ≡ n → All (λ n. n < 2 ^ 64) xs → Took name place (fields_64 xs) now r
    → Found name place now r (list_read (number_read w64 any_rule) n) xs
list_64 name n place xs now r count small took = found name w64 field_64 n place xs now r count (spells_all_64 xs small) took

pub vec_64 : (name : List ℕ) (n place : ℕ) (xs ys : List ℕ) (now : ShelfState) (r : Reading) → ys ≡ xs → length xs ≡ n → All (λ n. n < 2 ^ 64) xs → Took name place (fields_64 xs) now r
    → Found name place now r (list_read (number_read w64 any_rule) n) ys
vec_64 name n place xs ys now r is count small took = subst (Found name place now r (list_read (number_read w64 any_rule) n)) (sym is) (list_64 name n place xs now r count small took)

-- the bytes of a list
fields_long : (field : ℕ → List ℕ) (k : ℕ) → ((n : ℕ) → length (field n) ≡ k) → (xs : List ℕ) → length (flat_map field xs) ≡ k * length xs
fields_long field k each [] = omega arith
fields_long field k each (x ∷ xs) = omega (arith, length-append (field x) (flat_map field xs), each x, fields_long field k each xs)

pub long_16 : (xs : List ℕ) → length (fields_16 xs) ≡ 2 * length xs
long_16 xs = fields_long field_16 2 (λ n. refl) xs

pub long_32 : (xs : List ℕ) → length (fields_32 xs) ≡ 4 * length xs
long_32 xs = fields_long field_32 4 (λ n. refl) xs
