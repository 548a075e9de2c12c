-- Laws of files, as maps from names to bytes, and of steps in a row.
use Rattle.std.proofs.Common.{◌≡◌, ◌≢◌, ℕ, ◌≤◌, inl, inr, List, [], ◌∷◌, ◌++◌, refl, sym, ap, ◌∙◌, arith, Bool, true, false, cond, nat_eq}
use Rattle.std.proofs.Math.Bool.{not, ◌||◌}
use Rattle.std.proofs.lemmas.Cmp.{nat_list_eq_equiv}
use Rattle.std.proofs.lemmas.List.{append-nil}
use Rattle.std.proofs.lemmas.List.Elements.{filter-append}
use Rattle.std.proofs.lemmas.List.Folds.{list_any-append}
use Rattle.std.specs.Prelude.{Option, Some, None, unwrap_or, filter}
use Rattle.std.specs.Ordering.{nat_cmp, eq_by_cmp}
use Rattle.std.specs.Cmp.{eq_by_cmp_equiv, Equal-is}
use Rattle.std.specs.Cmp.Lexicographic.{pointwise, slice_cmp, nat_list_cmp_total}
use Rattle.std.specs.FinMap.{get, insert, get-insert, same_map, slice_cmp-IsAntisymmetric, nat_cmp-IsAntisymmetric}
use Rattle.shelf_traits.specs.Files.{Files, ShelfState, AsksOnly, OnlyReads, OnlyWrites, calls_beside, content_of, is_one_of, Told, Rose}

-- a name ties with itself
pub name_itself : (name : List ℕ) → eq_by_cmp (slice_cmp nat_cmp) name name ≡ true
name_itself name = (eq_by_cmp_equiv nat_list_cmp_total).refl name

-- and with no other name
other_name : (a b : List ℕ) → a ≢ b → eq_by_cmp (slice_cmp nat_cmp) a b ≡ false
other_name a b apart = tested (eq_by_cmp (slice_cmp nat_cmp) a b) refl
  where
    tested : (t : Bool) → eq_by_cmp (slice_cmp nat_cmp) a b ≡ t → eq_by_cmp (slice_cmp nat_cmp) a b ≡ false
    tested true e = absurd (apart (slice_cmp-IsAntisymmetric nat_cmp-IsAntisymmetric a b ((Equal-is (slice_cmp nat_cmp a b)).0 e)))
    tested false e = e

-- a written file has its bytes
pub get_inserted : (files : Files) (name bytes : List ℕ) → get (insert files name bytes) name ≡ Some bytes
get_inserted files name bytes = get-insert nat_list_cmp_total files name bytes name ∙ ap (λ b. cond b (Some bytes) (get files name)) (name_itself name)

-- other files stay
pub get_beside : (files : Files) (name bytes q : List ℕ) → q ≢ name → get (insert files name bytes) q ≡ get files q
get_beside files name bytes q apart = get-insert nat_list_cmp_total files name bytes q ∙ ap (λ b. cond b (Some bytes) (get files q)) (other_name q name apart)

-- the same for the bytes of a file, where a missing one counts as empty
pub content_inserted : (files : Files) (name bytes : List ℕ) → content_of (insert files name bytes) name ≡ bytes
content_inserted files name bytes = ap (λ o. unwrap_or o []) (get_inserted files name bytes)

pub content_beside : (files : Files) (name bytes q : List ℕ) → q ≢ name → content_of (insert files name bytes) q ≡ content_of files q
content_beside files name bytes q apart = ap (λ o. unwrap_or o []) (get_beside files name bytes q apart)

twice : {A : Type 0} (b : Bool) (x y z : A) → cond b x (cond b y z) ≡ cond b x z
twice true x y z = refl
twice false x y z = refl

-- the later content stands
pub insert_again : (files : Files) (name first second : List ℕ) → insert (insert files name first) name second ≡ insert files name second
insert_again files name first second = same_map nat_list_cmp_total (slice_cmp-IsAntisymmetric nat_cmp-IsAntisymmetric) _ _ (λ q.
    get-insert nat_list_cmp_total (insert files name first) name second q
    ∙ ap (cond (eq_by_cmp (slice_cmp nat_cmp) q name) (Some second)) (get-insert nat_list_cmp_total files name first q)
    ∙ twice (eq_by_cmp (slice_cmp nat_cmp) q name) _ _ _
    ∙ sym (get-insert nat_list_cmp_total files name second q))

-- a file that has the bytes already
pub insert_same : (files : Files) (name bytes : List ℕ) → get files name ≡ Some bytes → insert files name bytes ≡ files
insert_same files name bytes there = same_map nat_list_cmp_total (slice_cmp-IsAntisymmetric nat_cmp-IsAntisymmetric) _ _ (λ q.
    get-insert nat_list_cmp_total files name bytes q ∙ tested q (eq_by_cmp (slice_cmp nat_cmp) q name) refl)
  where
    tested : (q : List ℕ) (t : Bool) → eq_by_cmp (slice_cmp nat_cmp) q name ≡ t → cond t (Some bytes) (get files q) ≡ get files q
    tested q true e = sym there ∙ ap (get files) (sym (slice_cmp-IsAntisymmetric nat_cmp-IsAntisymmetric q name ((Equal-is (slice_cmp nat_cmp q name)).0 e)))
    tested q false e = refl

-- one step and then another
pub told_then : {C : Type 0} (P Q R : C → C → Type 0) (a b c : Option C) → ((x y z : C) → P x y → Q y z → R x z) → Told a b P → Told b c Q → Told a c R
told_then P Q R a b None join p q = tt
told_then P Q R None None (Some z) join p q = q
told_then P Q R (Some x) None (Some z) join p q = absurd q
told_then P Q R None (Some y) (Some z) join p q = absurd p
told_then P Q R (Some x) (Some y) (Some z) join p q = join x y z p q

-- what is known of a step says less too
pub told_weaker : {C : Type 0} (P Q : C → C → Type 0) (a b : Option C) → ((x y : C) → P x y → Q x y) → Told a b P → Told a b Q
told_weaker P Q a None weaker p = tt
told_weaker P Q None (Some y) weaker p = p
told_weaker P Q (Some x) (Some y) weaker p = weaker x y p

-- no step
pub told_same : {C : Type 0} (a : Option C) → Told a a (λ was now. now ≡ was)
told_same None = tt
told_same (Some x) = refl

-- two facts of one step
pub told_both : {C : Type 0} (P Q : C → C → Type 0) (a b : Option C) → Told a b P → Told a b Q → Told a b (λ x y. P x y × Q x y)
told_both P Q a None p q = tt
told_both P Q None (Some y) p q = p
told_both P Q (Some x) (Some y) p q = (p, q)

-- NAMES

-- each of these names is one of more
abbrev pub AreAmong : List (List ℕ) → List (List ℕ) → Type 0
AreAmong names more = (call : List ℕ) → is_one_of names call ≡ true → is_one_of more call ≡ true

pub among_none : (more : List (List ℕ)) → AreAmong [] more
among_none more call is = absurd (cc)

pub among_same : (names : List (List ℕ)) → AreAmong names names
among_same names call is = is

pub among_then : (a b c : List (List ℕ)) → AreAmong a b → AreAmong b c → AreAmong a c
among_then a b c first second call is = second call (first call is)

either : (a b c : Bool) → (a ≡ true → c ≡ true) → (b ≡ true → c ≡ true) → (a || b) ≡ true → c ≡ true
either true b c first second is = first refl
either false b c first second is = second is

of_left : (a b : Bool) → a ≡ true → (a || b) ≡ true
of_left true b is = refl
of_left false b is = absurd (cc)

of_right : (a b : Bool) → b ≡ true → (a || b) ≡ true
of_right true b is = refl
of_right false b is = is

-- the first of some names, and those after it
pub among_head : (name : List ℕ) (more : List (List ℕ)) → AreAmong (name ∷ []) (name ∷ more)
among_head name more call is =
    either (pointwise nat_eq call name) false (is_one_of (name ∷ more) call) (of_left (pointwise nat_eq call name) (is_one_of more call)) (λ no. absurd (cc)) is

pub among_rest : (name : List ℕ) (more : List (List ℕ)) → AreAmong more (name ∷ more)
among_rest name more call is = of_right (pointwise nat_eq call name) (is_one_of more call) is

-- the names of a list that begins some, and of one that ends them
pub among_left : (first second : List (List ℕ)) → AreAmong first (first ++ second)
among_left first second call is =
    list_any-append (pointwise nat_eq call) first second ∙ of_left (is_one_of first call) (is_one_of second call) is

pub among_right : (first second : List (List ℕ)) → AreAmong second (first ++ second)
among_right first second call is =
    list_any-append (pointwise nat_eq call) first second ∙ of_right (is_one_of first call) (is_one_of second call) is

-- CALLS

-- a call for a name is none for others
beside_one : (name : List ℕ) (calls : List (List ℕ)) → calls_beside (name ∷ []) (calls ++ name ∷ []) ≡ calls_beside (name ∷ []) calls
unfolding calls_beside
beside_one name calls =
    filter-append (λ call. not (is_one_of (name ∷ []) call)) calls (name ∷ [])
    ∙ ap (λ (b : Bool). filter (λ call. not (is_one_of (name ∷ []) call)) calls ++ cond (not (b || false)) (name ∷ []) []) (nat_list_eq_equiv.refl name)
    ∙ append-nil (filter (λ call. not (is_one_of (name ∷ []) call)) calls)

pub asks_one : (name : List ℕ) (a b : Option (List (List ℕ))) → Told a b (λ was now. now ≡ was ++ name ∷ [])
    → Told a b (λ was now. calls_beside (name ∷ []) now ≡ calls_beside (name ∷ []) was)
asks_one name a b asked =
    told_weaker (λ was now. now ≡ was ++ name ∷ []) (λ was now. calls_beside (name ∷ []) now ≡ calls_beside (name ∷ []) was) a b
    (λ was now is. ap (calls_beside (name ∷ [])) is ∙ beside_one name was) asked

-- calls that are for none of more names are those of the calls that are for none of some of them
beside_more : (names more : List (List ℕ)) → AreAmong names more → (calls : List (List ℕ)) → calls_beside more (calls_beside names calls) ≡ calls_beside more calls
unfolding calls_beside
beside_more names more among [] = refl
beside_more names more among (call ∷ calls) = by (is_one_of names call) refl (beside_more names more among calls)
  where
    by : (b : Bool) → is_one_of names call ≡ b → calls_beside more (calls_beside names calls) ≡ calls_beside more calls
        → calls_beside more (calls_beside names (call ∷ calls)) ≡ calls_beside more (call ∷ calls)
    by true is rest =
        ap (λ (b : Bool). calls_beside more (cond (not b) (call ∷ calls_beside names calls) (calls_beside names calls))) is
        ∙ rest ∙ ap (λ (b : Bool). cond (not b) (call ∷ calls_beside more calls) (calls_beside more calls)) (sym (among call is))
    by false is rest =
        ap (λ (b : Bool). calls_beside more (cond (not b) (call ∷ calls_beside names calls) (calls_beside names calls))) is
        ∙ ap (λ kept. cond (not (is_one_of more call)) (call ∷ kept) kept) rest

-- calls in a row
pub asks_then : (names : List (List ℕ)) (a b c : ShelfState) → AsksOnly names a b → AsksOnly names b c → AsksOnly names a c
asks_then names a b c p q =
    let Step : List (List ℕ) → List (List ℕ) → Type 0 = λ x y. calls_beside names y ≡ calls_beside names x in
    told_then Step Step Step a.asked b.asked c.asked (λ x y z e f. f ∙ e) p q

pub asks_same : (names : List (List ℕ)) (a : ShelfState) → AsksOnly names a a
asks_same names a = told_weaker (λ x y. y ≡ x) (λ x y. calls_beside names y ≡ calls_beside names x) a.asked a.asked (λ x y e. ap (calls_beside names) e) (told_same a.asked)

-- what asks for some names asks for no other than more
pub asks_of_more : (names more : List (List ℕ)) (a b : ShelfState) → AreAmong names more → AsksOnly names a b → AsksOnly more a b
asks_of_more names more a b among p =
    told_weaker (λ x y. calls_beside names y ≡ calls_beside names x) (λ x y. calls_beside more y ≡ calls_beside more x) a.asked b.asked
    (λ x y e. sym (beside_more names more among y) ∙ ap (calls_beside more) e ∙ beside_more names more among x) p

-- READS AND WRITES

-- reads in a row
pub only_reads_then : {names : List (List ℕ)} (a b c : ShelfState) → OnlyReads names a b → OnlyReads names b c → OnlyReads names a c
only_reads_then {names} a b c p q = record {
  files = told_then (λ x y. y ≡ x) (λ x y. y ≡ x) (λ x y. y ≡ x) a.files b.files c.files (λ x y z e f. f ∙ e) p.files q.files;
  reads = λ name. omega (arith, p.reads name, q.reads name);
  writes = q.writes ∙ p.writes;
  asked = asks_then names a b c p.asked q.asked;
}

pub only_reads_same : {names : List (List ℕ)} (a : ShelfState) → OnlyReads names a a
only_reads_same {names} a = record { files = told_same a.files; reads = λ name. omega arith; writes = refl; asked = asks_same names a }

pub only_reads_of_more : {names more : List (List ℕ)} (a b : ShelfState) → AreAmong names more → OnlyReads names a b → OnlyReads more a b
only_reads_of_more {names} {more} a b among p = record { files = p.files; reads = p.reads; writes = p.writes; asked = asks_of_more names more a b among p.asked }

-- writes in a row
pub only_writes_then : {names : List (List ℕ)} (a b c : ShelfState) → OnlyWrites names a b → OnlyWrites names b c → OnlyWrites names a c
only_writes_then {names} a b c p q = record {
  writes = λ name. omega (arith, p.writes name, q.writes name);
  reads = q.reads ∙ p.reads;
  asked = asks_then names a b c p.asked q.asked;
}

pub only_writes_same : {names : List (List ℕ)} (a : ShelfState) → OnlyWrites names a a
only_writes_same {names} a = record { writes = λ name. omega arith; reads = refl; asked = asks_same names a }

pub only_writes_of_more : {names more : List (List ℕ)} (a b : ShelfState) → AreAmong names more → OnlyWrites names a b → OnlyWrites more a b
only_writes_of_more {names} {more} a b among p = record { writes = p.writes; reads = p.reads; asked = asks_of_more names more a b among p.asked }

-- a count that rose has risen after later calls too
pub rose_then : (a b c : ℕ) → Rose a b → b ≤ c → Rose a c
rose_then a b c (inl up) later = inl (omega arith)
rose_then a b c (inr last) later = inr (omega arith)

-- and since an earlier call
pub rose_later : (a b c : ℕ) → a ≤ b → Rose b c → Rose a c
rose_later a b c earlier (inl up) = inl (omega arith)
rose_later a b c earlier (inr last) = inr last
