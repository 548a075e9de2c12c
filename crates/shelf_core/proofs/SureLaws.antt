-- Laws of files that keep within a room: how many bytes they take, and what a write makes of them.
use Rattle.std.proofs.Common.{◌≡◌, ℕ, zero, suc, ◌+◌, ◌<◌, List, [], ◌∷◌, ◌++◌, length, get_or, refl, sym, ap, ◌∙◌, subst, arith, Bool, true, false, cond, T, append-nil, add-zero, zero-add, length-append}
use Rattle.std.proofs.Math.ListN.{set}
use Rattle.std.proofs.lemmas.List.{map-id, nil_from_length}
use Rattle.std.specs.Prelude.{Option, Some, None, position, unwrap_or, option_map, nat_le, ◌&&◌}
use Rattle.std.specs.List.{position_from}
use Rattle.std.proofs.lemmas.List.Quantifiers.{position-Some}
use Rattle.std.proofs.lemmas.Iterator.Adapters.{position_from-zero}
use Rattle.std.specs.Ordering.{nat_cmp, is_lt, is_eq}
use Rattle.std.specs.declared.cmp.Ordering.{Ordering}
use Rattle.std.specs.declared.cmp.Ordering.TheVariants.{Less, Equal, Greater}
use Rattle.std.specs.Cmp.Lexicographic.{slice_cmp, texts_ties, nat_list_cmp_total}
use Rattle.std.specs.FinMap.{find, get, insert, empty, len-entries, len-empty, put, is_sorted, entries, entries_sorted, entries-insert, get-entries, slice_cmp-IsAntisymmetric, nat_cmp-IsAntisymmetric}
use Rattle.std.specs.FinMap.Entries.{below_all, by_order}
use Rattle.shelf_traits.specs.Files.{Files, content_of, Told}
use Rattle.shelf_core.specs.Entries.{map_of}
use Rattle.shelf_core.specs.Tapes.{spent, has_name}
use Rattle.shelf_core.specs.SureStates.{size_of, fitting, kept_bytes, written_over, HasNamesOnce, Opens}
use Rattle.shelf_traits.proofs.FileLaws.{name_itself, content_inserted, insert_again, insert_same}
use Rattle.shelf_core.proofs.EntryLaws.{name_found, entry_found, entry_missing, entry_over, entry_behind}

-- The bytes of all names and files.

abbrev R : List ℕ → List ℕ → Ordering
R = slice_cmp nat_cmp

first : (a b : Bool) → T (a && b) → T a
first true b p = tt
first false b p = p

second : (a b : Bool) → T (a && b) → T b
second true b p = p
second false b p = absurd p

both : (a b : Bool) → T a → T b → T (a && b)
both true b p q = q
both false b p q = p

less : (o : Ordering) → T (is_lt o) → o ≡ Less
less Less p = refl
less Equal p = absurd p
less Greater p = absurd p

-- a name below all others is missing
missing_below : (k : List ℕ) (es : List (List ℕ × List ℕ)) → T (below_all R k es) → find R k es ≡ None
missing_below k [] h = refl
missing_below k (e ∷ es) h = ap (λ o. cond (is_eq o) (Some e.1) (find R k es)) (less (R k e.0) (first _ _ h)) ∙ missing_below k es (second _ _ h)

below_less : (k x : List ℕ) (es : List (List ℕ × List ℕ)) → R k x ≡ Less → T (below_all R x es) → T (below_all R k es)
below_less k x [] p h = tt
below_less k x (e ∷ es) p h = both _ _ (subst (λ r. T (is_lt r)) (sym (nat_list_cmp_total.trans k x e.0 p (less _ (first _ _ h)))) tt) (below_less k x es p (second _ _ h))

-- the bytes of a name and its file, none where it is missing
abbrev taken : List ℕ → Option (List ℕ) → ℕ
taken k None = 0
taken k (Some v) = length k + length v

spent_put : (k v : List ℕ) (es : List (List ℕ × List ℕ)) → T (is_sorted R es) → spent (put R k v es) + taken k (find R k es) ≡ spent es + (length k + length v)
spent_put k v [] h = omega arith
spent_put k v (e ∷ es) h = compared (R k e.0) refl (spent_put k v es (second _ _ h))
  where
    compared : (o : Ordering) → R k e.0 ≡ o → spent (put R k v es) + taken k (find R k es) ≡ spent es + (length k + length v)
        → spent (put R k v (e ∷ es)) + taken k (find R k (e ∷ es)) ≡ spent (e ∷ es) + (length k + length v)
    compared Less p rest =
        let is : put R k v (e ∷ es) ≡ (k, v) ∷ e ∷ es = ap (λ o. by_order o ((k, v) ∷ e ∷ es) ((e.0, v) ∷ es) (e ∷ put R k v es)) p in
        let none : find R k (e ∷ es) ≡ None = missing_below k (e ∷ es) (both _ _ (subst (λ r. T (is_lt r)) (sym p) tt) (below_less k e.0 es p (first _ _ h))) in
        omega (arith, ap spent is, ap (taken k) none)
    compared Equal p rest =
        let is : put R k v (e ∷ es) ≡ (e.0, v) ∷ es = ap (λ o. by_order o ((k, v) ∷ e ∷ es) ((e.0, v) ∷ es) (e ∷ put R k v es)) p in
        let here : find R k (e ∷ es) ≡ Some e.1 = ap (λ o. cond (is_eq o) (Some e.1) (find R k es)) p in
        let named : k ≡ e.0 = slice_cmp-IsAntisymmetric nat_cmp-IsAntisymmetric k e.0 p in
        omega (arith, ap spent is, ap (taken k) here, ap (length {A = ℕ}) named)
    compared Greater p rest =
        let is : put R k v (e ∷ es) ≡ e ∷ put R k v es = ap (λ o. by_order o ((k, v) ∷ e ∷ es) ((e.0, v) ∷ es) (e ∷ put R k v es)) p in
        let later : find R k (e ∷ es) ≡ find R k es = ap (λ o. cond (is_eq o) (Some e.1) (find R k es)) p in
        omega (arith, ap spent is, ap (taken k) later, rest)

-- a write gives back the bytes of the file before
size_insert : (files : Files) (k v : List ℕ) → size_of (insert files k v) + taken k (get files k) ≡ size_of files + (length k + length v)
size_insert files k v =
    omega (arith, ap spent (entries-insert nat_list_cmp_total files k v), ap (taken k) (get-entries files k), spent_put k v (entries files) (entries_sorted files))

-- a longer file takes more
pub passes : (room : ℕ) (files : Files) (k v : List ℕ) → room < size_of (insert files k []) → room < size_of (insert files k v)
passes room files k v over = omega (arith, size_insert files k [], size_insert files k v)

spent_set : (i : ℕ) (es : List (List ℕ × List ℕ)) (d x : List ℕ × List ℕ) → i < length es → spent (set es i x) + (length (get_or es i d).0 + length (get_or es i d).1) ≡ spent es + (length x.0 + length x.1)
spent_set i [] d x lt = absurd (omega arith)
spent_set zero (e ∷ es) d x lt = omega arith
spent_set (suc i) (e ∷ es) d x lt = omega (arith, spent_set i es d x (omega arith))

spent_push : (es : List (List ℕ × List ℕ)) (x : List ℕ × List ℕ) → spent (es ++ x ∷ []) ≡ spent es + (length x.0 + length x.1)
spent_push [] x = omega arith
spent_push (e ∷ es) x = omega (arith, spent_push es x)

-- A list of files, each a name and its bytes, as a map.

abbrev name_of : List ℕ × List ℕ → List ℕ
name_of e = e.0

abbrev bytes_of : List ℕ × List ℕ → List ℕ
bytes_of e = e.1

abbrev pub nothing : List ℕ × List ℕ
nothing = ([], [])

pub file_found : (name : List ℕ) (es : List (List ℕ × List ℕ)) (i : ℕ) → position (has_name name) es ≡ Some i → get (map_of es) name ≡ Some (get_or es i nothing).1
file_found name es i at = ap (λ (l : List (List ℕ × List ℕ)). get (map_of l) name) (sym (map-id es)) ∙ entry_found name_of bytes_of name nothing es i at

pub file_missing : (name : List ℕ) (es : List (List ℕ × List ℕ)) → position (has_name name) es ≡ None → get (map_of es) name ≡ None
file_missing name es none = ap (λ (l : List (List ℕ × List ℕ)). get (map_of l) name) (sym (map-id es)) ∙ entry_missing name_of bytes_of name es none

file_over : (name bytes : List ℕ) (es : List (List ℕ × List ℕ)) (i : ℕ) → position (has_name name) es ≡ Some i → map_of (set es i ((get_or es i nothing).0, bytes)) ≡ insert (map_of es) name bytes
file_over name bytes es i at =
    ap map_of (sym (map-id (set es i ((get_or es i nothing).0, bytes)))) ∙ entry_over name_of bytes_of name bytes nothing ((get_or es i nothing).0, bytes) es i at refl refl
    ∙ ap (λ (l : List (List ℕ × List ℕ)). insert (map_of l) name bytes) (map-id es)

file_behind : (name bytes : List ℕ) (es : List (List ℕ × List ℕ)) → position (has_name name) es ≡ None → map_of (es ++ (name, bytes) ∷ []) ≡ insert (map_of es) name bytes
file_behind name bytes es none =
    ap map_of (sym (map-id (es ++ (name, bytes) ∷ []))) ∙ entry_behind name_of bytes_of name bytes (name, bytes) es none refl refl
    ∙ ap (λ (l : List (List ℕ × List ℕ)). insert (map_of l) name bytes) (map-id es)

sized_over : (name bytes : List ℕ) (es : List (List ℕ × List ℕ)) (i : ℕ) → position (has_name name) es ≡ Some i → i < length es → HasNamesOnce es → HasNamesOnce (set es i ((get_or es i nothing).0, bytes))
sized_over name bytes es i at lt sized =
    omega (
      arith,
      sized,
      ap size_of (file_over name bytes es i at),
      size_insert (map_of es) name bytes,
      ap (taken name) (file_found name es i at),
      spent_set i es nothing ((get_or es i nothing).0, bytes) lt,
      ap (length {A = ℕ}) (name_found name_of bytes_of name nothing es i at),
    )

sized_behind : (name : List ℕ) (es : List (List ℕ × List ℕ)) → position (has_name name) es ≡ None → HasNamesOnce es → HasNamesOnce (es ++ (name, []) ∷ [])
sized_behind name es none sized =
    omega (arith, sized, ap size_of (file_behind name [] es none), size_insert (map_of es) name [], ap (taken name) (file_missing name es none), spent_push es (name, []))

-- the name is where it was
stays : (name : List ℕ) (k i : ℕ) (es : List (List ℕ × List ℕ)) (bytes : List ℕ) (d : List ℕ × List ℕ) → position_from (has_name name) k (set es i ((get_or es i d).0, bytes)) ≡ position_from (has_name name) k es
stays name k i [] bytes d = refl
stays name k zero (e ∷ es) bytes d = refl
stays name k (suc i) (e ∷ es) bytes d = ap (cond (has_name name e) (Some k)) (stays name (k + 1) i es bytes d)

position_stays : (name : List ℕ) (i : ℕ) (es : List (List ℕ × List ℕ)) (bytes : List ℕ) → position (has_name name) (set es i ((get_or es i nothing).0, bytes)) ≡ position (has_name name) es
position_stays name i es bytes = position_from-zero (has_name name) (set es i ((get_or es i nothing).0, bytes)) ∙ stays name 0 i es bytes nothing ∙ sym (position_from-zero (has_name name) es)

-- a name that was missing comes last
last : (name bytes : List ℕ) (k : ℕ) (es : List (List ℕ × List ℕ)) → position_from (has_name name) k es ≡ None → position_from (has_name name) k (es ++ (name, bytes) ∷ []) ≡ Some (k + length es)
last name bytes k [] none = ap (λ b. cond b (Some k) None) (texts_ties name name ∙ name_itself name) ∙ ap Some (sym (add-zero k))
last name bytes k (e ∷ es) none = tested (has_name name e) refl (last name bytes (k + 1) es)
  where
    tested : (b : Bool) → has_name name e ≡ b → (position_from (has_name name) (k + 1) es ≡ None → position_from (has_name name) (k + 1) (es ++ (name, bytes) ∷ []) ≡ Some ((k + 1) + length es))
        → position_from (has_name name) k (e ∷ (es ++ (name, bytes) ∷ [])) ≡ Some (k + length (e ∷ es))
    tested true t later = let here : Some k ≡ None = ap (λ b. cond b (Some k) (position_from (has_name name) (k + 1) es)) (sym t) ∙ none in cc
    tested false t later =
        let place : (k + 1) + length es ≡ k + length (e ∷ es) = omega arith in
        ap (λ b. cond b (Some k) (position_from (has_name name) (k + 1) (es ++ (name, bytes) ∷ []))) t
        ∙ later (ap (λ b. cond b (Some k) (position_from (has_name name) (k + 1) es)) (sym t) ∙ none) ∙ ap Some place

position_last : (name bytes : List ℕ) (es : List (List ℕ × List ℕ)) → position (has_name name) es ≡ None → position (has_name name) (es ++ (name, bytes) ∷ []) ≡ Some (length es)
position_last name bytes es none =
    position_from-zero (has_name name) (es ++ (name, bytes) ∷ []) ∙ last name bytes 0 es (sym (position_from-zero (has_name name) es) ∙ none) ∙ ap Some (zero-add (length es))

pub position_within : (name : List ℕ) (es : List (List ℕ × List ℕ)) (i : ℕ) → position (has_name name) es ≡ Some i → i < length es
position_within name es i at = (position-Some (has_name name) es i nothing at).0

-- What a write makes of the files.

-- a file that keeps its bytes
pub opens_kept : (name : List ℕ) (es : List (List ℕ × List ℕ)) (i : ℕ) → position (has_name name) es ≡ Some i → Opens es es name true i
opens_kept name es i at =
    let there = file_found name es i at in
    let same : content_of (map_of es) name ++ [] ≡ (get_or es i nothing).1 = append-nil _ ∙ ap (λ o. unwrap_or o []) there in
    record { at = at; files = sym (insert_same (map_of es) name _ (there ∙ ap Some (sym same))) }

-- one that loses them
pub opens_cleared : (name : List ℕ) (es : List (List ℕ × List ℕ)) (i : ℕ) → position (has_name name) es ≡ Some i → Opens es (set es i ((get_or es i nothing).0, [])) name false i
opens_cleared name es i at = record { at = position_stays name i es [] ∙ at; files = file_over name [] es i at }

pub sized_cleared : (name : List ℕ) (es : List (List ℕ × List ℕ)) (i : ℕ) → position (has_name name) es ≡ Some i → HasNamesOnce es → HasNamesOnce (set es i ((get_or es i nothing).0, []))
sized_cleared name es i at sized = sized_over name [] es i at (position_within name es i at) sized

-- and a new one
pub opens_new : (name : List ℕ) (keeps : Bool) (es : List (List ℕ × List ℕ)) → position (has_name name) es ≡ None → Opens es (es ++ (name, []) ∷ []) name keeps (length es)
opens_new name keeps es none = record { at = position_last name [] es none; files = file_behind name [] es none ∙ ap (insert (map_of es) name) (empty keeps) }
  where
    empty : (keeps : Bool) → [] ≡ kept_bytes keeps (content_of (map_of es) name) ++ []
    empty true = ap (λ o. unwrap_or o [] ++ []) (sym (file_missing name es none))
    empty false = refl

pub sized_new : (name : List ℕ) (es : List (List ℕ × List ℕ)) → position (has_name name) es ≡ None → HasNamesOnce es → HasNamesOnce (es ++ (name, []) ∷ [])
sized_new name es none sized = sized_behind name es none sized

-- a name with no room passes the room
pub new_passes : (room : ℕ) (name : List ℕ) (es : List (List ℕ × List ℕ)) → position (has_name name) es ≡ None → HasNamesOnce es → room < spent es + length name → room < size_of (insert (map_of es) name [])
new_passes room name es none sized over = omega (arith, sized, over, size_insert (map_of es) name [], ap (taken name) (file_missing name es none))

-- the piece after what was kept_bytes
pub stored : (was now : List (List ℕ × List ℕ)) (name piece : List ℕ) (keeps : Bool) (i : ℕ) → Opens was now name keeps i
    → map_of (set now i ((get_or now i nothing).0, (get_or now i nothing).1 ++ piece)) ≡ written_over was name keeps piece
stored was now name piece keeps i opens =
    let files : Files = map_of was in
    let front : List ℕ = kept_bytes keeps (content_of files name) in
    let own : (get_or now i nothing).1 ≡ front = sym (ap (λ o. unwrap_or o []) (file_found name now i opens.at)) ∙ ap (λ (m : Files). content_of m name) opens.files ∙ content_inserted files name (front ++ []) ∙ append-nil front in
    file_over name ((get_or now i nothing).1 ++ piece) now i opens.at
    ∙ ap (λ (m : Files). insert m name ((get_or now i nothing).1 ++ piece)) opens.files
    ∙ insert_again files name (front ++ []) ((get_or now i nothing).1 ++ piece)
    ∙ ap (λ bytes. insert files name (bytes ++ piece)) own

pub sized_stored : (now : List (List ℕ × List ℕ)) (name piece : List ℕ) (i : ℕ) → position (has_name name) now ≡ Some i → HasNamesOnce now → HasNamesOnce (set now i ((get_or now i nothing).0, (get_or now i nothing).1 ++ piece))
sized_stored now name piece i at sized = sized_over name ((get_or now i nothing).1 ++ piece) now i at (position_within name now i at) sized

-- its bytes are those before and those of the piece
pub size_stored : (was now : List (List ℕ × List ℕ)) (name piece : List ℕ) (keeps : Bool) (i : ℕ) → Opens was now name keeps i → HasNamesOnce now → size_of (written_over was name keeps piece) ≡ spent now + length piece
size_stored was now name piece keeps i opens sized =
    let own : List ℕ = (get_or now i nothing).1 in
    omega (
      arith,
      ap size_of (stored was now name piece keeps i opens),
      sized_stored now name piece i opens.at sized,
      spent_set i now nothing ((get_or now i nothing).0, own ++ piece) (position_within name now i opens.at),
      length-append own piece,
    )

-- what is known after a write
pub told_fitting : (room : ℕ) (write : Files → Files) (files : Option Files) → Told files (fitting room (option_map write files)) (λ was now. now ≡ write was)
told_fitting room write None = tt
told_fitting room write (Some files) = fits (nat_le (size_of (write files)) room)
  where
    fits : (b : Bool) → Told (Some files) (cond b (Some (write files)) None) (λ was now. now ≡ write was)
    fits true = refl
    fits false = tt

-- no file takes no byte
pub sized_none : HasNamesOnce []
sized_none = ap spent (nil_from_length (entries empty) (sym (len-entries empty) ∙ len-empty (slice_cmp nat_cmp) (List ℕ)))
