-- Laws of a list of files as a map from names: what is found, and what a write changes.
use Rattle.std.proofs.Common.{◌≡◌, ℕ, zero, suc, ◌+◌, ◌<◌, List, [], ◌∷◌, ◌++◌, length, map, get_or, refl, sym, ap, ◌∙◌, arith, Bool, true, false, cond, nat_eq}
use Rattle.std.proofs.Math.ListN.{set}
use Rattle.std.specs.Prelude.{Option, Some, None, position, unwrap_or}
use Rattle.std.specs.Ordering.{nat_cmp, eq_by_cmp}
use mathlib.Core.Bool.{true≢false}
use Rattle.std.specs.Cmp.{eq_by_cmp_equiv, Equal-is}
use Rattle.std.specs.Cmp.Lexicographic.{slice_cmp, pointwise, texts_ties, nat_list_cmp_total}
use Rattle.std.specs.FinMap.{find, get, insert, get-insert, get-from_entries, same_map, slice_cmp-IsAntisymmetric, nat_cmp-IsAntisymmetric, from_entries_push}
use Rattle.std.proofs.lemmas.List.Quantifiers.{position-Some}
use Rattle.std.specs.List.{position_from}
use Rattle.std.proofs.lemmas.Iterator.Adapters.{position_from-zero}
use Rattle.std.proofs.lemmas.List.{map-append}
use Rattle.shelf_core.specs.declared.mem_shelf.MemFile.{MemFile}
use Rattle.shelf_core.specs.Entries.{map_of, files_of, is_named}
use Rattle.shelf_traits.specs.Files.{content_of}

abbrev same : List ℕ → List ℕ → Bool
same a b = eq_by_cmp (slice_cmp nat_cmp) a b

exact : (a b : List ℕ) → same a b ≡ true → a ≡ b
exact a b e = slice_cmp-IsAntisymmetric nat_cmp-IsAntisymmetric a b ((Equal-is (slice_cmp nat_cmp a b)).0 e)

swapped : {A : Type 0} (a b : Bool) (x y z : A) → (a ≡ true → b ≡ true → ⊥) → cond a x (cond b y z) ≡ cond b y (cond a x z)
swapped true true x y z apart = absurd (apart refl refl)
swapped true false x y z apart = refl
swapped false b x y z apart = refl

shadow : {A : Type 0} (b : Bool) (x y z : A) → cond b x z ≡ cond b x (cond b y z)
shadow true x y z = refl
shadow false x y z = refl

-- Files of any type, by their names and bytes.
module _ {F : Type 0} (name_of bytes_of : F → List ℕ) where
  abbrev pub entry : F → List ℕ × List ℕ
  entry f = (name_of f, bytes_of f)

  abbrev pub by_name : List ℕ → F → Bool
  by_name name f = pointwise nat_eq (name_of f) name

  -- the test of the code is the order's
  tie : (name : List ℕ) (f : F) → by_name name f ≡ same name (name_of f)
  tie name f = texts_ties (name_of f) name ∙ (eq_by_cmp_equiv nat_list_cmp_total).symm (name_of f) name

  find_at : (name : List ℕ) (d : F) (files : List F) (i : ℕ) → i < length files → by_name name (get_or files i d) ≡ true → ((k : ℕ) → k < i → by_name name (get_or files k d) ≡ false)
      → find (slice_cmp nat_cmp) name (map entry files) ≡ Some (bytes_of (get_or files i d))
  find_at name d [] i lt here before = absurd (omega arith)
  find_at name d (f ∷ files) zero lt here before = ap (λ b. cond b (Some (bytes_of f)) (find (slice_cmp nat_cmp) name (map entry files))) (sym (tie name f) ∙ here)
  find_at name d (f ∷ files) (suc i) lt here before =
      ap (λ b. cond b (Some (bytes_of f)) (find (slice_cmp nat_cmp) name (map entry files))) (sym (tie name f) ∙ before 0 (omega arith))
      ∙ find_at name d files i (omega arith) here (λ k le. before (suc k) (omega arith))

  find_set : (name : List ℕ) (d g : F) (q : List ℕ) (files : List F) (i : ℕ) → i < length files → name_of (get_or files i d) ≡ name → name_of g ≡ name → ((k : ℕ) → k < i → by_name name (get_or files k d) ≡ false)
      → find (slice_cmp nat_cmp) q (map entry (set files i g)) ≡ cond (same q name) (Some (bytes_of g)) (find (slice_cmp nat_cmp) q (map entry files))
  find_set name d g q [] i lt was is before = absurd (omega arith)
  find_set name d g q (f ∷ files) zero lt was is before =
      let rest : Option (List ℕ) = find (slice_cmp nat_cmp) q (map entry files) in
      ap (λ n. cond (same q n) (Some (bytes_of g)) rest) is ∙ shadow (same q name) (Some (bytes_of g)) (Some (bytes_of f)) rest
      ∙ ap (λ n. cond (same q name) (Some (bytes_of g)) (cond (same q n) (Some (bytes_of f)) rest)) (sym was)
  find_set name d g q (f ∷ files) (suc i) lt was is before =
      ap (cond (same q (name_of f)) (Some (bytes_of f))) (find_set name d g q files i (omega arith) was is (λ k le. before (suc k) (omega arith)))
      ∙ swapped (same q (name_of f)) (same q name) _ _ _ (λ a b. true≢false (sym (both a b) ∙ sym (tie name f) ∙ before 0 (omega arith)))
    where
      both : same q (name_of f) ≡ true → same q name ≡ true → same name (name_of f) ≡ true
      both a b = ap (λ n. same n (name_of f)) (sym (exact q name b)) ∙ a

  from_none : (name : List ℕ) (files : List F) (i : ℕ) → position_from (by_name name) i files ≡ None → find (slice_cmp nat_cmp) name (map entry files) ≡ None
  from_none name [] i none = refl
  from_none name (f ∷ files) i none = tested (λ e. from_none name files (i + 1) e) (by_name name f) refl
    where
      tested : (position_from (by_name name) (i + 1) files ≡ None → find (slice_cmp nat_cmp) name (map entry files) ≡ None) → (b : Bool) → by_name name f ≡ b → find (slice_cmp nat_cmp) name (map entry (f ∷ files)) ≡ None
      tested later true e = let was : Some i ≡ None = ap (λ b. cond b (Some i) (position_from (by_name name) (i + 1) files)) (sym e) ∙ none in cc
      tested later false e =
          ap (λ b. cond b (Some (bytes_of f)) (find (slice_cmp nat_cmp) name (map entry files))) (sym (tie name f) ∙ e)
          ∙ later (ap (λ b. cond b (Some i) (position_from (by_name name) (i + 1) files)) (sym e) ∙ none)

  find_none : (name : List ℕ) (files : List F) → position (by_name name) files ≡ None → find (slice_cmp nat_cmp) name (map entry files) ≡ None
  find_none name files none = from_none name files 0 (sym (position_from-zero (by_name name) files) ∙ none)

  -- the file that a search by name gives has the name
  pub name_found : (name : List ℕ) (d : F) (files : List F) (i : ℕ) → position (by_name name) files ≡ Some i → name_of (get_or files i d) ≡ name
  name_found name d files i at = let facts = position-Some (by_name name) files i d at in exact (name_of (get_or files i d)) name (sym (texts_ties (name_of (get_or files i d)) name) ∙ facts.1)

  -- a name that a search finds has the bytes of that file
  pub entry_found : (name : List ℕ) (d : F) (files : List F) (i : ℕ) → position (by_name name) files ≡ Some i → get (map_of (map entry files)) name ≡ Some (bytes_of (get_or files i d))
  entry_found name d files i at =
      let facts = position-Some (by_name name) files i d at in
      get-from_entries nat_list_cmp_total (map entry files) name ∙ find_at name d files i facts.0 facts.1 facts.2

  -- a name that no search finds is missing
  pub entry_missing : (name : List ℕ) (files : List F) → position (by_name name) files ≡ None → get (map_of (map entry files)) name ≡ None
  entry_missing name files none = get-from_entries nat_list_cmp_total (map entry files) name ∙ find_none name files none

  -- to put a file in the place of the one of that name is to insert it
  pub entry_over : (name bytes : List ℕ) (d g : F) (files : List F) (i : ℕ) → position (by_name name) files ≡ Some i → name_of g ≡ name_of (get_or files i d) → bytes_of g ≡ bytes
      → map_of (map entry (set files i g)) ≡ insert (map_of (map entry files)) name bytes
  entry_over name bytes d g files i at own new =
      let facts = position-Some (by_name name) files i d at in
      let here : name_of (get_or files i d) ≡ name = name_found name d files i at in
      same_map nat_list_cmp_total (slice_cmp-IsAntisymmetric nat_cmp-IsAntisymmetric) _ _ (λ q.
      get-from_entries nat_list_cmp_total (map entry (set files i g)) q
      ∙ find_set name d g q files i facts.0 here (own ∙ here) facts.2
      ∙ ap (λ b. cond (same q name) (Some b) (find (slice_cmp nat_cmp) q (map entry files))) new
      ∙ ap (cond (same q name) (Some bytes)) (sym (get-from_entries nat_list_cmp_total (map entry files) q))
      ∙ sym (get-insert nat_list_cmp_total (map_of (map entry files)) name bytes q))

  -- and so it is to put a file after all where no one has its name
  pub entry_behind : (name bytes : List ℕ) (g : F) (files : List F) → position (by_name name) files ≡ None → name_of g ≡ name → bytes_of g ≡ bytes
      → map_of (map entry (files ++ g ∷ [])) ≡ insert (map_of (map entry files)) name bytes
  entry_behind name bytes g files none own new =
      ap map_of (map-append entry files (g ∷ [])) ∙ ap (λ (e : List ℕ × List ℕ). map_of (map entry files ++ e ∷ [])) (λ i. (own i, new i))
      ∙ from_entries_push nat_list_cmp_total (slice_cmp-IsAntisymmetric nat_cmp-IsAntisymmetric) (map entry files) name bytes (find_none name files none)

-- Files of a shelf in memory.

abbrev mem_name : MemFile → List ℕ
mem_name f = f.name

abbrev mem_bytes : MemFile → List ℕ
mem_bytes f = f.bytes

pub found : (name : List ℕ) (d : MemFile) (files : List MemFile) (i : ℕ) → position (is_named name) files ≡ Some i → d ≡ get_or files i d → get (files_of files) name ≡ Some d.bytes
found name d files i at item = entry_found mem_name mem_bytes name d files i at ∙ ap (λ (f : MemFile). Some f.bytes) (sym item)

pub missing : (name : List ℕ) (files : List MemFile) → position (is_named name) files ≡ None → get (files_of files) name ≡ None
missing name files none = entry_missing mem_name mem_bytes name files none

pub put_over : (name bytes : List ℕ) (d g : MemFile) (files : List MemFile) (i : ℕ) → position (is_named name) files ≡ Some i → d ≡ get_or files i d → g.name ≡ d.name → g.bytes ≡ bytes
    → files_of (set files i g) ≡ insert (files_of files) name bytes
put_over name bytes d g files i at item own new = entry_over mem_name mem_bytes name bytes d g files i at (own ∙ ap mem_name item) new

pub put_behind : (name bytes : List ℕ) (g : MemFile) (files : List MemFile) → position (is_named name) files ≡ None → g.name ≡ name → g.bytes ≡ bytes → files_of (files ++ g ∷ []) ≡ insert (files_of files) name bytes
put_behind name bytes g files none own new = entry_behind mem_name mem_bytes name bytes g files none own new

-- a piece put after the bytes of a file that is there
pub added_over : (name piece : List ℕ) (d g : MemFile) (files : List MemFile) (i : ℕ) → position (is_named name) files ≡ Some i → d ≡ get_or files i d → g.name ≡ d.name → g.bytes ≡ d.bytes ++ piece
    → files_of (set files i g) ≡ insert (files_of files) name (content_of (files_of files) name ++ piece)
added_over name piece d g files i at item own new =
    put_over name (content_of (files_of files) name ++ piece) d g files i at item own
    (new ∙ ap (λ (o : Option (List ℕ)). unwrap_or o [] ++ piece) (sym (found name d files i at item)))

-- a piece put into a file that was missing
pub added_behind : (name piece : List ℕ) (g : MemFile) (files : List MemFile) → position (is_named name) files ≡ None → g.name ≡ name → g.bytes ≡ piece
    → files_of (files ++ g ∷ []) ≡ insert (files_of files) name (content_of (files_of files) name ++ piece)
added_behind name piece g files none own new =
    put_behind name (content_of (files_of files) name ++ piece) g files none own
    (new ∙ ap (λ (o : Option (List ℕ)). unwrap_or o [] ++ piece) (sym (missing name files none)))
