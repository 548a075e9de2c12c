-- What one more call does to the state of a shelf that is replayed.
use Rattle.std.proofs.Common.{◌≡◌, ◌≤◌, ℕ, List, [], ◌∷◌, refl, sym, ap, ◌∙◌, subst, arith, Bool, true, false}
use Rattle.std.specs.Prelude.{Option, Some, None, Result, Ok, Err, OnErr, is_ok, suc, if◌then◌else◌, length, ◌++◌}
use Rattle.shelf_traits.specs.Files.{Files, OnlyReadsFile, OnlyWritesFile, IsPrefixAdded, content_of, Told, calls_beside}
use Rattle.shelf_traits.proofs.FileLaws.{asks_one}
use Rattle.system_calls.specs.Calls.{Noted, Read, Begun, Added, Said}
use Rattle.system_files.specs.Replays.{after_call, all_said, gives, if_told, is_failed_read, is_failed_write, names_asked, replay, shelf_of}

kept : (b : Bool) (files : Files) → Told (Some files) (if b then Some files else None) (λ was now. now ≡ was)
kept true files = refl
kept false files = tt

read_keeps : (left : Option ℕ) (name : List ℕ) (place asked : ℕ) (came : Option (List ℕ)) (was : Option Files)
    → Told was (if_told was (after_call left (Read name place asked came))) (λ was now. now ≡ was)
read_keeps left name place asked came None = tt
read_keeps left name place asked (Some bytes) (Some files) = kept (gives (content_of files name) place asked bytes) files
read_keeps left name place asked None (Some files) = refl

grows : (b : Bool) (n : ℕ) → n ≤ (if b then suc n else n)
grows true n = omega arith
grows false n = omega arith

one_more : (name : List ℕ) (before : List (List ℕ)) → calls_beside (name ∷ []) (before ++ name ∷ []) ≡ calls_beside (name ∷ []) before
one_more name before = asks_one name (Some before) (Some (before ++ name ∷ [])) refl

module _ (start : Files) (left : ℕ → Option ℕ) (was : List Noted) (name : List ℕ) where
  pub read_after : (place asked : ℕ) (came : Option (List ℕ)) (before now : List Noted) → now ≡ Read name place asked came ∷ before
      → before ≡ was → OnlyReadsFile name (shelf_of start left was) (shelf_of start left now)
  read_after place asked came before now is same =
      subst (λ calls. OnlyReadsFile name (shelf_of start left was) (shelf_of start left calls)) (sym (is ∙ ap (λ calls. Read name place asked came ∷ calls) same)) (record {
        files = read_keeps (left (length was)) name place asked came (replay start left was);
        reads = λ q. grows (is_failed_read q (Read name place asked came)) ((shelf_of start left was).reads q);
        writes = refl;
        asked = one_more name (names_asked was);
      })

  pub begin_after : (done : Bool) (now : List Noted) → now ≡ Begun name done ∷ was
      → OnlyWritesFile name (shelf_of start left was) (shelf_of start left now)
  begin_after done now is = subst (λ calls. OnlyWritesFile name (shelf_of start left was) (shelf_of start left calls)) (sym is) (record {
    writes = λ q. grows (is_failed_write q (Begun name done)) ((shelf_of start left was).writes q);
    reads = refl;
    asked = one_more name (names_asked was);
  })

  pub add_after : (piece : List ℕ) (done : Bool) (now : List Noted) → now ≡ Added name piece done ∷ was
      → OnlyWritesFile name (shelf_of start left was) (shelf_of start left now)
  add_after piece done now is = subst (λ calls. OnlyWritesFile name (shelf_of start left was) (shelf_of start left calls)) (sym is) (record {
    writes = λ q. grows (is_failed_write q (Added name piece done)) ((shelf_of start left was).writes q);
    reads = refl;
    asked = one_more name (names_asked was);
  })

-- what a sink's call that failed left of its piece
pub part_left : {T E : Type 0} (left : ℕ → ℕ) (was now : List Noted) (piece : List ℕ) (answer : Result T E)
    → now ≡ Said piece (is_ok answer) ∷ was → OnErr answer (IsPrefixAdded (all_said left was) piece (all_said left now))
part_left left was now piece (Ok x) is = tt
part_left left was now piece (Err e) is = (left (length was), ap (all_said left) is)
