-- Laws of a file that is being written.
use Rattle.std.proofs.Common.{◌≡◌, ℕ, ◌+◌, ◌<◌, List, [], ◌∷◌, ◌++◌, length, take, get_or, refl, sym, ap, ◌∙◌, subst, append_assoc}
use Rattle.std.proofs.lemmas.List.{append-nil, take_more}
use Rattle.std.proofs.lemmas.List.Concat.{flat_map-append}
use Rattle.std.specs.List.{flat_map}
use Rattle.std.specs.Prelude.{Bool, true, false, ◌⊎◌}
use Rattle.std.specs.FinMap.{insert}
use Rattle.shelf_traits.specs.Files.{ShelfState, Changes, OnlyWritesFile, Rose, GrowsByPrefix, content_of}
use Rattle.shelf_traits.specs.Written.{HoldsText, HoldsPart}
use Rattle.shelf_traits.proofs.FileLaws.{only_writes_then, rose_later}
use Rattle.shelf_traits.proofs.WrittenLaws.{shelf_added, shelf_added_part}
use Rattle.file_bytes.specs.Writing.{HasPut, IsBroken, Pending, Puts, pending}
use mathlib.Core.Bool.{false≢true}

-- a broken file stays so, however the text goes on
broken_more : (name text piece : List ℕ) (was now : ShelfState) → IsBroken name text was now → IsBroken name (text ++ piece) was now
broken_more name text piece was now broken = record {
  rose = broken.rose;
  part = λ rest. subst (λ whole. Changes was now (HoldsPart name whole)) (sym (append_assoc text piece rest)) (broken.part (piece ++ rest));
}

-- one more piece waits
pub more_waits : (name text waiting piece : List ℕ) (failed : Bool) (was now : ShelfState)
    → HasPut name text was now (pending waiting failed) → HasPut name (text ++ piece) was now (pending (waiting ++ piece) failed)
more_waits name text waiting piece failed was now put = record {
  whole = λ still.
      let old = put.whole still in
      record { sent = old.sent; text_is = ap (λ t. t ++ piece) old.text_is ∙ append_assoc old.sent waiting piece; holds = old.holds };
  broken = λ so. broken_more name text piece was now (put.broken so);
  counts = put.counts;
}

-- what waited was added
pub passes : (name text piece : List ℕ) (was a b : ShelfState) → HasPut name text was a (pending piece false)
    → Changes a b (λ x y. y ≡ insert x name (content_of x name ++ piece)) → OnlyWritesFile name a b → HasPut name text was b (pending [] false)
passes name text piece was a b put step counts = record {
  whole = λ still.
      let old = put.whole refl in
      record {
        sent = text;
        text_is = sym (append-nil text);
        holds = subst (λ t. Changes was b (HoldsText name t)) (sym old.text_is) (shelf_added name old.sent piece was a b old.holds step);
      };
  broken = λ so. absurd (false≢true so);
  counts = only_writes_then was a b put.counts counts;
}

-- it wasn't
pub stops : (name text piece : List ℕ) (was a b : ShelfState) → HasPut name text was a (pending piece false)
    → Changes a b (λ x y. (y ≡ x) ⊎ GrowsByPrefix x name piece y) → Rose (a.writes name) (b.writes name) → OnlyWritesFile name a b
    → HasPut name text was b (pending [] true)
stops name text piece was a b put step rose counts = record {
  whole = λ still. absurd (false≢true (sym still));
  broken = λ so.
      let old = put.whole refl in
      record {
        rose = rose_later (was.writes name) (a.writes name) (b.writes name) (put.counts.writes name) rose;
        part = λ rest. subst (λ t. Changes was b (HoldsPart name (t ++ rest))) (sym old.text_is) (shelf_added_part name old.sent piece rest was a b old.holds step);
      };
  counts = only_writes_then was a b put.counts counts;
}

-- nothing was tried, since a write had failed
pub stays_broken : (name text waiting other : List ℕ) (was now : ShelfState)
    → HasPut name text was now (pending waiting true) → HasPut name text was now (pending other true)
stays_broken name text waiting other was now put = record {
  whole = λ still. absurd (false≢true (sym still));
  broken = put.broken;
  counts = put.counts;
}

-- a list of numbers, put one after another
pub put_next : (name before piece : List ℕ) (a b : ShelfState) (w w' w0 : Pending) (start : ShelfState)
    → Puts name before start a w0 w → Puts name piece a b w w' → Puts name (before ++ piece) start b w0 w'
put_next name before piece a b w w' w0 start first second was whole put =
    subst (λ t. HasPut name t was b w') (append_assoc whole before piece) (second was (whole ++ before) (first was whole put))

-- no piece
pub put_none : (name : List ℕ) (a : ShelfState) (w : Pending) → Puts name [] a a w w
put_none name a w was text put = subst (λ t. HasPut name t was a w) (sym (append-nil text)) put

-- the fields of one item more
pub fields_next : {X : Type 0} (field : X → List ℕ) (items : List X) (i : ℕ) (d : X) → i < length items
    → flat_map field (take (i + 1) items) ≡ flat_map field (take i items) ++ field (get_or items i d)
fields_next field items i d lt =
    ap (flat_map field) (take_more items i d lt) ∙ flat_map-append field (take i items) (get_or items i d ∷ [])
    ∙ ap (λ last. flat_map field (take i items) ++ last) (append-nil (field (get_or items i d)))
