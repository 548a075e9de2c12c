-- A text that is added to a file in two pieces.
use Rattle.std.proofs.Common.{◌≡◌, ℕ, inl, inr, List, [], ◌++◌, length, take, sym, ap, subst, ◌∙◌, append_assoc}
use Rattle.std.proofs.Math.Seq.{take-append_seam}
use Rattle.std.proofs.lemmas.List.{take-append-drop, append-nil}
use Rattle.std.specs.Prelude.{drop, Result, Ok, Err, OnErr}
use Rattle.std.specs.FinMap.{insert}
use Rattle.shelf_traits.specs.Files.{Files, ShelfState, content_of, Changes, Appends, AppendsPart}
use Rattle.shelf_traits.specs.Written.{HoldsText, HoldsPart}
use Rattle.shelf_traits.proofs.FileLaws.{content_inserted, insert_again, told_then, told_weaker}
use Rattle.shelf_traits.proofs.WrittenLaws.{shelf_added, shelf_added_part}

front : (first rest : List ℕ) → first ≡ take (length first) (first ++ rest)
front first rest = sym (take-append_seam first rest)

twice : (name p q : List ℕ) (x y z : Files) → Appends name p x y → Appends name q y z → Appends name (p ++ q) x z
twice name p q x y z first second =
    second ∙ ap (λ files. insert files name (content_of files name ++ q)) first
    ∙ ap (λ bytes. insert (insert x name (content_of x name ++ p)) name (bytes ++ q)) (content_inserted x name (content_of x name ++ p))
    ∙ insert_again x name (content_of x name ++ p) ((content_of x name ++ p) ++ q)
    ∙ ap (insert x name) (append_assoc (content_of x name) p q)

twice_part : (name p q : List ℕ) (x y z : Files) → Appends name p x y → AppendsPart name q y z → AppendsPart name (p ++ q) x z
twice_part name p q x y z first (inl same) = inr (length p, same ∙ first ∙ ap (λ bytes. insert x name (content_of x name ++ bytes)) (front p q))
twice_part name p q x y z first (inr grown) =
    let kept : List ℕ = take grown.0 q in
    let whole : (p ++ kept) ++ drop grown.0 q ≡ p ++ q = append_assoc p kept (drop grown.0 q) ∙ ap (λ t. p ++ t) (take-append-drop grown.0 q) in
    inr (
      length (p ++ kept),
      twice name p kept x y z first grown.1
          ∙ ap (λ bytes. insert x name (content_of x name ++ bytes)) (front (p ++ kept) (drop grown.0 q) ∙ ap (take (length (p ++ kept))) whole),
    )

once_part : (name p q : List ℕ) (x y : Files) → AppendsPart name p x y → AppendsPart name (p ++ q) x y
once_part name p q x y (inl same) = inl same
once_part name p q x y (inr grown) =
    let kept : List ℕ = take grown.0 p in
    let whole : kept ++ (drop grown.0 p ++ q) ≡ p ++ q = sym (append_assoc kept (drop grown.0 p) q) ∙ ap (λ t. t ++ q) (take-append-drop grown.0 p) in
    inr (length kept, grown.1 ∙ ap (λ bytes. insert x name (content_of x name ++ bytes)) (front kept (drop grown.0 p ++ q) ∙ ap (take (length kept)) whole))

-- two pieces in a row, of which the second is given by another name
pub both_added : (name p given q : List ℕ) (a b c : ShelfState) → given ≡ q → Changes a b (Appends name p) → Changes b c (Appends name given) → Changes a c (Appends name (p ++ q))
both_added name p given q a b c is first second =
    told_then (Appends name p) (Appends name q) (Appends name (p ++ q)) a.files b.files c.files (twice name p q) first (subst (λ piece. Changes b c (Appends name piece)) is second)

pub second_in_part : (name p given q : List ℕ) (a b c : ShelfState) → given ≡ q → Changes a b (Appends name p) → Changes b c (AppendsPart name given) → Changes a c (AppendsPart name (p ++ q))
second_in_part name p given q a b c is first second =
    told_then (Appends name p) (AppendsPart name q) (AppendsPart name (p ++ q)) a.files b.files c.files (twice_part name p q) first (subst (λ piece. Changes b c (AppendsPart name piece)) is second)

pub first_in_part : (name p q : List ℕ) (a b : ShelfState) → Changes a b (AppendsPart name p) → Changes a b (AppendsPart name (p ++ q))
first_in_part name p q a b first = told_weaker (AppendsPart name p) (AppendsPart name (p ++ q)) a.files b.files (once_part name p q) first

-- one piece in a file that was begun
pub begun_with : (name given p : List ℕ) (a b c : ShelfState) → given ≡ p → Changes a b (HoldsText name []) → Changes b c (Appends name given) → Changes a c (HoldsText name p)
begun_with name given p a b c is begun step = shelf_added name [] p a b c begun (subst (λ piece. Changes b c (Appends name piece)) is step)

pub begun_with_part : (name given p : List ℕ) (a b c : ShelfState) → given ≡ p → Changes a b (HoldsText name []) → Changes b c (AppendsPart name given) → Changes a c (HoldsPart name p)
begun_with_part name given p a b c is begun step =
    subst (λ bytes. Changes a c (HoldsPart name bytes)) (append-nil p) (shelf_added_part name [] p [] a b c begun (subst (λ piece. Changes b c (AppendsPart name piece)) is step))

-- what holds at all holds where a call failed
pub on_err : {T E : Type 0} (r : Result T E) (P : Type 0) → P → OnErr r P
on_err (Ok x) P p = tt
on_err (Err e) P p = p
