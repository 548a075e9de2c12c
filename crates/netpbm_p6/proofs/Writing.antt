-- A file that is written in several pieces: two pieces in a row are one, and a text that stopped in one piece stopped in the whole.
use Rattle.std.proofs.Common.{◌≡◌, ℕ, ◌⊎◌, inl, inr, List, [], ◌∷◌, ◌++◌, length, take, sym, ap, subst, ◌∙◌, append_assoc}
use Rattle.std.proofs.Math.Seq.{take-append_seam}
use Rattle.std.proofs.lemmas.List.{take-append-drop, append-nil}
use Rattle.std.specs.Prelude.{drop, Result, Ok, Err, OnErr}
use Rattle.std.specs.FinMap.{insert}
use Rattle.shelf_traits.specs.Files.{Files, ShelfState, content_of, Changes, GrowsByPrefix}
use Rattle.shelf_traits.specs.Written.{HoldsText, HoldsPart}
use Rattle.shelf_traits.proofs.FileLaws.{content_inserted, insert_again, told_then, told_weaker}
use Rattle.shelf_traits.proofs.WrittenLaws.{shelf_added, shelf_added_part}

-- what an add of a piece does where it succeeds, and where it fails
abbrev pub Adds : List ℕ → List ℕ → Files → Files → Type 0
Adds name piece was now = now ≡ insert was name (content_of was name ++ piece)

abbrev pub AddsPart : List ℕ → List ℕ → Files → Files → Type 0
AddsPart name piece was now = (now ≡ was) ⊎ GrowsByPrefix was name piece now

front : (first rest : List ℕ) → first ≡ take (length first) (first ++ rest)
front first rest = sym (take-append_seam first rest)

twice : (name p q : List ℕ) (x y z : Files) → Adds name p x y → Adds name q y z → Adds name (p ++ q) x z
twice name p q x y z first second =
    second ∙ ap (λ files. insert files name (content_of files name ++ q)) first
    ∙ ap (λ bytes. insert (insert x name (content_of x name ++ p)) name (bytes ++ q)) (content_inserted x name (content_of x name ++ p))
    ∙ insert_again x name (content_of x name ++ p) ((content_of x name ++ p) ++ q)
    ∙ ap (insert x name) (append_assoc (content_of x name) p q)

-- a front of a front is a front
kept_front : (p q : List ℕ) (n : ℕ) → p ++ take n q ≡ take (length (p ++ take n q)) (p ++ q)
kept_front p q n =
    front (p ++ take n q) (drop n q)
    ∙ ap (take (length (p ++ take n q))) (append_assoc p (take n q) (drop n q) ∙ ap (λ more. p ++ more) (take-append-drop n q))

twice_part : (name p q : List ℕ) (x y z : Files) → Adds name p x y → AddsPart name q y z → AddsPart name (p ++ q) x z
twice_part name p q x y z first (inl same) =
    inr (length p, same ∙ first ∙ ap (λ bytes. insert x name (content_of x name ++ bytes)) (front p q))
twice_part name p q x y z first (inr grown) =
    inr (
      length (p ++ take grown.0 q),
      twice name p (take grown.0 q) x y z first grown.1 ∙ ap (λ bytes. insert x name (content_of x name ++ bytes)) (kept_front p q grown.0),
    )

once_part : (name p q : List ℕ) (x y : Files) → AddsPart name p x y → AddsPart name (p ++ q) x y
once_part name p q x y (inl same) = inl same
once_part name p q x y (inr grown) =
    inr (
      length (take grown.0 p),
      grown.1
          ∙ ap (λ bytes. insert x name (content_of x name ++ bytes))
          (front (take grown.0 p) (drop grown.0 p ++ q)
          ∙ ap (take (length (take grown.0 p))) (sym (append_assoc (take grown.0 p) (drop grown.0 p) q) ∙ ap (λ bytes. bytes ++ q) (take-append-drop grown.0 p))),
    )

-- two pieces in a row
pub two_added : (name given p q : List ℕ) (a b c : ShelfState) → given ≡ p → Changes a b (Adds name given) → Changes b c (Adds name q) → Changes a c (Adds name (p ++ q))
two_added name given p q a b c is first second =
    told_then (Adds name p) (Adds name q) (Adds name (p ++ q)) a.files b.files c.files (twice name p q) (subst (λ piece. Changes a b (Adds name piece)) is first) second

pub two_added_part : (name given p q : List ℕ) (a b c : ShelfState) → given ≡ p → Changes a b (Adds name given) → Changes b c (AddsPart name q) → Changes a c (AddsPart name (p ++ q))
two_added_part name given p q a b c is first second =
    told_then (Adds name p) (AddsPart name q) (AddsPart name (p ++ q)) a.files b.files c.files (twice_part name p q) (subst (λ piece. Changes a b (Adds name piece)) is first) second

pub one_added_part : (name given p q : List ℕ) (a b : ShelfState) → given ≡ p → Changes a b (AddsPart name given) → Changes a b (AddsPart name (p ++ q))
one_added_part name given p q a b is first =
    told_weaker (AddsPart name p) (AddsPart name (p ++ q)) a.files b.files (once_part name p q) (subst (λ piece. Changes a b (AddsPart name piece)) is first)

-- a text of several pieces, after a first one
abbrev pub joined : List ℕ → List (List ℕ) → List ℕ
joined text [] = text
joined text (piece ∷ pieces) = joined (text ++ piece) pieces

joined_is : (text : List ℕ) (pieces : List (List ℕ)) → text ++ joined [] pieces ≡ joined text pieces
joined_is text [] = append-nil text
joined_is text (piece ∷ pieces) =
    ap (λ more. text ++ more) (sym (joined_is piece pieces)) ∙ sym (append_assoc text piece (joined [] pieces)) ∙ joined_is (text ++ piece) pieces

-- one more piece, as it was given
pub piece_added : (name text given piece : List ℕ) (a b c : ShelfState) → given ≡ piece → Changes a b (HoldsText name text) → Changes b c (Adds name given) → Changes a c (HoldsText name (text ++ piece))
piece_added name text given piece a b c is holds step = shelf_added name text piece a b c holds (subst (λ p. Changes b c (Adds name p)) is step)

-- a number and what ends it
pub number_added : (name text given p q : List ℕ) (a b c : ShelfState) → given ≡ p → Changes a b (HoldsText name text) → Changes b c (Adds name (given ++ q)) → Changes a c (HoldsText name ((text ++ p) ++ q))
number_added name text given p q a b c is holds step =
    subst (λ bytes. Changes a c (HoldsText name bytes)) (sym (append_assoc text p q)) (piece_added name text (given ++ q) (p ++ q) a b c (ap (λ n. n ++ q) is) holds step)

-- the writing stopped in a piece, whatever was to follow
pub stopped : (name text given piece : List ℕ) (rest : List (List ℕ)) (a b c : ShelfState) → given ≡ piece → Changes a b (HoldsText name text) → Changes b c (AddsPart name given)
    → Changes a c (HoldsPart name (joined (text ++ piece) rest))
stopped name text given piece rest a b c is holds step =
    subst (λ bytes. Changes a c (HoldsPart name bytes)) (joined_is (text ++ piece) rest)
    (shelf_added_part name text piece (joined [] rest) a b c holds (subst (λ p. Changes b c (AddsPart name p)) is step))

pub number_stopped : (name text given p q : List ℕ) (rest : List (List ℕ)) (a b c : ShelfState) → given ≡ p → Changes a b (HoldsText name text) → Changes b c (AddsPart name (given ++ q))
    → Changes a c (HoldsPart name (joined ((text ++ p) ++ q) rest))
number_stopped name text given p q rest a b c is holds step =
    subst (λ bytes. Changes a c (HoldsPart name (joined bytes rest))) (sym (append_assoc text p q)) (stopped name text (given ++ q) (p ++ q) rest a b c (ap (λ n. n ++ q) is) holds step)

-- what holds at all holds where a call failed
pub on_err : {T E : Type 0} (r : Result T E) (P : Type 0) → P → OnErr r P
on_err (Ok x) P p = tt
on_err (Err e) P p = p
