-- The steps of everything that is written in several pieces: a file is begun and pieces are added, and a sink is given pieces of a line.
use Rattle.std.proofs.Common.{◌≡◌, ℕ, ◌≤◌, ◌⊎◌, inl, inr, List, [], ◌++◌, length, take, drop, sym, ap, ◌∙◌, append_assoc}
use Rattle.std.proofs.lemmas.List.{take-append-drop, append-nil}
use Rattle.std.proofs.Math.Seq.{take-append_seam}
use Rattle.std.specs.FinMap.{insert}
use Rattle.shelf_traits.specs.Files.{Files, ShelfState, SinkState, content_of, Told, Changes, Rose, IsPrefixAdded, GrowsByPrefix}
use Rattle.shelf_traits.specs.Written.{HoldsText, HoldsPart, Says}
use Rattle.shelf_traits.proofs.FileLaws.{content_inserted, insert_again, told_then, told_weaker, told_same, rose_later}

-- a front of a text is one of its prefixes
front : (first rest text : List ℕ) → first ++ rest ≡ text → first ≡ take (length first) text
front first rest text whole = sym (take-append_seam first rest) ∙ ap (take (length first)) whole

-- what was written, with a prefix of the next piece, is a prefix of the whole text
added_front : (text piece rest : List ℕ) (n : ℕ) → (text ++ take n piece) ++ (drop n piece ++ rest) ≡ (text ++ piece) ++ rest
added_front text piece rest n =
    append_assoc text _ _ ∙ ap (λ more. text ++ more) (sym (append_assoc (take n piece) _ _) ∙ ap (λ p. p ++ rest) (take-append-drop n piece))
    ∙ sym (append_assoc text _ _)

-- A file.

-- a file that was begun holds the empty text
pub begun : (name : List ℕ) (x y : Files) → y ≡ insert x name [] → HoldsText name [] x y
begun name x y step = step

-- a file whose begin failed holds part of whatever was to be written
pub begun_part : (name text : List ℕ) (x y : Files) → (y ≡ x) ⊎ (y ≡ insert x name []) → HoldsPart name text x y
begun_part name text x y (inl same) = inl same
begun_part name text x y (inr empty) = inr (0, empty)

-- a file that holds a text holds a longer one after an add
pub added : (name text piece : List ℕ) (x y z : Files) → HoldsText name text x y → z ≡ insert y name (content_of y name ++ piece) → HoldsText name (text ++ piece) x z
added name text piece x y z holds step =
    step ∙ ap (λ files. insert files name (content_of files name ++ piece)) holds
    ∙ ap (λ bytes. insert (insert x name text) name (bytes ++ piece)) (content_inserted x name text)
    ∙ insert_again x name text (text ++ piece)

-- and after an add that failed it holds part of the whole text, whatever was to follow
pub added_part : (name text piece rest : List ℕ) (x y z : Files) → HoldsText name text x y → (z ≡ y) ⊎ GrowsByPrefix y name piece z → HoldsPart name ((text ++ piece) ++ rest) x z
added_part name text piece rest x y z holds (inl same) =
    inr (length text, same ∙ holds ∙ ap (insert x name) (front text (piece ++ rest) ((text ++ piece) ++ rest) (sym (append_assoc text _ _))))
added_part name text piece rest x y z holds (inr grown) =
    let kept : List ℕ = take grown.0 piece in
    inr (
      length (text ++ kept),
      added name text kept x y z holds grown.1
          ∙ ap (insert x name) (front (text ++ kept) (drop grown.0 piece ++ rest) ((text ++ piece) ++ rest) (added_front text piece rest grown.0)),
    )

-- The same steps on a shelf, as its calls promise them.

pub shelf_begun : (name : List ℕ) (a b : ShelfState) → Changes a b (λ was now. now ≡ insert was name []) → Changes a b (HoldsText name [])
shelf_begun name a b step = step

pub shelf_begun_part : (name text : List ℕ) (a b : ShelfState) → Changes a b (λ was now. (now ≡ was) ⊎ (now ≡ insert was name [])) → Changes a b (HoldsPart name text)
shelf_begun_part name text a b step =
    told_weaker (λ was now. (now ≡ was) ⊎ (now ≡ insert was name [])) (HoldsPart name text) a.files b.files (begun_part name text) step

pub shelf_added : (name text piece : List ℕ) (a b c : ShelfState) → Changes a b (HoldsText name text)
    → Changes b c (λ was now. now ≡ insert was name (content_of was name ++ piece)) → Changes a c (HoldsText name (text ++ piece))
shelf_added name text piece a b c holds step =
    told_then (HoldsText name text) (λ was now. now ≡ insert was name (content_of was name ++ piece)) (HoldsText name (text ++ piece)) a.files b.files c.files (added name text piece) holds step

pub shelf_added_part : (name text piece rest : List ℕ) (a b c : ShelfState) → Changes a b (HoldsText name text)
    → Changes b c (λ was now. (now ≡ was) ⊎ GrowsByPrefix was name piece now) → Changes a c (HoldsPart name ((text ++ piece) ++ rest))
shelf_added_part name text piece rest a b c holds step =
    told_then (HoldsText name text) (λ was now. (now ≡ was) ⊎ GrowsByPrefix was name piece now) (HoldsPart name ((text ++ piece) ++ rest)) a.files b.files c.files (added_part name text piece rest) holds step

-- A sink, which is given a line in several pieces.

-- nothing was given yet
pub told_nothing : (a : SinkState) → Told a.bytes a.bytes (λ was now. now ≡ was ++ [])
told_nothing a = told_weaker (λ was now. now ≡ was) (λ was now. now ≡ was ++ []) a.bytes a.bytes (λ was now same. same ∙ sym (append-nil was)) (told_same a.bytes)

-- one more piece was given
pub told_more : (text piece : List ℕ) (a b c : SinkState) → Told a.bytes b.bytes (λ was now. now ≡ was ++ text)
    → Told b.bytes c.bytes (λ was now. now ≡ was ++ piece) → Told a.bytes c.bytes (λ was now. now ≡ was ++ (text ++ piece))
told_more text piece a b c so_far step =
    told_then (λ was now. now ≡ was ++ text) (λ was now. now ≡ was ++ piece) (λ was now. now ≡ was ++ (text ++ piece)) a.bytes b.bytes c.bytes
    (λ x y z first second. second ∙ ap (λ bytes. bytes ++ piece) first ∙ append_assoc x _ _) so_far step

-- one more piece was taken in part: a prefix of the whole line is there, whatever was to follow
pub told_part : (text piece rest : List ℕ) (a b c : SinkState) → Told a.bytes b.bytes (λ was now. now ≡ was ++ text)
    → Told b.bytes c.bytes (λ was now. IsPrefixAdded was piece now) → Told a.bytes c.bytes (λ was now. IsPrefixAdded was ((text ++ piece) ++ rest) now)
told_part text piece rest a b c so_far step =
    told_then (λ was now. now ≡ was ++ text) (λ was now. IsPrefixAdded was piece now) (λ was now. IsPrefixAdded was ((text ++ piece) ++ rest) now) a.bytes b.bytes c.bytes
    joined so_far step
  where
    joined : (x y z : List ℕ) → y ≡ x ++ text → IsPrefixAdded y piece z → IsPrefixAdded x ((text ++ piece) ++ rest) z
    joined x y z first second =
        let kept : List ℕ = take second.0 piece in (
          length (text ++ kept),
          second.1 ∙ ap (λ bytes. bytes ++ kept) first ∙ append_assoc x _ _
              ∙ ap (λ bytes. x ++ bytes) (front (text ++ kept) (drop second.0 piece ++ rest) ((text ++ piece) ++ rest) (added_front text piece rest second.0)),
        )

-- the whole line was given
pub says_whole : (line : List ℕ) (a b : SinkState) → Told a.bytes b.bytes (λ was now. now ≡ was ++ line) → Says a b line
says_whole line a b told = inl told

-- the telling stopped at a piece
pub says_stopped : (text piece rest : List ℕ) (a b c : SinkState) → Told a.bytes b.bytes (λ was now. now ≡ was ++ text) → a.faults ≤ b.faults
    → Told b.bytes c.bytes (λ was now. IsPrefixAdded was piece now) → Rose b.faults c.faults → Says a c ((text ++ piece) ++ rest)
says_stopped text piece rest a b c so_far counted step rose =
    inr (rose_later a.faults b.faults c.faults counted rose, told_part text piece rest a b c so_far step)
