-- What holds of each byte of samples holds of each byte of their turns.
use Rattle.std.proofs.Common.{ℕ, zero, suc, ◌++◌, List, [], ◌∷◌, take, drop}
use Rattle.std.specs.Prelude.{All, Option, Some, None, map, slice_get, unwrap_or, option_and_then}
use Rattle.std.specs.List.{AllByRecursion, concat, flat_map}
use Rattle.std.proofs.lemmas.List.Elements.{All-append, All-cons, All-head, All-nil, All-tail}
use Rattle.cells.specs.declared.place.At.{At}
use Rattle.cells.specs.declared.place.Size.{Size}
use Rattle.cells.specs.Places.{cell_count, places}
use Rattle.cells.specs.Cells.{Cells, bytes_of, index_of}
use Rattle.cells.specs.PartLists.{parts_from, parts_of}
use Rattle.turned.specs.Turns.{turn_from, turn_size}
use Rattle.turned.specs.TurnedParts.{all_turns, cells_of_parts, turned, turned_cell, turned_of, turned_parts, turns_of}

module _ (P : ℕ → Type 0) where
  abbrev Bytes : List (List ℕ) → Type 0
  Bytes cells = AllByRecursion (All P) cells

  abbrev Parts : List Cells → Type 0
  Parts parts = AllByRecursion (λ (part : Cells). Bytes part.cells) parts

  joined : (cells : List (List ℕ)) → Bytes cells → All P (concat cells)
  joined [] all = All-nil P
  joined (c ∷ cells) all = All-append P c (concat cells) all.0 (joined cells all.1)

  front : (xs ys : List ℕ) → All P (xs ++ ys) → All P xs
  front [] ys all = All-nil P
  front (x ∷ xs) ys all = All-cons P x xs (All-head P x (xs ++ ys) all) (front xs ys (All-tail P x (xs ++ ys) all))

  back : (xs ys : List ℕ) → All P (xs ++ ys) → All P ys
  back [] ys all = all
  back (x ∷ xs) ys all = back xs ys (All-tail P x (xs ++ ys) all)

  each : (cells : List (List ℕ)) → All P (concat cells) → Bytes cells
  each [] all = tt
  each (c ∷ cells) all = (front c (concat cells) all, each cells (back c (concat cells) all))

  cell_bytes : (cells : List (List ℕ)) (i : Option ℕ) → Bytes cells → All P (unwrap_or (option_and_then (slice_get cells) i) [])
  cell_bytes cells None all = All-nil P
  cell_bytes [] (Some i) all = All-nil P
  cell_bytes (c ∷ cells) (Some zero) all = all.0
  cell_bytes (c ∷ cells) (Some (suc i)) all = cell_bytes cells (Some i) all.1

  taken : (n : ℕ) (cells : List (List ℕ)) → Bytes cells → Bytes (take n cells)
  taken zero cells all = tt
  taken (suc n) [] all = tt
  taken (suc n) (c ∷ cells) all = (all.0, taken n cells all.1)

  dropped : (n : ℕ) (cells : List (List ℕ)) → Bytes cells → Bytes (drop n cells)
  dropped zero cells all = all
  dropped (suc n) [] all = tt
  dropped (suc n) (c ∷ cells) all = dropped n cells all.1

  both : {X : Type 0} (Q : X → Type 0) (xs ys : List X) → AllByRecursion Q xs → AllByRecursion Q ys → AllByRecursion Q (xs ++ ys)
  both Q [] ys a b = b
  both Q (x ∷ xs) ys a b = (a.0, both Q xs ys a.1 b)

  turned_bytes : (t : ℕ) (part : Cells) → Bytes part.cells → Bytes (turned t part).cells
  unfolding turned
  turned_bytes t part all = by (places (turn_size t part.size))
    where
      by : (ps : List At) → Bytes (map (turned_cell t part) ps)
      by [] = tt
      by (p ∷ ps) = (cell_bytes part.cells (index_of part (turn_from t part.size p)) all, by ps)

  own_parts : (k : ℕ) (size : Size) (more : List Size) (cells : List (List ℕ)) → Bytes cells → Parts (parts_from k size more cells)
  own_parts k size [] cells all = (all, tt)
  own_parts k size (next ∷ more) cells all = (taken (cell_count size) cells all, own_parts k next more (drop (cell_count size) cells) (dropped (cell_count size) cells all))

  some_turns : (part : Cells) (ts : List ℕ) → Bytes part.cells → Parts (map (λ t. turned t part) ts)
  some_turns part [] all = tt
  some_turns part (t ∷ ts) all = (turned_bytes t part all, some_turns part ts all)

  parts_turned : (parts : List Cells) → Parts parts → Parts (flat_map turns_of parts)
  parts_turned [] all = tt
  parts_turned (part ∷ parts) all = both (λ (each : Cells). Bytes each.cells) (turns_of part) (flat_map turns_of parts) (some_turns part all_turns all.0) (parts_turned parts all.1)

  cells_all : (parts : List Cells) → Parts parts → Bytes (cells_of_parts parts)
  cells_all [] all = tt
  cells_all (part ∷ parts) all = both (All P) part.cells (cells_of_parts parts) all.0 (cells_all parts all.1)

  pub turned_all : (v : Cells) → All P (bytes_of v) → All P (bytes_of (turned_of v))
  unfolding turned_of
  turned_all v all = joined (cells_of_parts (turned_parts v)) (cells_all (turned_parts v) (parts_turned (parts_of v) (own_parts v.k v.size v.more v.cells (each v.cells all))))
