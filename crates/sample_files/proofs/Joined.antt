-- The parts of a volume: they determine it, and its cells are theirs.
use Rattle.std.proofs.Common.{◌≡◌, ℕ, ◌+◌, ◌++◌, List, [], ◌∷◌, take, drop, refl, sym, ap, ◌∙◌, arith}
use Rattle.std.specs.Prelude.{map}
use Rattle.std.proofs.lemmas.List.{append-nil, take-append-drop}
use Rattle.cells.specs.declared.place.Size.{Size}
use Rattle.cells.specs.Places.{cell_count}
use Rattle.cells.specs.Parts.{count_from}
use Rattle.cells.specs.Cells.{Cells, IsOnePart, count_of}
use Rattle.cells.specs.PartLists.{parts_from, parts_of}

-- how many cells parts have together
abbrev pub parts_count : List Cells → ℕ
parts_count [] = 0
parts_count (p ∷ parts) = cell_count p.size + parts_count parts

pub parts_count-append : (xs ys : List Cells) → parts_count (xs ++ ys) ≡ parts_count xs + parts_count ys
parts_count-append [] ys = omega arith
parts_count-append (x ∷ xs) ys = omega (arith, parts_count-append xs ys)

count_from_parts : (k : ℕ) (size : Size) (more : List Size) (cells : List (List ℕ)) → count_from size more ≡ parts_count (parts_from k size more cells)
count_from_parts k size [] cells = omega arith
count_from_parts k size (next ∷ more) cells = ap (λ n. cell_count size + n) (count_from_parts k next more (drop (cell_count size) cells))

pub count_of_parts : (v : Cells) → count_of v ≡ parts_count (parts_of v)
count_of_parts v = count_from_parts v.k v.size v.more v.cells

-- a volume of one part is that part
pub parts_alone : (v : Cells) → IsOnePart v → parts_of v ≡ v ∷ []
parts_alone v one = let same : v ≡ record v { more = [] } = ap (λ more. record v { more = more }) one in
    ap (λ more. parts_from v.k v.size more v.cells) one ∙ ap (λ w. w ∷ []) (sym same)

-- Parts that are the same are those of one volume.

first_k : List Cells → ℕ
first_k [] = 0
first_k (p ∷ parts) = p.k

cells_in : List Cells → List (List ℕ)
cells_in [] = []
cells_in (p ∷ parts) = p.cells ++ cells_in parts

k_of_parts : (k : ℕ) (size : Size) (more : List Size) (cells : List (List ℕ)) → first_k (parts_from k size more cells) ≡ k
unfolding first_k
k_of_parts k size [] cells = refl
k_of_parts k size (next ∷ more) cells = refl

cells_of_parts : (k : ℕ) (size : Size) (more : List Size) (cells : List (List ℕ)) → cells_in (parts_from k size more cells) ≡ cells
unfolding cells_in
cells_of_parts k size [] cells = append-nil cells
cells_of_parts k size (next ∷ more) cells =
    ap (λ rest. take (cell_count size) cells ++ rest) (cells_of_parts k next more (drop (cell_count size) cells)) ∙ take-append-drop (cell_count size) cells

pub sizes_of_parts : (k : ℕ) (size : Size) (more : List Size) (cells : List (List ℕ)) → map (λ (p : Cells). p.size) (parts_from k size more cells) ≡ size ∷ more
sizes_of_parts k size [] cells = refl
sizes_of_parts k size (next ∷ more) cells = ap (λ sizes. size ∷ sizes) (sizes_of_parts k next more (drop (cell_count size) cells))

same_fields : (v w : Cells) → v.size ≡ w.size → v.more ≡ w.more → v.k ≡ w.k → v.cells ≡ w.cells → v ≡ w
same_fields v w size more k cells =
    ap (λ s. record v { size = s }) size
    ∙ ap (λ m. record v { size = w.size; more = m }) more
    ∙ ap (λ n. record v { size = w.size; more = w.more; k = n }) k
    ∙ ap (λ c. record w { cells = c }) cells

pub same_parts : (v w : Cells) → parts_of v ≡ parts_of w → v ≡ w
same_parts v w same =
    let sizes : v.size ∷ v.more ≡ w.size ∷ w.more = sym (sizes_of_parts v.k v.size v.more v.cells) ∙ ap (map (λ (p : Cells). p.size)) same ∙ sizes_of_parts w.k w.size w.more w.cells in
    same_fields v w (cc) (cc)
    (sym (k_of_parts v.k v.size v.more v.cells) ∙ ap first_k same ∙ k_of_parts w.k w.size w.more w.cells)
    (sym (cells_of_parts v.k v.size v.more v.cells) ∙ ap cells_in same ∙ cells_of_parts w.k w.size w.more w.cells)

-- the first part has the size of the volume
pub first_part_size : (v p : Cells) (parts : List Cells) → p ∷ parts ≡ parts_of v → p.size ≡ v.size
first_part_size v p parts is =
    let sizes : p.size ∷ map (λ (q : Cells). q.size) parts ≡ v.size ∷ v.more = ap (map (λ (q : Cells). q.size)) is ∙ sizes_of_parts v.k v.size v.more v.cells in
    cc

-- and as many samples a cell
pub first_part_k : (v p : Cells) (parts : List Cells) → p ∷ parts ≡ parts_of v → p.k ≡ v.k
unfolding first_k
first_part_k v p parts is = ap first_k is ∙ k_of_parts v.k v.size v.more v.cells
