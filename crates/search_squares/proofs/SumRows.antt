-- Entries put one after another, row by row.
use Rattle.std.proofs.Common.{◌≡◌, ℕ, zero, suc, ◌+◌, ◌-◌, ◌*◌, ◌/◌, ◌%◌, ◌<◌, ◌≤◌, List, [], ◌∷◌, ◌++◌, length, get_or, replicate, refl, ap, sym, subst, ◌∙◌, arith, ⊎_elim, length-append}
use Rattle.std.proofs.lemmas.Bool.{cases_eq, cases_lt}
use Rattle.std.proofs.lemmas.List.{get_or_append_left, get_or-append-add, get_or-append_right, length-replicate}
use Rattle.std.proofs.lemmas.Nat.{mod-mul-add, div-mul-add}
use Rattle.cells.specs.declared.place.Box3.{Box3}
use Rattle.cells.specs.declared.place.Size.{Size}
use Rattle.cells.specs.Cells.{Cells}
use Rattle.cells.specs.Places.{IsSmall}
use Rattle.cells.proofs.Raster.{below_of_div, in_rows}
use Rattle.search_squares.specs.declared.sums.TheConstants.{LANES}
use Rattle.search_squares.specs.Sums.{AreCellSums, ArePut, AreRows, IsCellSum}

module _ (Is : ℕ → ℕ → Type 0) where
  pub none_put : (was : List ℕ) → ArePut Is 0 was was
  none_put was = record {
    long = omega arith;
    kept = λ i lt k. get_or was i 0;
    put = λ x lt. absurd (omega arith);
  }

  pub one_put : (count : ℕ) (was now : List ℕ) (v : ℕ) → ArePut Is count was now → Is count v → ArePut Is (count + 1) was (now ++ v ∷ [])
  one_put count was now v put is = record {
    long = omega (arith, put.long, length-append now (v ∷ []));
    kept = λ i lt. get_or_append_left now (v ∷ []) 0 i (omega (arith, put.long)) ∙ put.kept i lt;
    put = λ x lt.
        ⊎_elim (λ same. subst (λ n. Is n (get_or (now ++ v ∷ []) (length was + n) 0)) (sym same) (subst (Is count) (sym last) is))
        (λ other. subst (Is x) (sym (get_or_append_left now (v ∷ []) 0 (length was + x) (omega (arith, put.long, other)))) (put.put x (omega (arith, other))))
        (cases_eq x count);
  }
    where
      here : length was + count ≡ length now + 0
      here = omega (arith, put.long)

      last : get_or (now ++ v ∷ []) (length was + count) 0 ≡ v
      last = ap (λ n. get_or (now ++ v ∷ []) n 0) here ∙ get_or-append-add now (v ∷ []) 0 0

-- the two parts of an index in rows of n
pub index_parts : (n x y : ℕ) → x < n → ((x + n * y) % n ≡ x) × ((x + n * y) / n ≡ y)
index_parts n x y lt = (ap (λ i. i % n) turned ∙ mod-mul-add y n x lt, ap (λ i. i / n) turned ∙ div-mul-add y n x lt)
  where
    turned : x + n * y ≡ y * n + x
    turned = omega arith

module _ (Is : ℕ → ℕ → ℕ → ℕ → Type 0) (size : Size) where
  pub no_rows : AreRows Is size 0 []
  no_rows = record { long = omega arith; each = λ x row lx lr. absurd (omega arith) }

  -- one row more
  pub row_more : (rows : ℕ) (was now : List ℕ) → AreRows Is size rows was → ArePut (Is (rows % size.h) (rows / size.h)) size.w was now → AreRows Is size (rows + 1) now
  row_more rows was now are put = record {
    long = omega (arith, are.long, put.long);
    each = λ x row lx lr.
        ⊎_elim
        (λ same.
        subst (λ r. Is (r % size.h) (r / size.h) x (get_or now (size.w * r + x) 0)) (sym same)
        (subst (λ n. Is (rows % size.h) (rows / size.h) x (get_or now (n + x) 0)) are.long (put.put x lx)))
        (λ other.
        let le : row < rows = omega (arith, other) in
        subst (Is (row % size.h) (row / size.h) x) (sym (put.kept (size.w * row + x) (omega (arith, are.long, in_rows size.w rows row x lx le)))) (are.each x row lx le))
        (cases_eq row rows);
  }

  -- the entry of a place, whatever comes after the rows
  pub entry : (entries more : List ℕ) → AreRows Is size (size.h * size.f) entries → (x y f : ℕ) → x < size.w → y < size.h → f < size.f → Is y f x (get_or (entries ++ more) (x + size.w * (y + size.h * f)) 0)
  entry entries more are x y f lx ly lf =
      let parts = index_parts size.h y f ly in
      let row : y + size.h * f < size.h * size.f = in_rows size.h size.f f y ly lf in
      let front : get_or (entries ++ more) (x + size.w * (y + size.h * f)) 0 ≡ get_or entries (size.w * (y + size.h * f) + x) 0 =
      get_or_append_left entries more 0 (x + size.w * (y + size.h * f)) (omega (arith, are.long, in_rows size.w (size.h * size.f) (y + size.h * f) x lx row)) ∙ ap (λ i. get_or entries i 0) turned in
      subst (Is y f x) (sym front)
      (subst (λ g. Is y g x (get_or entries (size.w * (y + size.h * f) + x) 0)) parts.1
      (subst (λ r. Is r ((y + size.h * f) / size.h) x (get_or entries (size.w * (y + size.h * f) + x) 0)) parts.0 (are.each x (y + size.h * f) lx row)))
    where
      turned : x + size.w * (y + size.h * f) ≡ size.w * (y + size.h * f) + x
      turned = omega arith

-- so many entries of 0, and what is read past them
zeros : (n i : ℕ) → get_or {A = ℕ} (replicate n 0) i 0 ≡ 0
zeros zero i = refl
zeros (suc n) zero = refl
zeros (suc n) (suc i) = zeros n i

module _ (sample : Cells) (rect : Box3) where
  -- the entries of all rows, and entries of 0 after them
  pub cell_entries : (entries : List ℕ) → IsSmall rect.size → AreRows (IsCellSum sample rect) rect.size (rect.size.h * rect.size.f) entries → AreCellSums sample rect (entries ++ replicate LANES 0)
  cell_entries entries small are =
      let size = rect.size in
      let more : List ℕ = replicate LANES 0 in
      record {
        long = omega (arith, length-append entries more, length-replicate {A = ℕ} LANES 0, are.long);
        each = λ x y f lx ly lf. (entry (IsCellSum sample rect) size entries more are x y f lx ly lf).is;
        small = λ i.
            ⊎_elim
            (λ lt.
            let row : i / size.w < size.h * size.f = below_of_div size.w (size.h * size.f) i small.axes.w.0 (omega (arith, lt, are.long)) in
            let column : i % size.w < size.w = omega (arith, small.axes.w) in
            let there : size.w * (i / size.w) + i % size.w ≡ i = omega arith in
            subst (λ v. v ≤ 255 * sample.k) (sym (get_or_append_left entries more 0 i lt ∙ ap (λ j. get_or entries j 0) (sym there))) (are.each (i % size.w) (i / size.w) column row).small)
            (λ le. subst (λ v. v ≤ 255 * sample.k) (sym (get_or-append_right entries more (length entries) i 0 refl le ∙ zeros LANES (i - length entries))) (omega arith))
            (cases_lt i (length entries));
      }
