-- Laws of sums over the cells of a box.
use Rattle.std.proofs.Common.{◌≡◌, ℕ, suc, ◌+◌, ◌*◌, ◌/◌, ◌%◌, ◌<◌, ◌≤◌, refl, ap, ◌∙◌, arith, ◌⊎◌, inl, inr}
use Rattle.std.proofs.Math.Nat.{mul_comm}
use Rattle.std.proofs.lemmas.Nat.{mod-mul-add, div-mul-add}
use Rattle.cells.specs.declared.place.Size.{Size}
use Rattle.cells.specs.Places.{cell_count}
use Rattle.boxes.proofs.Additions.{Addition, sum_of, sum_over}
use Rattle.boxes.proofs.Axes.{sum_related, sum_equal, sum_none, sum_plus, sum_split, sum_part, sum_single, sum_moved, sum_exchange, sum_rows}

-- the two parts of an index in rows of n
index_parts : (n x y : ℕ) → x < n → ((x + n * y) % n ≡ x) × ((x + n * y) / n ≡ y)
index_parts n x y lt = (ap (λ i. i % n) turned ∙ mod-mul-add y n x lt, ap (λ i. i / n) turned ∙ div-mul-add y n x lt)
  where
    turned : x + n * y ≡ y * n + x
    turned = omega (arith, mul_comm n y)

-- a term by the three counts of an index is that of the counts
pub at_counts : {A : Type 0} (size : Size) (g : ℕ → ℕ → ℕ → A) (x y f : ℕ) → x < size.w → y < size.h
    → let i = x + size.w * (y + size.h * f) in g (i % size.w) (i / size.w % size.h) (i / size.w / size.h) ≡ g x y f
at_counts size g x y f lx ly =
    let row = index_parts size.w x (y + size.h * f) lx in
    let frame = index_parts size.h y f ly in
    λ k. g (row.0 k) ((ap (λ j. j % size.h) row.1 ∙ frame.0) k) ((ap (λ j. j / size.h) row.1 ∙ frame.1) k)

-- a relation that two additions keep holds of two sums if it holds of their terms
pub box_related : {A B : Type 0} (add : Addition A) (add' : Addition B) (Related : A → B → Type 0)
    → Related add.none add'.none → ((a c : A) (b d : B) → Related a b → Related c d → Related (add.plus a c) (add'.plus b d))
    → (size : Size) (g : ℕ → ℕ → ℕ → A) (h : ℕ → ℕ → ℕ → B) → ((x y f : ℕ) → x < size.w → y < size.h → f < size.f → Related (g x y f) (h x y f))
    → Related (sum_over add size g) (sum_over add' size h)
box_related add add' Related none plus size g h terms =
    sum_related add add' Related none plus size.f _ _ (λ f lf. sum_related add add' Related none plus size.h _ _ (λ y ly. sum_related add add' Related none plus size.w _ _ (λ x lx. terms x y f lx ly lf)))

module _ {A : Type 0} (add : Addition A) where
  -- equal terms give equal sums
  pub box_equal : (size : Size) (g h : ℕ → ℕ → ℕ → A) → ((x y f : ℕ) → x < size.w → y < size.h → f < size.f → g x y f ≡ h x y f) → sum_over add size g ≡ sum_over add size h
  box_equal = box_related add add (λ a b. a ≡ b) refl (λ a c b d p q. λ k. add.plus (p k) (q k))

  -- a sum of nothing but none is none
  pub box_none : (size : Size) (g : ℕ → ℕ → ℕ → A) → ((x y f : ℕ) → x < size.w → y < size.h → f < size.f → g x y f ≡ add.none) → sum_over add size g ≡ add.none
  box_none size g none = sum_none add size.f _ (λ f lf. sum_none add size.h _ (λ y ly. sum_none add size.w _ (λ x lx. none x y f lx ly lf)))

  -- the sum of sums is the sum of both
  pub box_plus : (size : Size) (g h : ℕ → ℕ → ℕ → A) → sum_over add size (λ x y f. add.plus (g x y f) (h x y f)) ≡ add.plus (sum_over add size g) (sum_over add size h)
  box_plus size g h =
      sum_equal add size.f _ _ (λ f lf. sum_equal add size.h _ _ (λ y ly. sum_plus add size.w _ _) ∙ sum_plus add size.h _ _) ∙ sum_plus add size.f _ _

  -- a box cut in two on one axis
  pub box_split_x : (a b h f : ℕ) (g : ℕ → ℕ → ℕ → A)
      → sum_over add (record { w = a + b; h = h; f = f }) g
      ≡ add.plus (sum_over add (record { w = a; h = h; f = f }) g) (sum_over add (record { w = b; h = h; f = f }) (λ x y z. g (a + x) y z))
  box_split_x a b h f g =
      sum_equal add f _ _ (λ z lz. sum_equal add h _ _ (λ y ly. sum_split add a b _) ∙ sum_plus add h _ _) ∙ sum_plus add f _ _

  pub box_split_y : (w a b f : ℕ) (g : ℕ → ℕ → ℕ → A)
      → sum_over add (record { w = w; h = a + b; f = f }) g
      ≡ add.plus (sum_over add (record { w = w; h = a; f = f }) g) (sum_over add (record { w = w; h = b; f = f }) (λ x y z. g x (a + y) z))
  box_split_y w a b f g = sum_equal add f _ _ (λ z lz. sum_split add a b _) ∙ sum_plus add f _ _

  pub box_split_f : (w h a b : ℕ) (g : ℕ → ℕ → ℕ → A)
      → sum_over add (record { w = w; h = h; f = a + b }) g
      ≡ add.plus (sum_over add (record { w = w; h = h; f = a }) g) (sum_over add (record { w = w; h = h; f = b }) (λ x y z. g x y (a + z)))
  box_split_f w h a b g = sum_split add a b _

  -- two axes in either order
  pub box_exchange_xy : (size : Size) (g : ℕ → ℕ → ℕ → A) → sum_over add size g ≡ sum_over add (record { w = size.h; h = size.w; f = size.f }) (λ y x f. g x y f)
  box_exchange_xy size g = sum_equal add size.f _ _ (λ f lf. sum_exchange add size.h size.w _)

  pub box_exchange_yf : (size : Size) (g : ℕ → ℕ → ℕ → A) → sum_over add size g ≡ sum_over add (record { w = size.w; h = size.f; f = size.h }) (λ x f y. g x y f)
  box_exchange_yf size g = sum_exchange add size.f size.h _

  -- a part of a box, from its first cell on: where nothing is outside it, the sum is that of the
  -- part
  pub box_part : (size part : Size) (a b c : ℕ) (g : ℕ → ℕ → ℕ → A) → a + part.w ≤ size.w → b + part.h ≤ size.h → c + part.f ≤ size.f
      → ((x y f : ℕ) → (x < a) ⊎ (a + part.w ≤ x) → g x y f ≡ add.none)
      → ((x y f : ℕ) → (y < b) ⊎ (b + part.h ≤ y) → g x y f ≡ add.none)
      → ((x y f : ℕ) → (f < c) ⊎ (c + part.f ≤ f) → g x y f ≡ add.none)
      → sum_over add size g ≡ sum_over add part (λ x y f. g (a + x) (b + y) (c + f))
  box_part size part a b c g fits_x fits_y fits_f out_x out_y out_f =
      sum_part add c part.f size.f _ fits_f (λ f lt. frame f (inl lt)) (λ f le lf. frame f (inr le))
      ∙ sum_equal add part.f _ _ (λ f lf. sum_part add b part.h size.h _ fits_y (λ y lt. row y (c + f) (inl lt)) (λ y le ly. row y (c + f) (inr le))
      ∙ sum_equal add part.h _ _ (λ y ly. sum_part add a part.w size.w _ fits_x (λ x lt. out_x x (b + y) (c + f) (inl lt)) (λ x le lx. out_x x (b + y) (c + f) (inr le))))
    where
      row : (y f : ℕ) → (y < b) ⊎ (b + part.h ≤ y) → sum_of add size.w (λ x. g x y f) ≡ add.none
      row y f out = sum_none add size.w _ (λ x lx. out_y x y f out)

      frame : (f : ℕ) → (f < c) ⊎ (c + part.f ≤ f) → sum_of add size.h (λ y. sum_of add size.w (λ x. g x y f)) ≡ add.none
      frame f out = sum_none add size.h _ (λ y ly. sum_none add size.w _ (λ x lx. out_f x y f out))

  -- where only one term is there, the sum is that term
  pub box_single : (size : Size) (a b c : ℕ) (g : ℕ → ℕ → ℕ → A) → a < size.w → b < size.h → c < size.f
      → ((x y f : ℕ) → x < size.w → y < size.h → f < size.f → ((x ≡ a) × (y ≡ b) × (f ≡ c) → ⊥) → g x y f ≡ add.none)
      → sum_over add size g ≡ g a b c
  box_single size a b c g in_x in_y in_f none =
      sum_single add c size.f _ in_f (λ f lf other. sum_none add size.h _ (λ y ly. sum_none add size.w _ (λ x lx. none x y f lx ly lf (λ same. other same.2))))
      ∙ sum_single add b size.h _ in_y (λ y ly other. sum_none add size.w _ (λ x lx. none x y c lx ly in_f (λ same. other same.1)))
      ∙ sum_single add a size.w _ in_x (λ x lx other. none x b c lx in_y in_f (λ same. other same.0))

  -- what comes in at each cell from the one before it on an axis went out there: the sums are equal where
  -- nothing comes in at the first and nothing goes out at the last
  pub box_moved_x : (size : Size) (come gone : ℕ → ℕ → ℕ → A)
      → ((y f : ℕ) → y < size.h → f < size.f → come 0 y f ≡ add.none)
      → ((x y f : ℕ) → suc x < size.w → y < size.h → f < size.f → come (suc x) y f ≡ gone x y f)
      → ((x y f : ℕ) → suc x ≡ size.w → y < size.h → f < size.f → gone x y f ≡ add.none)
      → sum_over add size come ≡ sum_over add size gone
  box_moved_x size come gone first step last =
      sum_equal add size.f _ _ (λ f lf. sum_equal add size.h _ _ (λ y ly. sum_moved add size.w _ _ (first y f ly lf) (λ x lx. step x y f lx ly lf) (λ x e. last x y f e ly lf)))

  pub box_moved_y : (size : Size) (come gone : ℕ → ℕ → ℕ → A)
      → ((x f : ℕ) → x < size.w → f < size.f → come x 0 f ≡ add.none)
      → ((x y f : ℕ) → x < size.w → suc y < size.h → f < size.f → come x (suc y) f ≡ gone x y f)
      → ((x y f : ℕ) → x < size.w → suc y ≡ size.h → f < size.f → gone x y f ≡ add.none)
      → sum_over add size come ≡ sum_over add size gone
  box_moved_y size come gone first step last =
      sum_equal add size.f _ _ (λ f lf. sum_moved add size.h _ _ (sum_none add size.w _ (λ x lx. first x f lx lf))
      (λ y ly. sum_equal add size.w _ _ (λ x lx. step x y f lx ly lf)) (λ y e. sum_none add size.w _ (λ x lx. last x y f lx e lf)))

  pub box_moved_f : (size : Size) (come gone : ℕ → ℕ → ℕ → A)
      → ((x y : ℕ) → x < size.w → y < size.h → come x y 0 ≡ add.none)
      → ((x y f : ℕ) → x < size.w → y < size.h → suc f < size.f → come x y (suc f) ≡ gone x y f)
      → ((x y f : ℕ) → x < size.w → y < size.h → suc f ≡ size.f → gone x y f ≡ add.none)
      → sum_over add size come ≡ sum_over add size gone
  box_moved_f size come gone first step last =
      sum_moved add size.f _ _ (sum_none add size.h _ (λ y ly. sum_none add size.w _ (λ x lx. first x y lx ly)))
      (λ f lf. sum_equal add size.h _ _ (λ y ly. sum_equal add size.w _ _ (λ x lx. step x y f lx ly lf)))
      (λ f e. sum_none add size.h _ (λ y ly. sum_none add size.w _ (λ x lx. last x y f lx ly e)))

  -- the sum over the raster indices of a box is the sum over its cells
  pub box_raster : (size : Size) (g : ℕ → A) → sum_of add (cell_count size) g ≡ sum_over add size (λ x y f. g (x + size.w * (y + size.h * f)))
  box_raster size g = sum_rows add size.w (size.h * size.f) g ∙ sum_rows add size.h size.f (λ j. sum_of add size.w (λ x. g (x + size.w * j)))

  -- the same for terms by the three counts of an index
  pub box_counts : (size : Size) (g : ℕ → ℕ → ℕ → A)
      → sum_of add (cell_count size) (λ i. g (i % size.w) (i / size.w % size.h) (i / size.w / size.h)) ≡ sum_over add size g
  box_counts size g = box_raster size _ ∙ box_equal size _ g (λ x y f lx ly lf. at_counts size g x y f lx ly)
