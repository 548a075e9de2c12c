-- Which cell of the part a cell of the box meets at an offset.
use Rattle.std.proofs.Common.{◌≡◌, ℕ, ◌+◌, ◌-◌, ◌*◌, ◌/◌, ◌%◌, ◌<◌, ◌≤◌, Bool, true, false, refl, sym, ap, ◌∙◌, arith, inl, inr}
use Rattle.std.proofs.Math.Nat.{mul-le-mul_left}
use Rattle.std.specs.Prelude.{cond, ◌&&◌}
use Rattle.std.proofs.lemmas.Bool.{and_from, and_parts, cases_lt}
use Rattle.std.proofs.lemmas.Bool.Decides.{nat_tests}
use Rattle.cells.specs.declared.place.Size.{Size}
use Rattle.cells.specs.Places.{cell_count, raster_index}
use Rattle.boxes.specs.Pairs.{AreCounts, at_index}
use Rattle.boxes.proofs.Indices.{SameCounts, at_counts, index_below}
use Rattle.cyclic_products.specs.Products.{index_after}
use Rattle.offset_errors.specs.Padded.{HoldsBoth, IsApart, is_along, is_moved, moved}

-- the index of sums on all axes is the sum of the indices
pub index_plus : (size : Size) (x y f a b c : ℕ) → raster_index size (x + a) (y + b) (f + c) ≡ raster_index size x y f + raster_index size a b c
index_plus size x y f a b c =
    let rows : (y + b) + size.h * (f + c) ≡ (y + size.h * f) + (b + size.h * c) = omega arith in
    let all : size.w * ((y + b) + size.h * (f + c)) ≡ size.w * (y + size.h * f) + size.w * (b + size.h * c) = ap (λ r. size.w * r) rows ∙ omega arith in
    omega (arith, all)

-- an index is that of its three counts
pub index_is : (size : Size) (i : ℕ) → 1 ≤ size.w → 1 ≤ size.h → raster_index size (i % size.w) (i / size.w % size.h) (i / size.w / size.h) ≡ i
index_is size i w h =
    let inner : i / size.w % size.h + size.h * (i / size.w / size.h) ≡ i / size.w = omega (arith, h) in
    let outer : i % size.w + size.w * (i / size.w) ≡ i = omega (arith, w) in
    ap (λ r. i % size.w + size.w * r) inner ∙ outer

-- along one axis of w cells, a cell and what comes w cells after it or later
later_row : (w a b r t : ℕ) → a + w * r ≡ b + w * (r + 1 + t) → w + b ≤ a
later_row w a b r t e =
    let rows : w * (r + 1 + t) ≡ w * r + w + w * t = omega arith in
    omega (arith, rows, e)

-- two cells in rows of w, less than a row apart along them, with one index
pub record SameRow (a b r s : ℕ) : Type 0 where
  pub along : a ≡ b
  pub row : r ≡ s

same_row : (w a b r s : ℕ) → a < w + b → b < w + a → a + w * r ≡ b + w * s → SameRow a b r s
same_row w a b r s near far e = elim (cases_lt r s) [
  | inl less ↦
      let next : s ≡ r + 1 + (s - (r + 1)) = omega (arith, less) in
      absurd (omega (arith, near, later_row w a b r (s - (r + 1)) (e ∙ ap (λ n. b + w * n) next)))
  | inr other ↦ elim (cases_lt s r) [
    | inl less ↦
        let next : r ≡ s + 1 + (r - (s + 1)) = omega (arith, less) in
        absurd (omega (arith, far, later_row w b a s (r - (s + 1)) (sym e ∙ ap (λ n. a + w * n) next)))
    | inr last ↦
        let rows : r ≡ s = omega (arith, other, last) in
        let same : w * r ≡ w * s = ap (λ n. w * n) rows in
        record { along = omega (arith, e, same); row = rows }
  ]
]

-- a cell that comes less than w * m after another, in rows of w
less_apart : (w m a b r s : ℕ) → a < w + b → r < m + s → a + w * r < w * m + (b + w * s)
less_apart w m a b r s near rows =
    let most : w * (r + 1) ≤ w * (m + s) = mul-le-mul_left w (omega (arith, rows)) in
    omega (arith, near, most)

-- an index that comes to another, less than n after it, has not gone round
no_round : (n d i j : ℕ) → j < n → i + d < n + j → index_after n d i ≡ j → i + d ≡ j
no_round n d i j below near e = grind (arith, nat_tests, e, below, near)

-- what an offset leads to: a cell that is less than the padded size away, on each axis
pub record IsNearOf (pad : Size) (x y f jx jy jf : ℕ) : Type 0 where
  pub on_x : x < pad.w + jx
  pub on_y : y < pad.h + jy
  pub on_f : f < pad.f + jf

pub met : (n : ℕ) (pad : Size) (x y f dx dy df jx jy jf : ℕ) → cell_count pad ≤ n → AreCounts pad jx jy jf → IsNearOf pad (x + dx) (y + dy) (f + df) jx jy jf
    → index_after n (raster_index pad dx dy df) (raster_index pad x y f) ≡ raster_index pad jx jy jf → SameCounts jx jy jf (x + dx) (y + dy) (f + df)
met n pad x y f dx dy df jx jy jf enough j near e =
    let sum = index_plus pad x y f dx dy df in
    let rows : (y + dy) + pad.h * (f + df) < pad.h * pad.f + (jy + pad.h * jf) = less_apart pad.h pad.f (y + dy) jy (f + df) jf near.on_y near.on_f in
    let all : raster_index pad (x + dx) (y + dy) (f + df) < cell_count pad + raster_index pad jx jy jf =
    less_apart pad.w (pad.h * pad.f) (x + dx) jx ((y + dy) + pad.h * (f + df)) (jy + pad.h * jf) near.on_x rows in
    let here : raster_index pad x y f + raster_index pad dx dy df ≡ raster_index pad jx jy jf =
    no_round n (raster_index pad dx dy df) (raster_index pad x y f) (raster_index pad jx jy jf) (omega (arith, enough, index_below pad jx jy jf j)) (omega (arith, all, sum, enough)) e in
    let on_x = same_row pad.w (x + dx) jx ((y + dy) + pad.h * (f + df)) (jy + pad.h * jf) near.on_x (omega (arith, j.column)) (sum ∙ here) in
    let on_y = same_row pad.h (y + dy) jy (f + df) jf near.on_y (omega (arith, j.row)) on_x.row in
    record { x_same = sym on_x.along; y_same = sym on_y.along; f_same = sym on_y.row }

-- a count is of a cell of the part, along one axis
pub record IsAlong (lead s x : ℕ) : Type 0 where
  pub from : lead ≤ x + 1
  pub to : x + 1 < lead + s

pub record IsMoved (lead part : Size) (x y f : ℕ) : Type 0 where
  pub along_x : IsAlong lead.w part.w x
  pub along_y : IsAlong lead.h part.h y
  pub along_f : IsAlong lead.f part.f f

along_is : (lead s x : ℕ) → is_along lead s x ≡ true → IsAlong lead s x
along_is lead s x t = record { from = grind (arith, nat_tests, t); to = grind (arith, nat_tests, t) }

is_of_along : (lead s x : ℕ) → IsAlong lead s x → is_along lead s x ≡ true
is_of_along lead s x is = grind (arith, nat_tests, is.from, is.to)

pub moved_is : (lead part : Size) (x y f : ℕ) → is_moved lead part x y f ≡ true → IsMoved lead part x y f
moved_is lead part x y f t =
    let all = and_parts (is_along lead.w part.w x) (is_along lead.h part.h y && is_along lead.f part.f f) t in
    let rest = and_parts (is_along lead.h part.h y) (is_along lead.f part.f f) all.1 in
    record {
      along_x = along_is lead.w part.w x all.0;
      along_y = along_is lead.h part.h y rest.0;
      along_f = along_is lead.f part.f f rest.1;
    }

pub is_of_moved : (lead part : Size) (x y f : ℕ) → IsMoved lead part x y f → is_moved lead part x y f ≡ true
is_of_moved lead part x y f is =
    and_from _ _ (is_of_along lead.w part.w x is.along_x) (and_from _ _ (is_of_along lead.h part.h y is.along_y) (is_of_along lead.f part.f f is.along_f))

module _ (n : ℕ) (pad box lead part : Size) (g : ℕ → ℕ → ℕ → ℕ) (both : HoldsBoth pad box lead part) (enough : cell_count pad ≤ n) where
  -- where a part's cell comes to an index, the counts of that index are those of the offset and the cell of the box
  counts_meet : (x y f dx dy df : ℕ) → AreCounts box x y f → AreCounts pad dx dy df → IsApart pad box lead dx dy df → let m = index_after n (raster_index pad dx dy df) (raster_index pad x y f) in
      IsMoved lead part (m % pad.w) (m / pad.w % pad.h) (m / pad.w / pad.h) → SameCounts (m % pad.w) (m / pad.w % pad.h) (m / pad.w / pad.h) (x + dx) (y + dy) (f + df)
  counts_meet x y f dx dy df cell d apart is =
      let m = index_after n (raster_index pad dx dy df) (raster_index pad x y f) in
      met n pad x y f dx dy df (m % pad.w) (m / pad.w % pad.h) (m / pad.w / pad.h) enough
      (record {
        column = omega (arith, is.along_x.to, both.on_x.part);
        row = omega (arith, is.along_y.to, both.on_y.part);
        frame = omega (arith, is.along_f.to, both.on_f.part);
      })
      (record {
        on_x = omega (arith, is.along_x.from, cell.column, apart.on_x);
        on_y = omega (arith, is.along_y.from, cell.row, apart.on_y);
        on_f = omega (arith, is.along_f.from, cell.frame, apart.on_f);
      })
      (sym (index_is pad m (omega (arith, d.column)) (omega (arith, d.row))))

  -- where the offset and the cell of the box are that of a cell of the part, its index comes there
  index_meets : (x y f dx dy df : ℕ) → IsMoved lead part (x + dx) (y + dy) (f + df)
      → index_after n (raster_index pad dx dy df) (raster_index pad x y f) ≡ raster_index pad (x + dx) (y + dy) (f + df)
  index_meets x y f dx dy df is =
      let sum : raster_index pad (x + dx) (y + dy) (f + df) ≡ raster_index pad x y f + raster_index pad dx dy df = index_plus pad x y f dx dy df in
      let below : raster_index pad (x + dx) (y + dy) (f + df) < cell_count pad = index_below pad (x + dx) (y + dy) (f + df) (record {
        column = omega (arith, is.along_x.to, both.on_x.part);
        row = omega (arith, is.along_y.to, both.on_y.part);
        frame = omega (arith, is.along_f.to, both.on_f.part);
      }) in
      grind (arith, nat_tests, sum, below, enough)

  -- what the part's list has at the index of a cell of the box and an offset
  pub seen : (x y f dx dy df : ℕ) → AreCounts box x y f → AreCounts pad dx dy df → IsApart pad box lead dx dy df
      → at_index pad (moved lead part g) (index_after n (raster_index pad dx dy df) (raster_index pad x y f)) ≡ moved lead part g (x + dx) (y + dy) (f + df)
  seen x y f dx dy df cell d apart = tested (is_moved lead part (x + dx) (y + dy) (f + df)) refl
    where
      m : ℕ
      m = index_after n (raster_index pad dx dy df) (raster_index pad x y f)

      -- one that isn't met
      none : (s : Bool) → is_moved lead part (m % pad.w) (m / pad.w % pad.h) (m / pad.w / pad.h) ≡ s → is_moved lead part (x + dx) (y + dy) (f + df) ≡ false
          → is_moved lead part (m % pad.w) (m / pad.w % pad.h) (m / pad.w / pad.h) ≡ false
      none false e out = e
      none true e out =
          let same = counts_meet x y f dx dy df cell d apart (moved_is lead part _ _ _ e) in
          (λ k. is_moved lead part (same.x_same k) (same.y_same k) (same.f_same k)) ∙ out

      tested : (t : Bool) → is_moved lead part (x + dx) (y + dy) (f + df) ≡ t → at_index pad (moved lead part g) m ≡ moved lead part g (x + dx) (y + dy) (f + df)
      tested true e =
          let is = moved_is lead part (x + dx) (y + dy) (f + df) e in
          ap (at_index pad (moved lead part g)) (index_meets x y f dx dy df is)
          ∙ at_counts pad (moved lead part g) (x + dx) (y + dy) (f + df) (omega (arith, is.along_x.to, both.on_x.part)) (omega (arith, is.along_y.to, both.on_y.part))
      tested false e =
          let left : at_index pad (moved lead part g) m ≡ 0 =
          ap (λ t. cond t (g (m % pad.w + 1 - lead.w) (m / pad.w % pad.h + 1 - lead.h) (m / pad.w / pad.h + 1 - lead.f)) 0)
          (none (is_moved lead part (m % pad.w) (m / pad.w % pad.h) (m / pad.w / pad.h)) refl e)
          in
          left ∙ sym (ap (λ t. cond t (g (x + dx + 1 - lead.w) (y + dy + 1 - lead.h) (f + df + 1 - lead.f)) 0) e)
