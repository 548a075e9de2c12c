-- The sum of a list at an offset is the sum over the cells that the box and the part share.
use Rattle.std.proofs.Common.{◌≡◌, ℕ, ◌+◌, ◌-◌, ◌*◌, ◌/◌, ◌%◌, ◌<◌, ◌≤◌, ◌⊎◌, Bool, true, false, length, get_or, refl, sym, ap, ◌∙◌, arith, ⊎_elim}
use Rattle.std.specs.Prelude.{cond, nat_lt, ◌&&◌}
use Rattle.std.proofs.lemmas.Bool.{and_from, and_parts}
use Rattle.std.proofs.lemmas.Bool.Decides.{nat_tests}
use Rattle.std.proofs.lemmas.List.FromFn.{get_or-map-range_with_len, length-map-range_with_len}
use Rattle.cells.specs.declared.place.Size.{Size}
use Rattle.cells.specs.Places.{cell_count, raster_index}
use Rattle.boxes.specs.Pairs.{AreCounts, at_index}
use Rattle.boxes.specs.Sums.{sum_box, sum_to}
use Rattle.boxes.proofs.Additions.{counts}
use Rattle.boxes.proofs.Axes.{sum_equal, sum_part}
use Rattle.boxes.proofs.Boxes.{box_equal, box_part, box_raster}
use Rattle.boxes.proofs.Indices.{at_counts, index_below}
use Rattle.cyclic_products.specs.Products.{index_after, offset_at}
use Rattle.offset_errors.specs.Padded.{HoldsBoth, IsApart, IsShared, in_box, is_below, is_moved, moved, numbers}
use Rattle.offset_errors.proofs.Meetings.{IsAlong, IsMoved, index_is, is_of_moved, moved_is, seen}

pub number_at : (n : ℕ) (pad : Size) (g : ℕ → ℕ → ℕ → ℕ) (i : ℕ) → i < n → get_or (numbers n pad g) i 0 ≡ at_index pad g i
number_at n pad g i less = get_or-map-range_with_len (at_index pad g) 0 n i i 0 less (omega arith)

pub number_count : (n : ℕ) (pad : Size) (g : ℕ → ℕ → ℕ → ℕ) → length (numbers n pad g) ≡ n
number_count n pad g = length-map-range_with_len (at_index pad g) 0 n

after_below : (n d i : ℕ) → d < n → i < n → index_after n d i < n
after_below n d i below less = grind (arith, nat_tests, below, less)

-- the sum at an offset, index by index
offset_by_index : (n : ℕ) (pad : Size) (u v : ℕ → ℕ → ℕ → ℕ) (d : ℕ) → d < n
    → offset_at (numbers n pad u) (numbers n pad v) d ≡ sum_to n (λ i. at_index pad u i * at_index pad v (index_after n d i))
offset_by_index n pad u v d below =
    ap (λ m. sum_to m (λ i. get_or (numbers n pad u) i 0 * get_or (numbers n pad v) (index_after (length (numbers n pad v)) d i) 0)) (number_count n pad u)
    ∙ ap (λ m. sum_to n (λ i. get_or (numbers n pad u) i 0 * get_or (numbers n pad v) (index_after m d i) 0)) (number_count n pad v)
    ∙ sum_equal counts n (λ i. get_or (numbers n pad u) i 0 * get_or (numbers n pad v) (index_after n d i) 0) (λ i. at_index pad u i * at_index pad v (index_after n d i))
    (λ i less. λ k. number_at n pad u i less k * number_at n pad v (index_after n d i) (after_below n d i below less) k)

-- three counts are those of a cell of the box, or they aren't
pub below_is : (size : Size) (x y f : ℕ) → is_below size x y f ≡ true → AreCounts size x y f
below_is size x y f t =
    let all = and_parts (nat_lt x size.w) (nat_lt y size.h && nat_lt f size.f) t in
    let rest = and_parts (nat_lt y size.h) (nat_lt f size.f) all.1 in
    record { column = grind (arith, nat_tests, all.0); row = grind (arith, nat_tests, rest.0); frame = grind (arith, nat_tests, rest.1) }

pub is_of_below : (size : Size) (x y f : ℕ) → AreCounts size x y f → is_below size x y f ≡ true
is_of_below size x y f are =
    let column : nat_lt x size.w ≡ true = grind (arith, nat_tests, are.column) in
    let row : nat_lt y size.h ≡ true = grind (arith, nat_tests, are.row) in
    let frame : nat_lt f size.f ≡ true = grind (arith, nat_tests, are.frame) in
    and_from _ _ column (and_from _ _ row frame)

-- past the cells of the padded size the box has none
past_end : (pad : Size) (i : ℕ) → 1 ≤ pad.w → 1 ≤ pad.h → cell_count pad ≤ i → AreCounts pad (i % pad.w) (i / pad.w % pad.h) (i / pad.w / pad.h) → ⊥
past_end pad i w h past are = absurd (omega (arith, past, index_below pad (i % pad.w) (i / pad.w % pad.h) (i / pad.w / pad.h) are, index_is pad i w h))

-- along one axis, a cell of the box that meets one of the part is one of those that they share
along_shared : (b lead s d a l t x : ℕ) → IsShared b lead s d a l t → x < b → IsAlong lead s (x + d) → (x < a) ⊎ (a + l ≤ x) → ⊥
along_shared b lead s d a l t x is below along out =
    ⊎_elim
    (λ before. ⊎_elim (λ e. absurd (omega (arith, e, before))) (λ e. absurd (omega (arith, e, before, is.offset, along.from))) is.first)
    (λ past. ⊎_elim (λ e. absurd (omega (arith, e, past, below))) (λ e. absurd (omega (arith, e, past, is.offset, along.to))) is.last)
    out

-- each that they share meets one
shared_along : (b lead s d a l t x : ℕ) → IsShared b lead s d a l t → x < l → IsAlong lead s (a + x + d)
shared_along b lead s d a l t x is less = record {
  from = omega (arith, is.offset);
  to = omega (arith, is.offset, is.part, less);
}

shared_cell : (b lead s d a l t x : ℕ) → IsShared b lead s d a l t → x < l → a + x + d + 1 - lead ≡ t + x
shared_cell b lead s d a l t x is less = omega (arith, is.offset)

none_times : (p q : ℕ) → p ≡ 0 → p * q ≡ 0
none_times p q e = ap (λ r. r * q) e ∙ omega arith

-- a product of two numbers that aren't both there
none_of_both : (s t : Bool) (p q : ℕ) → (s ≡ true → t ≡ true → ⊥) → cond s p 0 * cond t q 0 ≡ 0
none_of_both true true p q not = absurd (not refl refl)
none_of_both true false p q not = omega arith
none_of_both false t p q not = omega arith

module _ (n : ℕ) (pad box lead part : Size) (o s : ℕ → ℕ → ℕ → ℕ) (both : HoldsBoth pad box lead part) (enough : cell_count pad ≤ n) where
  in_pad : (x y f : ℕ) → AreCounts box x y f → AreCounts pad x y f
  in_pad x y f are = record {
    column = omega (arith, are.column, both.on_x.box);
    row = omega (arith, are.row, both.on_y.box);
    frame = omega (arith, are.frame, both.on_f.box);
  }

  none_past : (i : ℕ) → 1 ≤ pad.w → 1 ≤ pad.h → cell_count pad ≤ i → at_index pad (in_box box o) i ≡ 0
  none_past i w h past = tested (is_below box (i % pad.w) (i / pad.w % pad.h) (i / pad.w / pad.h)) refl
    where
      tested : (t : Bool) → is_below box (i % pad.w) (i / pad.w % pad.h) (i / pad.w / pad.h) ≡ t → at_index pad (in_box box o) i ≡ 0
      tested true e = absurd (past_end pad i w h past (in_pad (i % pad.w) (i / pad.w % pad.h) (i / pad.w / pad.h) (below_is box (i % pad.w) (i / pad.w % pad.h) (i / pad.w / pad.h) e)))
      tested false e = ap (λ t. cond t (o (i % pad.w) (i / pad.w % pad.h) (i / pad.w / pad.h)) 0) e

  -- what a cell of the padded size adds to the sum at an offset
  abbrev met_term : (dx dy df x y f : ℕ) → ℕ
  met_term dx dy df x y f = in_box box o x y f * moved lead part s (x + dx) (y + dy) (f + df)

  abbrev listed_term : (dx dy df i : ℕ) → ℕ
  listed_term dx dy df i = at_index pad (in_box box o) i * at_index pad (moved lead part s) (index_after n (raster_index pad dx dy df) i)

  terms_same : (dx dy df x y f : ℕ) → AreCounts pad dx dy df → IsApart pad box lead dx dy df → x < pad.w → y < pad.h → listed_term dx dy df (raster_index pad x y f) ≡ met_term dx dy df x y f
  terms_same dx dy df x y f d apart lx ly = tested (is_below box x y f) refl
    where
      m : ℕ
      m = index_after n (raster_index pad dx dy df) (raster_index pad x y f)

      own : at_index pad (in_box box o) (raster_index pad x y f) ≡ in_box box o x y f
      own = at_counts pad (in_box box o) x y f lx ly

      tested : (t : Bool) → is_below box x y f ≡ t → listed_term dx dy df (raster_index pad x y f) ≡ met_term dx dy df x y f
      tested true e =
          ap (λ p. p * at_index pad (moved lead part s) m) own
          ∙ ap (λ q. in_box box o x y f * q) (seen n pad box lead part s both enough x y f dx dy df (below_is box x y f e) d apart)
      tested false e =
          let none : in_box box o x y f ≡ 0 = ap (λ t. cond t (o x y f) 0) e in
          none_times (at_index pad (in_box box o) (raster_index pad x y f)) (at_index pad (moved lead part s) m) (own ∙ none)
          ∙ sym (none_times (in_box box o x y f) (moved lead part s (x + dx) (y + dy) (f + df)) none)

  sum_padded : (dx dy df : ℕ) → AreCounts pad dx dy df → IsApart pad box lead dx dy df
      → offset_at (numbers n pad (in_box box o)) (numbers n pad (moved lead part s)) (raster_index pad dx dy df) ≡ sum_box pad (met_term dx dy df)
  sum_padded dx dy df d apart =
      offset_by_index n pad (in_box box o) (moved lead part s) (raster_index pad dx dy df) (omega (arith, enough, index_below pad dx dy df d))
      ∙ sum_part counts 0 (cell_count pad) n (listed_term dx dy df) (omega (arith, enough)) (λ i less. absurd (omega (arith, less)))
      (λ i past less. none_times (at_index pad (in_box box o) i) (at_index pad (moved lead part s) (index_after n (raster_index pad dx dy df) i))
      (none_past i (omega (arith, d.column)) (omega (arith, d.row)) (omega (arith, past))))
      ∙ sum_equal counts (cell_count pad) (λ i. listed_term dx dy df (0 + i)) (listed_term dx dy df) (λ i less. ap (listed_term dx dy df) (omega arith))
      ∙ box_raster counts pad (listed_term dx dy df)
      ∙ box_equal counts pad (λ x y f. listed_term dx dy df (raster_index pad x y f)) (met_term dx dy df) (λ x y f lx ly lf. terms_same dx dy df x y f d apart lx ly)

  -- the sum at an offset is that over the cells that the box and the part share
  pub sum_at_offset : (dx dy df a b c t u v : ℕ) (inner : Size) → AreCounts pad dx dy df → IsApart pad box lead dx dy df
      → IsShared box.w lead.w part.w dx a inner.w t → IsShared box.h lead.h part.h dy b inner.h u → IsShared box.f lead.f part.f df c inner.f v
      → offset_at (numbers n pad (in_box box o)) (numbers n pad (moved lead part s)) (raster_index pad dx dy df)
      ≡ sum_box inner (λ x y f. o (a + x) (b + y) (c + f) * s (t + x) (u + y) (v + f))
  sum_at_offset dx dy df a b c t u v inner d apart on_x on_y on_f =
      sum_padded dx dy df d apart
      ∙ box_part counts pad inner a b c (met_term dx dy df) (omega (arith, on_x.box, both.on_x.box)) (omega (arith, on_y.box, both.on_y.box)) (omega (arith, on_f.box, both.on_f.box))
      (λ x y f out. none x y f (λ cell is. along_shared box.w lead.w part.w dx a inner.w t x on_x cell.column is.along_x out))
      (λ x y f out. none x y f (λ cell is. along_shared box.h lead.h part.h dy b inner.h u y on_y cell.row is.along_y out))
      (λ x y f out. none x y f (λ cell is. along_shared box.f lead.f part.f df c inner.f v f on_f cell.frame is.along_f out))
      ∙ box_equal counts inner (λ x y f. met_term dx dy df (a + x) (b + y) (c + f)) (λ x y f. o (a + x) (b + y) (c + f) * s (t + x) (u + y) (v + f)) each
    where
      none : (x y f : ℕ) → (AreCounts box x y f → IsMoved lead part (x + dx) (y + dy) (f + df) → ⊥) → met_term dx dy df x y f ≡ 0
      none x y f not =
          none_of_both (is_below box x y f) (is_moved lead part (x + dx) (y + dy) (f + df)) (o x y f) (s (x + dx + 1 - lead.w) (y + dy + 1 - lead.h) (f + df + 1 - lead.f))
          (λ p q. not (below_is box x y f p) (moved_is lead part (x + dx) (y + dy) (f + df) q))

      each : (x y f : ℕ) → x < inner.w → y < inner.h → f < inner.f → met_term dx dy df (a + x) (b + y) (c + f) ≡ o (a + x) (b + y) (c + f) * s (t + x) (u + y) (v + f)
      each x y f lx ly lf =
          let cell = is_of_below box (a + x) (b + y) (c + f) (record { column = omega (arith, on_x.box, lx); row = omega (arith, on_y.box, ly); frame = omega (arith, on_f.box, lf) }) in
          let is = is_of_moved lead part (a + x + dx) (b + y + dy) (c + f + df) (record {
            along_x = shared_along box.w lead.w part.w dx a inner.w t x on_x lx;
            along_y = shared_along box.h lead.h part.h dy b inner.h u y on_y ly;
            along_f = shared_along box.f lead.f part.f df c inner.f v f on_f lf;
          }) in
          let place : s (a + x + dx + 1 - lead.w) (b + y + dy + 1 - lead.h) (c + f + df + 1 - lead.f) ≡ s (t + x) (u + y) (v + f) =
          λ k. s (shared_cell box.w lead.w part.w dx a inner.w t x on_x lx k) (shared_cell box.h lead.h part.h dy b inner.h u y on_y ly k) (shared_cell box.f lead.f part.f df c inner.f v f on_f lf k)
          in
          (λ k. cond (cell k) (o (a + x) (b + y) (c + f)) 0 * cond (is k) (s (a + x + dx + 1 - lead.w) (b + y + dy + 1 - lead.h) (c + f + df + 1 - lead.f)) 0)
          ∙ ap (λ q. o (a + x) (b + y) (c + f) * q) place
