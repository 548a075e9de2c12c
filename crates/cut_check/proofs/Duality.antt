-- Weak duality: the value of a flow within its bounds that is balanced is at most the window sum of the box after any
-- admissible choice that leaves the held cells. (That a flow is at most any cut is Ford and
-- Fulkerson 1956.)
use Rattle.std.proofs.Common.{◌≡◌, ℕ, ◌+◌, refl, ap, sym, ◌∙◌, subst, arith, inl, inr, Bool, true, false, List}
use Rattle.std.proofs.lemmas.Int.{ints}
use Rattle.std.proofs.Math.IntN.{ℤ_discrete}
use mathlib.Core.Bool.{false≢true}
use Rattle.std.specs.Prelude.{ℤ, pos, ◌+ℤ◌, ◌-ℤ◌, ◌≤ℤ◌, Option, Some, None, IsSome, is_some, not, ◌&&◌, if◌then◌else◌}
use Rattle.cells.specs.declared.place.At.{At}
use Rattle.cells.specs.declared.place.Size.{Size}
use Rattle.cells.specs.declared.place.Axis.{Axis}
use Rattle.cells.specs.declared.place.Axis.TheVariants.{X, Y, F}
use Rattle.cells.specs.Places.{cell_count, plus}
use Rattle.cells.specs.Neighbours.{unit_step}
use Rattle.cells.specs.Boxes.{IsInBox, cell_in}
use Rattle.cells.specs.Distances.{distance}
use Rattle.cells.specs.Firsts.{Each}
use Rattle.map_canvas.specs.Maps.{IsFilled, map_at}
use Rattle.map_canvas.specs.Choices.{after_at, new_source}
use Rattle.boxes.specs.Sums.{signed_sum_box}
use Rattle.boxes.proofs.Additions.{integers}
use Rattle.boxes.proofs.Boxes.{box_equal}
use Rattle.boxes.proofs.Bounds.{signed_box_at_most, signed_box_pos}
use Rattle.costs.specs.Costs.{map_within, pair_at, pairs_at, seam_of}
use Rattle.costs.specs.Lawful.{AreHeld, IsFree, IsLawful, LeavesHeld, StaysOld, is_new, window_after}
use Rattle.boxes.specs.Pairs.{AreCounts, has_next, pair_count}
use Rattle.cut_check.specs.declared.record.Flow.{Flow}
use Rattle.cut_check.specs.declared.record.CutRecord.{CutRecord}
use Rattle.cut_check.specs.Flows.{IsBounded, IsBoundedAt, pair_flow, leaving}
use Rattle.cut_check.specs.Records.{IsBalanced, IsBoundedPair, IsPartWhere, IsValue, Setting}
use Rattle.boxes.proofs.Cells.{cell_inside, next_inside}
use Rattle.boxes.proofs.Indices.{each_cell}
use Rattle.boxes.proofs.PairNumbers.{number_below}
use Rattle.cut_check.proofs.Leaving.{given, given_is_left, no_pair, part_if, part_none}

-- whether a cell with this source before stays old
abbrev pub is_old : Option At → Bool → Bool
is_old a new = is_some a && not new

-- what the flow of a pair gives is at most the cost of the pair after a choice
pair_bound : (d : At → At → ℕ) (axis : Axis) (a b : Option At) (new_a new_b : At) (flow : Flow) (s t : Bool) → IsBounded d axis a b new_a new_b flow
    → (a ≡ None → s ≡ true) → (b ≡ None → t ≡ true)
    → (part_if (is_old a s) flow.x -ℤ part_if (is_old b t) flow.y) ≤ℤ pos (seam_of d axis (if s then Some new_a else a) (if t then Some new_b else b))
pair_bound d axis (Some a) (Some b) new_a new_b flow true true is na nb = omega (arith, ints)
pair_bound d axis (Some a) (Some b) new_a new_b flow true false is na nb = omega (arith, ints, is.y.0)
pair_bound d axis (Some a) (Some b) new_a new_b flow false true is na nb = omega (arith, ints, is.x.1)
pair_bound d axis (Some a) (Some b) new_a new_b flow false false is na nb = omega (arith, ints, is.seam.1)
pair_bound d axis (Some a) None new_a new_b flow true true is na nb = omega (arith, ints)
pair_bound d axis (Some a) None new_a new_b flow false true is na nb = omega (arith, ints, is.x.1)
pair_bound d axis (Some a) None new_a new_b flow s false is na nb = absurd (false≢true (nb refl))
pair_bound d axis None (Some b) new_a new_b flow true true is na nb = omega (arith, ints)
pair_bound d axis None (Some b) new_a new_b flow true false is na nb = omega (arith, ints, is.y.0)
pair_bound d axis None (Some b) new_a new_b flow false t is na nb = absurd (false≢true (na refl))
pair_bound d axis None None new_a new_b flow true true is na nb = omega (arith, ints)
pair_bound d axis None None new_a new_b flow true false is na nb = absurd (false≢true (nb refl))
pair_bound d axis None None new_a new_b flow false t is na nb = absurd (false≢true (na refl))

-- numbers that aren't apart are equal
not_apart : (a b : ℤ) → ((a ≡ b → ⊥) → ⊥) → a ≡ b
not_apart a b same = by (ℤ_discrete a b)
  where
    by : Dec (a ≡ b) → a ≡ b
    by (yes is) = is
    by (no apart) = absurd (same apart)

-- where a free cell leaves nothing, the part of the cells that have to stay old is that of the cells that stay old
old_part : (Stays : Type 0) (z part : ℤ) (a : Option At) (new : Bool) → IsPartWhere Stays z part → (Stays → IsSome a) → (Stays → new ≡ false) → (IsSome a → (Stays → ⊥) → z ≡ pos 0)
    → part ≡ part_if (is_old a new) z
old_part Stays z part None new is some old free = is.elsewhere (λ stays. false≢true (some stays))
old_part Stays z part (Some a) true is some old free = is.elsewhere (λ stays. false≢true (sym (old stays)))
old_part Stays z part (Some a) false is some old free =
    not_apart part z (λ apart. let none : Stays → ⊥ = λ stays. apart (is.here stays) in apart (is.elsewhere none ∙ sym (free refl none)))

module _ (s : Setting) (cut : CutRecord) (marks : AreHeld s.map cut.placement s.held)
    (bounded : Each (pair_count cut.placement.rect.size) (IsBoundedPair s cut)) (balanced : Each (cell_count cut.placement.rect.size) (IsBalanced s cut))
    (value : ℤ) (is : IsValue s cut value)
    (other : List Bool) (lawful : IsLawful s.map cut.placement other) (leaves : LeavesHeld cut.placement s.held other) where
  abbrev size : Size
  size = cut.placement.rect.size

  abbrev cell : ℕ → ℕ → ℕ → At
  cell x y f = cell_in cut.placement.rect x y f

  abbrev following : Axis → ℕ → ℕ → ℕ → At
  following axis x y f = plus (cell x y f) (unit_step axis)

  -- whether a cell stays old under the other choice
  abbrev stays : At → Bool
  stays p = is_old (map_at s.map p) (is_new cut.placement other p)

  -- what the map after the other choice has in the box
  abbrev within : At → Option At
  within = map_within cut.placement.rect (after_at s.map cut.placement other)

  within_is : (p : At) → IsInBox cut.placement.rect p → within p ≡ after_at s.map cut.placement other p
  within_is p in_box = ap (λ b. if b then after_at s.map cut.placement other p else None) in_box

  -- a pair gives at most its cost after the other choice
  pair_gives : (axis : Axis) (x y f : ℕ) → AreCounts size x y f → has_next size axis x y f ≡ true → given stays cut.placement.rect cut.flows axis x y f ≤ℤ pos (pair_at (distance s.sample) within axis (cell x y f))
  pair_gives axis x y f are more =
      let here = cell_inside cut.placement.rect x y f are in
      let there = next_inside cut.placement.rect axis x y f (record { counts = are; next = more }) in
      let bounds : IsBoundedAt (distance s.sample) s.map cut.placement cut.flows axis x y f = bounded _ (number_below size axis x y f (record { counts = are; next = more })) axis x y f are more refl in
      subst (λ n. given stays cut.placement.rect cut.flows axis x y f ≤ℤ pos n)
      (sym (λ k. seam_of (distance s.sample) axis (within_is (cell x y f) here k) (within_is (following axis x y f) there k)))
      (pair_bound (distance s.sample) axis (map_at s.map (cell x y f)) (map_at s.map (following axis x y f)) (new_source cut.placement (cell x y f)) (new_source cut.placement (following axis x y f))
      (pair_flow size cut.flows axis x y f) (is_new cut.placement other (cell x y f)) (is_new cut.placement other (following axis x y f)) bounds (lawful.unfilled (cell x y f) here) (lawful.unfilled (following axis x y f) there))

  -- and where there is none, nothing
  none_gives : (axis : Axis) (x y f n : ℕ) → has_next size axis x y f ≡ false → given stays cut.placement.rect cut.flows axis x y f ≤ℤ pos n
  none_gives axis x y f n e =
      nothing _ _ (part (stays (cell x y f)) _ (ap (λ flow. flow.x) (no_pair size cut.flows axis x y f e)))
      (part (stays (following axis x y f)) _ (ap (λ flow. flow.y) (no_pair size cut.flows axis x y f e)))
    where
      part : (b : Bool) (z : ℤ) → z ≡ pos 0 → part_if b z ≡ pos 0
      part b z none = ap (part_if b) none ∙ part_none b

      nothing : (a b : ℤ) → a ≡ pos 0 → b ≡ pos 0 → (a -ℤ b) ≤ℤ pos n
      nothing a b ea eb = omega (arith, ints)

  gives : (axis : Axis) (x y f : ℕ) → AreCounts size x y f → given stays cut.placement.rect cut.flows axis x y f ≤ℤ pos (pair_at (distance s.sample) within axis (cell x y f))
  gives axis x y f are = by (has_next size axis x y f) refl
    where
      by : (b : Bool) → has_next size axis x y f ≡ b → given stays cut.placement.rect cut.flows axis x y f ≤ℤ pos (pair_at (distance s.sample) within axis (cell x y f))
      by true e = pair_gives axis x y f are e
      by false e = none_gives axis x y f _ e

  three_give : (x y f : ℕ) → AreCounts size x y f
      → ((given stays cut.placement.rect cut.flows X x y f +ℤ given stays cut.placement.rect cut.flows Y x y f) +ℤ given stays cut.placement.rect cut.flows F x y f)
      ≤ℤ pos (pairs_at (distance s.sample) within (cell x y f))
  three_give x y f are = three _ _ _ _ _ _ (gives X x y f are) (gives Y x y f are) (gives F x y f are)
    where
      three : (a b c : ℤ) (i j k : ℕ) → a ≤ℤ pos i → b ≤ℤ pos j → c ≤ℤ pos k → ((a +ℤ b) +ℤ c) ≤ℤ pos (i + j + k)
      three a b c i j k p q r = omega (arith, ints)

  -- what the cells that have to stay old leave is what those that stay old leave
  free_leaves_none : (x y f : ℕ) → AreCounts size x y f → IsFree s.map cut.placement s.held (cell x y f) → leaving size cut.flows x y f ≡ pos 0
  free_leaves_none = each_cell size (λ x y f. IsFree s.map cut.placement s.held (cell x y f) → leaving size cut.flows x y f ≡ pos 0) balanced

  part_is : (x y f : ℕ) → AreCounts size x y f → is.part x y f ≡ part_if (stays (cell x y f)) (leaving size cut.flows x y f)
  part_is x y f are =
      old_part (StaysOld s.map cut.placement s.held (cell x y f)) _ _ (map_at s.map (cell x y f)) (is_new cut.placement other (cell x y f)) (is.parts x y f are)
      filled old
      (λ filled' free. free_leaves_none x y f are (record { inside = cell_inside cut.placement.rect x y f are; filled = filled'; free = free }))
    where
      filled : StaysOld s.map cut.placement s.held (cell x y f) → IsFilled s.map (cell x y f)
      filled (inl kept) = kept.filled
      filled (inr held) = marks (cell x y f) held

      old : StaysOld s.map cut.placement s.held (cell x y f) → is_new cut.placement other (cell x y f) ≡ false
      old (inl kept) = lawful.kept (cell x y f) kept
      old (inr held) = leaves (cell x y f) held

  pub weak_duality : value ≤ℤ pos (window_after (distance s.sample) s.map cut.placement other)
  weak_duality = last _ _ _ _ _ _ is.sum left (given_is_left stays cut.placement.rect cut.flows) most (signed_box_pos size _)
    where
      left : signed_sum_box size is.part ≡ signed_sum_box size (λ x y f. part_if (stays (cell x y f)) (leaving size cut.flows x y f))
      left = box_equal integers size _ _ (λ x y f lx ly lf. part_is x y f (record { column = lx; row = ly; frame = lf }))

      most : signed_sum_box size (λ x y f. (given stays cut.placement.rect cut.flows X x y f +ℤ given stays cut.placement.rect cut.flows Y x y f) +ℤ given stays cut.placement.rect cut.flows F x y f)
          ≤ℤ signed_sum_box size (λ x y f. pos (pairs_at (distance s.sample) within (cell x y f)))
      most = signed_box_at_most size _ _ (λ x y f lx ly lf. three_give x y f (record { column = lx; row = ly; frame = lf }))

      last : (v a b c e w : ℤ) → a ≡ v → a ≡ b → c ≡ b → c ≤ℤ e → e ≡ w → v ≤ℤ w
      last v a b c e w ev eb ec le ew = omega (arith, ints)
