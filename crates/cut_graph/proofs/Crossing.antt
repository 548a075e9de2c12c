-- What the pipes of one pair can carry, and the cost of the pair after a choice. (Kwatra et al. 2003: the least cut of
-- a pair with an old seam is the cost of what is taken.)
use Rattle.std.proofs.Common.{◌≡◌, ℕ, ◌+◌, ◌≤◌, refl, ap, sym, ◌∙◌, arith, Bool, true, false}
use Rattle.std.proofs.lemmas.Int.{ints}
use Rattle.std.specs.Prelude.{ℤ, ◌+ℤ◌, ◌-ℤ◌, Option, Some, None, IsSome, if◌then◌else◌, not, ◌&&◌}
use mathlib.Core.Bool.{false≢true}
use Rattle.cells.specs.declared.place.At.{At}
use Rattle.cells.specs.declared.place.Axis.{Axis}
use Rattle.cells.specs.Places.{minus, plus}
use Rattle.cells.specs.Neighbours.{unit_step}
use Rattle.cells.specs.Distances.{IsPseudometric}
use Rattle.max_flow.specs.Flows.{capacity_out, crossing}
use Rattle.costs.specs.Costs.{seam, seam_of}
use Rattle.cut_graph.specs.Pipes.{pair_pipes, pipe}

back_again : (p e : At) → minus (plus p e) e ≡ p
back_again p e = λ k. record { x = one p.x e.x k; y = one p.y e.y k; f = one p.f e.f k }
  where
    one : (a b : ℤ) → (a +ℤ b) -ℤ b ≡ a
    one a b = omega (arith, ints)

-- the source of a cell where it stays old or not
abbrev pub source_if : Bool → Option At → At → Option At
source_if old a new = if not old then Some new else a

-- what a pipe of two capacities can carry between two sides
abbrev pub through : Bool → Bool → ℕ → ℕ → ℕ
through true true ahead back = 0
through true false ahead back = ahead
through false true ahead back = back
through false false ahead back = 0

-- what the pipes of a pair can carry, by the sides of its two cells and of its seam node
abbrev pub carried : (At → At → ℕ) → Axis → Option At → Option At → At → At → Bool → Bool → Bool → ℕ
carried d axis (Some a) (Some b) new_a new_b s t middle =
    through s middle (seam d axis a new_b) (seam d axis a new_b) + through middle t (seam d axis new_a b) (seam d axis new_a b) + through middle false (seam d axis a b) 0
carried d axis (Some a) None new_a new_b s t middle = through s false (seam d axis a new_b) 0
carried d axis None (Some b) new_a new_b s t middle = through t false (seam d axis new_a b) 0
carried d axis None None new_a new_b s t middle = 0

crosses : (s t : Bool) (i j ahead back : ℕ) → crossing s t (pipe i j ahead back) ≡ through s t ahead back
crosses true true i j ahead back = refl
crosses true false i j ahead back = refl
crosses false true i j ahead back = refl
crosses false false i j ahead back = refl

crosses_out : (s t : Bool) (i j ahead back : ℕ) → t ≡ false → crossing s t (pipe i j ahead back) ≡ through s false ahead back
crosses_out s t i j ahead back out = crosses s t i j ahead back ∙ ap (λ b. through s b ahead back) out

pub capacity_is : (d : At → At → ℕ) (axis : Axis) (a b : Option At) (new_a new_b : At) (i j k : ℕ) (side : ℕ → Bool) → side 1 ≡ false
    → capacity_out side (pair_pipes d axis a b new_a new_b i j k) ≡ carried d axis a b new_a new_b (side i) (side j) (side k)
capacity_is d axis (Some a) (Some b) new_a new_b i j k side sink =
    three _ _ _ _ _ _ (crosses (side i) (side k) i k _ _) (crosses (side k) (side j) k j _ _) (crosses_out (side k) (side 1) k 1 _ _ sink)
  where
    three : (a b c p q r : ℕ) → a ≡ p → b ≡ q → c ≡ r → a + (b + (c + 0)) ≡ p + q + r
    three a b c p q r e f g = omega arith
capacity_is d axis (Some a) None new_a new_b i j k side sink = omega (arith, crosses_out (side i) (side 1) i 1 (seam d axis a new_b) 0 sink)
capacity_is d axis None (Some b) new_a new_b i j k side sink = omega (arith, crosses_out (side j) (side 1) j 1 (seam d axis new_a b) 0 sink)
capacity_is d axis None None new_a new_b i j k side sink = refl

module _ (d : At → At → ℕ) (is : IsPseudometric d) (axis : Axis) (a b new_a new_b : At) (next : new_b ≡ plus new_a (unit_step axis)) where
  seam_first : seam d axis a new_b ≡ d a new_a + d (plus a (unit_step axis)) new_b
  seam_first = ap (λ p. d a p + d (plus a (unit_step axis)) new_b) (ap (λ p. minus p (unit_step axis)) next ∙ back_again new_a (unit_step axis))

  seam_second : seam d axis new_a b ≡ d new_a (minus b (unit_step axis)) + d new_b b
  seam_second = ap (λ p. d new_a (minus b (unit_step axis)) + d p b) (sym next)

  -- each of the three seams is at most the other two together, and there is none where both are new
  both_new : seam d axis new_a new_b ≡ 0
  both_new = omega (arith, low, high)
    where
      low : d new_a (minus new_b (unit_step axis)) ≡ 0
      low = ap (d new_a) (ap (λ p. minus p (unit_step axis)) next ∙ back_again new_a (unit_step axis)) ∙ is.same new_a

      high : d (plus new_a (unit_step axis)) new_b ≡ 0
      high = ap (d (plus new_a (unit_step axis))) next ∙ is.same (plus new_a (unit_step axis))

  both_old : seam d axis a b ≤ seam d axis a new_b + seam d axis new_a b
  both_old = omega (arith, seam_first, seam_second, is.triangle a new_a (minus b (unit_step axis)), is.triangle (plus a (unit_step axis)) new_b b)

  first_old : seam d axis a new_b ≤ seam d axis new_a b + seam d axis a b
  first_old =
      omega (arith, seam_first, seam_second, is.triangle a (minus b (unit_step axis)) new_a, is.triangle (plus a (unit_step axis)) b new_b, is.symmetric (minus b (unit_step axis)) new_a, is.symmetric b new_b)

  second_old : seam d axis new_a b ≤ seam d axis a new_b + seam d axis a b
  second_old =
      omega (arith, seam_first, seam_second, is.triangle new_a a (minus b (unit_step axis)), is.triangle new_b (plus a (unit_step axis)) b, is.symmetric a new_a, is.symmetric (plus a (unit_step axis)) new_b)

module _ (d : At → At → ℕ) (is : IsPseudometric d) (axis : Axis) where
  -- the cost of a pair after a choice is at most what its pipes can carry, on whichever side the seam node is
  pub cost_at_most : (a b : Option At) (new_a new_b : At) (s t middle : Bool) → new_b ≡ plus new_a (unit_step axis) → (a ≡ None → s ≡ false) → (b ≡ None → t ≡ false)
      → seam_of d axis (source_if s a new_a) (source_if t b new_b) ≤ carried d axis a b new_a new_b s t middle
  cost_at_most (Some a) (Some b) new_a new_b true true true next none_a none_b = omega arith
  cost_at_most (Some a) (Some b) new_a new_b true true false next none_a none_b = omega (arith, both_old d is axis a b new_a new_b next)
  cost_at_most (Some a) (Some b) new_a new_b true false true next none_a none_b = omega (arith, first_old d is axis a b new_a new_b next)
  cost_at_most (Some a) (Some b) new_a new_b true false false next none_a none_b = omega arith
  cost_at_most (Some a) (Some b) new_a new_b false true true next none_a none_b = omega (arith, second_old d is axis a b new_a new_b next)
  cost_at_most (Some a) (Some b) new_a new_b false true false next none_a none_b = omega arith
  cost_at_most (Some a) (Some b) new_a new_b false false middle next none_a none_b = omega (arith, both_new d is axis a b new_a new_b next)
  cost_at_most (Some a) None new_a new_b true false middle next none_a none_b = omega arith
  cost_at_most (Some a) None new_a new_b false false middle next none_a none_b = omega (arith, both_new d is axis a a new_a new_b next)
  cost_at_most (Some a) None new_a new_b s true middle next none_a none_b = absurd (false≢true (sym (none_b refl)))
  cost_at_most None (Some b) new_a new_b false true middle next none_a none_b = omega arith
  cost_at_most None (Some b) new_a new_b false false middle next none_a none_b = omega (arith, both_new d is axis b b new_a new_b next)
  cost_at_most None (Some b) new_a new_b true t middle next none_a none_b = absurd (false≢true (sym (none_a refl)))
  cost_at_most None None new_a new_b false false middle next none_a none_b = omega (arith, both_new d is axis new_a new_a new_a new_b next)
  cost_at_most None None new_a new_b true t middle next none_a none_b = absurd (false≢true (sym (none_a refl)))
  cost_at_most None None new_a new_b false true middle next none_a none_b = absurd (false≢true (sym (none_b refl)))

  -- and exactly that where the seam node is on the source's side just where both cells are
  pub cost_exact : (a b : Option At) (new_a new_b : At) (s t middle : Bool) → new_b ≡ plus new_a (unit_step axis) → (a ≡ None → s ≡ false) → (b ≡ None → t ≡ false)
      → (IsSome a → IsSome b → middle ≡ s && t) → seam_of d axis (source_if s a new_a) (source_if t b new_b) ≡ carried d axis a b new_a new_b s t middle
  cost_exact (Some a) (Some b) new_a new_b s t middle next none_a none_b best = by s t ∙ ap (carried d axis (Some a) (Some b) new_a new_b s t) (sym (best refl refl))
    where
      by : (s t : Bool) → seam_of d axis (source_if s (Some a) new_a) (source_if t (Some b) new_b) ≡ carried d axis (Some a) (Some b) new_a new_b s t (s && t)
      by true true = omega arith
      by true false = omega arith
      by false true = omega arith
      by false false = omega (arith, both_new d is axis a b new_a new_b next)
  cost_exact (Some a) None new_a new_b true false middle next none_a none_b best = refl
  cost_exact (Some a) None new_a new_b false false middle next none_a none_b best = both_new d is axis a a new_a new_b next
  cost_exact (Some a) None new_a new_b s true middle next none_a none_b best = absurd (false≢true (sym (none_b refl)))
  cost_exact None (Some b) new_a new_b false true middle next none_a none_b best = refl
  cost_exact None (Some b) new_a new_b false false middle next none_a none_b best = both_new d is axis b b new_a new_b next
  cost_exact None (Some b) new_a new_b true t middle next none_a none_b best = absurd (false≢true (sym (none_a refl)))
  cost_exact None None new_a new_b false false middle next none_a none_b best = both_new d is axis new_a new_a new_a new_b next
  cost_exact None None new_a new_b true t middle next none_a none_b best = absurd (false≢true (sym (none_a refl)))
  cost_exact None None new_a new_b false true middle next none_a none_b best = absurd (false≢true (sym (none_b refl)))
