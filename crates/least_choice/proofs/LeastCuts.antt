-- There is a least choice with the fewest old cells. The union of the new cells of two least choices is one, since the
-- costs of neighbours are submodular.
use Rattle.std.proofs.Common.{◌≡◌, ℕ, zero, suc, ◌+◌, ◌*◌, ◌<◌, ◌≤◌, Bool, true, false, List, [], ◌∷◌, length, refl, ap, sym, ◌∙◌, subst, arith, ◌⊎◌, inl, inr, ⊎_elim}
use Rattle.std.proofs.lemmas.Bool.{cases_lt}
use Rattle.std.proofs.lemmas.Int.{ints}
use Rattle.std.specs.Prelude.{ℤ, ◌+ℤ◌, ◌-ℤ◌, Option, Some, None, not, ◌&&◌, ◌||◌, if◌then◌else◌}
use Rattle.cells.specs.declared.place.At.{At}
use Rattle.cells.specs.declared.place.Axis.{Axis}
use Rattle.cells.specs.declared.place.Axis.TheVariants.{X, Y, F}
use Rattle.cells.specs.Boxes.{cell_in}
use Rattle.cells.specs.Distances.{IsPseudometric}
use Rattle.cells.specs.Neighbours.{unit_step}
use Rattle.cells.specs.Places.{cell_count, minus, plus, spot}
use Rattle.boxes.specs.Pairs.{one_if}
use Rattle.boxes.specs.Sums.{sum_box}
use Rattle.boxes.proofs.Additions.{counts}
use Rattle.boxes.proofs.Bounds.{box_at_most, box_bound, box_terms_equal}
use Rattle.boxes.proofs.Boxes.{box_plus}
use Rattle.boxes.proofs.Cells.{cell_of}
use Rattle.map_canvas.specs.declared.canvas.Placement.{Placement}
use Rattle.map_canvas.specs.Choices.{after_at, box_count, new_source}
use Rattle.map_canvas.specs.Maps.{SourceMap, map_at}
use Rattle.costs.specs.Costs.{pair_at, pairs_at, seam, seam_of}
use Rattle.costs.specs.Lawful.{IsLawful, IsLeastHeld, is_new, total_after}
use Rattle.least_choice.specs.Fewest.{AreSame, IsFewestHeld, old_count}
use Rattle.least_choice.proofs.Choices.{common, common_lawful, common_says, fixed, fixed_count, fixed_lawful, fixed_same, none_held, union, union_lawful, union_says}
use Rattle.least_choice.proofs.Digits.{lex}

-- of all lists of a length one has the least cost
pub record Best (n : ℕ) (cost : List Bool → ℕ) : Type 0 where
  pub choice : List Bool
  pub count : length choice ≡ n
  pub least : (other : List Bool) → length other ≡ n → cost choice ≤ cost other

-- that of one more entry, by the best with each first entry
module _ (n : ℕ) (cost : List Bool → ℕ) (new : Best n (λ rest. cost (true ∷ rest))) (old : Best n (λ rest. cost (false ∷ rest))) where
  first : cost (true ∷ new.choice) < cost (false ∷ old.choice) → (other : List Bool) → length other ≡ suc n → cost (true ∷ new.choice) ≤ cost other
  first less [] e = absurd (omega (arith, e))
  first less (true ∷ other) e = new.least other (omega (arith, e))
  first less (false ∷ other) e = omega (arith, less, old.least other (omega (arith, e)))

  second : cost (false ∷ old.choice) ≤ cost (true ∷ new.choice) → (other : List Bool) → length other ≡ suc n → cost (false ∷ old.choice) ≤ cost other
  second less [] e = absurd (omega (arith, e))
  second less (true ∷ other) e = omega (arith, less, new.least other (omega (arith, e)))
  second less (false ∷ other) e = old.least other (omega (arith, e))

  longer : Best (suc n) cost
  longer = by (cases_lt (cost (true ∷ new.choice)) (cost (false ∷ old.choice)))
    where
      by : (cost (true ∷ new.choice) < cost (false ∷ old.choice)) ⊎ (cost (false ∷ old.choice) ≤ cost (true ∷ new.choice)) → Best (suc n) cost
      by (inl less) = record { choice = true ∷ new.choice; count = ap suc new.count; least = first less }
      by (inr le) = record { choice = false ∷ old.choice; count = ap suc old.count; least = second le }

best : (n : ℕ) (cost : List Bool → ℕ) → Best n cost
best zero cost = record { choice = []; count = refl; least = only }
  where
    only : (other : List Bool) → length other ≡ 0 → cost [] ≤ cost other
    only [] e = omega arith
    only (b ∷ other) e = absurd (omega (arith, e))
best (suc n) cost = longer n cost (best n (λ rest. cost (true ∷ rest))) (best n (λ rest. cost (false ∷ rest)))

-- a step on and back
plus_back : (p q : At) → minus (plus p q) q ≡ p
plus_back p q = λ k. record { x = back p.x q.x k; y = back p.y q.y k; f = back p.f q.f k }
  where
    back : (a b : ℤ) → (a +ℤ b) -ℤ b ≡ a
    back a b = omega (arith, ints)

-- neighbours
module _ (d : At → At → ℕ) (metric : IsPseudometric d) where
  copies : (axis : Axis) (a b : At) → b ≡ plus a (unit_step axis) → seam d axis a b ≡ 0
  copies axis a b e =
      let before : d a (minus b (unit_step axis)) ≡ 0 = ap (d a) (ap (λ q. minus q (unit_step axis)) e ∙ plus_back a (unit_step axis)) ∙ metric.same a in
      let after : d (plus a (unit_step axis)) b ≡ 0 = ap (d (plus a (unit_step axis))) e ∙ metric.same (plus a (unit_step axis)) in
      omega (arith, before, after)

  -- old beside old and new beside new cost no more than old beside new and new beside old
  crossed : (axis : Axis) (a b : Option At) (new_a new_b : At) → new_b ≡ plus new_a (unit_step axis)
      → seam_of d axis (Some new_a) (Some new_b) + seam_of d axis a b ≤ seam_of d axis (Some new_a) b + seam_of d axis a (Some new_b)
  crossed axis None b new_a new_b e = omega (arith, copies axis new_a new_b e)
  crossed axis (Some a) None new_a new_b e = omega (arith, copies axis new_a new_b e)
  crossed axis (Some a) (Some b) new_a new_b e =
      let step = unit_step axis in
      let back : minus new_b step ≡ new_a = ap (λ q. minus q step) e ∙ plus_back new_a step in
      let one : d a (minus b step) ≤ d a new_a + d new_a (minus b step) = metric.triangle a new_a (minus b step) in
      let two : d (plus a step) b ≤ d (plus a step) new_b + d new_b b = metric.triangle (plus a step) new_b b in
      let same_one : d a (minus new_b step) ≡ d a new_a = ap (d a) back in
      let same_two : d (plus new_a step) b ≡ d new_b b = ap (λ q. d q b) (sym e) in
      omega (arith, copies axis new_a new_b e, one, two, same_one, same_two)

  pair_less : (axis : Axis) (a b : Option At) (new_a new_b : At) → new_b ≡ plus new_a (unit_step axis) → (s t u v : Bool)
      → seam_of d axis (if s || u then Some new_a else a) (if t || v then Some new_b else b) + seam_of d axis (if s && u then Some new_a else a) (if t && v then Some new_b else b)
      ≤ seam_of d axis (if s then Some new_a else a) (if t then Some new_b else b) + seam_of d axis (if u then Some new_a else a) (if v then Some new_b else b)
  pair_less axis a b new_a new_b e true true true true = omega arith
  pair_less axis a b new_a new_b e true true true false = omega arith
  pair_less axis a b new_a new_b e true true false true = omega arith
  pair_less axis a b new_a new_b e true true false false = omega arith
  pair_less axis a b new_a new_b e true false true true = omega arith
  pair_less axis a b new_a new_b e true false true false = omega arith
  pair_less axis a b new_a new_b e true false false true = crossed axis a b new_a new_b e
  pair_less axis a b new_a new_b e true false false false = omega arith
  pair_less axis a b new_a new_b e false true true true = omega arith
  pair_less axis a b new_a new_b e false true true false = omega (arith, crossed axis a b new_a new_b e)
  pair_less axis a b new_a new_b e false true false true = omega arith
  pair_less axis a b new_a new_b e false true false false = omega arith
  pair_less axis a b new_a new_b e false false true true = omega arith
  pair_less axis a b new_a new_b e false false true false = omega arith
  pair_less axis a b new_a new_b e false false false true = omega arith
  pair_less axis a b new_a new_b e false false false false = omega arith

  module _ (m : SourceMap) (placement : Placement) where
    next_source : (axis : Axis) (p : At) → new_source placement (plus p (unit_step axis)) ≡ plus (new_source placement p) (unit_step axis)
    next_source axis p =
        let step = unit_step axis in
        λ k. record {
          x = apart placement.from.x p.x step.x placement.rect.corner.x k;
          y = apart placement.from.y p.y step.y placement.rect.corner.y k;
          f = apart placement.from.f p.f step.f placement.rect.corner.f k;
        }
      where
        apart : (a b c e : ℤ) → a +ℤ ((b +ℤ c) -ℤ e) ≡ (a +ℤ (b -ℤ e)) +ℤ c
        apart a b c e = omega (arith, ints)

    abbrev total : List Bool → ℕ
    total choice = total_after d m placement choice

    abbrev olds : List Bool → ℕ
    olds choice = old_count placement choice

    -- the pairs of two choices cost no less than those of their union and of what is common
    pair_both : (one other : List Bool) (axis : Axis) (p : At)
        → pair_at d (after_at m placement (union placement one other)) axis p + pair_at d (after_at m placement (common placement one other)) axis p
        ≤ pair_at d (after_at m placement one) axis p + pair_at d (after_at m placement other) axis p
    pair_both one other axis p =
        let q = plus p (unit_step axis) in
        subst (λ n. n ≤ pair_at d (after_at m placement one) axis p + pair_at d (after_at m placement other) axis p)
        (λ k. seam_of d axis (if sym (union_says placement one other p) k then Some (new_source placement p) else map_at m p) (if sym (union_says placement one other q) k then Some (new_source placement q) else map_at m q)
        + seam_of d axis (if sym (common_says placement one other p) k then Some (new_source placement p) else map_at m p) (if sym (common_says placement one other q) k then Some (new_source placement q) else map_at m q))
        (pair_less axis (map_at m p) (map_at m q) (new_source placement p) (new_source placement q) (next_source axis p)
        (is_new placement one p) (is_new placement one q) (is_new placement other p) (is_new placement other q))

    abbrev pairs_of : List Bool → ℕ → ℕ → ℕ → ℕ
    pairs_of choice x y f = pairs_at d (after_at m placement choice) (spot x y f)

    totals : (one other : List Bool) → total (union placement one other) + total (common placement one other) ≤ total one + total other
    totals one other =
        omega (
          arith,
          box_plus counts m.size (pairs_of (union placement one other)) (pairs_of (common placement one other)),
          box_plus counts m.size (pairs_of one) (pairs_of other),
          box_at_most m.size (λ x y f. pairs_of (union placement one other) x y f + pairs_of (common placement one other) x y f) (λ x y f. pairs_of one x y f + pairs_of other x y f)
              (λ x y f lx ly lf. three _ _ _ _ _ _ _ _ _ _ _ _ (pair_both one other X (spot x y f)) (pair_both one other Y (spot x y f)) (pair_both one other F (spot x y f))),
        )
      where
        three : (a b c e f g h i j k l n : ℕ) → a + b ≤ c + e → f + g ≤ h + i → j + k ≤ l + n → (a + f + j) + (b + g + k) ≤ (c + h + l) + (e + i + n)
        three a b c e f g h i j k l n p q r = omega (arith, p, q, r)

    -- choices that say the same cost the same
    same_total : (one other : List Bool) → ((p : At) → is_new placement one p ≡ is_new placement other p) → total one ≡ total other
    same_total one other same = λ k. sum_box m.size (λ x y f. pairs_at d (λ p. if same p k then Some (new_source placement p) else map_at m p) (spot x y f))

    same_olds : (one other : List Bool) → ((p : At) → is_new placement one p ≡ is_new placement other p) → olds one ≡ olds other
    same_olds one other same = λ k. sum_box placement.rect.size (λ x y f. one_if (not (same (cell_in placement.rect x y f) k)))

    few_olds : (choice : List Bool) → olds choice < cell_count placement.rect.size + 1
    few_olds choice = omega (arith, box_bound placement.rect.size 1 (λ x y f. one_if (not (is_new placement choice (cell_in placement.rect x y f)))) (λ x y f lx ly lf. at_most_one (not (is_new placement choice (cell_in placement.rect x y f)))))
      where
        at_most_one : (b : Bool) → one_if b ≤ 1
        at_most_one true = omega arith
        at_most_one false = omega arith

    -- by the total first, and then by the old cells
    abbrev cost : List Bool → ℕ
    cost choice = olds (fixed m placement choice) + (cell_count placement.rect.size + 1) * total (fixed m placement choice)

    pub least : Best (box_count placement) cost
    least = best (box_count placement) cost

    abbrev pub least_cut : List Bool
    least_cut = fixed m placement least.choice

    lawful : IsLawful m placement least_cut
    lawful = fixed_lawful m placement least.choice

    -- it comes first among the admissible choices
    comes_first : (other : List Bool) → IsLawful m placement other → (total least_cut < total other) ⊎ ((total least_cut ≡ total other) × (olds least_cut ≤ olds other))
    comes_first other also =
        let its = fixed m placement other in
        let twice : (p : At) → is_new placement (fixed m placement its) p ≡ is_new placement other p = λ p. fixed_same m placement its (fixed_lawful m placement other) p ∙ fixed_same m placement other also p in
        let le : cost least.choice ≤ cost its = least.least its (fixed_count m placement other) in
        let cost_is : cost its ≡ olds other + (cell_count placement.rect.size + 1) * total other =
        λ k. same_olds (fixed m placement its) other twice k + (cell_count placement.rect.size + 1) * same_total (fixed m placement its) other twice k in
        lex (cell_count placement.rect.size + 1) (olds least_cut) (total least_cut) (olds other) (total other) (few_olds least_cut) (few_olds other) (subst (λ n. cost least.choice ≤ n) cost_is le)

    is_least : IsLeastHeld d m placement [] least_cut
    is_least = record {
      one = (lawful, none_held placement least_cut);
      least = λ other is. ⊎_elim (λ (less : total least_cut < total other). let le : total least_cut ≤ total other = omega (arith, less) in le)
          (λ (same : (total least_cut ≡ total other) × (olds least_cut ≤ olds other)). let le : total least_cut ≤ total other = omega (arith, same.0) in le) (comes_first other is.0);
    }

    fewest : (other : List Bool) → IsLeastHeld d m placement [] other → olds least_cut ≤ olds other
    fewest other also =
        ⊎_elim (λ (less : total least_cut < total other). absurd (omega (arith, less, also.least least_cut is_least.one)))
        (λ (same : (total least_cut ≡ total other) × (olds least_cut ≤ olds other)). same.1) (comes_first other also.one.0)

    -- another least choice with as few old cells is the same
    module _ (other : List Bool) (also : IsLeastHeld d m placement [] other) (as_few : olds other ≤ olds least_cut) where
      abbrev both : List Bool
      both = union placement least_cut other

      both_lawful : IsLawful m placement both
      both_lawful = union_lawful m placement least_cut other lawful also.one.0

      both_total : total both ≤ total least_cut
      both_total =
          let none = common placement least_cut other in
          omega (
            arith,
            totals least_cut other,
            is_least.least none (common_lawful m placement least_cut other lawful also.one.0, none_held placement none),
            also.least least_cut is_least.one,
          )

      both_least : IsLeastHeld d m placement [] both
      both_least = record {
        one = (both_lawful, none_held placement both);
        least = λ another is. let le : total both ≤ total another = omega (arith, both_total, is_least.least another is) in le;
      }

      fewer : (a b : Bool) → one_if (not (a || b)) ≤ one_if (not a)
      fewer true b = omega arith
      fewer false true = omega arith
      fewer false false = omega arith

      fewer_too : (a b : Bool) → one_if (not (a || b)) ≤ one_if (not b)
      fewer_too true true = omega arith
      fewer_too true false = omega arith
      fewer_too false b = omega arith

      abbrev old_in : List Bool → ℕ → ℕ → ℕ → ℕ
      old_in choice x y f = one_if (not (is_new placement choice (cell_in placement.rect x y f)))

      of_one : (x y f : ℕ) → old_in both x y f ≤ old_in least_cut x y f
      of_one x y f =
          let p = cell_in placement.rect x y f in
          subst (λ b. one_if (not b) ≤ old_in least_cut x y f) (sym (union_says placement least_cut other p)) (fewer (is_new placement least_cut p) (is_new placement other p))

      of_other : (x y f : ℕ) → old_in both x y f ≤ old_in other x y f
      of_other x y f =
          let p = cell_in placement.rect x y f in
          subst (λ b. one_if (not b) ≤ old_in other x y f) (sym (union_says placement least_cut other p)) (fewer_too (is_new placement least_cut p) (is_new placement other p))

      no_fewer : olds least_cut ≤ olds both
      no_fewer = fewest both both_least

      same_of_count : (a b : Bool) → one_if (not a) ≡ one_if (not b) → a ≡ b
      same_of_count true true e = refl
      same_of_count true false e = absurd (omega (arith, e))
      same_of_count false true e = absurd (omega (arith, e))
      same_of_count false false e = refl

      only : AreSame placement least_cut other
      only p inside =
          let at = cell_of placement.rect p inside in
          let with_one = box_terms_equal placement.rect.size (old_in both) (old_in least_cut) (λ x y f lx ly lf. of_one x y f) no_fewer at.x at.y at.f at.counts.column at.counts.row at.counts.frame in
          let with_other = box_terms_equal placement.rect.size (old_in both) (old_in other) (λ x y f lx ly lf. of_other x y f) (omega (arith, as_few, no_fewer)) at.x at.y at.f at.counts.column at.counts.row at.counts.frame in
          subst (λ q. is_new placement least_cut q ≡ is_new placement other q) (sym at.cell) (same_of_count (is_new placement least_cut (cell_in placement.rect at.x at.y at.f)) (is_new placement other (cell_in placement.rect at.x at.y at.f)) (sym with_one ∙ with_other))

    pub least_cut_is : IsFewestHeld d m placement [] least_cut
    least_cut_is = record { least = is_least; fewest = fewest; only = only }

    pub least_cut_count : length least_cut ≡ cell_count placement.rect.size
    least_cut_count = fixed_count m placement least.choice
