-- One axis of the small canvas: the cells of the box, and one more on each side where the output has one.
use Rattle.std.proofs.Common.{◌≡◌, ℕ, ◌+◌, ◌<◌, ◌≤◌, ◌⊎◌, inl, inr, ⊎_elim, refl, sym, ◌∙◌, subst, arith, Bool, true, false}
use Rattle.std.proofs.lemmas.Int.{ints}
use Rattle.std.proofs.lemmas.Bool.{cases_lt}
use Rattle.std.specs.Prelude.{ℤ, pos, negsuc, ◌+ℤ◌, ◌-ℤ◌, ◌≤ℤ◌, ◌<ℤ◌, nat_lt, IsSome}
use borrow.Author.Tests.{ltb-true, lt-ltb}
use Rattle.cells.specs.Places.{on_axis}
use Rattle.cells.proofs.BoxTests.{on_axis_bounds, on_axis_some}
use Rattle.boxes.specs.Pairs.{one_if}
use Rattle.torus.specs.Wraps.{around_axis, on_turn}
use Rattle.torus.specs.Tiles.{AxisTakes, has_before, small_axis}
use Rattle.torus.proofs.Axes.{IsApart, IsTurned, SameStep, off_step, same_turn, turn_is, turned}

-- the output's coordinate of a coordinate of the small canvas, and its step from the corner
abbrev pub coordinate : Bool → ℕ → ℤ → ℕ → ℤ → ℤ
coordinate wrapped n corner a z = around_axis wrapped n (corner +ℤ (z -ℤ pos a))

abbrev pub step_of : Bool → ℕ → ℤ → ℤ → ℤ
step_of wrapped n corner q = around_axis wrapped n (q -ℤ corner)

-- a small axis of s cells, a of them before the box
pub record IsSmallAxis (wrapped : Bool) (n : ℕ) (corner : ℤ) (len a s : ℕ) : Type 0 where
  pub room : a + len ≤ s
  pub on : (i : ℕ) → i < s → IsSome (on_axis n (coordinate wrapped n corner a (pos i)))
  pub steps : (i : ℕ) → i < s → SameStep len (step_of wrapped n corner (coordinate wrapped n corner a (pos i))) (pos i -ℤ pos a)
  pub follows : (i : ℕ) → i + 1 < s → coordinate wrapped n corner a (pos i +ℤ pos 1) ≡ around_axis wrapped n (coordinate wrapped n corner a (pos i) +ℤ pos 1)
  -- and back: the cell of a step, the next one and the one before it, as far as they aren't in the box
  pub stays : (q : ℤ) → IsSome (on_axis n q) → around_axis wrapped n (q +ℤ pos 0) ≡ q
  pub place : (q : ℤ) (j : ℕ) → IsSome (on_axis n q) → step_of wrapped n corner q ≡ pos j → j < len → q ≡ coordinate wrapped n corner a (pos a +ℤ pos j)
  pub next : (q r : ℤ) (j : ℕ) → IsSome (on_axis n q) → IsSome (on_axis n r) → r ≡ around_axis wrapped n (q +ℤ pos 1) → step_of wrapped n corner q ≡ pos j → j < len
      → IsSome (on_axis len (step_of wrapped n corner r)) ⊎ ((a + len < s) × (j + 1 ≡ len) × (r ≡ coordinate wrapped n corner a (pos (a + len))))
  pub back : (q r : ℤ) (j : ℕ) → IsSome (on_axis n q) → IsSome (on_axis n r) → q ≡ around_axis wrapped n (r +ℤ pos 1) → step_of wrapped n corner q ≡ pos j → j < len
      → IsSome (on_axis len (step_of wrapped n corner r)) ⊎ ((1 ≤ a) × (j ≡ 0) × (r ≡ coordinate wrapped n corner a (pos a -ℤ pos 1)))

module _ (n c len : ℕ) (lt : c < n) (less : len < n) where
  at : (i : ℕ) → i < 1 + (len + 1) → IsTurned n (pos c +ℤ (pos i -ℤ pos 1)) (coordinate true n (pos c) 1 (pos i))
  at i le = turned n (pos c +ℤ (pos i -ℤ pos 1)) (omega (arith, ints)) (omega (arith, ints))

  -- the step of a coordinate of the axis is how far it is from the corner, up to a turn
  step_apart : (q : ℤ) → pos 0 ≤ℤ q → q <ℤ pos n → IsTurned n (q -ℤ pos c) (step_of true n (pos c) q)
  step_apart q from to = turned n (q -ℤ pos c) (omega (arith, ints)) (omega (arith, ints))

  combine : (q r t : ℤ) → pos 0 ≤ℤ q → q <ℤ pos n → (pos 0 -ℤ pos n) ≤ℤ t → t <ℤ pos n → pos 0 ≤ℤ r → r <ℤ pos n → IsApart n q (pos c +ℤ t) → IsApart n r (q -ℤ pos c) → (r ≡ t) ⊎ (r ≡ t +ℤ pos n)
  combine q r t a b low high a' b' (inl e) (inl g) = inl (omega (arith, ints))
  combine q r t a b low high a' b' (inl e) (inr (inl g)) = absurd (omega (arith, ints))
  combine q r t a b low high a' b' (inl e) (inr (inr g)) = inr (omega (arith, ints))
  combine q r t a b low high a' b' (inr (inl e)) (inl g) = absurd (omega (arith, ints))
  combine q r t a b low high a' b' (inr (inl e)) (inr (inl g)) = absurd (omega (arith, ints))
  combine q r t a b low high a' b' (inr (inl e)) (inr (inr g)) = inl (omega (arith, ints))
  combine q r t a b low high a' b' (inr (inr e)) (inl g) = inr (omega (arith, ints))
  combine q r t a b low high a' b' (inr (inr e)) (inr (inl g)) = inl (omega (arith, ints))
  combine q r t a b low high a' b' (inr (inr e)) (inr (inr g)) = absurd (omega (arith, ints))

  steps_wrapped : (i : ℕ) → i < 1 + (len + 1) → SameStep len (step_of true n (pos c) (coordinate true n (pos c) 1 (pos i))) (pos i -ℤ pos 1)
  steps_wrapped i le =
      let q = at i le in
      let r = step_apart (coordinate true n (pos c) 1 (pos i)) q.from q.to in
      by (combine (coordinate true n (pos c) 1 (pos i)) (step_of true n (pos c) (coordinate true n (pos c) 1 (pos i))) (pos i -ℤ pos 1) q.from q.to (omega (arith, ints)) (omega (arith, ints)) r.from r.to q.by r.by) r.from r.to
    where
      by : (step_of true n (pos c) (coordinate true n (pos c) 1 (pos i)) ≡ pos i -ℤ pos 1) ⊎ (step_of true n (pos c) (coordinate true n (pos c) 1 (pos i)) ≡ (pos i -ℤ pos 1) +ℤ pos n)
          → pos 0 ≤ℤ step_of true n (pos c) (coordinate true n (pos c) 1 (pos i)) → step_of true n (pos c) (coordinate true n (pos c) 1 (pos i)) <ℤ pos n
          → SameStep len (step_of true n (pos c) (coordinate true n (pos c) 1 (pos i))) (pos i -ℤ pos 1)
      by (inl e) from to = inl e
      by (inr e) from to = inr (off_step len (step_of true n (pos c) (coordinate true n (pos c) 1 (pos i))) (inr (omega (arith, ints))), off_step len (pos i -ℤ pos 1) (inl (omega (arith, ints))))

  pub small_wrapped : IsSmallAxis true n (pos c) len 1 (1 + (len + 1))
  small_wrapped = record {
    room = omega arith;
    on = λ i le. let t = at i le in on_axis_some n (coordinate true n (pos c) 1 (pos i)) t.from t.to;
    steps = steps_wrapped;
    follows = λ i le. let t = at i (below_too i (1 + (len + 1)) le) in follows_at i (coordinate true n (pos c) 1 (pos i)) le t.from t.to t.by;
    stays = λ q on. let b = on_axis_bounds n q on in stays_at q b.0 b.1;
    place = λ q j on e less'. place_of q j on e less';
    next = λ q r j on on' e s less'. let b = on_axis_bounds n q on in let b' = on_axis_bounds n r on' in
        next_of q r j b.0 b.1 b'.0 b'.1 (step_apart r b'.0 b'.1) e s less' (cases_lt (j + 1) len);
    back = λ q r j on on' e s less'. let b = on_axis_bounds n q on in let b' = on_axis_bounds n r on' in
        back_of q r j b.0 b.1 b'.0 b'.1 (step_apart r b'.0 b'.1) e s less' (cases_lt 0 j);
  }
    where
      -- said of plain numbers, for what is asked of a turn and of a step
      one_on : (q : ℤ) → pos 0 ≤ℤ q → q <ℤ pos n → ((pos 0 -ℤ pos n) ≤ℤ (q +ℤ pos 1)) × ((q +ℤ pos 1) <ℤ pos (n + n))
      one_on q from to = (omega (arith, ints), omega (arith, ints))

      in_box : (j : ℕ) → j < len → (pos 0 ≤ℤ pos j) × ((pos j +ℤ pos 1) ≤ℤ pos len) × (pos j <ℤ pos n)
      in_box j less' = (omega (arith, ints), omega (arith, ints), omega (arith, ints))

      next_apart : (z q w : ℤ) → w ≡ z +ℤ pos 1 → IsApart n q z → IsApart n w (q +ℤ pos 1)
      next_apart z q w is (inl e) = inl (omega (arith, ints))
      next_apart z q w is (inr (inl e)) = inr (inr (omega (arith, ints)))
      next_apart z q w is (inr (inr e)) = inr (inl (omega (arith, ints)))

      below_too : (i s : ℕ) → i + 1 < s → i < s
      below_too i s le = omega arith

      next_on : (i : ℕ) → i + 1 < 1 + (len + 1) → ((pos 0 -ℤ pos n) ≤ℤ (pos c +ℤ ((pos i +ℤ pos 1) -ℤ pos 1))) × ((pos c +ℤ ((pos i +ℤ pos 1) -ℤ pos 1)) <ℤ pos (n + n)) × (pos c +ℤ ((pos i +ℤ pos 1) -ℤ pos 1) ≡ (pos c +ℤ (pos i -ℤ pos 1)) +ℤ pos 1)
      next_on i le = (omega (arith, ints), omega (arith, ints), omega (arith, ints))

      follows_at : (i : ℕ) (q : ℤ) → i + 1 < 1 + (len + 1) → pos 0 ≤ℤ q → q <ℤ pos n → IsApart n q (pos c +ℤ (pos i -ℤ pos 1)) → on_turn n (pos c +ℤ ((pos i +ℤ pos 1) -ℤ pos 1)) ≡ on_turn n (q +ℤ pos 1)
      follows_at i q le from to by =
          let w = one_on q from to in
          let z = next_on i le in
          same_turn n (pos c +ℤ ((pos i +ℤ pos 1) -ℤ pos 1)) (q +ℤ pos 1) z.0 z.1 w.0 w.1 (next_apart (pos c +ℤ (pos i -ℤ pos 1)) q (pos c +ℤ ((pos i +ℤ pos 1) -ℤ pos 1)) z.2 by)

      stays_at : (q : ℤ) → pos 0 ≤ℤ q → q <ℤ pos n → on_turn n (q +ℤ pos 0) ≡ q
      stays_at q from to = turn_is n (q +ℤ pos 0) q (omega (arith, ints)) (omega (arith, ints)) from to (inl (omega (arith, ints)))

      -- a coordinate by its step
      by_step : (q s : ℤ) → IsApart n s (q -ℤ pos c) → IsApart n q (pos c +ℤ s)
      by_step q s (inl e) = inl (omega (arith, ints))
      by_step q s (inr (inl e)) = inr (inr (omega (arith, ints)))
      by_step q s (inr (inr e)) = inr (inl (omega (arith, ints)))

      place_of : (q : ℤ) (j : ℕ) → IsSome (on_axis n q) → step_of true n (pos c) q ≡ pos j → j < len → q ≡ coordinate true n (pos c) 1 (pos 1 +ℤ pos j)
      place_of q j on e less' =
          let b = on_axis_bounds n q on in
          let s = step_apart q b.0 b.1 in
          sym (turn_is n (pos c +ℤ ((pos 1 +ℤ pos j) -ℤ pos 1)) q (omega (arith, ints)) (omega (arith, ints)) b.0 b.1 (moved (by_step q (step_of true n (pos c) q) s.by)))
        where
          moved : IsApart n q (pos c +ℤ step_of true n (pos c) q) → IsApart n q (pos c +ℤ ((pos 1 +ℤ pos j) -ℤ pos 1))
          moved = subst (λ z. IsApart n q (pos c +ℤ z)) (e ∙ (omega (arith, ints)))

      -- what is a step from a coordinate is so far from where that is taken, too
      moved_on : (q r w d z : ℤ) → z ≡ w +ℤ d → pos 0 ≤ℤ r → r <ℤ pos n → (pos 0 -ℤ pos n) ≤ℤ z → z <ℤ pos (n + n) → IsApart n r (q +ℤ d) → IsApart n q w → IsApart n r z
      moved_on q r w d z is a b low high (inl e) (inl g) = inl (omega (arith, ints))
      moved_on q r w d z is a b low high (inl e) (inr (inl g)) = inr (inl (omega (arith, ints)))
      moved_on q r w d z is a b low high (inl e) (inr (inr g)) = inr (inr (omega (arith, ints)))
      moved_on q r w d z is a b low high (inr (inl e)) (inl g) = inr (inl (omega (arith, ints)))
      moved_on q r w d z is a b low high (inr (inl e)) (inr (inl g)) = absurd (omega (arith, ints))
      moved_on q r w d z is a b low high (inr (inl e)) (inr (inr g)) = inl (omega (arith, ints))
      moved_on q r w d z is a b low high (inr (inr e)) (inl g) = inr (inr (omega (arith, ints)))
      moved_on q r w d z is a b low high (inr (inr e)) (inr (inl g)) = inl (omega (arith, ints))
      moved_on q r w d z is a b low high (inr (inr e)) (inr (inr g)) = absurd (omega (arith, ints))

      -- the step of the next coordinate
      step_next : (q r s t : ℤ) → pos 0 ≤ℤ r → r <ℤ pos n → pos 0 ≤ℤ t → t <ℤ pos n → pos 0 ≤ℤ s → (s +ℤ pos 1) ≤ℤ pos len → IsApart n r (q +ℤ pos 1) → IsApart n s (q -ℤ pos c) → IsApart n t (r -ℤ pos c) → t ≡ s +ℤ pos 1
      step_next q r s t a b a' b' from to e g h =
          let on = moved_on q r (pos c +ℤ s) (pos 1) (pos c +ℤ (s +ℤ pos 1)) (omega (arith, ints)) a b (omega (arith, ints)) (omega (arith, ints)) e (by_step q s g) in
          ⊎_elim (λ is. is) (λ is. absurd (omega (arith, ints))) (combine r t (s +ℤ pos 1) a b (omega (arith, ints)) (omega (arith, ints)) a' b' on h)

      next_by : (r t : ℤ) (j : ℕ) → pos 0 ≤ℤ r → r <ℤ pos n → IsTurned n (r -ℤ pos c) t → t ≡ pos j +ℤ pos 1 → j < len → (j + 1 < len) ⊎ (len ≤ j + 1)
          → IsSome (on_axis len t) ⊎ ((1 + len < 1 + (len + 1)) × (j + 1 ≡ len) × (r ≡ coordinate true n (pos c) 1 (pos (1 + len))))
      next_by r t j a b step is less' (inl under) = inl (on_axis_some len t step.from (omega (arith, ints)))
      next_by r t j a b step is less' (inr last) =
          inr (omega arith, omega arith, sym (turn_is n (pos c +ℤ (pos (1 + len) -ℤ pos 1)) r (omega (arith, ints)) (omega (arith, ints)) a b (subst (λ z. IsApart n r (pos c +ℤ z)) (is ∙ (omega (arith, ints))) (by_step r t step.by))))

      next_of : (q r : ℤ) (j : ℕ) → pos 0 ≤ℤ q → q <ℤ pos n → pos 0 ≤ℤ r → r <ℤ pos n → IsTurned n (r -ℤ pos c) (step_of true n (pos c) r) → r ≡ on_turn n (q +ℤ pos 1) → step_of true n (pos c) q ≡ pos j → j < len → (j + 1 < len) ⊎ (len ≤ j + 1)
          → IsSome (on_axis len (step_of true n (pos c) r)) ⊎ ((1 + len < 1 + (len + 1)) × (j + 1 ≡ len) × (r ≡ coordinate true n (pos c) 1 (pos (1 + len))))
      next_of q r j a b a' b' t e s less' more =
          let w = one_on q a b in
          let u = turned n (q +ℤ pos 1) w.0 w.1 in
          let k = in_box j less' in
          let v = step_apart q a b in
          let is : step_of true n (pos c) r ≡ pos j +ℤ pos 1 = step_next q r (pos j) (step_of true n (pos c) r) a' b' t.from t.to k.0 k.1 (subst (λ z. IsApart n z (q +ℤ pos 1)) (sym e) u.by) (subst (λ z. IsApart n z (q -ℤ pos c)) s v.by) t.by in
          next_by r (step_of true n (pos c) r) j a' b' t is less' more

      -- that of the one before
      turned_back : (q r : ℤ) → IsApart n q (r +ℤ pos 1) → IsApart n r (q +ℤ negsuc 0)
      turned_back q r (inl e) = inl (omega (arith, ints))
      turned_back q r (inr (inl e)) = inr (inr (omega (arith, ints)))
      turned_back q r (inr (inr e)) = inr (inl (omega (arith, ints)))

      step_back : (q r s t : ℤ) → pos 0 ≤ℤ r → r <ℤ pos n → pos 0 ≤ℤ t → t <ℤ pos n → pos 0 ≤ℤ s → s <ℤ pos n → IsApart n q (r +ℤ pos 1) → IsApart n s (q -ℤ pos c) → IsApart n t (r -ℤ pos c) → (t +ℤ pos 1 ≡ s) ⊎ ((s ≡ pos 0) × (t +ℤ pos 1 ≡ pos n))
      step_back q r s t a b a' b' from to e g h =
          let on = moved_on q r (pos c +ℤ s) (negsuc 0) (pos c +ℤ (s -ℤ pos 1)) (omega (arith, ints)) a b (omega (arith, ints)) (omega (arith, ints)) (turned_back q r e) (by_step q s g) in
          ⊎_elim (λ is. inl (omega (arith, ints))) (λ is. inr (omega (arith, ints), omega (arith, ints))) (combine r t (s -ℤ pos 1) a b (omega (arith, ints)) (omega (arith, ints)) a' b' on h)

      back_by : (r t : ℤ) (j : ℕ) → pos 0 ≤ℤ r → r <ℤ pos n → IsTurned n (r -ℤ pos c) t → (t +ℤ pos 1 ≡ pos j) ⊎ ((pos j ≡ pos 0) × (t +ℤ pos 1 ≡ pos n)) → j < len → (0 < j) ⊎ (j ≤ 0)
          → IsSome (on_axis len t) ⊎ ((1 ≤ 1) × (j ≡ 0) × (r ≡ coordinate true n (pos c) 1 (pos 1 -ℤ pos 1)))
      back_by r t j a b step (inl is) less' some = inl (on_axis_some len t step.from (omega (arith, ints)))
      back_by r t j a b step (inr is) less' (inl some) = absurd (omega (arith, ints, is.0))
      back_by r t j a b step (inr is) less' (inr none) = inr (omega arith, omega arith, sym (turn_is n (pos c +ℤ ((pos 1 -ℤ pos 1) -ℤ pos 1)) r (omega (arith, ints)) (omega (arith, ints)) a b (far (by_step r t step.by))))
        where
          far : IsApart n r (pos c +ℤ t) → IsApart n r (pos c +ℤ ((pos 1 -ℤ pos 1) -ℤ pos 1))
          far (inl g) = inr (inr (omega (arith, ints, is.1)))
          far (inr (inl g)) = inl (omega (arith, ints, is.1))
          far (inr (inr g)) = absurd (omega (arith, ints, is.1))

      back_of : (q r : ℤ) (j : ℕ) → pos 0 ≤ℤ q → q <ℤ pos n → pos 0 ≤ℤ r → r <ℤ pos n → IsTurned n (r -ℤ pos c) (step_of true n (pos c) r) → q ≡ on_turn n (r +ℤ pos 1) → step_of true n (pos c) q ≡ pos j → j < len → (0 < j) ⊎ (j ≤ 0)
          → IsSome (on_axis len (step_of true n (pos c) r)) ⊎ ((1 ≤ 1) × (j ≡ 0) × (r ≡ coordinate true n (pos c) 1 (pos 1 -ℤ pos 1)))
      back_of q r j a b a' b' t e s less' some =
          let w = one_on r a' b' in
          let u = turned n (r +ℤ pos 1) w.0 w.1 in
          let k = in_box j less' in
          let v = step_apart q a b in
          back_by r (step_of true n (pos c) r) j a' b' t (step_back q r (pos j) (step_of true n (pos c) r) a' b' t.from t.to k.0 k.2 (subst (λ z. IsApart n z (r +ℤ pos 1)) (sym e) u.by) (subst (λ z. IsApart n z (q -ℤ pos c)) s v.by) t.by) less' some

-- an axis that isn't wrapped: a cells before the box, where there are any, and b after it
module _ (n c len a b : ℕ) (room : c + len + b ≤ n) (few : a ≤ c) (one : a ≤ 1) (some : (1 ≤ a) ⊎ (c ≡ 0)) (more : (b ≡ 1) ⊎ ((b ≡ 0) × (c + len ≡ n))) where
  plain : (i : ℕ) → i < a + (len + b) → (pos 0 ≤ℤ (pos c +ℤ (pos i -ℤ pos a))) × ((pos c +ℤ (pos i -ℤ pos a)) <ℤ pos n)
  plain i lt = (omega (arith, ints), omega (arith, ints))

  pub small_plain : IsSmallAxis false n (pos c) len a (a + (len + b))
  small_plain = record {
    room = omega arith;
    on = λ i lt. let p = plain i lt in on_axis_some n (pos c +ℤ (pos i -ℤ pos a)) p.0 p.1;
    steps = λ i lt. inl (omega (arith, ints));
    follows = λ i lt. omega (arith, ints);
    stays = λ q on. omega (arith, ints);
    place = λ q j on e less. omega (arith, ints);
    next = λ q r j on on' e s less. let p = on_axis_bounds n r on' in next_of q r j p.1 e s less (cases_lt (j + 1) len) more;
    back = λ q r j on on' e s less. let p = on_axis_bounds n r on' in back_of q r j p.0 e s less (cases_lt 0 j) some;
  }
    where
      next_of : (q r : ℤ) (j : ℕ) → r <ℤ pos n → r ≡ q +ℤ pos 1 → q -ℤ pos c ≡ pos j → j < len → (j + 1 < len) ⊎ (len ≤ j + 1) → (b ≡ 1) ⊎ ((b ≡ 0) × (c + len ≡ n))
          → IsSome (on_axis len (r -ℤ pos c)) ⊎ ((a + len < a + (len + b)) × (j + 1 ≡ len) × (r ≡ pos c +ℤ (pos (a + len) -ℤ pos a)))
      next_of q r j to e s less (inl under) beyond = inl (on_axis_some len (r -ℤ pos c) (omega (arith, ints)) (omega (arith, ints)))
      next_of q r j to e s less (inr last) (inl b1) = inr (omega arith, omega arith, omega (arith, ints))
      next_of q r j to e s less (inr last) (inr b0) = absurd (omega (arith, ints, b0.0, b0.1))

      back_of : (q r : ℤ) (j : ℕ) → pos 0 ≤ℤ r → q ≡ r +ℤ pos 1 → q -ℤ pos c ≡ pos j → j < len → (0 < j) ⊎ (j ≤ 0) → (1 ≤ a) ⊎ (c ≡ 0)
          → IsSome (on_axis len (r -ℤ pos c)) ⊎ ((1 ≤ a) × (j ≡ 0) × (r ≡ pos c +ℤ ((pos a -ℤ pos 1) -ℤ pos a)))
      back_of q r j from e s less (inl under) first = inl (on_axis_some len (r -ℤ pos c) (omega (arith, ints)) (omega (arith, ints)))
      back_of q r j from e s less (inr none) (inl a1) = inr (a1, omega arith, omega (arith, ints))
      back_of q r j from e s less (inr none) (inr c0) = absurd (omega (arith, ints))

-- each axis of a box has one
pub small_axis_of : (wrapped : Bool) (n : ℕ) (corner : ℤ) (len : ℕ) → AxisTakes wrapped n corner len
    → IsSmallAxis wrapped n corner len (one_if (has_before wrapped corner)) (small_axis wrapped n corner len)
small_axis_of true n (pos c) len takes = small_wrapped n c len (omega (arith, ints, takes.1)) takes.2
small_axis_of true n (negsuc c) len takes = absurd (omega (arith, ints, takes.0))
small_axis_of false n (negsuc c) len takes = absurd (omega (arith, ints, takes.0))
small_axis_of false n (pos c) len takes = by (nat_lt 0 c) (nat_lt (c + len) n) refl refl
  where
    inside : c + len ≤ n
    inside = omega (arith, ints, takes.1)

    lowest : nat_lt 0 c ≡ false → c ≡ 0
    lowest t = ⊎_elim (λ lt. absurd (apart t (lt-ltb 0 c lt))) (λ le. omega arith) (cases_lt 0 c)
      where
        apart : nat_lt 0 c ≡ false → nat_lt 0 c ≡ true → ⊥
        apart e e' = cc

    highest : nat_lt (c + len) n ≡ false → c + len ≡ n
    highest t = ⊎_elim (λ lt. absurd (apart t (lt-ltb (c + len) n lt))) (λ le. omega (arith, inside)) (cases_lt (c + len) n)
      where
        apart : nat_lt (c + len) n ≡ false → nat_lt (c + len) n ≡ true → ⊥
        apart e e' = cc

    by : (x y : Bool) → nat_lt 0 c ≡ x → nat_lt (c + len) n ≡ y → IsSmallAxis false n (pos c) len (one_if (nat_lt 0 c)) (one_if (nat_lt 0 c) + (len + one_if (nat_lt (c + len) n)))
    by true true ex ey = subst (λ x. IsSmallAxis false n (pos c) len (one_if x) (one_if x + (len + one_if (nat_lt (c + len) n)))) (sym ex) (subst (λ y. IsSmallAxis false n (pos c) len 1 (1 + (len + one_if y))) (sym ey)
        (let lt : c + len < n = ltb-true (c + len) n ey in let first : 0 < c = ltb-true 0 c ex in small_plain n c len 1 1 (omega arith) (omega arith) (omega arith) (inl (omega arith)) (inl refl)))
    by true false ex ey = subst (λ x. IsSmallAxis false n (pos c) len (one_if x) (one_if x + (len + one_if (nat_lt (c + len) n)))) (sym ex) (subst (λ y. IsSmallAxis false n (pos c) len 1 (1 + (len + one_if y))) (sym ey)
        (let e : c + len ≡ n = highest ey in let first : 0 < c = ltb-true 0 c ex in small_plain n c len 1 0 (omega arith) (omega arith) (omega arith) (inl (omega arith)) (inr (refl, e))))
    by false true ex ey = subst (λ x. IsSmallAxis false n (pos c) len (one_if x) (one_if x + (len + one_if (nat_lt (c + len) n)))) (sym ex) (subst (λ y. IsSmallAxis false n (pos c) len 0 (0 + (len + one_if y))) (sym ey)
        (let lt : c + len < n = ltb-true (c + len) n ey in small_plain n c len 0 1 (omega arith) (omega arith) (omega arith) (inr (lowest ex)) (inl refl)))
    by false false ex ey = subst (λ x. IsSmallAxis false n (pos c) len (one_if x) (one_if x + (len + one_if (nat_lt (c + len) n)))) (sym ex) (subst (λ y. IsSmallAxis false n (pos c) len 0 (0 + (len + one_if y))) (sym ey)
        (let e : c + len ≡ n = highest ey in small_plain n c len 0 0 (omega arith) (omega arith) (omega arith) (inr (lowest ex)) (inr (refl, e))))
