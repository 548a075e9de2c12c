-- In the frame of its box a map that goes on past the edges has a plain total: the torus total after a
-- choice is the total of what the frame has after it.
use Rattle.std.proofs.Common.{◌≡◌, ℕ, ◌+◌, ◌<◌, ◌≤◌, ◌⊎◌, inl, inr, refl, ap, sym, ◌∙◌, arith, Bool, List}
use Rattle.std.proofs.lemmas.Int.{ints}
use Rattle.std.specs.Prelude.{ℤ, pos, ◌+ℤ◌, Option, Some, None, IsSome, if◌then◌else◌}
use Rattle.cells.specs.declared.place.At.{At}
use Rattle.cells.specs.declared.place.Axis.{Axis}
use Rattle.cells.specs.declared.place.Axis.TheVariants.{X, Y, F}
use Rattle.cells.specs.Places.{index_in, minus, plus, spot}
use Rattle.cells.specs.Neighbours.{unit_step}
use Rattle.cells.proofs.BoxTests.{of_inside}
use Rattle.boxes.proofs.Additions.{counts}
use Rattle.boxes.proofs.Boxes.{box_equal}
use Rattle.map_canvas.specs.declared.canvas.Placement.{Placement}
use Rattle.map_canvas.specs.Maps.{SourceMap, map_at}
use Rattle.map_canvas.specs.Choices.{chosen, new_source}
use Rattle.costs.specs.Costs.{pairs_at, seam_of, total_of}
use Rattle.costs.specs.Lawful.{is_new}
use Rattle.job_words.specs.declared.tile.Wrap.{Wrap}
use Rattle.torus.specs.Wraps.{around, around_axis, map_around}
use Rattle.torus.specs.Tiles.{after_around, is_new_around, step_around, torus_total_after}
use Rattle.torus.proofs.Axes.{HasFrame, IsFramed, SameStep}
use Rattle.torus.proofs.Rotations.{rotate_box}

pub none_of : (o : Option ℕ) → (IsSome o → ⊥) → o ≡ None
none_of None off = refl
none_of (Some i) off = absurd (off refl)

pub none_on : (z : ℤ) → z +ℤ pos 0 ≡ z
none_on z = omega (arith, ints)

sum_on : (a x : ℕ) → pos (a + x) ≡ pos a +ℤ pos x
sum_on a x = omega (arith, ints)

one_more : (a x : ℕ) → pos (a + x) +ℤ pos 1 ≡ pos a +ℤ pos (x + 1)
one_more a x = omega (arith, ints)

no_more : (a x : ℕ) → pos (a + x) +ℤ pos 0 ≡ pos a +ℤ pos x
no_more a x = omega (arith, ints)

one_on : (x : ℕ) → pos (x + 1) ≡ pos x +ℤ pos 1
one_on x = omega (arith, ints)

-- the next place along an axis
pub next_spot : (axis : Axis) (x y f : ℕ) → (x' : ℕ) × (y' : ℕ) × (f' : ℕ) × (x' ≤ x + 1) × (y' ≤ y + 1) × (f' ≤ f + 1) × (spot x' y' f' ≡ plus (spot x y f) (unit_step axis))
next_spot X x y f = (x + 1, y, f, omega arith, omega arith, omega arith, (λ k. record { x = one_on x k; y = sym (none_on (pos y)) k; f = sym (none_on (pos f)) k }))
next_spot Y x y f = (x, y + 1, f, omega arith, omega arith, omega arith, (λ k. record { x = sym (none_on (pos x)) k; y = one_on y k; f = sym (none_on (pos f)) k }))
next_spot F x y f = (x, y, f + 1, omega arith, omega arith, omega arith, (λ k. record { x = sym (none_on (pos x)) k; y = sym (none_on (pos y)) k; f = one_on f k }))

module _ (m : SourceMap) (wrap : Wrap) (placement : Placement)
    (fx : HasFrame wrap.x m.size.w placement.rect.corner.x placement.rect.size.w)
    (fy : HasFrame wrap.y m.size.h placement.rect.corner.y placement.rect.size.h)
    (ff : HasFrame wrap.f m.size.f placement.rect.corner.f placement.rect.size.f) where
  abbrev pub start : At
  start = spot fx.start fy.start ff.start

  -- the placement in the frame
  abbrev pub framed : Placement
  framed = record { rect = record { corner = spot fx.offset fy.offset ff.offset; size = placement.rect.size }; from = placement.from }

  -- the output's cell at a place of the frame, and what the map has there
  abbrev pub cell_at_frame : At → At
  cell_at_frame p = around wrap m.size (plus start p)

  abbrev pub before : At → Option At
  before p = map_at m (cell_at_frame p)

  -- what the frame has after a choice
  abbrev pub after_framed : List Bool → At → Option At
  after_framed choice p = if is_new framed choice p then Some (new_source framed p) else before p

  -- the step of a place of the frame
  abbrev step_at : At → At
  step_at p = step_around wrap m.size placement.rect (cell_at_frame p)

  abbrev pub IsOneStep : At → Type 0
  IsOneStep p = (step_at p ≡ minus p framed.rect.corner) ⊎ ((index_in placement.rect.size (step_at p) ≡ None) × (index_in placement.rect.size (minus p framed.rect.corner) ≡ None))

  pub one_step : (x y f : ℕ) → x ≤ m.size.w → y ≤ m.size.h → f ≤ m.size.f → IsOneStep (spot x y f)
  one_step x y f lx ly lf = by (fx.framed.steps x lx) (fy.framed.steps y ly) (ff.framed.steps f lf)
    where
      s : At
      s = step_at (spot x y f)

      t : At
      t = minus (spot x y f) framed.rect.corner

      by : SameStep placement.rect.size.w s.x t.x → SameStep placement.rect.size.h s.y t.y → SameStep placement.rect.size.f s.f t.f → IsOneStep (spot x y f)
      by (inl ex) (inl ey) (inl ef) = inl (λ k. record { x = ex k; y = ey k; f = ef k })
      by (inr off) sy sf =
          inr (none_of (index_in placement.rect.size s) (λ in_. off.0 (of_inside placement.rect.size s in_).x), none_of (index_in placement.rect.size t) (λ in_. off.1 (of_inside placement.rect.size t in_).x))
      by (inl ex) (inr off) sf =
          inr (none_of (index_in placement.rect.size s) (λ in_. off.0 (of_inside placement.rect.size s in_).y), none_of (index_in placement.rect.size t) (λ in_. off.1 (of_inside placement.rect.size t in_).y))
      by (inl ex) (inl ey) (inr off) =
          inr (none_of (index_in placement.rect.size s) (λ in_. off.0 (of_inside placement.rect.size s in_).f), none_of (index_in placement.rect.size t) (λ in_. off.1 (of_inside placement.rect.size t in_).f))

  -- a choice says one thing of it
  pub new_is : (choice : List Bool) (p : At) → IsOneStep p → is_new_around wrap m.size placement choice (cell_at_frame p) ≡ is_new framed choice p
  new_is choice p (inl e) = ap (λ s. chosen choice (index_in placement.rect.size s)) e
  new_is choice p (inr none) = ap (chosen choice) (none.0 ∙ sym none.1)

  pub after_is : (choice : List Bool) (p : At) → IsOneStep p → after_around m wrap placement choice (cell_at_frame p) ≡ after_framed choice p
  after_is choice p (inl e) = ap (λ s. if chosen choice (index_in placement.rect.size s) then Some (plus placement.from s) else before p) e
  after_is choice p (inr none) =
      ap (λ i. if chosen choice i then Some (plus placement.from (step_at p)) else before p) none.0
      ∙ sym (ap (λ i. if chosen choice i then Some (new_source framed p) else before p) none.1)

  module _ (d : At → At → ℕ) (choice : List Bool) where
    abbrev whole : At → Option At
    whole = map_around wrap m.size (after_around m wrap placement choice)

    period_on : (wrapped : Bool) (n : ℕ) (corner : ℤ) (len k offset : ℕ) → IsFramed wrapped n corner len k offset → (i : ℕ) → i < k
        → around_axis wrapped n (pos (n + i) +ℤ pos 0) ≡ around_axis wrapped n (pos i +ℤ pos 0)
    period_on wrapped n corner len k offset is i lt = ap (around_axis wrapped n) (none_on (pos (n + i))) ∙ is.period i lt ∙ ap (around_axis wrapped n) (sym (none_on (pos i)))

    turn_x : (i y f : ℕ) → i < fx.start → pairs_at d whole (spot (m.size.w + i) y f) ≡ pairs_at d whole (spot i y f)
    turn_x i y f lt =
        λ k. seam_of d X (here k) (to (fx.framed.period_next i lt k) (pos y +ℤ pos 0) (pos f +ℤ pos 0)) + seam_of d Y (here k) (to (zero_on k) (pos y +ℤ pos 1) (pos f +ℤ pos 0)) + seam_of d F (here k) (to (zero_on k) (pos y +ℤ pos 0) (pos f +ℤ pos 1))
      where
        to : ℤ → ℤ → ℤ → Option At
        to x' y' f' = after_around m wrap placement choice (record { x = x'; y = around_axis wrap.y m.size.h y'; f = around_axis wrap.f m.size.f f' })

        zero_on : around_axis wrap.x m.size.w (pos (m.size.w + i) +ℤ pos 0) ≡ around_axis wrap.x m.size.w (pos i +ℤ pos 0)
        zero_on = period_on wrap.x m.size.w placement.rect.corner.x placement.rect.size.w fx.start fx.offset fx.framed i lt

        here : whole (spot (m.size.w + i) y f) ≡ whole (spot i y f)
        here = λ k. to (fx.framed.period i lt k) (pos y) (pos f)

    turn_y : (x i f : ℕ) → i < fy.start → pairs_at d whole (spot x (m.size.h + i) f) ≡ pairs_at d whole (spot x i f)
    turn_y x i f lt =
        λ k. seam_of d X (here k) (to (pos x +ℤ pos 1) (zero_on k) (pos f +ℤ pos 0)) + seam_of d Y (here k) (to (pos x +ℤ pos 0) (fy.framed.period_next i lt k) (pos f +ℤ pos 0)) + seam_of d F (here k) (to (pos x +ℤ pos 0) (zero_on k) (pos f +ℤ pos 1))
      where
        to : ℤ → ℤ → ℤ → Option At
        to x' y' f' = after_around m wrap placement choice (record { x = around_axis wrap.x m.size.w x'; y = y'; f = around_axis wrap.f m.size.f f' })

        zero_on : around_axis wrap.y m.size.h (pos (m.size.h + i) +ℤ pos 0) ≡ around_axis wrap.y m.size.h (pos i +ℤ pos 0)
        zero_on = period_on wrap.y m.size.h placement.rect.corner.y placement.rect.size.h fy.start fy.offset fy.framed i lt

        here : whole (spot x (m.size.h + i) f) ≡ whole (spot x i f)
        here = λ k. to (pos x) (fy.framed.period i lt k) (pos f)

    turn_f : (x y i : ℕ) → i < ff.start → pairs_at d whole (spot x y (m.size.f + i)) ≡ pairs_at d whole (spot x y i)
    turn_f x y i lt =
        λ k. seam_of d X (here k) (to (pos x +ℤ pos 1) (pos y +ℤ pos 0) (zero_on k)) + seam_of d Y (here k) (to (pos x +ℤ pos 0) (pos y +ℤ pos 1) (zero_on k)) + seam_of d F (here k) (to (pos x +ℤ pos 0) (pos y +ℤ pos 0) (ff.framed.period_next i lt k))
      where
        to : ℤ → ℤ → ℤ → Option At
        to x' y' f' = after_around m wrap placement choice (record { x = around_axis wrap.x m.size.w x'; y = around_axis wrap.y m.size.h y'; f = f' })

        zero_on : around_axis wrap.f m.size.f (pos (m.size.f + i) +ℤ pos 0) ≡ around_axis wrap.f m.size.f (pos i +ℤ pos 0)
        zero_on = period_on wrap.f m.size.f placement.rect.corner.f placement.rect.size.f ff.start ff.offset ff.framed i lt

        here : whole (spot x y (m.size.f + i)) ≡ whole (spot x y i)
        here = λ k. to (pos x) (pos y) (ff.framed.period i lt k)

    -- what is at a place of the frame, and at the next one
    at_place : (x y f : ℕ) → x ≤ m.size.w → y ≤ m.size.h → f ≤ m.size.f → whole (plus start (spot x y f)) ≡ after_framed choice (spot x y f)
    at_place x y f lx ly lf = after_is choice (spot x y f) (one_step x y f lx ly lf)

    here_is : (x y f : ℕ) → x < m.size.w → y < m.size.h → f < m.size.f → whole (spot (fx.start + x) (fy.start + y) (ff.start + f)) ≡ after_framed choice (spot x y f)
    here_is x y f lx ly lf = (λ k. whole (record { x = sum_on fx.start x k; y = sum_on fy.start y k; f = sum_on ff.start f k })) ∙ at_place x y f (omega arith) (omega arith) (omega arith)

    next_is : (axis : Axis) (x y f : ℕ) → x < m.size.w → y < m.size.h → f < m.size.f
        → whole (plus (spot (fx.start + x) (fy.start + y) (ff.start + f)) (unit_step axis)) ≡ after_framed choice (plus (spot x y f) (unit_step axis))
    next_is X x y f lx ly lf =
        (λ k. whole (record { x = one_more fx.start x k; y = no_more fy.start y k; f = no_more ff.start f k })) ∙ at_place (x + 1) y f (omega arith) (omega arith) (omega arith)
        ∙ (λ k. after_framed choice (record { x = one_on x k; y = sym (none_on (pos y)) k; f = sym (none_on (pos f)) k }))
    next_is Y x y f lx ly lf =
        (λ k. whole (record { x = no_more fx.start x k; y = one_more fy.start y k; f = no_more ff.start f k })) ∙ at_place x (y + 1) f (omega arith) (omega arith) (omega arith)
        ∙ (λ k. after_framed choice (record { x = sym (none_on (pos x)) k; y = one_on y k; f = sym (none_on (pos f)) k }))
    next_is F x y f lx ly lf =
        (λ k. whole (record { x = no_more fx.start x k; y = no_more fy.start y k; f = one_more ff.start f k })) ∙ at_place x y (f + 1) (omega arith) (omega arith) (omega arith)
        ∙ (λ k. after_framed choice (record { x = sym (none_on (pos x)) k; y = sym (none_on (pos y)) k; f = one_on f k }))

    pub torus_is : torus_total_after d m wrap placement choice ≡ total_of d m.size (after_framed choice)
    torus_is =
        rotate_box m.size fx.start fy.start ff.start (λ x y f. pairs_at d whole (spot x y f)) fx.framed.few fy.framed.few ff.framed.few turn_x turn_y turn_f
        ∙ box_equal counts m.size _ _ (λ x y f lx ly lf. λ k.
        seam_of d X (here_is x y f lx ly lf k) (next_is X x y f lx ly lf k) + seam_of d Y (here_is x y f lx ly lf k) (next_is Y x y f lx ly lf k) + seam_of d F (here_is x y f lx ly lf k) (next_is F x y f lx ly lf k))
