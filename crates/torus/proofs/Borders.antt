-- Two choices that are admissible on the torus change the torus total as they change the window sum
-- of the box.
use Rattle.std.proofs.Common.{◌≡◌, ℕ, ◌+◌, ◌<◌, ◌≤◌, ◌⊎◌, inl, inr, refl, ap, sym, ◌∙◌, subst, arith, Bool, true, false, List}
use Rattle.std.proofs.lemmas.Int.{ints}
use mathlib.Core.Bool.{false≢true}
use Rattle.std.specs.Prelude.{ℤ, pos, ◌+ℤ◌, ◌-ℤ◌, ◌<ℤ◌, Option, Some, None, is_some, if◌then◌else◌}
use Rattle.cells.specs.declared.place.At.{At}
use Rattle.cells.specs.declared.place.Axis.{Axis}
use Rattle.cells.specs.declared.place.Axis.TheVariants.{X, Y, F}
use Rattle.cells.specs.Boxes.{AxisHolds, HoldsBox, IsInBox}
use Rattle.cells.specs.Places.{IsInside, minus, plus, spot}
use Rattle.cells.specs.Neighbours.{unit_step}
use Rattle.cells.proofs.BoxTests.{inside_of, of_inside, on_axis_bounds}
use Rattle.boxes.proofs.Additions.{counts}
use Rattle.boxes.proofs.Boxes.{box_equal, box_plus}
use Rattle.map_canvas.specs.declared.canvas.Placement.{Placement}
use Rattle.map_canvas.specs.Maps.{SourceMap}
use Rattle.map_canvas.specs.Choices.{new_source}
use Rattle.boxes.specs.Pairs.{in_box}
use Rattle.costs.specs.Costs.{map_within, pair_at, pairs_at, seam_of, total_of, window_of}
use Rattle.costs.specs.Lawful.{is_new}
use Rattle.costs.proofs.Boxes.{total_within}
use Rattle.costs.proofs.Locality.{outside_old, seam_none}
use Rattle.job_words.specs.declared.tile.Wrap.{Wrap}
use Rattle.torus.specs.Wraps.{around_axis}
use Rattle.torus.specs.Tiles.{AreNeighboursAround, Follows, IsInTile, IsKeptAround, IsLawfulAround}
use Rattle.torus.proofs.Axes.{HasFrame, IsFramed}
use Rattle.torus.proofs.Frames.{IsOneStep, after_framed, before, cell_at_frame, framed, new_is, next_spot, none_on, one_step}

-- a pair with a cell outside costs the same in both maps, and one inside costs what it costs in their parts in the box
-- (seams proves this one too, and doesn't export it)
within_or_same : (d : At → At → ℕ) (axis : Axis) (b c : Bool) (p q p' q' : Option At) → ((b ≡ false) ⊎ (c ≡ false) → seam_of d axis p q ≡ seam_of d axis p' q')
    → seam_of d axis p q + seam_of d axis (if b then p' else None) (if c then q' else None) ≡ seam_of d axis p' q' + seam_of d axis (if b then p else None) (if c then q else None)
within_or_same d axis true true p q p' q' same = omega arith
within_or_same d axis true false p q p' q' same = omega (arith, same (inr refl), seam_none d axis p, seam_none d axis p')
within_or_same d axis false c p q p' q' same = omega (arith, same (inl refl))

module _ (m : SourceMap) (wrap : Wrap) (placement : Placement)
    (fx : HasFrame wrap.x m.size.w placement.rect.corner.x placement.rect.size.w)
    (fy : HasFrame wrap.y m.size.h placement.rect.corner.y placement.rect.size.h)
    (ff : HasFrame wrap.f m.size.f placement.rect.corner.f placement.rect.size.f) where
  abbrev framed_here : Placement
  framed_here = framed m wrap placement fx fy ff

  abbrev cell : At → At
  cell p = cell_at_frame m wrap placement fx fy ff p

  abbrev has : At → Option At
  has p = before m wrap placement fx fy ff p

  abbrev after : List Bool → At → Option At
  after choice p = after_framed m wrap placement fx fy ff choice p

  abbrev OneStep : At → Type 0
  OneStep p = IsOneStep m wrap placement fx fy ff p

  -- a place of the frame that isn't its end stands for a cell of the output
  inside_at : (x y f : ℕ) → x < m.size.w → y < m.size.h → f < m.size.f → IsInside m.size (cell (spot x y f))
  inside_at x y f lx ly lf = inside_of m.size (cell (spot x y f)) (record { x = fx.framed.on x lx; y = fy.framed.on y ly; f = ff.framed.on f lf })

  -- a place of the frame is in the box where its cell is one of the torus box's
  tile_of : (p : At) → OneStep p → IsInside m.size (cell p) → IsInBox framed_here.rect p → IsInTile wrap m.size placement.rect (cell p)
  tile_of p (inl e) inside in_ = record { inside = inside; step = subst (IsInside placement.rect.size) (sym e) in_ }
  tile_of p (inr none) inside in_ = absurd (false≢true (sym (ap is_some none.1) ∙ in_))

  box_of : (p : At) → OneStep p → IsInTile wrap m.size placement.rect (cell p) → IsInBox framed_here.rect p
  box_of p (inl e) tile = subst (IsInside placement.rect.size) e tile.step
  box_of p (inr none) tile = absurd (false≢true (sym (ap is_some none.0) ∙ tile.step))

  -- one step on in the frame is one step on around the output
  follows : (axis : Axis) (x y f : ℕ) → x < m.size.w → y < m.size.h → f < m.size.f
      → Follows wrap m.size axis (cell (spot x y f)) (cell (plus (spot x y f) (unit_step axis)))
  follows axis x y f lx ly lf = by axis
    where
      stay : (wrapped : Bool) (n : ℕ) (corner : ℤ) (len k offset : ℕ) → IsFramed wrapped n corner len k offset → (i : ℕ) → i < n
          → around_axis wrapped n (pos k +ℤ (pos i +ℤ pos 0)) ≡ around_axis wrapped n (around_axis wrapped n (pos k +ℤ pos i) +ℤ pos 0)
      stay wrapped n corner len k offset is i lt = ap (λ z. around_axis wrapped n (pos k +ℤ z)) (none_on (pos i)) ∙ is.stays i lt

      by : (axis : Axis) → Follows wrap m.size axis (cell (spot x y f)) (cell (plus (spot x y f) (unit_step axis)))
      by X = λ k. record { x = fx.framed.follows x lx k; y = stay _ _ _ _ _ _ fy.framed y ly k; f = stay _ _ _ _ _ _ ff.framed f lf k }
      by Y = λ k. record { x = stay _ _ _ _ _ _ fx.framed x lx k; y = fy.framed.follows y ly k; f = stay _ _ _ _ _ _ ff.framed f lf k }
      by F = λ k. record { x = stay _ _ _ _ _ _ fx.framed x lx k; y = stay _ _ _ _ _ _ fy.framed y ly k; f = ff.framed.follows f lf k }

  -- what a choice leaves at a place of the frame
  after_old : (choice : List Bool) (p : At) → is_new framed_here choice p ≡ false → after choice p ≡ has p
  after_old choice p old = ap (λ b. if b then Some (new_source framed_here p) else has p) old

  after_new : (choice : List Bool) (p : At) → is_new framed_here choice p ≡ true → after choice p ≡ Some (new_source framed_here p)
  after_new choice p new = ap (λ b. if b then Some (new_source framed_here p) else has p) new

  outside : (choice : List Bool) (p : At) → in_box framed_here.rect p ≡ false → after choice p ≡ has p
  outside choice p out = after_old choice p (outside_old framed_here choice p (λ inside. absurd (false≢true (sym out ∙ inside))))

  module _ (d : At → At → ℕ) (choice other : List Bool) (lawful : IsLawfulAround m wrap placement choice) (lawful' : IsLawfulAround m wrap placement other) where
    -- a cell of the box with a filled neighbour outside has one source after both choices
    border : (p q a : At) → OneStep p → OneStep q → IsInside m.size (cell p) → in_box framed_here.rect p ≡ true → in_box framed_here.rect q ≡ false → AreNeighboursAround wrap m.size (cell p) (cell q) → has q ≡ Some a
        → after choice p ≡ after other p
    border p q a step_p step_q inside in_p out_q beside filled = by (has p) refl
      where
        tile : IsInTile wrap m.size placement.rect (cell p)
        tile = tile_of p step_p inside in_p

        by : (s : Option At) → has p ≡ s → after choice p ≡ after other p
        by None e =
            after_new choice p (sym (new_is m wrap placement fx fy ff choice p step_p) ∙ lawful.unfilled (cell p) tile e)
            ∙ sym (after_new other p (sym (new_is m wrap placement fx fy ff other p step_p) ∙ lawful'.unfilled (cell p) tile e))
        by (Some s) e =
            let kept : IsKeptAround m wrap placement.rect (cell p) = record {
              inside = tile;
              filled = ap is_some e;
              other = cell q;
              beside = beside;
              other_filled = ap is_some filled;
              outside = λ t. false≢true (sym out_q ∙ box_of q step_q t);
            } in
            after_old choice p (sym (new_is m wrap placement fx fy ff choice p step_p) ∙ lawful.kept (cell p) kept)
            ∙ sym (after_old other p (sym (new_is m wrap placement fx fy ff other p step_p) ∙ lawful'.kept (cell p) kept))

    -- a pair with a cell outside costs the same after both
    across : (axis : Axis) (x y f : ℕ) → x < m.size.w → y < m.size.h → f < m.size.f → (b c : Bool) → in_box framed_here.rect (spot x y f) ≡ b → in_box framed_here.rect (plus (spot x y f) (unit_step axis)) ≡ c → (b ≡ false) ⊎ (c ≡ false)
        → seam_of d axis (after choice (spot x y f)) (after choice (plus (spot x y f) (unit_step axis))) ≡ seam_of d axis (after other (spot x y f)) (after other (plus (spot x y f) (unit_step axis)))
    across axis x y f lx ly lf b c in_p in_q out = by b c in_p in_q out
      where
        p : At
        p = spot x y f

        q : At
        q = plus (spot x y f) (unit_step axis)

        step_p : OneStep p
        step_p = one_step m wrap placement fx fy ff x y f (omega arith) (omega arith) (omega arith)

        step_q : OneStep q
        step_q = let n = next_spot axis x y f in subst OneStep n.6 (one_step m wrap placement fx fy ff n.0 n.1 n.2 (omega (arith, n.3)) (omega (arith, n.4)) (omega (arith, n.5)))

        next : Follows wrap m.size axis (cell p) (cell q)
        next = follows axis x y f lx ly lf

        -- a place of the box isn't the end of the frame
        inside_q : in_box framed_here.rect q ≡ true → IsInside m.size (cell q)
        inside_q in_ =
            let n = next_spot axis x y f in
            let at = of_inside placement.rect.size (minus q framed_here.rect.corner) in_ in
            subst (λ r. IsInside m.size (cell r)) n.6
            (inside_at n.0 n.1 n.2
            (below n.0 q.x fx.offset placement.rect.size.w m.size.w (ap (λ r. r.x) n.6) fx.framed.room (on_axis_bounds placement.rect.size.w (q.x -ℤ pos fx.offset) at.x).1)
            (below n.1 q.y fy.offset placement.rect.size.h m.size.h (ap (λ r. r.y) n.6) fy.framed.room (on_axis_bounds placement.rect.size.h (q.y -ℤ pos fy.offset) at.y).1)
            (below n.2 q.f ff.offset placement.rect.size.f m.size.f (ap (λ r. r.f) n.6) ff.framed.room (on_axis_bounds placement.rect.size.f (q.f -ℤ pos ff.offset) at.f).1))
          where
            below : (i : ℕ) (z : ℤ) (offset len n : ℕ) → pos i ≡ z → offset + len ≤ n → (z -ℤ pos offset) <ℤ pos len → i < n
            below i z offset len n e room lt = omega (arith, ints)

        by : (b c : Bool) → in_box framed_here.rect p ≡ b → in_box framed_here.rect q ≡ c → (b ≡ false) ⊎ (c ≡ false)
            → seam_of d axis (after choice p) (after choice q) ≡ seam_of d axis (after other p) (after other q)
        by true true in_p in_q (inl e) = absurd (false≢true (sym e))
        by true true in_p in_q (inr e) = absurd (false≢true (sym e))
        by false false in_p in_q out = λ k. seam_of d axis ((outside choice p in_p ∙ sym (outside other p in_p)) k) ((outside choice q in_q ∙ sym (outside other q in_q)) k)
        by true false in_p in_q out =
            ap (seam_of d axis (after choice p)) (outside choice q in_q) ∙ last (has q) refl ∙ ap (seam_of d axis (after other p)) (sym (outside other q in_q))
          where
            last : (a : Option At) → has q ≡ a → seam_of d axis (after choice p) (has q) ≡ seam_of d axis (after other p) (has q)
            last None e =
                ap (seam_of d axis (after choice p)) e ∙ seam_none d axis (after choice p) ∙ sym (seam_none d axis (after other p)) ∙ ap (seam_of d axis (after other p)) (sym e)
            last (Some a) e =
                ap (λ s. seam_of d axis s (has q)) (border p q a step_p step_q (inside_at x y f lx ly lf) in_p in_q (record { axis = axis; next = inl next }) e)
        by false true in_p in_q out =
            ap (λ s. seam_of d axis s (after choice q)) (outside choice p in_p) ∙ first (has p) refl ∙ ap (λ s. seam_of d axis s (after other q)) (sym (outside other p in_p))
          where
            first : (a : Option At) → has p ≡ a → seam_of d axis (has p) (after choice q) ≡ seam_of d axis (has p) (after other q)
            first None e = ap (λ s. seam_of d axis s (after choice q)) e ∙ ap (λ s. seam_of d axis s (after other q)) (sym e)
            first (Some a) e =
                ap (seam_of d axis (has p)) (border q p a step_q step_p (inside_q in_q) in_q in_p (record { axis = axis; next = inr next }) e)

    one_pair : (axis : Axis) (x y f : ℕ) → x < m.size.w → y < m.size.h → f < m.size.f
        → pair_at d (after choice) axis (spot x y f) + pair_at d (map_within framed_here.rect (after other)) axis (spot x y f)
        ≡ pair_at d (after other) axis (spot x y f) + pair_at d (map_within framed_here.rect (after choice)) axis (spot x y f)
    one_pair axis x y f lx ly lf =
        within_or_same d axis (in_box framed_here.rect (spot x y f)) (in_box framed_here.rect (plus (spot x y f) (unit_step axis))) _ _ _ _ (across axis x y f lx ly lf _ _ refl refl)

    three_pairs : (x y f : ℕ) → x < m.size.w → y < m.size.h → f < m.size.f
        → pairs_at d (after choice) (spot x y f) + pairs_at d (map_within framed_here.rect (after other)) (spot x y f)
        ≡ pairs_at d (after other) (spot x y f) + pairs_at d (map_within framed_here.rect (after choice)) (spot x y f)
    three_pairs x y f lx ly lf = add _ _ _ _ _ _ _ _ _ _ _ _ (one_pair X x y f lx ly lf) (one_pair Y x y f lx ly lf) (one_pair F x y f lx ly lf)
      where
        add : (a b c d e f g h i j k l : ℕ) → a + b ≡ c + d → e + f ≡ g + h → i + j ≡ k + l → (a + e + i) + (b + f + j) ≡ (c + g + k) + (d + h + l)
        add a b c d e f g h i j k l p q r = omega arith

    holds : HoldsBox m.size framed_here.rect.corner framed_here.rect.size
    holds = record { x = axis fx.offset _ _ fx.framed.room; y = axis fy.offset _ _ fy.framed.room; f = axis ff.offset _ _ ff.framed.room }
      where
        axis : (offset len n : ℕ) → offset + len ≤ n → AxisHolds n (pos offset) len
        axis offset len n room = record { from = omega (arith, ints); to = omega (arith, ints) }

    pub changes_as_window :
        total_of d m.size (after choice) + window_of d framed_here.rect (after other) ≡ total_of d m.size (after other) + window_of d framed_here.rect (after choice)
    changes_as_window =
        ap (λ n. total_of d m.size (after choice) + n) (sym (total_within d m.size framed_here.rect (after other) holds))
        ∙ sym (box_plus counts m.size _ _) ∙ box_equal counts m.size _ _ (λ x y f lx ly lf. three_pairs x y f lx ly lf) ∙ box_plus counts m.size _ _
        ∙ ap (λ n. total_of d m.size (after other) + n) (total_within d m.size framed_here.rect (after choice) holds)
