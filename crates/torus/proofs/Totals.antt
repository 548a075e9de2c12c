-- Of two admissible choices the total of the small canvas and the torus total differ by the same
-- number.
use Rattle.std.proofs.Common.{◌≡◌, ℕ, ◌+◌, ◌≤◌, refl, ap, sym, ◌∙◌, subst, arith, Bool, true, false, List}
use Rattle.std.proofs.lemmas.Int.{ints}
use Rattle.std.specs.Prelude.{pos, Option, Some, if◌then◌else◌}
use Rattle.cells.specs.declared.place.At.{At}
use Rattle.cells.specs.declared.place.Size.{Size}
use Rattle.cells.specs.declared.place.Axis.{Axis}
use Rattle.cells.specs.declared.place.Axis.TheVariants.{X, Y, F}
use Rattle.cells.specs.declared.place.Box3.{Box3}
use Rattle.cells.specs.Boxes.{AxisHolds, HoldsBox, cell_in}
use Rattle.cells.specs.Places.{index_in, plus, spot}
use Rattle.cells.specs.Neighbours.{unit_step}
use Rattle.cells.proofs.BoxLaws.{plus_minus}
use Rattle.boxes.proofs.Additions.{counts}
use Rattle.boxes.proofs.Boxes.{box_equal}
use Rattle.map_canvas.specs.declared.canvas.Placement.{Placement}
use Rattle.map_canvas.specs.Maps.{SourceMap, map_at}
use Rattle.map_canvas.specs.Choices.{after_at, chosen}
use Rattle.boxes.specs.Pairs.{AreCounts, IsPair, has_next, one_if}
use Rattle.boxes.proofs.Cells.{cell_inside, counts_f, counts_x, counts_y, next_in, next_is}
use Rattle.costs.specs.Costs.{pair_at, seam_of, window_of}
use Rattle.costs.specs.Lawful.{IsLeastChoice, window_after}
use Rattle.costs.proofs.Locality.{changes_as_window}
use Rattle.costs.proofs.Windows.{pair_within, window_pairs}
use Rattle.job_words.specs.declared.tile.Wrap.{Wrap}
use Rattle.torus.specs.Wraps.{around}
use Rattle.torus.specs.Tiles.{DifferAlike, IsLeastAround, IsSmallMap, LawfulAlike, LeastAlike, Takes, has_before, small_box, small_placement, small_size}
use Rattle.torus.proofs.Axes.{HasFrame, frame_of}
use Rattle.torus.proofs.Borders.{changes_as_window as changes_around}
use Rattle.torus.proofs.Frames.{after_framed, before, framed, torus_is}
use Rattle.torus.proofs.SmallAxes.{IsSmallAxis, small_axis_of}
use Rattle.torus.proofs.Smalls.{box_inside, lawful_around, lawful_small, source_is}

-- two maps that have the same in two boxes of one size have one window sum there
module _ (d : At → At → ℕ) (size : Size) (c c' : At) (m n : At → Option At) where
  abbrev one : Box3
  one = record { corner = c; size = size }

  abbrev other : Box3
  other = record { corner = c'; size = size }

  module _ (same : (x y f : ℕ) → AreCounts size x y f → m (cell_in one x y f) ≡ n (cell_in other x y f)) where
    next_same : (axis : Axis) (x y f : ℕ) → IsPair size axis x y f → m (plus (cell_in one x y f) (unit_step axis)) ≡ n (plus (cell_in other x y f) (unit_step axis))
    next_same axis x y f pair = ap m (next_is one axis x y f) ∙ by axis pair ∙ ap n (sym (next_is other axis x y f))
      where
        by : (axis : Axis) → IsPair size axis x y f → m (next_in one axis x y f) ≡ n (next_in other axis x y f)
        by X pair = same (x + 1) y f (counts_x size x y f pair)
        by Y pair = same x (y + 1) f (counts_y size x y f pair)
        by F pair = same x y (f + 1) (counts_f size x y f pair)

    pair_same : (axis : Axis) (x y f : ℕ) → AreCounts size x y f → pair_within d one m axis x y f ≡ pair_within d other n axis x y f
    pair_same axis x y f at = by (has_next size axis x y f) refl
      where
        by : (b : Bool) → has_next size axis x y f ≡ b → (if has_next size axis x y f then pair_at d m axis (cell_in one x y f) else 0) ≡ (if has_next size axis x y f then pair_at d n axis (cell_in other x y f) else 0)
        by true e =
            ap (λ b. if b then pair_at d m axis (cell_in one x y f) else 0) e
            ∙ (λ k. seam_of d axis (same x y f at k) (next_same axis x y f (record { counts = at; next = e }) k))
            ∙ ap (λ b. if b then pair_at d n axis (cell_in other x y f) else 0) (sym e)
        by false e = ap (λ b. if b then pair_at d m axis (cell_in one x y f) else 0) e ∙ ap (λ b. if b then pair_at d n axis (cell_in other x y f) else 0) (sym e)

    windows_same : window_of d one m ≡ window_of d other n
    windows_same =
        window_pairs d one m
        ∙ box_equal counts size _ _ (λ x y f lx ly lf. let at : AreCounts size x y f = record { column = lx; row = ly; frame = lf } in
        (λ k. pair_same X x y f at k + pair_same Y x y f at k + pair_same F x y f at k))
        ∙ sym (window_pairs d other n)

module _ (m : SourceMap) (wrap : Wrap) (placement : Placement) (small : SourceMap) (takes : Takes wrap m.size placement.rect) (is : IsSmallMap m wrap placement.rect small) where
  fx : HasFrame wrap.x m.size.w placement.rect.corner.x placement.rect.size.w
  fx = frame_of wrap.x m.size.w placement.rect.corner.x placement.rect.size.w takes.x

  fy : HasFrame wrap.y m.size.h placement.rect.corner.y placement.rect.size.h
  fy = frame_of wrap.y m.size.h placement.rect.corner.y placement.rect.size.h takes.y

  ff : HasFrame wrap.f m.size.f placement.rect.corner.f placement.rect.size.f
  ff = frame_of wrap.f m.size.f placement.rect.corner.f placement.rect.size.f takes.f

  abbrev inner : Box3
  inner = small_box wrap placement.rect

  -- a cell of the box has one source in the small canvas and in the frame
  source_same : (x y f : ℕ) → AreCounts placement.rect.size x y f → map_at small (cell_in inner x y f) ≡ before m wrap placement fx fy ff (cell_in (framed m wrap placement fx fy ff).rect x y f)
  source_same x y f at =
      source_is m wrap placement small takes is (cell_in inner x y f) (box_inside m wrap placement small takes is (cell_in inner x y f) (cell_inside inner x y f at))
      ∙ ap (λ s. map_at m (around wrap m.size (plus placement.rect.corner s))) (plus_minus inner.corner (spot x y f))
      ∙ (λ k. map_at m (record { x = sym (fx.framed.cells x at.column) k; y = sym (fy.framed.cells y at.row) k; f = sym (ff.framed.cells f at.frame) k }))

  after_same : (choice : List Bool) (x y f : ℕ) → AreCounts placement.rect.size x y f
      → after_at small (small_placement wrap placement) choice (cell_in inner x y f) ≡ after_framed m wrap placement fx fy ff choice (cell_in (framed m wrap placement fx fy ff).rect x y f)
  after_same choice x y f at =
      (λ k. form (plus_minus inner.corner (spot x y f) k) (source_same x y f at k))
      ∙ (λ k. form (sym (plus_minus (framed m wrap placement fx fy ff).rect.corner (spot x y f)) k) (before m wrap placement fx fy ff (cell_in (framed m wrap placement fx fy ff).rect x y f)))
    where
      form : At → Option At → Option At
      form s o = if chosen choice (index_in placement.rect.size s) then Some (plus placement.from s) else o

  window_same : (d : At → At → ℕ) (choice : List Bool)
      → window_after d small (small_placement wrap placement) choice ≡ window_of d (framed m wrap placement fx fy ff).rect (after_framed m wrap placement fx fy ff choice)
  window_same d choice = windows_same d placement.rect.size inner.corner (framed m wrap placement fx fy ff).rect.corner (after_at small (small_placement wrap placement) choice) (after_framed m wrap placement fx fy ff choice) (after_same choice)

  -- the box lies in the small canvas
  holds : HoldsBox small.size inner.corner inner.size
  holds = subst (λ s. HoldsBox s inner.corner inner.size) (sym is.size) (record { x = axis _ _ _ sx.room; y = axis _ _ _ sy.room; f = axis _ _ _ sf.room })
    where
      sx : IsSmallAxis wrap.x m.size.w placement.rect.corner.x placement.rect.size.w (one_if (has_before wrap.x placement.rect.corner.x)) (small_size wrap m.size placement.rect).w
      sx = small_axis_of wrap.x m.size.w placement.rect.corner.x placement.rect.size.w takes.x

      sy : IsSmallAxis wrap.y m.size.h placement.rect.corner.y placement.rect.size.h (one_if (has_before wrap.y placement.rect.corner.y)) (small_size wrap m.size placement.rect).h
      sy = small_axis_of wrap.y m.size.h placement.rect.corner.y placement.rect.size.h takes.y

      sf : IsSmallAxis wrap.f m.size.f placement.rect.corner.f placement.rect.size.f (one_if (has_before wrap.f placement.rect.corner.f)) (small_size wrap m.size placement.rect).f
      sf = small_axis_of wrap.f m.size.f placement.rect.corner.f placement.rect.size.f takes.f

      axis : (a len s : ℕ) → a + len ≤ s → AxisHolds s (pos a) len
      axis a len s room = record { from = omega (arith, ints); to = omega (arith, ints) }

  pub differ_alike : (d : At → At → ℕ) → DifferAlike d m wrap placement small
  differ_alike d choice other lawful lawful' =
      add _ _ _ _ _ _ _ _ (torus_is m wrap placement fx fy ff d choice) (torus_is m wrap placement fx fy ff d other)
      (changes_around m wrap placement fx fy ff d choice other lawful lawful')
      (changes_as_window d small (small_placement wrap placement) holds choice other (lawful_small m wrap placement small takes is choice lawful) (lawful_small m wrap placement small takes is other lawful'))
      (window_same d choice) (window_same d other)
    where
      add : (t t' u u' s s' w w' : ℕ) {v v' : ℕ} → t ≡ u → t' ≡ u' → u + v' ≡ u' + v → s + w' ≡ s' + w → w ≡ v → w' ≡ v' → t + s' ≡ t' + s
      add t t' u u' s s' w w' a b e g h h' = omega arith

  pub lawful_alike : LawfulAlike m wrap placement small
  lawful_alike choice = (lawful_around m wrap placement small takes is choice, lawful_small m wrap placement small takes is choice)

  pub least_alike : (d : At → At → ℕ) → LeastAlike d m wrap placement small
  least_alike d choice = (there, here)
    where
      there : IsLeastChoice d small (small_placement wrap placement) choice → IsLeastAround d m wrap placement choice
      there least = record {
        one = lawful_around m wrap placement small takes is choice least.one;
        least = λ other lawful. smaller (least.least other (lawful_small m wrap placement small takes is other lawful)) (differ_alike d choice other (lawful_around m wrap placement small takes is choice least.one) lawful);
      }
        where
          smaller : {t t' s s' : ℕ} → s ≤ s' → t + s' ≡ t' + s → t ≤ t'
          smaller le e = omega arith

      here : IsLeastAround d m wrap placement choice → IsLeastChoice d small (small_placement wrap placement) choice
      here least = record {
        one = lawful_small m wrap placement small takes is choice least.one;
        least = λ other lawful. smaller (least.least other (lawful_around m wrap placement small takes is other lawful)) (differ_alike d choice other least.one (lawful_around m wrap placement small takes is other lawful));
      }
        where
          smaller : {t t' s s' : ℕ} → t ≤ t' → t + s' ≡ t' + s → s ≤ s'
          smaller le e = omega arith
