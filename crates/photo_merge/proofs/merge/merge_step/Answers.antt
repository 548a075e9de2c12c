use Rattle.std.proofs.Common.{◌≡◌, ap, ◌∙◌, sym, subst}
use Rattle.map_canvas.specs.Choices.{Fits}
use Rattle.map_canvas.specs.Maps.{IsOver, SourceMap}
use Rattle.photo_merge.specs.Marks.{earlier_marks}
use Rattle.photo_merge.specs.Merges.{MergesNext, whole_from, without}
use Rattle.photo_merge.proofs.Nexts.{stays_full}
use Rattle.photo_merge.proofs.Stepping.{held_there, placed_next}
use Rattle.photo_merge.proofs.Withouts.{without_over}
use Rattle.photo_merge.proofs.merge.merge_step.Goals as goal
use Rattle.photo_merge.proofs.merge.merge_step.Goals.{After-deref}

-- what is laid over the map without the picture's cells, and what is held of it
module _ (c : After-deref) where
  abbrev before : SourceMap
  before = c.args.canvas.map

  rest_is : c.in_ok-map.map ≡ without before c.args.marks.now c.args.number
  rest_is = c.in_ok-map.ensures {u = tt} ∙ ap (λ (m : SourceMap). without m c.args.marks.now c.args.number) c.map.ensures.map

  size_is : c.size-size.result ≡ before.size
  size_is = c.size-size.ensures.size ∙ ap (λ (m : SourceMap). m.size) rest_is

  next_is : c.in_ok-next.next.map ≡ without before c.args.marks.now c.args.number
  next_is = (c.in_ok-next.ensures {u = tt}).map ∙ rest_is

  placement_is : c.whole_from-placement.result ≡ whole_from c.args.pictures.now c.args.number before.size
  placement_is = c.whole_from-placement.ensures.placement ∙ ap (whole_from c.args.pictures.now c.args.number) size_is

  held_is : c.deref.result.now ≡ earlier_marks c.args.marks.now before.size c.args.number
  held_is = c.deref.ensures.value ∙ c.in_ok-held.ensures {u = tt} ∙ ap (λ size. earlier_marks c.args.marks.now size c.args.number) size_is

pub of_map-requires : goal.of_map-requires
of_map-requires c =
    subst (λ m. IsOver m c.args.pictures.now) (sym (c.in_ok-map.ensures {u = tt} ∙ ap (λ (m : SourceMap). without m c.args.marks.now c.args.number) c.map.ensures.map))
    (without_over c.args.canvas.map c.args.marks.now c.args.number c.args.pictures.now c.requires.stands.over)

pub place_held-placed-requires-clause-held : goal.place_held-placed-requires-clause-held
place_held-placed-requires-clause-held c =
    let d = (goal.at.place_held-placed-requires-clause-held c).After-deref in
    held_there c.args.pictures.now c.args.marks.now c.args.number c.args.canvas.map c.in_ok-next.next.map c.whole_from-placement.result c.deref.result.now
    c.requires.full (next_is d) (placement_is d) (held_is d)

pub returns-clause-next : goal.returns-clause-next
returns-clause-next c =
    let d = (goal.at.returns-clause-next c).After-deref in
    placed_next c.args.pictures.now c.args.marks.now c.args.number c.args.canvas.map c.in_ok-next.next c.place_held-placed.new.canvas c.whole_from-placement.result c.deref.result.now
    c.in-Ok.field-0 (next_is d) (placement_is d) (held_is d) (c.in-Ok.ensures {u = tt}).placed

pub returns-clause-full : goal.returns-clause-full
returns-clause-full c =
    let d = (goal.at.returns-clause-full c).After-deref in
    let next : MergesNext c.args.pictures.now c.args.marks.now c.args.number c.args.canvas.map c.place_held-placed.new.canvas.map =
    placed_next c.args.pictures.now c.args.marks.now c.args.number c.args.canvas.map c.in_ok-next.next c.place_held-placed.new.canvas c.whole_from-placement.result c.deref.result.now
    c.in-Ok.field-0 (next_is d) (placement_is d) (held_is d) (c.in-Ok.ensures {u = tt}).placed in
    stays_full c.args.pictures.now c.args.marks.now c.args.number c.args.canvas.map c.place_held-placed.new.canvas.map next c.requires.full

pub place_held-placed-requires-clause-fits : goal.place_held-placed-requires-clause-fits
place_held-placed-requires-clause-fits c =
    subst (λ size. Fits size c.args.pictures.now c.whole_from-placement.result)
    (c.size-size.ensures.size ∙ ap (λ (m : SourceMap). m.size) (sym (c.in_ok-next.ensures {u = tt}).map))
    c.whole_from-placement.ensures.fits
