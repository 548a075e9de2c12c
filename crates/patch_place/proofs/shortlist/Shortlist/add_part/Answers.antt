use Rattle.std.proofs.lemmas.Grind.{common_steps}
use Rattle.std.proofs.Common.{◌≡◌, ◌≤◌, ◌<◌, ◌+◌, ◌++◌, map, take, ap, refl, rules, sym, subst, ◌∙◌, arith}
use Rattle.std.proofs.lemmas.List.{append-nil}
use Rattle.std.specs.Prelude.{Some, slice_get}
use Rattle.search_squares.specs.Eliminations.{AreEliminatedBy}
use Rattle.cells.specs.Places.{cell_count}
use Rattle.cells.specs.SizeLists.{frames_to_part}
use Rattle.map_canvas.specs.Choices.{laid_from}
use Rattle.patch_place.specs.declared.shortlist.Shortlist.{Shortlist}
use Rattle.patch_place.specs.BoxErrors.{sum_from}
use Rattle.patch_picks.specs.Counts.{entries_before}
use Rattle.patch_place.specs.Spots.{room_entries}
use Rattle.patch_picks.specs.Lists.{fit_list}
use Rattle.patch_picks.proofs.BoxLists.{cells_of_index}
use Rattle.patch_place.specs.Tables.{IsLimitOf, IsSeenTo, IsShortlist}
use Rattle.patch_place.proofs.Passing.{in_row, run_passed, spot_asked}
use Rattle.patch_place.proofs.Walking.{row_within}
use Rattle.patch_place.proofs.BoxWalk.{box_few, box_step, errors_all, errors_more, room_entry}
use Rattle.patch_place.proofs.shortlist.Shortlist.add_part.Goals as goal

pub entries-init : goal.entries-init
entries-init g c = record {
  short = subst (IsShortlist c.args.self.now) (sym (append-nil (map (g.E.BoxErrors.error c.args.errors.now) (entries_before (fit_list c.args.rect.now) c.args.sizes.now c.args.n)))) c.requires.so_far;
  sound = c.requires.sound;
  limited = c.limit_for-limit.ensures;
  seen = omega arith;
  within = omega arith;
  tol = refl;
  known = refl;
  run = c.none-skips.ensures (sum_from (g.E.BoxErrors.error c.args.errors.now) c.args.rect.now);
  spot = search rules;
}

pub go_to-requires-clause-asked : goal.go_to-requires-clause-asked
go_to-requires-clause-asked g c =
    spot_asked (g.E.BoxErrors.MayAsk c.args.errors.now) c.args.rect.now c.args.sizes.now c.args.n c.part_after.result c.room-free.result c.part_after.ensures.size c.room-free.ensures.room c.requires.asked c.entries.done c.entries.spot
    (omega (arith, c.place_count-all.ensures, c.entries-test.true)) c.entries.invariant.spot c.place.result c.place.ensures

pub add_one-requires-clause-asked : goal.add_one-requires-clause-asked
add_one-requires-clause-asked g c =
    spot_asked (g.E.BoxErrors.MayAsk c.args.errors.now) c.args.rect.now c.args.sizes.now c.args.n c.part_after.result c.room-free.result c.part_after.ensures.size c.room-free.ensures.room c.requires.asked c.entries.done c.entries.spot
    (omega (arith, c.place_count-all.ensures, c.entries-test.true)) c.entries.invariant.spot c.place.result c.place.ensures

pub add_one-requires-clause-few : goal.add_one-requires-clause-few
add_one-requires-clause-few g c =
    let after = box_step c.args.rect.now c.args.sizes.now c.args.n c.args.self.now.seen c.part_after.result c.room-free.result c.part_after.ensures.size c.room-free.ensures.room c.requires.seen in
    let few : c.args.self.now.seen + cell_count c.room-free.result ≤ 268435456 = box_few c.args.rect.now c.args.sizes.now (c.args.n + 1) _ c.requires.parts after in
    omega (arith, few, c.entries.invariant.seen, c.place_count-all.ensures, c.entries-test.true)

pub entries-preserved : goal.entries-preserved
entries-preserved g c =
    let f = g.E.BoxErrors.error c.args.errors.now in
    let sizes = c.args.sizes.now in
    let entry = laid_from c.args.rect.now c.place.result in
    let list = room_entries c.args.rect.now sizes c.args.n c.room-free.result in
    let before = map f (entries_before (fit_list c.args.rect.now) sizes c.args.n) in
    let at : slice_get list c.entries.done ≡ Some entry =
    room_entry sizes c.args.n c.args.rect.now c.room-free.result c.entries.done c.entries.spot (omega (arith, c.place_count-all.ensures, c.entries-test.true)) c.entries.invariant.spot
    ∙ ap (λ p. Some (laid_from c.args.rect.now p)) (sym c.place.ensures) in
    record {
      short =
          subst (IsShortlist c.add_one.new.self) (errors_more f before list c.entries.done entry at)
          (c.in_ok-limit.ensures.more (before ++ map f (take c.entries.done list)) c.entries.invariant.short);
      sound = c.in_ok-limit.ensures.sound;
      limited = c.in_ok-limit.ensures.limit;
      seen = omega (arith, c.in_ok-limit.ensures.seen, c.entries.invariant.seen);
      within = omega (arith, c.place_count-all.ensures, c.entries-test.true);
      tol = c.add_one.ensures.tol ∙ c.entries.invariant.tol;
      known = c.add_one.ensures.known ∙ c.entries.invariant.known;
      run = subst (AreEliminatedBy (sum_from f c.args.rect.now)) (sym c.count_from.ensures.run) c.go_to.ensures;
      spot = c.after-spot-in-entries.ensures (frames_to_part sizes c.args.n) c.entries.done c.entries.invariant.spot;
    }

pub overflow_sub-free : goal.overflow_sub-free
overflow_sub-free g c =
    let below : c.entries.done < cell_count c.room-free.result = omega (arith, c.place_count-all.ensures, c.entries-test.true) in
    omega (arith, in_row c.room-free.result (frames_to_part c.args.sizes.now c.args.n) c.entries.done c.entries.spot below c.entries.invariant.spot)

pub pass-requires-clause-few : goal.pass-requires-clause-few
pass-requires-clause-few g c =
    let rect = c.args.rect.now in
    let sizes = c.args.sizes.now in
    let free = c.room-free.result in
    let frames = frames_to_part sizes c.args.n in
    let after = box_step rect sizes c.args.n c.args.self.now.seen c.part_after.result free c.part_after.ensures.size c.room-free.ensures.room c.requires.seen in
    let few : c.args.self.now.seen + cell_count free ≤ 268435456 = box_few rect sizes (c.args.n + 1) _ c.requires.parts after in
    let below : c.entries.done < cell_count free = omega (arith, c.place_count-all.ensures, c.entries-test.true) in
    let row : c.entries.spot.x + c.min-gone.result ≤ free.w = omega (arith, c.min-gone.ensures, in_row free frames c.entries.done c.entries.spot below c.entries.invariant.spot) in
    omega (arith, few, c.entries.invariant.seen, row_within free frames c.entries.done c.min-gone.result c.entries.spot row c.entries.invariant.spot below)

pub entries-preserved-then-gone-gt0 : goal.entries-preserved-then-gone-gt0
entries-preserved-then-gone-gt0 g c =
    let f = g.E.BoxErrors.error c.args.errors.now in
    let rect = c.args.rect.now in
    let sizes = c.args.sizes.now in
    let free = c.room-free.result in
    let frames = frames_to_part sizes c.args.n in
    let before = map f (entries_before (fit_list rect) sizes c.args.n) in
    let gone = c.min-gone.result in
    let below : c.entries.done < cell_count free = omega (arith, c.place_count-all.ensures, c.entries-test.true) in
    let row : c.entries.spot.x + gone ≤ free.w = omega (arith, c.min-gone.ensures, in_row free frames c.entries.done c.entries.spot below c.entries.invariant.spot) in
    let passed = c.pass.ensures.passed in
    record {
      short =
          subst (λ s. IsShortlist s (before ++ map f (take (c.entries.done + gone) (room_entries rect sizes c.args.n free)))) (sym passed)
          (run_passed f (g.E.BoxErrors.MayAsk c.args.errors.now) c.args.count c.requires.counted rect sizes c.args.n c.part_after.result free c.part_after.ensures.size c.room-free.ensures.room c.requires.asked c.entries.done c.entries.spot c.entries.invariant.spot below
          gone row c.place.result c.place.ensures c.go_to.new.self.run c.go_to.ensures c.entries.limit (λ j lj. c.count_from.ensures.gone j (omega (arith, c.min-gone.ensures, lj))) c.entries.self before c.entries.invariant.limited
          c.entries.invariant.short);
      sound = c.pass.ensures.sound;
      limited = subst (λ s. IsLimitOf s c.args.count c.entries.limit) (sym passed) c.entries.invariant.limited;
      seen = omega (arith, ap (λ (s : Shortlist). s.seen) passed, c.entries.invariant.seen);
      within = row_within free frames c.entries.done gone c.entries.spot row c.entries.invariant.spot below;
      tol = ap (λ (s : Shortlist). s.tol) passed ∙ c.entries.invariant.tol;
      known = ap (λ (s : Shortlist). s.known) passed ∙ c.entries.invariant.known;
      run = subst (AreEliminatedBy (sum_from f rect)) (sym c.count_from.ensures.run) c.go_to.ensures;
      spot = c.after-spot.ensures frames c.entries.done c.entries.invariant.spot;
    }

pub returns-clause-done : goal.returns-clause-done
returns-clause-done g c =
    let f = g.E.BoxErrors.error c.args.errors.now in
    let end : cell_count c.room-free.result ≤ c.entries.done = omega (arith, c.place_count-all.ensures, c.entries-test.false) in
    subst (IsShortlist c.entries.self) (errors_all f c.args.sizes.now c.args.n c.args.rect.now c.part_after.result c.room-free.result c.entries.done c.part_after.ensures.size c.room-free.ensures.room end) c.entries.invariant.short

pub returns-clause-seen : goal.returns-clause-seen
returns-clause-seen g c =
    let end : c.entries.self.seen ≡ c.args.self.now.seen + cell_count c.room-free.result = omega (arith, c.entries.invariant.seen, c.place_count-all.ensures, c.entries-test.false, c.entries.invariant.within) in
    subst (IsSeenTo c.args.rect.now c.args.sizes.now (c.args.n + 1)) (sym end)
    (box_step c.args.rect.now c.args.sizes.now c.args.n c.args.self.now.seen c.part_after.result c.room-free.result c.part_after.ensures.size c.room-free.ensures.room c.requires.seen)

pub after-spot-requires-in-entries-clause-rows : goal.after-spot-requires-in-entries-clause-rows
after-spot-requires-in-entries-clause-rows g c = let has = cells_of_index c.room-free.result c.entries.done (omega (arith, c.place_count-all.ensures, c.entries-test.true)) in (has.w, has.h)

pub after-spot-requires-clause-rows : goal.after-spot-requires-clause-rows
after-spot-requires-clause-rows g c = let has = cells_of_index c.room-free.result c.entries.done (omega (arith, c.place_count-all.ensures, c.entries-test.true)) in (has.w, has.h)

pub after-spot-requires-in-entries-clause-f : goal.after-spot-requires-in-entries-clause-f
after-spot-requires-in-entries-clause-f g c = grind (arith, common_steps)

pub after-spot-requires-in-entries-clause-y : goal.after-spot-requires-in-entries-clause-y
after-spot-requires-in-entries-clause-y g c = grind (arith, common_steps)

pub after-spot-requires-in-entries-clause-x : goal.after-spot-requires-in-entries-clause-x
after-spot-requires-in-entries-clause-x g c = grind (arith, common_steps)

pub add_one-requires-clause-counted : goal.add_one-requires-clause-counted
add_one-requires-clause-counted g c = grind (arith, common_steps)

pub go_to-requires-clause-run : goal.go_to-requires-clause-run
go_to-requires-clause-run g c = grind (arith, common_steps)
